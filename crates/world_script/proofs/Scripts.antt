-- The parts of a script, in which controllers may stop or not.
use Rattle.std.proofs.Common.{◌≡◌, ◌∙◌, ◌&&◌, ◌||◌, ◌⊎◌, inl, inr, ℕ, Bool, true, false, List, ◌∷◌, Option, Some, None, Result, Ok, Err, ap, codes, refl, subst, sym}
use Rattle.std.specs.Prelude.{⊤, if◌then◌else◌}
use Rattle.std.specs.Borrow.{Bor}
use Rattle.std.specs.List.{list_all}
use Rattle.std.specs.Option.{ok_or, option_and_then, option_map, option_map_or}
use Rattle.serde_json.specs.Data.{Data, Items, no_items, item}
use Rattle.serde_json.specs.Find.{as_array, get}
use Rattle.json_items.specs.Validation.{both_read, checked_value}
use Rattle.json_items.specs.Listed.{items_read, list_form}
use Rattle.json_items.specs.TicketDraft.{RawTicket}
use Rattle.json_items.proofs.ListLemmas.{Fails-weaker}
use Rattle.json_source.specs.Read.{◌>>=◌, Fails, has_only, some_if, text_under}
use Rattle.ticket_items.specs.declared.refusal.Refusal.{Refusal}
use Rattle.ticket_items.specs.declared.refusal.Refusal.TheVariants.{Memory, NotProfile}
use Rattle.controller_form.specs.Openings.ShopForm.{shop_form, ticket_under, workers_under}
use Rattle.controller_form.specs.declared.openings.raw_shop.RawShop.{RawShop}
use Rattle.world_items.specs.declared.event.Event.{Event}
use Rattle.world_script.specs.EventForm.{event_form, event_in, event_runs}
use Rattle.world_script.specs.Script.{RawScript, events_in, events_under, parts_in, runs_on, script_fault, script_form, script_in, script_members, script_of}
use Rattle.world_script.specs.declared.script.Script.{Script}

-- ---- the name of a master

abbrev shop_of_parts : Option (List ℕ) → Option (List (List ℕ)) → Option RawTicket → Option RawShop
shop_of_parts master workers ticket = master >>= λ m. workers >>= λ ws. ticket >>= λ t. Some (record { master = m; workers = ws; ticket = t })

master_of : (master : List ℕ) (workers : Option (List (List ℕ))) (ticket : Option RawTicket) (s : RawShop) → shop_of_parts (Some master) workers ticket ≡ Some s → s.master ≡ master
master_of master None ticket s h = cc
master_of master (Some ws) None s h = cc
master_of master (Some ws) (Some t) s h =
    let same : (record { master = master; workers = ws; ticket = t }) ≡ s = cc in
    sym (ap (λ x. x.master) same)

named : (d : Data) (master : List ℕ) (s : RawShop) → text_under (codes "Master") d ≡ Some master → shop_form d ≡ Some s → s.master ≡ master
unfolding shop_form
named d master s is read = master_of master (workers_under d) (ticket_under d) s (sym (ap (λ m. shop_of_parts m (workers_under d) (ticket_under d)) is) ∙ read)

abbrev with_events : Bool → Data → Option RawShop → Option (RawShop × List Event)
with_events stops d shop = shop >>= λ s. events_in stops s.master d >>= λ es. Some (s, es)

parts_at : (stops : Bool) (d : Data) (master : List ℕ) (shop : Option RawShop) → ((s : RawShop) → shop ≡ Some s → s.master ≡ master) → with_events stops d shop ≡ both_read shop (events_in stops master d)
parts_at stops d master None is = refl
parts_at stops d master (Some s) is = ap (λ m. events_in stops m d >>= λ es. Some (s, es)) (is s refl)

-- the events are those of the shop's master
pub parts_are : (stops : Bool) (d : Data) (master : List ℕ) → some_if (has_only script_members d) ≡ Some tt → text_under (codes "Master") d ≡ Some master → parts_in stops d ≡ both_read (shop_form d) (events_in stops master d)
parts_are stops d master only is =
    ap (λ o. o >>= λ _. with_events stops d (shop_form d)) only ∙ parts_at stops d master (shop_form d) (λ s read. named d master s is read)

-- ---- what is found of the parts

pub text_lent : (text : Option (Bor (List ℕ))) (lent : Bor (List ℕ)) (read : Option (List ℕ)) → Ok lent ≡ ok_or text NotProfile → option_map (λ s. s.now) text ≡ read → read ≡ Some lent.now
text_lent None lent read is seen = cc
text_lent (Some s) lent read is seen = let same : lent ≡ s = cc in sym seen ∙ ap (λ x. Some x.now) (sym same)

none_behind : {X Y : Type 0} (o : Option X) (p : Option Y) → p ≡ None → both_read o p ≡ None
none_behind None p absent = refl
none_behind (Some x) p absent = ap (λ q. q >>= λ y. Some (x, y)) absent

pub no_events : (stops : Bool) (d : Data) (master : List ℕ) (e : Refusal) → some_if (has_only script_members d) ≡ Some tt → text_under (codes "Master") d ≡ Some master → Fails e (events_in stops master d) → Fails e (parts_in stops d)
no_events stops d master e only is fails =
    Fails-weaker e (events_in stops master d) (parts_in stops d) (λ absent. parts_are stops d master only is ∙ none_behind (shop_form d) (events_in stops master d) absent) fails

no_shop : (stops : Bool) (d : Data) → text_under (codes "Master") d ≡ None → with_events stops d (shop_form d) ≡ None
unfolding shop_form
no_shop stops d absent = ap (λ m. with_events stops d (shop_of_parts m (workers_under d) (ticket_under d))) absent

pub no_master : (stops : Bool) (d : Data) (text : Option (Bor (List ℕ))) (e : Refusal) → some_if (has_only script_members d) ≡ Some tt → Err e ≡ ok_or text NotProfile → option_map (λ s. s.now) text ≡ text_under (codes "Master") d → Fails e (parts_in stops d)
no_master stops d (Some s) e only is seen = absurd (cc is)
no_master stops d None e only is seen =
    let same : NotProfile ≡ e = cc in
    subst (λ f. Fails f (parts_in stops d)) same (ap (λ o. o >>= λ _. with_events stops d (shop_form d)) only ∙ no_shop stops d (sym seen))

-- ---- stops

-- events, if the controllers may stop at them
abbrev passing : Bool → List Event → Option (List Event)
passing stops es = some_if (stops || list_all event_runs es) >>= λ _. Some es

abbrev none : Option (List Event)
none = None

nothing_passes : (runs : Bool) → (some_if runs >>= λ _. none) ≡ none
nothing_passes true = refl
nothing_passes false = refl

after_one : (runs : Bool) (e : Event) (rest : Option (List Event)) → ((some_if runs >>= λ _. Some e) >>= λ x. option_map (λ xs. x ∷ xs) rest) ≡ (some_if runs >>= λ _. option_map (λ xs. e ∷ xs) rest)
after_one true e rest = refl
after_one false e rest = refl

both_pass : (one others : Bool) (e : Event) (es : List Event) → (some_if one >>= λ _. option_map (λ xs. e ∷ xs) (some_if others >>= λ _. Some es)) ≡ (some_if (one && others) >>= λ _. Some (e ∷ es))
both_pass true true e es = refl
both_pass true false e es = refl
both_pass false others e es = refl

one_more : (stops : Bool) (o : Option Event) (rest : Option (List Event))
    → ((o >>= λ e. some_if (stops || event_runs e) >>= λ _. Some e) >>= λ x. option_map (λ xs. x ∷ xs) (rest >>= passing stops)) ≡ ((o >>= λ x. option_map (λ xs. x ∷ xs) rest) >>= passing stops)
one_more true None rest = refl
one_more true (Some e) None = refl
one_more true (Some e) (Some es) = refl
one_more false None rest = refl
one_more false (Some e) None = after_one (event_runs e) e None ∙ nothing_passes (event_runs e)
one_more false (Some e) (Some es) = after_one (event_runs e) e (passing false es) ∙ both_pass (event_runs e) (list_all event_runs es) e es

each_in : (stops : Bool) (master : List ℕ) (ds : Items) → items_read (event_in stops master) ds ≡ (items_read (event_form master) ds >>= passing stops)
each_in true master no_items = refl
each_in false master no_items = refl
each_in stops master (item d ds) =
    ap (λ rest. event_in stops master d >>= λ x. option_map (λ xs. x ∷ xs) rest) (each_in stops master ds) ∙ one_more stops (event_form master d) (items_read (event_form master) ds)

items_in : (stops : Bool) (master : List ℕ) (items : Option Items) → (items >>= items_read (event_in stops master)) ≡ ((items >>= items_read (event_form master)) >>= passing stops)
items_in stops master None = refl
items_in stops master (Some ds) = each_in stops master ds

list_in : (stops : Bool) (master : List ℕ) (list : Option Data) → option_and_then (list_form (event_in stops master)) list ≡ ((list >>= list_form (event_form master)) >>= passing stops)
list_in stops master None = refl
list_in stops master (Some d) = items_in stops master (as_array d)

-- ---- scripts

abbrev pub script : RawShop × List Event → RawScript
script p = record { shop = p.0; events = p.1 }

-- a script, if its controllers may stop as they do
abbrev running : Bool → RawScript → Option RawScript
running stops s = some_if (stops || runs_on s) >>= λ _. Some s

abbrev pub draft_in : Bool → Data → Option RawScript
draft_in stops d = script_form d >>= running stops

passes_so : (runs : Bool) (shop : RawShop) (es : List Event) → (some_if runs >>= λ _. Some (script (shop, es))) ≡ option_map script ((some_if runs >>= λ _. Some es) >>= λ fs. Some (shop, fs))
passes_so true shop es = refl
passes_so false shop es = refl

events_at : (stops : Bool) (shop : RawShop) (events : Option (List Event)) → (((events >>= λ es. Some (shop, es)) >>= λ p. Some (script p)) >>= running stops) ≡ option_map script ((events >>= passing stops) >>= λ es. Some (shop, es))
events_at stops shop None = refl
events_at stops shop (Some es) = passes_so (stops || list_all event_runs es) shop es

in_turn : (stops : Bool) (d : Data) (passed : Option ⊤) (shop : Option RawShop)
    → ((passed >>= λ _. (shop >>= λ x. events_under x.master d >>= λ es. Some (x, es)) >>= λ p. Some (script p)) >>= running stops) ≡ option_map script (passed >>= λ _. with_events stops d shop)
in_turn stops d None shop = refl
in_turn stops d (Some u) None = refl
in_turn stops d (Some u) (Some x) =
    events_at stops x (events_under x.master d)
    ∙ ap (λ events. option_map script (events >>= λ es. Some (x, es))) (sym (list_in stops x.master (get (codes "Events") d)))

pub made_of_parts : (stops : Bool) (d : Data) → draft_in stops d ≡ option_map script (parts_in stops d)
unfolding script_form
made_of_parts stops d = in_turn stops d (some_if (has_only script_members d)) (shop_form d)

abbrev judged : RawScript → Result Script Refusal
judged s = checked_value (script_fault s) (script_of s)

at_any : (draft : Option RawScript) → option_map_or judged draft (Err NotProfile) ≡ option_map_or judged (draft >>= running true) (Err NotProfile)
at_any None = refl
at_any (Some s) = refl

runs_so : (runs : Bool) (s : RawScript) → (if runs then judged s else Err NotProfile) ≡ option_map_or judged (some_if runs >>= λ _. Some s) (Err NotProfile)
runs_so true s = refl
runs_so false s = refl

at_none : (draft : Option RawScript) → option_map_or (λ s. if runs_on s then judged s else Err NotProfile) draft (Err NotProfile) ≡ option_map_or judged (draft >>= running false) (Err NotProfile)
at_none None = refl
at_none (Some s) = runs_so (runs_on s) s

-- what data is read as is what that draft is
pub read_of_draft : (stops : Bool) (d : Data) → script_in stops d ≡ option_map_or judged (draft_in stops d) (Err NotProfile)
read_of_draft true d = at_any (script_form d)
read_of_draft false d = at_none (script_form d)

-- where no parts are read, neither is a script
pub nothing_read : (stops : Bool) (d : Data) (e : Refusal) → Fails e (parts_in stops d) → (e ≡ Memory) ⊎ (script_in stops d ≡ Err e)
nothing_read stops d Memory fails = inl refl
nothing_read stops d NotProfile fails = inr (read_of_draft stops d ∙ ap (λ o. option_map_or judged o (Err NotProfile)) (made_of_parts stops d ∙ ap (option_map script) fails))
nothing_read stops d e fails = absurd fails
