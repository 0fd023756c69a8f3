-- Data that is read as a controller of a kind tells that kind, and so is read as a controller.
use Rattle.std.proofs.Common.{◌≡◌, ◌∙◌, ℕ, Bool, true, false, List, [], ◌∷◌, Option, Some, None, Ordering, Less, Equal, Greater, Result, Ok, Err, ap, is_some, option_and_then, refl, sym}
use Rattle.std.proofs.lemmas.Bool.{and_parts, true≢false}
use Rattle.std.proofs.lemmas.Map.Lookups.{exact_bytes}
use Rattle.std.specs.Cmp.Lexicographic.{slice_cmp}
use Rattle.std.specs.Ordering.{match_ordering, nat_cmp}
use Rattle.std.specs.Prelude.{codes}
use Rattle.serde_json.specs.Data.{Data, Members, array, boolean, member, no_members, null, number, object, string}
use Rattle.serde_json.specs.Find.{get, get_member}
use Rattle.ticket_items.specs.Ids.{mem}
use Rattle.ticket_items.specs.declared.refusal.Refusal.{Refusal}
use Rattle.ticket_items.specs.declared.refusal.Refusal.TheVariants.{NotProfile}
use Rattle.json_profile.specs.ReadAs.{IsReadAs}
use Rattle.json_source.specs.Read.{◌>>=◌, are_among, has_only, some_if}
use Rattle.master_core.specs.Master as master
use Rattle.worker_core.specs.Worker as worker
use Rattle.controller_form.specs.States.MasterForm.{judged_master, master_form, master_state_read}
use Rattle.controller_form.specs.States.StateFormat.{controller_under, format_of, read_in_format}
use Rattle.controller_form.specs.States.WorkerForm.{judged_worker, worker_form, worker_state_read}
use Rattle.controller_form.specs.declared.states.format.Format.{Format}
use Rattle.stored_state.specs.Kind.{kind_in, only_kind}
use Rattle.stored_state.specs.Opened.{any_state_read, of_master, of_worker}
use Rattle.stored_state.specs.declared.kind.Kind.TheVariants as kinds
use Rattle.stored_state.proofs.Loading.{read_as_master, read_as_worker}

-- ---- a name that isn't among those that there may be

not_at : (names : List (List ℕ)) (name k : List ℕ) (d : Data) (rest : Option Data) (o : Ordering) → mem name names ≡ false → mem k names ≡ true → rest ≡ None → slice_cmp nat_cmp name k ≡ o → match_ordering o rest (Some d) rest ≡ None
not_at names name k d rest Less new there none is = none
not_at names name k d rest Equal new there none is =
    absurd (true≢false (sym there ∙ ap (λ x. mem x names) (sym (exact_bytes name k is)) ∙ new))
not_at names name k d rest Greater new there none is = none

none_other : (names : List (List ℕ)) (name : List ℕ) (ms : Members) → mem name names ≡ false → are_among names ms ≡ true → get_member name ms ≡ None
none_other names name no_members new among = refl
none_other names name (member k d ms) new among =
    let parts : (mem k names ≡ true) × (are_among names ms ≡ true) = and_parts _ _ among in
    not_at names name k d (get_member name ms) (slice_cmp nat_cmp name k) new parts.0 (none_other names name ms new parts.1) refl

not_in : (names : List (List ℕ)) (name : List ℕ) (d : Data) → mem name names ≡ false → has_only names d ≡ true → get name d ≡ None
not_in names name null new only = refl
not_in names name (boolean b) new only = refl
not_in names name (number n) new only = refl
not_in names name (string s) new only = refl
not_in names name (array ds) new only = refl
not_in names name (object ms) new only = none_other names name ms new only

-- ---- what was read

-- a controller of a kind alone
record IsUnder (kind : List ℕ) (d : Data) : Type 0 where
  pub controller : Data
  pub only : has_only (codes "Format" ∷ kind ∷ []) d ≡ true
  pub there : get kind d ≡ Some controller

provided_parts : (b : Bool) (o : Option Data) (x : Data) → (some_if b >>= λ _. o) ≡ Some x → (b ≡ true) × (o ≡ Some x)
provided_parts true o x is = (refl, is)
provided_parts false o x is = cc

read_there : {R X : Type 0} (format : Result Format Refusal) (o : Option Data) (judged : Option R → Result X Refusal) (draft : Format → Data → Option R) (x : X) → judged None ≡ Err NotProfile → read_in_format format (λ f. judged (option_and_then (draft f) o)) ≡ Ok x → (d : Data) × (o ≡ Some d)
read_there (Ok f) None judged draft x none is = absurd (let e : Err NotProfile ≡ Ok x = sym none ∙ is in cc)
read_there (Ok f) (Some d) judged draft x none is = (d, refl)
read_there (Err e) o judged draft x none is = cc

read_under : {R X : Type 0} (kind : List ℕ) (d : Data) (judged : Option R → Result X Refusal) (draft : Format → Data → Option R) (x : X) → judged None ≡ Err NotProfile → read_in_format (format_of d) (λ f. judged (option_and_then (draft f) (controller_under kind d))) ≡ Ok x → IsUnder kind d
read_under kind d judged draft x none is =
    let there = read_there (format_of d) (controller_under kind d) judged draft x none is in
    let parts = provided_parts (has_only (codes "Format" ∷ kind ∷ []) d) (get kind d) there.0 there.1 in
    record { controller = there.0; only = parts.0; there = parts.1 }

tells_master : (d : Data) → IsUnder (codes "Master") d → kind_in d ≡ Ok kinds.Master
tells_master d under =
    let none = not_in (codes "Format" ∷ codes "Master" ∷ []) (codes "Worker") d refl under.only in
    ap (λ m. only_kind (is_some m) (is_some (get (codes "Worker") d))) under.there ∙ ap (λ w. only_kind true (is_some w)) none

tells_worker : (d : Data) → IsUnder (codes "Worker") d → kind_in d ≡ Ok kinds.Worker
tells_worker d under =
    let none = not_in (codes "Format" ∷ codes "Worker" ∷ []) (codes "Master") d refl under.only in
    ap (λ m. only_kind (is_some m) (is_some (get (codes "Worker") d))) none ∙ ap (λ w. only_kind false (is_some w)) under.there

-- ---- as a controller, whichever it is

pub any_of_master : (text : List ℕ) (m : master.State) → IsReadAs master_state_read text (Ok m) → IsReadAs any_state_read text (Ok (of_master m))
any_of_master text m read =
    let under = read_under (codes "Master") read.value judged_master master_form m refl read.form in
    record { value = read.value; utf8 = read.utf8; json = read.json; form = read_as_master read.value m (tells_master read.value under) read.form }

pub any_of_worker : (text : List ℕ) (w : worker.State) → IsReadAs worker_state_read text (Ok w) → IsReadAs any_state_read text (Ok (of_worker w))
any_of_worker text w read =
    let under = read_under (codes "Worker") read.value judged_worker worker_form w refl read.form in
    record { value = read.value; utf8 = read.utf8; json = read.json; form = read_as_worker read.value w (tells_worker read.value under) read.form }
