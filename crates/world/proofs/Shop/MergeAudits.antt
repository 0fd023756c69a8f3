-- How the audits of a row go on, and how often those that come tell of a merge.
use Rattle.std.proofs.Common.{◌≡◌, ◌∙◌, ◌+◌, ℕ, Bool, true, false, cond, List, [], ◌∷◌, ◌++◌, Option, Some, None, refl, sym, ap, arith, append_assoc}
use Rattle.std.proofs.lemmas.List.Sums.{sum_by-append}
use Rattle.std.proofs.lemmas.Slice.Eq.{bytes_eq-Decides}
use Rattle.std.specs.List.{count_by}
use Rattle.std.specs.Option.{option_map, option_map_or}
use Rattle.std.specs.Str.{bytes_eq}
use Rattle.ticket_items.specs.declared.audit.Audit.{Audit}
use Rattle.ticket_items.specs.declared.audit.Audit.TheVariants as audit
use Rattle.ticket_items.specs.declared.edit.Edit.{Edit}
use Rattle.ticket_items.specs.Act.{Act, NodeChange, NodeAddition, NewNode, NewNote, NewResource, act_target, act_added_id}
use Rattle.ticket_items.specs.Edit.{added_id}
use Rattle.ticket_rows.specs.Place.{Place, Row, nodes_in, resource_row, up}
use Rattle.ticket_tree.specs.PlainEdit.{act_row, act_rows_by_id, with_row_changed}
use Rattle.world.proofs.Master.Spawns.{with_told}
use Rattle.plain_shop.specs.MergeAudits.{AuditsGrow, audit_tells, audits_of}
use Rattle.plain_shop.specs.Shop.{Rows}
use Rattle.plain_shop.specs.Acts.{with_parent_audit}

append_none : {X : Type 0} (xs : List X) → xs ≡ xs ++ []
append_none [] = refl
append_none (x ∷ xs) = ap (λ ys. x ∷ ys) (append_none xs)

-- ---- one row

pub stays_so : (s : ℕ) (old new : Option Row) → audits_of new ≡ audits_of old → AuditsGrow s 0 old new
stays_so s old new same = ([], same ∙ append_none (audits_of old), refl)

pub goes_on_twice : (s m n : ℕ) (a b c : Option Row) → AuditsGrow s m a b → AuditsGrow s n b c → AuditsGrow s (m + n) a c
goes_on_twice s m n a b c first then = (
  first.0 ++ then.0,
  then.1 ∙ ap (λ xs. xs ++ then.0) first.1 ∙ append_assoc (audits_of a) first.0 then.0,
  sum_by-append (λ x. cond (audit_tells s x) 1 0) first.0 then.0 ∙ ap (λ k. k + count_by (audit_tells s) then.0) first.2 ∙ ap (λ k. m + k) then.2,
)

pub as_often : (s m n : ℕ) (old new : Option Row) → m ≡ n → AuditsGrow s m old new → AuditsGrow s n old new
as_often s m n old new same on = (on.0, on.1, on.2 ∙ same)

-- once, or never
abbrev pub one_if : Bool → ℕ
one_if b = cond b 1 0

-- one audit more
abbrev pub told_once : ℕ → Audit → ℕ
told_once s a = one_if (audit_tells s a)

one_more : (s : ℕ) (a : Audit) → count_by (audit_tells s) (a ∷ []) ≡ told_once s a
one_more s a = omega arith

-- what is done to a row leaves its audits, or adds one that tells of no merge
abbrev pub IsQuiet : (Row → Row) → Type 0
IsQuiet f = (s : ℕ) (r : Row) → AuditsGrow s 0 (Some r) (Some (f r))

quiet_if_some : (s : ℕ) (f : Row → Row) (o : Option Row) → IsQuiet f → AuditsGrow s 0 o (option_map f o)
quiet_if_some s f None quiet = stays_so s None None refl
quiet_if_some s f (Some r) quiet = quiet s r

-- ---- rows by id

touched_by : (s : ℕ) (f : Row → Row) (o : Option Row) (b : Bool) → IsQuiet f → AuditsGrow s 0 o (cond b (option_map f o) o)
touched_by s f o true quiet = quiet_if_some s f o quiet
touched_by s f o false quiet = stays_so s o o refl

pub touch_is_quiet : (s : ℕ) (y : List ℕ) (f : Row → Row) (rows : Rows) (x : List ℕ) → IsQuiet f → AuditsGrow s 0 (rows x) (with_row_changed y f rows x)
touch_is_quiet s y f rows x quiet = touched_by s f (rows x) (bytes_eq y x) quiet

-- a new row where none was, which has no audits
line_by : (s : ℕ) (row : Row) (o : Option Row) (b : Bool) → row.audits ≡ [] → (b ≡ true → o ≡ None) → AuditsGrow s 0 o (cond b (Some row) o)
line_by s row o true bare new = stays_so s o (Some row) (bare ∙ ap audits_of (sym (new refl)))
line_by s row o false bare new = stays_so s o o refl

changed_is_quiet : (a : Act) (at : ℕ) → IsQuiet (act_row a at)
changed_is_quiet (NodeChange n (NewNote text)) at s r = (audit.Notification at text ∷ [], refl, one_more s (audit.Notification at text))
changed_is_quiet a at s r = stays_so s (Some r) (Some (act_row a at r)) refl

-- what an edit adds has no row before
abbrev pub IsNew : Edit → Rows → Type 0
IsNew e rows = (i : List ℕ) → added_id e ≡ Some i → rows i ≡ None

new_there : (rows : Rows) (i x : List ℕ) → rows i ≡ None → bytes_eq i x ≡ true → rows x ≡ None
new_there rows i x none same = ap rows (sym ((bytes_eq-Decides i x).0 same)) ∙ none

pub edit_is_quiet : (a : Act) (at s : ℕ) (rows : Rows) (x : List ℕ) → ((i : List ℕ) → act_added_id a ≡ Some i → rows i ≡ None) → AuditsGrow s 0 (rows x) (act_rows_by_id a at rows x)
edit_is_quiet (NodeAddition n (NewNode new)) at s rows x none = line_by s _ (rows x) (bytes_eq new.id x) refl (new_there rows new.id x (none new.id refl))
edit_is_quiet (NodeAddition n (NewResource y)) at s rows x none = line_by s (resource_row y) (rows x) (bytes_eq y.id x) refl (new_there rows y.id x (none y.id refl))
edit_is_quiet a at s rows x none = touch_is_quiet s (act_target a) _ rows x (changed_is_quiet a at)

-- one that tells of no merge, above a node
told_by : (s : ℕ) (f : Row → Row) (rows : Rows) (x : List ℕ) (o : Option (List ℕ)) → IsQuiet f → AuditsGrow s 0 (rows x) (option_map_or (λ u. with_row_changed u f rows) o rows x)
told_by s f rows x None quiet = stays_so s (rows x) (rows x) refl
told_by s f rows x (Some u) quiet = touch_is_quiet s u f rows x quiet

pub telling_is_quiet : (s : ℕ) (tree : List Place) (n : List ℕ) (a : Audit) (rows : Rows) (x : List ℕ) → ((t : ℕ) → audit_tells t a ≡ false) → AuditsGrow s 0 (rows x) (with_parent_audit tree n a rows x)
telling_is_quiet s tree n a rows x quiet = told_by s (with_told a) rows x (up (nodes_in tree) n) (λ t r. (a ∷ [], refl, one_more t a ∙ ap one_if (quiet t)))

-- any, at a row that stands
told_at : (s : ℕ) (a : Audit) (row : Row) (o : Option Row) (b : Bool) → (b ≡ true → o ≡ Some row) → AuditsGrow s (cond b (told_once s a) 0) o (cond b (option_map (with_told a) o) o)
told_at s a row o true is = (a ∷ [], ap (λ p. audits_of (option_map (with_told a) p)) (is refl) ∙ sym (ap (λ p. audits_of p ++ a ∷ []) (is refl)), one_more s a)
told_at s a row o false is = stays_so s o o refl

pub touch_tells : (s : ℕ) (u : List ℕ) (a : Audit) (rows : Rows) (row : Row) (x : List ℕ) → rows u ≡ Some row → AuditsGrow s (cond (bytes_eq u x) (told_once s a) 0) (rows x) (with_row_changed u (with_told a) rows x)
touch_tells s u a rows row x there = told_at s a row (rows x) (bytes_eq u x) (λ same. ap rows (sym ((bytes_eq-Decides u x).0 same)) ∙ there)
