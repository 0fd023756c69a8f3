-- A part that fits the claim of its spawn fits it after an edit of a worker, and while nothing of the claim changes.
use Rattle.std.proofs.Common.{◌≡◌, ◌≤◌, ℕ, Bool, true, false, cond, List, [], ◌∷◌, ◌++◌, length, map, take, refl, sym, ap, ◌∙◌, subst, arith}
use Rattle.std.proofs.lemmas.Bool.{true≢false}
use Rattle.std.proofs.lemmas.List.{length-take, take-append-le}
use Rattle.std.specs.List.{zip}
use Rattle.std.specs.Str.{bytes_eq}
use Rattle.ticket_items.specs.Resource.{with_item}
use Rattle.ticket_items.specs.declared.audit.Audit.{Audit}
use Rattle.ticket_items.specs.declared.audit.Audit.TheVariants.{Notification}
use Rattle.ticket_items.specs.declared.edit.Edit.{Edit}
use Rattle.ticket_items.specs.Act.{Act, Change, NodeChange, ResourceChange, NodeAddition, NewNote, act_of, audits_after, is_act_structural}
use Rattle.ticket_items.specs.declared.node_row.NodeRow.{NodeRow}
use Rattle.ticket_items.specs.declared.resource.Resource.{Resource}
use Rattle.ticket_items.specs.Edit.{is_structural}
use Rattle.ticket_rows.specs.Edit.{changed_node, changed_resource}
use Rattle.ticket_rows.specs.Place.{named_thing}
use Rattle.ticket_rows.specs.Ticket.{Job}
use Rattle.ticket_tree.specs.Part.{PartCopy, act_part, edited_part}
use Rattle.spawn.specs.Parts.{part_for}
use Rattle.spawn.specs.declared.records.spawn_rec.SpawnRec.{SpawnRec}
use Rattle.merge.specs.Shape.{Fits, first_audits, shape}

-- ---- rows and copies that keep their shape

-- a change of a row that leaves its shape and its first audits
record KeepsShape (g : NodeRow → NodeRow) : Type 0 where
  pub shape_stays : (r : NodeRow) → shape (g r) ≡ shape r
  pub audits_stay : (first : List Audit) (r : NodeRow) → take (length first) r.audits ≡ first → take (length first) (g r).audits ≡ first

shapes_stay : (g : NodeRow → NodeRow) → KeepsShape g → (rows : List NodeRow) → map shape (map g rows) ≡ map shape rows
shapes_stay g keeps [] = refl
shapes_stay g keeps (r ∷ rows) = ap (λ s. s ∷ map shape (map g rows)) (keeps.shape_stays r) ∙ ap (λ ss. shape r ∷ ss) (shapes_stay g keeps rows)

heads : (x y : List Audit) (xs ys : List (List Audit)) → x ∷ xs ≡ y ∷ ys → (x ≡ y) × (xs ≡ ys)
heads x y xs ys e = (cc, cc)

first_stay : (g : NodeRow → NodeRow) → KeepsShape g → (olds rows : List NodeRow) → map first_audits (zip olds rows) ≡ map (λ (o : NodeRow). o.audits) olds → map first_audits (zip olds (map g rows)) ≡ map (λ (o : NodeRow). o.audits) olds
first_stay g keeps [] rows e = refl
first_stay g keeps (o ∷ olds) [] e = cc
first_stay g keeps (o ∷ olds) (r ∷ rows) e =
    let parts = heads (take (length o.audits) r.audits) o.audits (map first_audits (zip olds rows)) (map (λ (x : NodeRow). x.audits) olds) e in
    ap (λ x. x ∷ map first_audits (zip olds (map g rows))) (keeps.audits_stay o.audits r parts.0) ∙ ap (λ xs. o.audits ∷ xs) (first_stay g keeps olds rows parts.1)

-- resources that keep their ids, names and Classes
fixed_stay : (x : List ℕ) (f : Resource → Resource) → ((y : Resource) → named_thing (f y) ≡ named_thing y) → (pool : List Resource) → map named_thing (with_item x f pool) ≡ map named_thing pool
fixed_stay x f keeps [] = refl
fixed_stay x f keeps (y ∷ pool) = ap (λ s. s ∷ map named_thing (with_item x f pool)) (here (bytes_eq y.id x)) ∙ ap (λ ss. named_thing y ∷ ss) (fixed_stay x f keeps pool)
  where
    here : (b : Bool) → named_thing (cond b (f y) y) ≡ named_thing y
    here true = keeps y
    here false = refl

-- ---- the changes of edits

at_row : (x : List ℕ) (f : NodeRow → NodeRow) → KeepsShape f → KeepsShape (λ r. cond (bytes_eq r.id x) (f r) r)
at_row x f keeps = record { shape_stays = λ r. shape_here (bytes_eq r.id x) r; audits_stay = λ first r e. audits_here (bytes_eq r.id x) first r e }
  where
    shape_here : (b : Bool) (r : NodeRow) → shape (cond b (f r) r) ≡ shape r
    shape_here true r = keeps.shape_stays r
    shape_here false r = refl

    audits_here : (b : Bool) (first : List Audit) (r : NodeRow) → take (length first) r.audits ≡ first → take (length first) (cond b (f r) r).audits ≡ first
    audits_here true first r e = keeps.audits_stay first r e
    audits_here false first r e = e

in_pools : (x : List ℕ) (f : Resource → Resource) → ((y : Resource) → named_thing (f y) ≡ named_thing y) → KeepsShape (λ r. record r { resources = with_item x f r.resources })
in_pools x f keeps =
    record {
      shape_stays = λ r. ap (λ pool. record (shape r) { pool = pool }) (fixed_stay x f keeps r.resources);
      audits_stay = λ first r e. e;
    }

begins_still : (first audits more : List Audit) → take (length first) audits ≡ first → take (length first) (audits ++ more) ≡ first
begins_still first audits more e =
    let long : length first ≤ length audits = omega (arith, length-take (length first) audits, ap length e) in
    take-append-le (length first) audits more long ∙ e

-- ---- a part that fits

-- a part whose rows and copies keep their shape fits as it did
fits_still : (t : Job) (r : SpawnRec) (p q : PartCopy) (g : NodeRow → NodeRow) → KeepsShape g → Fits t r p → q.job_id ≡ p.job_id → q.spawn_id ≡ p.spawn_id → q.rows ≡ map g p.rows → map named_thing q.rw ≡ map named_thing p.rw → Fits t r q
fits_still t r p q g keeps fits job spawn rows rw =
    record {
      job = job ∙ fits.job;
      spawn = spawn ∙ fits.spawn;
      rows = ap (map shape) rows ∙ shapes_stay g keeps p.rows ∙ fits.rows;
      rw = rw ∙ fits.rw;
      audits = ap (λ rs. map first_audits (zip (part_for t r).rows rs)) rows ∙ first_stay g keeps (part_for t r).rows p.rows fits.audits;
    }

audits_begin : (change : Change) (at : ℕ) (first audits : List Audit) → take (length first) audits ≡ first → take (length first) (audits_after change at audits) ≡ first
audits_begin (NewNote text) at first audits e = begins_still first audits (Notification at text ∷ []) e
audits_begin change at first audits e = e

-- an act that isn't structural leaves it so
act_fits : (a : Act) (at : ℕ) (t : Job) (r : SpawnRec) (p : PartCopy) → is_act_structural a ≡ false → Fits t r p → Fits t r (act_part a at p)
act_fits (NodeChange n change) at t r p plain fits =
    fits_still t r p _ _ (at_row n (changed_node change at) (record { shape_stays = λ x. refl; audits_stay = λ first x e. audits_begin change at first x.audits e })) fits refl refl refl refl
act_fits (ResourceChange x change) at t r p plain fits = fits_still t r p _ _ (in_pools x (changed_resource change) (λ y. refl)) fits refl refl refl (fixed_stay x (changed_resource change) (λ y. refl) p.rw)
act_fits (NodeAddition n addition) at t r p plain fits = absurd (true≢false plain)

pub edited_fits : (e : Edit) (at : ℕ) (t : Job) (r : SpawnRec) (p : PartCopy) → is_structural e ≡ false → Fits t r p → Fits t r (edited_part e at p)
edited_fits e at t r p plain fits = act_fits (act_of e) at t r p plain fits

-- nor does it matter to it what becomes of the ticket while the part that is made of that stays
pub fits_later : (t u : Job) (r : SpawnRec) (p : PartCopy) → part_for u r ≡ part_for t r → Fits t r p → Fits u r p
fits_later t u r p same fits =
    let back = sym same in
    record {
      job = fits.job ∙ ap (λ (q : PartCopy). q.job_id) back;
      spawn = fits.spawn;
      rows = fits.rows ∙ ap (λ (q : PartCopy). map shape q.rows) back;
      rw = fits.rw ∙ ap (λ (q : PartCopy). map named_thing q.rw) back;
      audits = subst (λ (q : PartCopy). map first_audits (zip q.rows p.rows) ≡ map (λ (o : NodeRow). o.audits) q.rows) back fits.audits;
    }
