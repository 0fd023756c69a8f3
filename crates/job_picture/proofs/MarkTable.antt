-- The table of marks, filled from the last mark to the first.
use Rattle.std.proofs.Common.{◌≡◌, ◌∙◌, ℕ, ◌+◌, ◌<◌, Bool, true, false, cond, List, length, drop, get_or, Bor, Option, Some, is_eq, nat_cmp, refl, sym, ap}
use Rattle.std.proofs.lemmas.List.{drop_more}
use Rattle.std.proofs.lemmas.Map.Text.{is_eq-slice_cmp}
use Rattle.std.specs.BTreeMap.{Updates, get_by}
use Rattle.std.specs.Cmp.Lexicographic.{slice_cmp}
use Rattle.std.specs.Option.{option_map}
use Rattle.std.specs.Str.{bytes_eq}
use Rattle.ticket_items.specs.declared.res_mark.ResMark.{ResMark}
use Rattle.job_picture.specs.Marked.{Marked, mark_in, mark_of}

put_at : (b i : Bool) (mark : Bor ResMark) (old : Option (Bor ResMark)) → i ≡ b → option_map (λ k. k.now) (cond i (Some mark) old) ≡ cond b (Some mark.now) (option_map (λ k. k.now) old)
put_at true true mark old e = refl
put_at true false mark old e = cc
put_at false true mark old e = cc
put_at false false mark old e = refl

-- the mark at k is put in front of those behind it
pub put_mark : (marks : List ResMark) (k : ℕ) (old new : Marked) (id : Bor (List ℕ)) (mark : Bor ResMark) → k < length marks → mark.now ≡ get_or marks k mark.now → id.now ≡ mark.now.id
    → Updates (λ a b. slice_cmp nat_cmp a.now b.now) old new id (Some mark) → ((x : List ℕ) → mark_in old x ≡ mark_of (drop (k + 1) marks) x) → (x : List ℕ) → mark_in new x ≡ mark_of (drop k marks) x
put_mark marks k old new id mark within is named updates so x =
    ap (option_map (λ m. m.now)) (updates.0 (record { ref_ptr = (0, 0); now = x }))
    ∙ put_at (bytes_eq id.now x) (is_eq (slice_cmp nat_cmp id.now x)) mark (get_by (λ y. slice_cmp nat_cmp x y.now) old) (is_eq-slice_cmp id.now x)
    ∙ ap (cond (bytes_eq id.now x) (Some mark.now)) (so x)
    ∙ ap (λ i. cond (bytes_eq i x) (Some mark.now) (mark_of (drop (k + 1) marks) x)) named
    ∙ ap (λ (m : ResMark). cond (bytes_eq m.id x) (Some m) (mark_of (drop (k + 1) marks) x)) is
    ∙ sym (ap (λ ms. mark_of ms x) (drop_more marks k mark.now within))
