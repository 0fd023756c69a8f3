use Rattle.std.proofs.Common.{◌≡◌, ℕ, List, ◌+◌, ◌-◌, ◌≤◌, ◌++◌, length, take, drop, subst}
use Rattle.std.proofs.Common.{sym, ap, ◌∙◌, arith, length-drop}
use Rattle.std.proofs.Math.Seq.{take-add}
use Rattle.std.proofs.lemmas.List.{take_rest}
use Rattle.std.specs.Io.KnownBytes.{Appends}
use Rattle.std.proofs.KnownBytes.{Appends-trans}
use Rattle.keepers.proofs.files.write_whole.Goals as goal

-- the next n bytes after the first i
grown_front : (bytes : List ℕ) (i n : ℕ) → take i bytes ++ take n (take (length bytes - i) (drop i bytes)) ≡ take (i + n) bytes
grown_front bytes i n = ap (λ l. take i bytes ++ take n l) (take_rest bytes i) ∙ sym (take-add i n bytes)

-- a count of the bytes after the first i stays within the bytes
fits_after : (bytes : List ℕ) (i n : ℕ) → i ≤ length bytes → n ≤ length (take (length bytes - i) (drop i bytes)) → i + n ≤ length bytes
fits_after bytes i n low high =
    let rest : n ≤ length bytes - i = rw (take_rest, length-drop) at high in
    omega (arith, low, rest)

pub loop-done-preserved : goal.loop-done-preserved
loop-done-preserved g c =
    let bytes = c.args.bytes.now in
    let i = c.loop-done.done in
    let so_far = c.loop-done.invariant in (
      fits_after bytes i c.in_ok-count.count so_far.0 c.in_ok-count.ensures.bound,
      subst (Appends _ _) (grown_front bytes i c.in_ok-count.count) (Appends-trans _ _ _ _ _ so_far.1 c.in_ok-count.ensures.bytes),
    )
