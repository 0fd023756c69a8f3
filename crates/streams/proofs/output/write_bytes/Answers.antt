use Rattle.std.proofs.Common.{◌≡◌, ℕ, List, ◌+◌, ◌-◌, ◌<◌, ◌≤◌, ◌++◌, length, take, drop, subst}
use Rattle.std.proofs.Common.{sym, ap, ◌∙◌, arith, length-drop}
use Rattle.std.proofs.Math.Seq.{take-add}
use Rattle.std.proofs.lemmas.List.{take_rest}
use Rattle.std.specs.Io.KnownBytes.{Appends}
use Rattle.std.proofs.KnownBytes.{Appends-trans}
use Rattle.streams.proofs.output.write_bytes.Goals as goal

-- the next n bytes after the first i
grown_front : (bytes : List ℕ) (i n : ℕ) → take i bytes ++ take n (take (length bytes - i) (drop i bytes)) ≡ take (i + n) bytes
grown_front bytes i n = ap (λ l. take i bytes ++ take n l) (take_rest bytes i) ∙ sym (take-add i n bytes)

-- a count of the bytes after the first i stays within the bytes
fits_after : (bytes : List ℕ) (i n : ℕ) → i ≤ length bytes → n ≤ length (take (length bytes - i) (drop i bytes)) → i + n ≤ length bytes
fits_after bytes i n low high =
    let rest : n ≤ length bytes - i = rw (take_rest, length-drop) at high in
    omega (arith, low, rest)

-- bytes are left after the first i
some_left : (bytes : List ℕ) (i : ℕ) → i < length bytes → 0 < length (take (length bytes - i) (drop i bytes))
some_left bytes i more = rw (take_rest, length-drop) (omega (arith, more))

pub loop-done-preserved : goal.loop-done-preserved
loop-done-preserved g c =
    let bytes = c.args.bytes.now in
    let i = c.loop-done.done in
    let n = c.in-Ok.count in
    let left = some_left bytes i c.loop-done-test.true in
    let counted = c.in-Ok.ensures.called left (λ full. let no = (c.in-Ok.ensures.full left full).0 in cc) in
    let so_far = c.loop-done.invariant.1 in (
      fits_after bytes i n c.loop-done.invariant.0 c.in-Ok.ensures.bound,
      record {
        given = subst (Appends _ _) (grown_front bytes i n) (Appends-trans _ _ _ _ _ so_far.given c.in-Ok.ensures.bytes);
        unfailed = (counted.1 (omega (arith, c.in-Ok.count-test.1))).failures ∙ so_far.unfailed;
      },
    )
