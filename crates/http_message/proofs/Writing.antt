-- What is written behind what was written.
use Rattle.std.proofs.Common.{◌≡◌, ℕ, ◌+◌, ◌<◌, List, ◌++◌, length, take, drop, get_or, Option}
use Rattle.std.proofs.Common.{Bor, suc, sym, ap, subst, ◌∙◌, inl, inr, ⊎_elim, arith, length-append}
use Rattle.std.proofs.Math.Seq.{take-append-add, drop-cons}
use Rattle.std.proofs.lemmas.List.{take-append-le, take-append-drop}
use Rattle.std.proofs.lemmas.Grind.{flat_map-append}
use Rattle.std.specs.Io.KnownBytes.{Appends}
use Rattle.std.proofs.KnownBytes.{Appends-trans}
use Rattle.streams.specs.Counts.{Counts}
use Rattle.streams.specs.Streams.{Writes, WritesFront, traffic}
use Rattle.http_message.specs.Pieces.{bytes_of_pieces}

take_behind : (written text rest : List ℕ) (n : ℕ) → n < length text
    → written ++ take n text ≡ take (length written + n) (written ++ (text ++ rest))
take_behind written text rest n short =
    ap (λ l. written ++ l) (sym (take-append-le n text rest (omega arith)))
    ∙ sym (take-append-add written (text ++ rest) n)

-- a front of what is written behind what was written is a front of the whole
pub front_behind : {T : Type 0} (known : T → Option (List ℕ)) (a b c : Counts T)
    (written text rest whole : List ℕ) → whole ≡ written ++ (text ++ rest)
    → Writes (traffic known a b) written → WritesFront (traffic known b c) text
    → WritesFront (traffic known a c) whole
front_behind known a b c written text rest whole is before front =
    let behind = take_behind written text rest front.count front.short in
    let same = behind ∙ ap (take (length written + front.count)) (sym is) in
    record {
      count = length written + front.count;
      short = omega (arith, ap length is, length-append written (text ++ rest), length-append text rest);
      given = subst (Appends _ _) same (Appends-trans _ _ _ _ _ before.given front.given);
      failed = ⊎_elim (λ more. inl (omega (arith, more, before.unfailed))) (λ full. inr full) front.failed;
    }

-- the pieces before one, the piece, and those behind it
pub bytes_of_pieces-at : (pieces : List (Bor (List ℕ))) (i : ℕ) (none : Bor (List ℕ)) → i < length pieces
    → bytes_of_pieces pieces ≡ bytes_of_pieces (take i pieces) ++ ((get_or pieces i none).now ++ bytes_of_pieces (drop (suc i) pieces))
bytes_of_pieces-at pieces i none inside =
    ap bytes_of_pieces (sym (take-append-drop i pieces))
    ∙ flat_map-append (λ piece. piece.now) (take i pieces) (drop i pieces)
    ∙ ap (λ l. bytes_of_pieces (take i pieces) ++ bytes_of_pieces l) (drop-cons pieces i none inside)
