-- Bytes that are read one after the other.
use Rattle.std.proofs.Common.{◌∙◌, ℕ, List, ◌++◌, Option, Some, None, IfSome, arith, sym, ap, subst, inl, inr, ⊎_elim, append-nil}
use Rattle.std.specs.Io.KnownBytes.{Consumes, IsAtEnd}
use Rattle.std.proofs.KnownBytes.{Consumes-trans}
use Rattle.streams.specs.Counts.{Counts}
use Rattle.streams.specs.Streams.{traffic}
use Rattle.streams.specs.declared.refused.Refused.{Refused}
use Rattle.http_message.specs.Reading.{HasRead, IsMoreFault}

-- what was read and what was read then
pub read_then : {T : Type 0} (known : T → Option (List ℕ)) (start : ℕ) (a b c : Counts T) (bytes more : List ℕ)
    → HasRead start (traffic known a b) bytes → HasRead start (traffic known b c) more
    → HasRead start (traffic known a c) (bytes ++ more)
read_then known start a b c bytes more first then =
    record {
      taken = Consumes-trans _ _ _ _ _ first.taken then.taken;
      on = omega (arith, first.on, then.on);
      bound = then.bound;
      unfailed = then.unfailed ∙ first.unfailed;
    }

-- a fault of a later read
pub later_fault : {T : Type 0} (known : T → Option (List ℕ)) (start : ℕ) (a b c : Counts T) (bytes : List ℕ) (e : Refused)
    → HasRead start (traffic known a b) bytes → IsMoreFault start (traffic known b c) e → IsMoreFault start (traffic known a c) e
later_fault known start a b c bytes e read fault =
    ⊎_elim
    (λ f. inl (
      f.0,
      ⊎_elim
          (λ failed. inl (⊎_elim (λ rose. inl (omega (arith, rose, read.unfailed))) (λ full. inr full) failed))
          (λ many. inr many) f.1,
    ))
    (λ memory. inr (memory.0, memory.1 ∙ read.unfailed))
    fault

-- a reader that is at its end had what was read
pub all_read : (before after : Option (List ℕ)) (bytes : List ℕ) → Consumes before after bytes → IsAtEnd after
    → (P : List ℕ → Type 0) → P bytes → IfSome before P
all_read None after bytes taken end P p = tt
all_read (Some all) None bytes taken end P p = absurd taken
all_read (Some all) (Some rest) bytes taken end P p =
    subst P (sym (taken ∙ ap (λ r. bytes ++ r) end ∙ append-nil bytes)) p

-- what holds however the bytes go on holds of what the reader had
pub whatever_follows : (before after : Option (List ℕ)) (bytes : List ℕ) → Consumes before after bytes
    → (P : List ℕ → Type 0) → ((more : List ℕ) → P (bytes ++ more)) → IfSome before P
whatever_follows None after bytes taken P p = tt
whatever_follows (Some all) None bytes taken P p = absurd taken
whatever_follows (Some all) (Some rest) bytes taken P p = subst P (sym taken) (p rest)
