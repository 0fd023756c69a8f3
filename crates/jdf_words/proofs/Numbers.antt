-- What is read of the arguments that were found.
use Rattle.std.proofs.Common.{◌≡◌, ◌≤◌, ℕ, Option, Some, None, Result, Ok, Err, IsSomeAnd, is_some, ap, sym, subst, refl}
use Rattle.std.specs.Prelude.{option_map}
use Rattle.std.specs.Str.Parse.{ParsesUnsigned}
use Rattle.clap.specs.Words.{IsUnsignedIn, ReadsOne, Text, one_of, one_text, rows_of}
use Rattle.clap.specs.declared.parser.matches.Found.{Found}
use Rattle.clap.proofs.WalkLemmas.{one_text-rows}
use Rattle.jdf_words.specs.Calls.{ReadsNumber, number_of}

-- a text within bounds is read as a `u64` within them
number_read : (E : Type 0) (G : Text → Result ℕ E → Type 0) (o : Option Text) (r : Option ℕ) → (o ≡ None → r ≡ None)
    → ((t : Text) → o ≡ Some t → ReadsOne G t r) → ((t : Text) (x : Result ℕ E) → G t x → ParsesUnsigned 64 10 t x) → ReadsNumber o r
number_read E G None r none value parses = λ low high within. rw (none refl) (refl, tt)
number_read E G (Some t) (Some n) none value parses = λ low high within.
    let is : n ≡ number_of t = (parses t (Ok n) (value t refl)).1 in
    (ap Some is, (subst (λ m. low ≤ m) (sym is) within.2, subst (λ m. m ≤ high) (sym is) within.3))
number_read E G (Some t) None none value parses = λ low high within.
    let failed = value t refl in
    absurd (parses t (Err failed.0) failed.1 (within.0, within.1))

-- and so is that of an argument that was found
pub found_number : (E : Type 0) (G : Text → Result ℕ E → Type 0) (found : Found) (id : Text) (r : Option ℕ) → (one_text found id ≡ None → r ≡ None)
    → ((t : Text) → one_text found id ≡ Some t → ReadsOne G t r) → ((t : Text) (x : Result ℕ E) → G t x → ParsesUnsigned 64 10 t x)
    → ReadsNumber (one_of id (rows_of found)) r
found_number E G found id r none value parses =
    subst (λ o. ReadsNumber o r) (one_text-rows found id) (number_read E G _ r none value parses)

-- the number of a text that is a time
pub record ReadsTime (o : Option Text) (r : Option ℕ) : Type 0 where
  pub number : ℕ
  pub read : r ≡ Some number
  pub is : option_map number_of o ≡ Some number
  pub time : number ≤ 9999999999

pub at_read : (o : Option Text) (r : Option ℕ) → IsSomeAnd o (IsUnsignedIn 0 9999999999) → ReadsNumber o r → ReadsTime o r
at_read None r has reads = absurd has
at_read (Some t) r has reads =
    let read = reads 0 9999999999 has in
    record { number = number_of t; read = read.0; is = refl; time = has.3 }

pub is_some-map : {A B : Type 0} (f : A → B) (o : Option A) → is_some o ≡ is_some (option_map f o)
is_some-map f None = refl
is_some-map f (Some x) = refl
