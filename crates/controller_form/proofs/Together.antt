-- Parts that are read in turn, and together.
use Rattle.std.proofs.Common.{◌≡◌, Option, Some, None, refl}
use Rattle.std.specs.Option.{option_map}
use Rattle.json_items.specs.Validation.{both_read}
use Rattle.json_source.specs.Read.{◌>>=◌}

-- three in turn are what the three are together
pub three_together : {A B C Y : Type 0} (make : A → B → C → Y) (a : Option A) (b : Option B) (c : Option C)
    → (a >>= λ v. b >>= λ w. c >>= λ x. Some (make v w x)) ≡ option_map (λ p. make p.0.0 p.0.1 p.1) (both_read (both_read a b) c)
three_together make None b c = refl
three_together make (Some v) None c = refl
three_together make (Some v) (Some w) None = refl
three_together make (Some v) (Some w) (Some x) = refl

-- and four
pub four_together : {A B C D Y : Type 0} (make : A → B → C → D → Y) (a : Option A) (b : Option B) (c : Option C) (d : Option D)
    → (a >>= λ v. b >>= λ w. c >>= λ x. d >>= λ y. Some (make v w x y)) ≡ option_map (λ p. make p.0.0.0 p.0.0.1 p.0.1 p.1) (both_read (both_read (both_read a b) c) d)
four_together make None b c d = refl
four_together make (Some v) None c d = refl
four_together make (Some v) (Some w) None d = refl
four_together make (Some v) (Some w) (Some x) None = refl
four_together make (Some v) (Some w) (Some x) (Some y) = refl
