-- A journal in memory.
use Rattle.std.specs.Prelude.{ℕ, Bool, List}

pub record InMemory : Type 0 where
  pub held : List ℕ
  pub missed : Bool
