-- Revisions of a cell, which never fall.
use Rattle.std.proofs.Common.{◌≡◌, ◌⊎◌, ◌<◌, ◌≤◌, ℕ, List, [], ◌∷◌, ◌++◌, sym, subst, arith}
use Rattle.cells.specs.Calls.{Sends}
use Rattle.cells.specs.Chain.{IsMadeBy, Links, Swap, Version, View, newest}

abbrev Sent : Type 1
Sent = Swap → Type 0

links_rise : (X : Sent) (added old : List Version) → Links (IsMadeBy X) added old → (newest old).revision ≤ (newest (added ++ old)).revision
links_rise X [] old links = omega arith
links_rise X (b ∷ added) old links = omega (arith, links_rise X added old links.1, links.0.2.later)

-- a cell that held something holds something from then on
pub sends_rise : (old : View) (X : Sent) (new : View) → Sends old X new → (newest old.chain).revision ≤ (newest new.chain).revision
sends_rise old X new sends = subst (λ l. (newest old.chain).revision ≤ (newest l).revision) (sym sends.grows.is) (links_rise (λ s. old.may_land s ⊎ X s) sends.grows.added old.chain sends.grows.links)

pub rise_same : (n : ℕ) → n ≤ n
rise_same n = omega arith

pub rise_join : (a b c : ℕ) → a ≤ b → b ≤ c → a ≤ c
rise_join a b c first second = omega arith

pub some_none : (n : ℕ) → 0 < n → n ≡ 0 → ⊥
some_none n some none = omega arith

pub rises_some : (m n : ℕ) → 0 < m → m ≤ n → n ≡ 0 → ⊥
rises_some m n some rises none = omega arith

pub none_before : (m n now : ℕ) → m ≤ n → now ≡ n → now ≤ 0 → m ≡ 0
none_before m n now rises is none = omega arith
