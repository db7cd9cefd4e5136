-- A slice that a caller lends: what stands past a count is the caller's own, and stays.
use Rattle.std.specs.Prelude.{◌≡◌, ℕ, ◌+◌, ◌<◌, ◌≤◌, List, length, get_or, drop}
use Rattle.std.specs.Borrow.{MutBor}

-- it is the same slice, as long as before, and past its first n elements it holds what it held
pub record SamePast {X : Type 0} (n : ℕ) (before after : MutBor (List X)) : Type 0 where
  pub slice : after.ghost_name ≡ before.ghost_name
  pub length : length after.now ≡ length before.now
  pub rest : drop n after.now ≡ drop n before.now

-- `count` elements from one on are x, and the others are as they were
pub record Filled {X : Type 0} (from count : ℕ) (x : X) (before after : List X) : Type 0 where
  pub length : length after ≡ length before
  pub inside : (k : ℕ) (d : X) → from ≤ k → k < from + count → get_or after k d ≡ x
  pub outside : (k : ℕ) (d : X) → (from ≤ k → k < from + count → ⊥) → get_or after k d ≡ get_or before k d
