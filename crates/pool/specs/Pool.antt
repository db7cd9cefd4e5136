-- The messages of a pool.
use Rattle.std.specs.Prelude.{◌≡◌, ℕ, ◌<◌, ◌≤◌, List, ◌++◌, map, length, take}
use Rattle.std.specs.List.{range_with_len}
use Rattle.pool.specs.declared.Pool.{Pool}

-- the messages that wait, in the order they joined
abbrev pub in_order : {M : Type 0} → Pool M → List M
in_order p = take p.waiting p.slots.now

-- each that waits has a slot
abbrev pub Fits : {M : Type 0} → Pool M → Type 0
Fits p = p.waiting ≤ length p.slots.now

-- If the message to station k can only be the one that a table has, those of the table join the end.
abbrev pub JoinsEach : {M : Type 0} → (ℕ → M → Type 0) → ℕ → Pool M → Pool M → Type 0
JoinsEach {M} CanBe count before after =
    (table : ℕ → M) → ((k : ℕ) (m : M) → k < count → CanBe k m → m ≡ table k) → in_order after ≡ in_order before ++ map table (range_with_len 0 count)
