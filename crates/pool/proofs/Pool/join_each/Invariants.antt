use Rattle.std.proofs.Common.{◌≡◌, ◌+◌}
use Rattle.slices.specs.Lent.{SamePast}
use Rattle.pool.specs.Pool.{JoinsEach}
use Rattle.pool.proofs.Pool.join_each.Given as goal

abbrev pub invariant-loop-k : goal.invariant-loop-k
invariant-loop-k g l =
    goal.F-IsAlwaysCallable g l.message
    × (l.self.waiting ≡ l.fn.self.waiting + l.k)
    × SamePast l.self.waiting l.fn.self.slots l.self.slots
    × JoinsEach (goal.F-post g l.message) l.k l.fn.self l.self
