use Rattle.std.proofs.Common.{◌≡◌, count_by, take}
use Rattle.pool.specs.Pool.{in_order}
use Rattle.machine.specs.Calls.{takeable}
use Rattle.tables.specs.View.{view}
use Rattle.calls.proofs.count.count.Given as goal

abbrev pub invariant-loop-message : goal.invariant-loop-message
invariant-loop-message g l =
    (l.message-items ≡ in_order l.tables.pool)
    × (l.waiting ≡ l.message-index)
    × (l.takeable ≡ count_by (takeable (view l.figures l.tables)) (take l.message-index l.message-items))
