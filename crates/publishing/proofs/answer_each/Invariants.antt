use Rattle.std.proofs.Common.{◌≤◌, ◌+◌}
use Rattle.tables.specs.View.{view, Becomes}
use Rattle.publishing.proofs.Answered.{answer_first}
use Rattle.publishing.proofs.answer_each.Given as goal

abbrev pub invariant-loop-k : goal.invariant-loop-k
invariant-loop-k g l =
    Becomes l.figures l.fn.tables l.tables (answer_first l.k l.i l.j l.number (view l.figures l.fn.tables))
    × (l.tables.pool.waiting ≤ l.fn.tables.pool.waiting + l.k)
