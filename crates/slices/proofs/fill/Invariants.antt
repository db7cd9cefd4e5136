use Rattle.slices.specs.Lent.{Filled}
use Rattle.slices.proofs.fill.Given as goal

abbrev pub invariant-loop-k : goal.invariant-loop-k
invariant-loop-k g l = Filled l.from l.k l.x l.fn.xs l.xs
