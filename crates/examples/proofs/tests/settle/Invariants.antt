use Rattle.tables.specs.View.{Sound}
use Rattle.examples.proofs.tests.settle.Given as goal

abbrev pub invariant-loop : goal.invariant-loop
invariant-loop l = Sound l.figures l.tables
