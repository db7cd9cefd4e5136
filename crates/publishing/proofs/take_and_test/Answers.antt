use Rattle.machine.specs.State.{setting}
use Rattle.machine.specs.Operations.{test_freshness}
use Rattle.tables.proofs.Chain.{and_then}
use Rattle.publishing.proofs.take_and_test.Goals as goal

pub returns-clause-shows : goal.returns-clause-shows
returns-clause-shows g c =
    and_then c.args.figures.now c.args.tables.now _ _ _
    (test_freshness (setting (g.S.QuorumSystem.families c.args.system.now) g.V.Value.equal) c.args.i c.args.publication.register)
    c.take_value.ensures.shows c.test_freshness.ensures.shows
