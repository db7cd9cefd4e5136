use Rattle.std.proofs.Common.{rules, tests}
use Rattle.machine.specs.State.{setting}
use Rattle.machine.specs.Operations.{test_freshness}
use Rattle.tables.proofs.Chain.{and_then, becomes_same}
use Rattle.operations.proofs.on_state.Goals as goal

pub returns-then-not-contains-clause-shows : goal.returns-then-not-contains-clause-shows
returns-then-not-contains-clause-shows g c =
    let f = c.args.figures.now in
    let t = c.args.tables.now in
    becomes_same f t _ _ _ (search (rules, tests))
    (and_then f t _ _ _ (test_freshness (setting (g.S.QuorumSystem.families c.args.system.now) g.V.Value.equal) c.args.i c.args.j) c.keep_report.ensures.shows c.test_freshness.ensures.shows)
