use Rattle.std.proofs.Common.{rules, tests, ap, ◌∙◌}
use Rattle.machine.specs.Calls.{ahead}
use Rattle.tables.specs.View.{view}
use Rattle.calls.proofs.Removal.{ahead_removed}
use Rattle.calls.proofs.take.take.Goals as goal

pub act-requires-clause-due : goal.act-requires-clause-due
act-requires-clause-due g c =
    let s = view c.args.figures.now c.args.tables.now in
    let m = c.in_ok-message.message in
    ap (λ u. ahead u m) c.remove-2.ensures.shows.shows ∙ ahead_removed c.args.place s m ∙ search (rules, tests)
