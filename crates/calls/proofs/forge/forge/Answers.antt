use Rattle.tables.specs.View.{view}
use Rattle.machine.proofs.Reasons.{forged_names}
use Rattle.calls.proofs.forge.forge.Goals as goal

pub send-requires-clause-named : goal.send-requires-clause-named
send-requires-clause-named g c = forged_names (view c.args.figures.now c.args.tables.now) c.args.forgery.now c.in_ok-message.message c.in_ok-message.ensures.0 c.in_ok-message.ensures.1
