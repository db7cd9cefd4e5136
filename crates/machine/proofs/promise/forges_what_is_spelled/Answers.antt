use Rattle.machine.proofs.Forgeries.{forges}
use Rattle.machine.proofs.promise.forges_what_is_spelled.Goals as goal

pub returns : goal.returns
returns g c = forges c.args.highest c.args.opening.now
