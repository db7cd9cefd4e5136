use Rattle.machine.proofs.CountedRest.{rest_by_count}
use Rattle.machine.proofs.promise.rest_by_count.Goals as goal

pub returns : goal.returns
returns g c = rest_by_count g.row.V.Denot
