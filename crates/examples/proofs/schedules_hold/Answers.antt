use Rattle.examples.proofs.Played.{schedules_hold}
use Rattle.examples.proofs.schedules_hold.Goals as goal

pub returns : goal.returns
returns c = schedules_hold
