use Rattle.quorum.proofs.FromLaws.{including_outside_quorum}
use Rattle.quorum.proofs.consequences.stations_outside_are_a_quorum.Goals as goal

pub returns : goal.returns
returns g c = including_outside_quorum _ c.laws_hold.ensures
