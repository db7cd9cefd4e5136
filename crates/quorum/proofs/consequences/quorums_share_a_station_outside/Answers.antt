use Rattle.quorum.proofs.FromLaws.{quorums_share_outside}
use Rattle.quorum.proofs.consequences.quorums_share_a_station_outside.Goals as goal

pub returns : goal.returns
returns g c = quorums_share_outside _ c.laws_hold.ensures
