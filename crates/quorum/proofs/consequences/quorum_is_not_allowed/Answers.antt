use Rattle.quorum.proofs.FromLaws.{quorum_not_allowed}
use Rattle.quorum.proofs.consequences.quorum_is_not_allowed.Goals as goal

pub returns : goal.returns
returns g c = quorum_not_allowed _ c.laws_hold.ensures
