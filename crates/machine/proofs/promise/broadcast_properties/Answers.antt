use Rattle.machine.specs.State.{setting}
use Rattle.machine.proofs.WholeRun.{broadcast_properties}
use Rattle.machine.proofs.promise.broadcast_properties.Goals as goal

pub returns : goal.returns
returns g c =
    broadcast_properties (setting (g.S.QuorumSystem.families c.args.system.now) g.V.Value.equal)
    (record { laws = c.laws_hold.ensures; exact = g.met.V.Value.exact })
