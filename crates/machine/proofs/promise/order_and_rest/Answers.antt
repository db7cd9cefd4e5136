use Rattle.machine.specs.State.{setting}
use Rattle.machine.proofs.WholeRun.{order_and_rest}
use Rattle.machine.proofs.promise.order_and_rest.Goals as goal

pub returns : goal.returns
returns g c =
    order_and_rest (setting (g.S.QuorumSystem.families c.args.system.now) g.V.Value.equal)
    (record { laws = c.laws_hold.ensures; exact = g.met.V.Value.exact })
