use Rattle.std.proofs.Common.{arith, pow_mono}
use Rattle.std.proofs.lemmas.Nat.{one_shl}
use Rattle.census.proofs.count_masks.Goals as goal

pub returns-clause-bound : goal.returns-clause-bound
returns-clause-bound g c =
    let few = g.met.S.QuorumSystem.sized c.args.system.now in
    omega (arith, c.size.ensures, one_shl c.size.result 32 (omega arith), pow_mono {i = c.size.result} {j = 16} (omega arith))
