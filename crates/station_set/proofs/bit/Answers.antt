use Rattle.std.proofs.Common.{◌/◌, ◌^◌, eqb, ap}
use lib.Bits.{and_mask}
use Rattle.station_set.specs.Sets.{has}
use Rattle.station_set.proofs.bit.Goals as goal

pub returns : goal.returns
unfolding has
returns c = ap (λ x. eqb x 1) (and_mask (c.args.set / 2 ^ c.args.s) 1)
