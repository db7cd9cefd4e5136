use Rattle.std.proofs.Common.{arith, ◌*◌, ◌<◌, ◌-◌}
use Rattle.grid.proofs.Entries.{row_below}
use Rattle.grid.proofs.votes_index.Goals as goal

pub returns-clause-within : goal.returns-clause-within
returns-clause-within c =
    let n = c.args.n in
    let row : c.row_index.result < 2 * n = omega (arith, c.row_index.ensures, row_below n 2 c.args.half c.args.i c.requires.half c.requires.first) in
    let entry : c.row_index-2.result < 2 * n * n =
    omega (arith, c.row_index-2.ensures, row_below n (2 * n) c.row_index.result c.args.j row c.requires.second) in
    omega (arith, row_below n (2 * n * n) c.row_index-2.result (n - 1) entry (omega (arith, c.requires.first)), c.requires.first)
