use Rattle.std.proofs.Common.{arith, ◌*◌, ◌<◌}
use Rattle.grid.proofs.Entries.{row_below}
use Rattle.grid.proofs.triple_index.Goals as goal

pub returns-clause-within : goal.returns-clause-within
returns-clause-within c =
    let n = c.args.n in
    let row : c.row_index.result < n * n = omega (arith, c.row_index.ensures, row_below n n c.args.i c.args.j c.requires.first c.requires.second) in
    omega (arith, c.row_index-2.ensures, row_below n (n * n) c.row_index.result c.args.k row c.requires.third)
