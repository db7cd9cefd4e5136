use Rattle.std.proofs.Common.{◌^◌, sym, ◌∙◌, arith, pow_mono}
use Rattle.std.proofs.lemmas.Bool.{le-leb, lt-ltb}
use Rattle.station_set.proofs.is_among.Goals as goal

-- every mask is below 2 ^ 16
pub returns-then-n-ge-ROOM : goal.returns-then-n-ge-ROOM
returns-then-n-ge-ROOM c =
    let n = c.args.n in
    le-leb 16 n c.if-n-ge-ROOM.true ∙ sym (lt-ltb c.args.set (2 ^ n) (omega (arith, pow_mono {i = 16} {j = n} c.if-n-ge-ROOM.true)))
