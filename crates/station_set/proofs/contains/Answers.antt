use Rattle.std.proofs.Common.{sym, ◌∙◌, arith}
use Rattle.std.proofs.lemmas.Bool.{le-ltb}
use Rattle.station_set.proofs.Members.{has_past}
use Rattle.station_set.proofs.contains.Goals as goal

-- a mask has no station from 16 up
pub returns-else-s-lt-ROOM : goal.returns-else-s-lt-ROOM
returns-else-s-lt-ROOM c =
    le-ltb c.args.s 16 c.if-s-lt-ROOM.false ∙ sym (has_past 16 c.args.set c.args.s (omega arith) c.if-s-lt-ROOM.false)
