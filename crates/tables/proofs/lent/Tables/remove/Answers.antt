use Rattle.std.proofs.Common.{ap, sym, subst, arith}
use Rattle.std.specs.List.{All}
use Rattle.slices.proofs.Lent.{past_more}
use Rattle.pool.specs.Pool.{in_order}
use Rattle.machine.specs.Calls.{Names}
use Rattle.machine.proofs.Tables.{all_removed}
use Rattle.tables.specs.View.{view}
use Rattle.tables.proofs.Parts.{pool_becomes}
use Rattle.tables.proofs.lent.Tables.remove.Goals as goal

pub returns-clause-shows : goal.returns-clause-shows
returns-clause-shows g c =
    let a = c.args in
    let f = a.figures.now in
    let t = a.self.now in
    let sound = c.requires.sound in
    let order = c.remove.ensures.order in
    pool_becomes f t sound _ _ (past_more _ f.places _ _ sound.waiting c.remove.ensures.past) (omega (arith, c.remove.ensures.waiting, sound.waiting))
    (subst (All (Names f.stations)) (sym order) (all_removed (Names f.stations) (in_order t.pool) a.place sound.named))
    (ap (λ messages. record (view f t) { pool = messages }) order)
