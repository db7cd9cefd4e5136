use Rattle.std.proofs.Common.{ap, sym, subst, arith, [], ◌∷◌}
use Rattle.std.specs.List.{All}
use Rattle.std.proofs.lemmas.List.Elements.{All-append}
use Rattle.slices.proofs.Lent.{past_more}
use Rattle.pool.specs.Pool.{in_order}
use Rattle.machine.specs.Calls.{Names}
use Rattle.machine.proofs.Tables.{all_one}
use Rattle.tables.specs.View.{view}
use Rattle.tables.proofs.Parts.{pool_becomes}
use Rattle.tables.proofs.lent.Tables.send.Goals as goal

pub returns-clause-shows : goal.returns-clause-shows
returns-clause-shows g c =
    let a = c.args in
    let f = a.figures.now in
    let t = a.self.now in
    let sound = c.requires.sound in
    let order = c.join.ensures.order in
    pool_becomes f t sound _ _ (past_more _ f.places _ _ (omega (arith, c.requires.room, c.join.ensures.waiting)) c.join.ensures.past) (omega (arith, c.requires.room, c.join.ensures.waiting))
    (subst (All (Names f.stations)) (sym order) (All-append (Names f.stations) (in_order t.pool) (a.message ∷ []) sound.named (all_one (Names f.stations) a.message c.requires.named)))
    (ap (λ messages. record (view f t) { pool = messages }) order)
