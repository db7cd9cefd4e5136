use Rattle.std.proofs.Common.{ap, sym, subst, arith}
use Rattle.std.specs.List.{All}
use Rattle.std.proofs.lemmas.List.Elements.{All-append}
use Rattle.slices.proofs.Lent.{past_more}
use Rattle.pool.specs.Pool.{in_order}
use Rattle.machine.specs.State.{to_all}
use Rattle.machine.specs.Calls.{Names}
use Rattle.machine.proofs.Named.{all_below}
use Rattle.tables.specs.View.{view}
use Rattle.tables.proofs.Parts.{pool_becomes}
use Rattle.tables.proofs.lent.Tables.send_each.Goals as goal

pub returns-clause-shows : goal.returns-clause-shows
returns-clause-shows g c =
    let a = c.args in
    let f = a.figures.now in
    let t = a.self.now in
    let sound = c.requires.sound in
    let n = f.stations in
    λ table each named.
    let order = c.join_each.ensures.order table each in
    pool_becomes f t sound _ _ (past_more _ f.places _ _ (omega (arith, c.requires.room, c.join_each.ensures.waiting)) c.join_each.ensures.past)
    (omega (arith, c.requires.room, c.join_each.ensures.waiting))
    (subst (All (Names n)) (sym order) (All-append (Names n) (in_order t.pool) (to_all n table) sound.named (all_below (Names n) table 0 n n (omega arith) named)))
    (ap (λ messages. record (view f t) { pool = messages }) order)
