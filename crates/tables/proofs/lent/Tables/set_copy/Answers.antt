use Rattle.std.proofs.Common.{slice_set, ap, ◌∙◌, refl}
use Rattle.slices.proofs.Lent.{past_set}
use Rattle.tables.specs.View.{view, cells}
use Rattle.tables.proofs.Shown.{cells-copy}
use Rattle.tables.proofs.Parts.{copies_become}
use Rattle.tables.proofs.lent.Tables.set_copy.Goals as goal

pub returns-clause-shows : goal.returns-clause-shows
returns-clause-shows g c =
    let a = c.args in
    let f = a.figures.now in
    let t = a.self.now in
    let sound = c.requires.sound in
    copies_become f t sound _ _ (past_set _ _ _ c.pair_index.result a.copy refl refl c.pair_index.ensures.within)
    (ap (λ cell. record (view f t) { cell = cell })
    (ap (λ at. cells f (slice_set t.copies.now at a.copy) t.votes.now) c.pair_index.ensures.value
    ∙ cells-copy f t.copies.now t.votes.now a.i a.j a.copy sound.room.copies c.requires.station c.requires.register))
