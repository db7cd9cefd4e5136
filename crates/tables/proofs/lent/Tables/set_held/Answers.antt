use Rattle.std.proofs.Common.{slice_set, ap, ◌∙◌, refl}
use Rattle.slices.proofs.Lent.{past_set}
use Rattle.grid.specs.Grid.{triples}
use Rattle.tables.specs.View.{view}
use Rattle.tables.proofs.Shown.{triples-put}
use Rattle.tables.proofs.Parts.{held_become}
use Rattle.tables.proofs.lent.Tables.set_held.Goals as goal

pub returns-clause-shows : goal.returns-clause-shows
returns-clause-shows g c =
    let a = c.args in
    let f = a.figures.now in
    let t = a.self.now in
    let sound = c.requires.sound in
    held_become f t sound _ _ (past_set _ _ _ c.triple_index.result a.number refl refl c.triple_index.ensures.within)
    (ap (λ part. record (view f t) { held = part })
    (ap (λ at. triples 0 f.stations (slice_set t.held.now at a.number)) c.triple_index.ensures.value ∙ triples-put 0 f.stations t.held.now a.i a.k a.j a.number sound.room.held c.requires.station c.requires.awaiting c.requires.register))
