use Rattle.std.proofs.Common.{◌≡◌, slice_set, ap, ◌∙◌, refl, Some}
use Rattle.slices.proofs.Lent.{past_set}
use Rattle.grid.specs.Grid.{row_index}
use Rattle.tables.specs.View.{view, cells, half}
use Rattle.tables.proofs.Shown.{cells-vote}
use Rattle.tables.proofs.Parts.{votes_become}
use Rattle.tables.proofs.lent.Tables.set_vote.Goals as goal

pub returns-clause-shows : goal.returns-clause-shows
returns-clause-shows g c =
    let a = c.args in
    let f = a.figures.now in
    let t = a.self.now in
    let sound = c.requires.sound in
    let at : c.vote_index-at.result ≡ row_index f.stations (row_index f.stations (row_index f.stations (half a.kind) a.i) a.j) a.k =
    c.vote_index-at.ensures.value ∙ ap (λ h. row_index f.stations (row_index f.stations (row_index f.stations h a.i) a.j) a.k) c.half.ensures in
    votes_become f t sound _ _ (past_set _ _ _ c.vote_index-at.result (Some a.v) refl c.put.ensures c.vote_index-at.ensures.within)
    (ap (λ cell. record (view f t) { cell = cell })
    (ap (cells f t.copies.now) (c.put.ensures ∙ ap (λ m. slice_set t.votes.now m (Some a.v)) at)
    ∙ cells-vote f t.copies.now t.votes.now a.kind a.i a.j a.k a.v sound.room.votes c.requires.station c.requires.register c.requires.voter))
