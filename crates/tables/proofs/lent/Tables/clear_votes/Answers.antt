use Rattle.std.proofs.Common.{◌≡◌, ◌*◌, ap, ◌∙◌, refl, subst, None}
use Rattle.slices.specs.Lent.{Filled}
use Rattle.grid.specs.Grid.{row_index}
use Rattle.slices.proofs.Lent.{past_fill}
use Rattle.tables.specs.View.{view, half}
use Rattle.tables.proofs.Shown.{cells-clear}
use Rattle.tables.proofs.Parts.{votes_become}
use Rattle.tables.proofs.lent.Tables.clear_votes.Goals as goal

pub returns-clause-shows : goal.returns-clause-shows
returns-clause-shows g c =
    let a = c.args in
    let f = a.figures.now in
    let t = a.self.now in
    let n = f.stations in
    let sound = c.requires.sound in
    let first : c.votes_index-first.result ≡ row_index n (row_index n (half a.kind) a.i) a.j * n =
    c.votes_index-first.ensures.value ∙ ap (λ h. row_index n (row_index n h a.i) a.j * n) c.half.ensures in
    votes_become f t sound _ _ (past_fill _ _ _ c.votes_index-first.result n None refl c.fill.ensures c.votes_index-first.ensures.within)
    (ap (λ cell. record (view f t) { cell = cell })
    (cells-clear f t.copies.now c.fill.new.xs t.votes.now a.kind a.i a.j (subst (λ at. Filled at n None t.votes.now c.fill.new.xs) first c.fill.ensures) c.requires.station c.requires.register))
