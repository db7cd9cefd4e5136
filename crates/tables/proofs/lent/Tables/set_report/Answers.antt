use Rattle.std.proofs.Common.{slice_set, ap, ◌∙◌, refl}
use Rattle.slices.proofs.Lent.{past_set}
use Rattle.grid.specs.Grid.{pairs}
use Rattle.tables.specs.View.{view}
use Rattle.tables.proofs.Shown.{pairs-put}
use Rattle.tables.proofs.Parts.{reports_become}
use Rattle.tables.proofs.lent.Tables.set_report.Goals as goal

pub returns-clause-shows : goal.returns-clause-shows
returns-clause-shows g c =
    let a = c.args in
    let f = a.figures.now in
    let t = a.self.now in
    let sound = c.requires.sound in
    reports_become f t sound _ _ (past_set _ _ _ c.pair_index.result a.number refl refl c.pair_index.ensures.within)
    (ap (λ part. record (view f t) { reports = part })
    (ap (λ at. pairs 0 f.stations (slice_set t.reports.now at a.number)) c.pair_index.ensures.value ∙ pairs-put 0 f.stations t.reports.now a.i a.k a.number sound.room.reports c.requires.station c.requires.reporting))
