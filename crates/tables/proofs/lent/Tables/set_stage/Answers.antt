use Rattle.std.proofs.Common.{ap, sym, ◌∙◌, refl, arith, slice_index_or, ◌≡◌}
use Rattle.slices.proofs.Lent.{past_set}
use Rattle.grid.specs.Grid.{line}
use Rattle.std.proofs.lemmas.List.{get_or_default}
use Rattle.grid.proofs.Entries.{line_is}
use Rattle.machine.specs.declared.station.Station.{Station}
use Rattle.machine.specs.State.{put}
use Rattle.machine.specs.Calls.{first_station}
use Rattle.tables.specs.View.{view}
use Rattle.tables.proofs.Shown.{line-put, put_stage}
use Rattle.tables.proofs.Parts.{stations_become}
use Rattle.tables.proofs.lent.Tables.set_stage.Goals as goal

pub returns-clause-shows : goal.returns-clause-shows
returns-clause-shows g c =
    let a = c.args in
    let f = a.figures.now in
    let t = a.self.now in
    let sound = c.requires.sound in
    let d = first_station f.opening in
    let shown = line d f.stations t.stations.now in
    let new : Station g.row.V.Denot → Station g.row.V.Denot = λ e. record { opening = e.opening; written = e.written; stage = a.stage } in
    let here : slice_index_or t.stations.now a.i c.index-self-i.result ≡ shown a.i =
    sym (line_is d f.stations t.stations.now a.i c.requires.station ∙ get_or_default t.stations.now a.i d c.index-self-i.result (omega (arith, sound.room.stations, c.requires.station))) in
    stations_become f t sound _ _ (past_set _ _ _ a.i (new (slice_index_or t.stations.now a.i c.index-self-i.result)) refl refl c.requires.station)
    (ap (λ part. record (view f t) { station = part })
    (line-put d f.stations t.stations.now a.i (new (slice_index_or t.stations.now a.i c.index-self-i.result)) sound.room.stations c.requires.station
    ∙ ap (λ e. put a.i (new e) shown) here ∙ put_stage shown a.i a.stage))
