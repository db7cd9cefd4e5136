use Rattle.std.proofs.Common.{refl, arith, None}
use Rattle.slices.proofs.Lent.{past_more, past_fill}
use Rattle.tables.proofs.Parts.{fresh_becomes}
use Rattle.tables.proofs.Opened.{shows_opening}
use Rattle.tables.proofs.lent.Tables.clear.Goals as goal

pub returns : goal.returns
returns g c =
    let a = c.args in
    let f = a.figures.now in
    let t = a.self.now in
    fresh_becomes f t _ c.requires
    (record {
      messages = past_more 0 f.places _ _ (omega arith) c.clear.ensures.past;
      votes = past_fill _ _ _ 0 _ None refl c.fill.ensures (omega arith);
      held = past_fill _ _ _ 0 _ 0 refl c.fill-2.ensures (omega arith);
      stations = past_fill _ _ _ 0 _ _ refl c.fill-3.ensures (omega arith);
      copies = past_fill _ _ _ 0 _ _ refl c.fill-4.ensures (omega arith);
      reads = past_fill _ _ _ 0 _ 0 refl c.fill-5.ensures (omega arith);
      reports = past_fill _ _ _ 0 _ 0 refl c.fill-6.ensures (omega arith);
    })
    c.clear.ensures.waiting c.clear.ensures.order
    (shows_opening f t.copies.now c.fill-4.new.xs t.votes.now c.fill.new.xs t.stations.now c.fill-3.new.xs t.reads.now c.fill-5.new.xs t.reports.now c.fill-6.new.xs t.held.now c.fill-2.new.xs
    c.fill-4.ensures c.fill.ensures c.fill-3.ensures c.fill-5.ensures c.fill-6.ensures c.fill-2.ensures _ c.clear.ensures.order)
