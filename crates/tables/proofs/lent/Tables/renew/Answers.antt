use Rattle.std.proofs.Common.{false}
use Rattle.machine.specs.declared.station.RegisterCopy.{RegisterCopy}
use Rattle.tables.specs.declared.lent.VoteKind.TheVariants.{Ready}
use Rattle.tables.specs.View.{view}
use Rattle.tables.specs.Changes.{with_no_votes, with_copy}
use Rattle.tables.proofs.Chain.{and_then, becomes_same, cell_renewed}
use Rattle.tables.proofs.lent.Tables.renew.Goals as goal

pub returns-clause-shows : goal.returns-clause-shows
returns-clause-shows g c =
    let a = c.args in
    let f = a.figures.now in
    let t = a.self.now in
    let copy : RegisterCopy g.row.V.Denot = record { value = a.value; number = a.number; echoed = false; readied = false } in
    becomes_same f t c.set_copy.new.self _ _ (cell_renewed a.i a.j copy (view f t))
    (and_then f t _ _ _ (with_copy a.i a.j copy)
    (and_then f t _ _ _ (with_no_votes Ready a.i a.j) c.clear_votes.ensures.shows c.clear_votes-2.ensures.shows) c.set_copy.ensures.shows)
