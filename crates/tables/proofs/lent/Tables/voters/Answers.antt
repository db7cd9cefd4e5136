use Rattle.std.proofs.Common.{◌≡◌, ℕ, ◌+◌, ◌*◌, ◌≤◌, Bool, length, get_or, None, sym, ap, ◌∙◌, arith, slice_range}
use Rattle.std.proofs.lemmas.List.{get_or_past}
use Rattle.std.proofs.lemmas.List.Edits.{length-between, get_or-between}
use Rattle.station_set.proofs.Members.{set_of_same, set_of_rest}
use Rattle.value.specs.Holders.{keeps}
use Rattle.grid.specs.Grid.{row_index}
use Rattle.tables.specs.View.{view, half, votes_of}
use Rattle.tables.proofs.Shown.{row-votes}
use Rattle.tables.proofs.lent.Tables.voters.Goals as goal

pub returns : goal.returns
returns g c =
    let a = c.args in
    let f = a.figures.now in
    let t = a.self.now in
    let n = f.stations in
    let at = c.votes_index-at.result in
    let end : at + n ≤ length t.votes.now = omega (arith, c.votes_index-at.ensures.within, c.requires.sound.room.votes) in
    let row = slice_range t.votes.now at (at + n) in
    let long : length row ≡ n = length-between t.votes.now at (at + n) end ∙ omega arith in
    let test : ℕ → Bool = λ k. keeps g.V.Value.equal a.v (get_or row k None) in
    let first : at ≡ row_index n (row_index n (half a.kind) a.i) a.j * n =
    c.votes_index-at.ensures.value ∙ ap (λ h. row_index n (row_index n h a.i) a.j * n) c.half.ensures in
    c.holders.ensures.value
    ∙ sym (set_of_rest n 16 test (omega (arith, c.requires.sound.room.few)) (omega arith) (λ s past room. ap (keeps g.V.Value.equal a.v) (get_or_past row s None (omega (arith, long)))))
    ∙ set_of_same n test (λ k. keeps g.V.Value.equal a.v (votes_of a.kind ((view f t).cell a.i a.j) k))
    (λ s l.
    ap (keeps g.V.Value.equal a.v)
    (get_or-between t.votes.now at (at + n) s None (omega (arith, l)) ∙ ap (λ m. get_or t.votes.now (m + s) None) first
    ∙ sym (row-votes f t.copies.now t.votes.now a.kind a.i a.j s c.requires.station c.requires.register l)))
