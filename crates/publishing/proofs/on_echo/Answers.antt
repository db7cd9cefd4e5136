use Rattle.std.proofs.Common.{rules, tests, suc, sym, ap, ◌∙◌}
use Rattle.machine.specs.State.{setting, number}
use Rattle.machine.specs.Publishing.{count_echoes}
use Rattle.tables.specs.declared.lent.VoteKind.TheVariants.{Echo}
use Rattle.tables.specs.View.{view}
use Rattle.tables.proofs.Chain.{and_then, becomes_same}
use Rattle.publishing.proofs.Numbers.{number_voted}
use Rattle.publishing.proofs.on_echo.Goals as goal

pub count_echoes-requires-clause-next : goal.count_echoes-requires-clause-next
count_echoes-requires-clause-next g c =
    let s = view c.args.figures.now c.args.tables.now in
    let i = c.args.i in
    let j = c.args.publication.register in
    c.requires.next ∙ ap suc (sym (ap (λ u. number u i j) c.set_vote.ensures.shows.shows ∙ number_voted Echo i j c.args.k c.args.publication.value s))

pub returns-then-is_none-clause-shows : goal.returns-then-is_none-clause-shows
returns-then-is_none-clause-shows g c =
    let f = c.args.figures.now in
    let t = c.args.tables.now in
    becomes_same f t _ _ _ (search (rules, tests))
    (and_then f t _ _ _ (count_echoes (setting (g.S.QuorumSystem.families c.args.system.now) g.V.Value.equal) c.args.i c.args.publication.register c.args.publication.value) c.set_vote.ensures.shows c.count_echoes.ensures.shows)
