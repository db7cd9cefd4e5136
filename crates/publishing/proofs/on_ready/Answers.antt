use Rattle.std.proofs.Common.{rules, tests, ◌≡◌, suc, sym, ap, ◌∙◌}
use Rattle.machine.specs.State.{setting, number}
use Rattle.machine.specs.Publishing.{join_readies, count_readies}
use Rattle.tables.specs.declared.lent.VoteKind.TheVariants.{Ready}
use Rattle.tables.specs.View.{view}
use Rattle.tables.proofs.Chain.{and_then, becomes_same}
use Rattle.publishing.proofs.Numbers.{number_voted, number_joined}
use Rattle.publishing.proofs.on_ready.Goals as goal

pub join_readies-requires-clause-next : goal.join_readies-requires-clause-next
join_readies-requires-clause-next g c =
    let s = view c.args.figures.now c.args.tables.now in
    let i = c.args.i in
    let j = c.args.publication.register in
    c.requires.next ∙ ap suc (sym (ap (λ u. number u i j) c.set_vote.ensures.shows.shows ∙ number_voted Ready i j c.args.k c.args.publication.value s))

pub count_readies-requires-clause-next : goal.count_readies-requires-clause-next
count_readies-requires-clause-next g c =
    let f = c.args.figures.now in
    let s = view f c.args.tables.now in
    let i = c.args.i in
    let j = c.args.publication.register in
    let v = c.args.publication.value in
    let voted = view f c.set_vote.new.self in
    let joined : number (view f c.join_readies.new.tables) i j ≡ number voted i j =
    ap (λ u. number u i j) c.join_readies.ensures.shows.shows
    ∙ number_joined (setting (g.S.QuorumSystem.families c.args.system.now) g.V.Value.equal) i j v voted in
    c.requires.next ∙ ap suc (sym (joined ∙ ap (λ u. number u i j) c.set_vote.ensures.shows.shows ∙ number_voted Ready i j c.args.k v s))

pub returns-then-is_none-clause-shows : goal.returns-then-is_none-clause-shows
returns-then-is_none-clause-shows g c =
    let f = c.args.figures.now in
    let t = c.args.tables.now in
    let i = c.args.i in
    let j = c.args.publication.register in
    let v = c.args.publication.value in
    let setup = setting (g.S.QuorumSystem.families c.args.system.now) g.V.Value.equal in
    becomes_same f t _ _ _ (search (rules, tests))
    (and_then f t _ _ _ (count_readies setup i j v) (and_then f t _ _ _ (join_readies setup i j v) c.set_vote.ensures.shows c.join_readies.ensures.shows) c.count_readies.ensures.shows)
