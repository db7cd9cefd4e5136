use Rattle.std.proofs.Common.{[], ◌∷◌, refl}
use Rattle.machine.specs.declared.message.Message.TheVariants.{WriteDone}
use Rattle.machine.specs.State.{send}
use Rattle.tables.specs.View.{view}
use Rattle.tables.proofs.Chain.{and_then, becomes_same}
use Rattle.publishing.specs.Answering.{answer_each}
use Rattle.publishing.proofs.Answered.{value_taken}
use Rattle.publishing.proofs.take_value.Goals as goal

pub returns-clause-shows : goal.returns-clause-shows
returns-clause-shows g c =
    let f = c.args.figures.now in
    let t = c.args.tables.now in
    let i = c.args.i in
    let j = c.args.publication.register in
    let x = c.args.publication.number in
    becomes_same f t _ _ _ (value_taken f.stations i j x c.args.publication.value (view f t) refl c.requires.next)
    (and_then f t _ _ _ (answer_each f.stations i j x) (and_then f t _ _ _ (send (WriteDone i j x ∷ [])) c.renew.ensures.shows c.send.ensures.shows) c.answer_each.ensures.shows)
