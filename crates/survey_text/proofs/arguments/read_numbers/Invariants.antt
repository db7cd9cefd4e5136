use Rattle.std.proofs.Common.{take, vec_items}
use Rattle.survey_text.specs.Asked.{words_of, SpellAll}
use Rattle.survey_text.proofs.arguments.read_numbers.Given as goal

abbrev pub invariant-loop-word : goal.invariant-loop-word
invariant-loop-word l = SpellAll (words_of (take l.word-index l.words)) (vec_items l.numbers)
