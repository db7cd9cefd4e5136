use Rattle.quorum.specs.CountingLaws.{at_most_words, all_but_words}
use Rattle.quorum.proofs.counting.counting_in_words.Goals as goal

pub returns : goal.returns
returns c n t set = (at_most_words n t set, all_but_words n t set)
