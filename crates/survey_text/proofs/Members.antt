-- Steps of the loop that writes a set's members.
use Rattle.std.proofs.Common.{◌≡◌, ℕ, ◌+◌, cond, [], ◌++◌, refl, add-one}
use Rattle.std.proofs.lemmas.Grind.{common_steps}
use Rattle.station_set.specs.Sets.{has}
use Rattle.survey_text.specs.Printed.{spaced, members_text}

pub members_none : (set : ℕ) → members_text 0 set ≡ []
unfolding members_text
members_none set = refl

pub members_more : (n set : ℕ) → members_text (n + 1) set ≡ members_text n set ++ cond (has set n) (spaced n) []
unfolding members_text
members_more n set = rw add-one

pub ruleset members_written = (common_steps, members_none, members_more)
