-- One proof of all schedules: all are played by computation.
use Rattle.std.proofs.Common.{◌≡◌, List, [], ◌∷◌, map, refl, ap}
use lib.Count.{ones, ones_in}
use Rattle.std.specs.List.{AllByRecursion}
use Rattle.station_set.specs.Below.{all_below}
use Rattle.station_set.specs.Sets.{has, set_of}
use Rattle.quorum.specs.SiteSets.{share_site}
use Rattle.examples.specs.Lines.{Line, played}
use Rattle.examples.specs.Schedules.{schedules, SchedulesHold}

-- a list's first element, and the others; of none where there is none
head_or : {A : Type 0} → A → List A → A
head_or a [] = a
head_or a (x ∷ xs) = x

others : {A : Type 0} → List A → List A
others [] = []
others (x ∷ xs) = xs

each_played : (all : List (List Line)) → map played all ≡ all → AllByRecursion (λ lines. played lines ≡ lines) all
unfolding head_or others
each_played [] e = tt
each_played (lines ∷ rest) e = (ap (head_or []) e, each_played rest (ap others e))

all_played : map played schedules ≡ schedules
unfolding has set_of ones ones_in all_below share_site
all_played = refl

pub schedules_hold : SchedulesHold
schedules_hold = each_played schedules all_played
