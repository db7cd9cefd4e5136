-- What a survey of a system holds.
use Rattle.std.specs.Prelude.{◌≡◌, ◌^◌, vec_items}
use Rattle.station_set.specs.Below.{count_below}
use Rattle.quorum.specs.Laws.{Families}
use Rattle.census.specs.declared.Survey.{Survey}
use Rattle.census.specs.declared.Family.TheVariants.{Allowed, Quorums}
use Rattle.census.specs.Outermost.{Outermost, Exactly}

pub record Surveyed (q : Families) (survey : Survey) : Type 0 where
  pub largest : Exactly (Outermost Allowed q) (vec_items survey.largest_allowed)
  pub smallest : Exactly (Outermost Quorums q) (vec_items survey.smallest_quorums)
  pub how_many_allowed : survey.allowed_sets ≡ count_below (2 ^ q.stations) q.allowed
  pub how_many_quorums : survey.quorums ≡ count_below (2 ^ q.stations) q.quorum
