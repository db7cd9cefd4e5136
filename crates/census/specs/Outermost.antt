-- The sets that bound a family: the largest allowed sets, and the smallest quorums.
use Rattle.std.specs.Prelude.{◌≡◌, ℕ, ◌<◌, Bool, true, not, ◌&&◌, List, All, AllPairs, Contains}
use Rattle.station_set.specs.Sets.{has, Inside, with_station, without_station}
use Rattle.quorum.specs.Laws.{Families}
use Rattle.census.specs.declared.Family.{Family}
use Rattle.census.specs.declared.Family.TheVariants.{Allowed, Quorums}

-- which of a system's two families is meant
abbrev pub family_of : Family → Families → ℕ → Bool
family_of Allowed q = q.allowed
family_of Quorums q = q.quorum

-- b goes beyond a: it includes an allowed set, or lies inside a quorum
abbrev pub Beyond : Family → ℕ → ℕ → Type 0
Beyond Allowed a b = Inside a b
Beyond Quorums a b = Inside b a

-- a set of the family beyond which no other set of the family goes
abbrev pub Outermost : Family → Families → ℕ → Type 0
Outermost family q set =
    (family_of family q set ≡ true)
    × ((b : ℕ) → family_of family q b ≡ true → Beyond family set b → b ≡ set)

-- one station on: whether the set stays in its family with station s more, or with station s less
abbrev pub grows : (ℕ → Bool) → ℕ → ℕ → Bool
grows allowed set s = not (has set s) && allowed (with_station set s)

abbrev pub shrinks : (ℕ → Bool) → ℕ → ℕ → Bool
shrinks quorum set s = has set s && quorum (without_station set s)

abbrev pub steps : Family → Families → ℕ → ℕ → Bool
steps Allowed q = grows q.allowed
steps Quorums q = shrinks q.quorum

-- the list holds the sets of which P holds, each once, by rising masks, and nothing else
pub record Exactly (P : ℕ → Type 0) (sets : List ℕ) : Type 0 where
  pub rising : AllPairs (λ a b. a < b) sets
  pub sound : All P sets
  pub complete : (set : ℕ) → P set → Contains sets set
