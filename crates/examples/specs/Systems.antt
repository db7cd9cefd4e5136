-- Quorum systems by their figures, and sets by their members.
use Rattle.std.specs.Prelude.{ℕ, List, [], ◌∷◌, length, Option, nat_eq}
use Rattle.station_set.specs.Sets.{union, single}
use Rattle.quorum.specs.declared.unfit.Unfit.{Unfit}
use Rattle.quorum.specs.Laws.{Families}
use Rattle.quorum.specs.CountingSets.{by_count, counting_bar}
use Rattle.quorum.specs.SiteSets.{by_site, sites_bar}
use Rattle.machine.specs.State.{Setting}

pub data System : Type 0 where
  counting : (n t : ℕ) → System
  sites : List ℕ → System

-- what it means
abbrev pub families_of : System → Families
families_of (counting n t) = by_count n t
families_of (sites list) = by_site list (length list)

abbrev pub bar_of : System → Option Unfit
bar_of (counting n t) = counting_bar n t
bar_of (sites list) = sites_bar list

-- what a call on a bench is handed, where values are plain numbers
abbrev pub setting : System → Setting ℕ
setting system = record { system = families_of system; same = nat_eq }

-- the set of the stations in a list
abbrev pub stations : List ℕ → ℕ
stations [] = 0
stations (s ∷ rest) = union (single s) (stations rest)
