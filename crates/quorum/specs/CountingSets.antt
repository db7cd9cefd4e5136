-- Counting: of n stations at most t may be faulty.
use Rattle.std.specs.Prelude.{ℕ, ◌-◌, ◌*◌, ◌<◌, ◌≤◌, Bool, cond, ◌&&◌, Some, None, Decides, Option, ◌==◌, nat_le, nat_lt}
use Rattle.station_set.specs.Below.{count_below}
use Rattle.station_set.specs.Sets.{has, Among, among, members}
use Rattle.quorum.specs.Laws.{Families}
use Rattle.quorum.specs.declared.unfit.Unfit.{Unfit}
use Rattle.quorum.specs.declared.unfit.Unfit.TheVariants.{NoStations, TooManyStations, TooManyFaults}

-- at most t of the n stations
abbrev pub at_most : ℕ → ℕ → ℕ → Bool
at_most n t set = among n set && nat_le (members set) t

-- at least n - t of the n stations
abbrev pub all_but : ℕ → ℕ → ℕ → Bool
all_but n t set = among n set && nat_le (n - t) (members set)

abbrev pub by_count : ℕ → ℕ → Families
by_count n t = record { stations = n; allowed = at_most n t; quorum = all_but n t }

-- The same in words: each member is one of the n stations, and of these at most t, or at least n - t, are members.
abbrev pub AtMost : ℕ → ℕ → ℕ → Type 0
AtMost n t set = Among n set × (count_below n (has set) ≤ t)

abbrev pub AllBut : ℕ → ℕ → ℕ → Type 0
AllBut n t set = Among n set × (n - t ≤ count_below n (has set))

abbrev pub CountingInWords : Type 0
CountingInWords = (n t set : ℕ) → Decides (at_most n t set) (AtMost n t set) × Decides (all_but n t set) (AllBut n t set)

-- the limits of the figures
abbrev pub CountingLimits : ℕ → ℕ → Type 0
CountingLimits n t = (1 ≤ n) × (n ≤ 10) × (3 * t < n)

-- the first limit that the figures break
abbrev pub counting_bar : ℕ → ℕ → Option Unfit
counting_bar n t =
    cond (n == 0) (Some NoStations)
    (cond (nat_lt 10 n) (Some TooManyStations)
    (cond (nat_le n (3 * t)) (Some TooManyFaults) None))
