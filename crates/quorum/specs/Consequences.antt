-- What the five laws give, for every system: the three facts that the order of operations rests on.
use Rattle.std.specs.Prelude.{◌≡◌, ℕ, ◌<◌, true, false}
use Rattle.station_set.specs.Sets.{has, Among}
use Rattle.quorum.specs.Laws.{Families}

-- A quorum is not allowed.
abbrev pub QuorumNotAllowed : Families → Type 0
QuorumNotAllowed q = (a : ℕ) → q.quorum a ≡ true → q.allowed a ≡ false

-- Two quorums share a station outside any given allowed set.
abbrev pub QuorumsShareOutside : Families → Type 0
QuorumsShareOutside q =
    (a b f : ℕ) → q.quorum a ≡ true → q.quorum b ≡ true → q.allowed f ≡ true
    → (s : ℕ) × (s < q.stations) × (has a s ≡ true) × (has b s ≡ true) × (has f s ≡ false)

-- The stations outside an allowed set, and every set of stations that includes them, are a quorum.
abbrev pub IncludingOutsideQuorum : Families → Type 0
IncludingOutsideQuorum q =
    (f a : ℕ) → q.allowed f ≡ true → Among q.stations a → ((s : ℕ) → s < q.stations → has f s ≡ false → has a s ≡ true)
    → q.quorum a ≡ true
