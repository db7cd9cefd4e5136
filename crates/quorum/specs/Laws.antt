-- What a quorum system shows: two families of sets of its n stations, and five laws.
use Rattle.std.specs.Prelude.{◌≡◌, ℕ, ◌≤◌, Bool, true, false}
use Rattle.station_set.specs.Sets.{Inside, Among, common, missing}

-- a family of sets: those that get a yes
abbrev pub Family : Type 0
Family = ℕ → Bool

-- what a quorum system means: how many stations it has, which sets may be the faulty set, and which are enough to go on
pub record Families : Type 0 where
  pub stations : ℕ
  pub allowed : Family
  pub quorum : Family

-- a set with a station that the system does not have is in no family
abbrev pub OfStations : ℕ → Family → Type 0
OfStations n family = (a : ℕ) → family a ≡ true → Among n a

-- 1. The empty set is allowed.
abbrev pub EmptyAllowed : Families → Type 0
EmptyAllowed q = q.allowed 0 ≡ true

-- 2. A subset of an allowed set is allowed.
abbrev pub SubsetAllowed : Families → Type 0
SubsetAllowed q = (a b : ℕ) → Inside a b → q.allowed b ≡ true → q.allowed a ≡ true

-- 3. A set of stations that includes a quorum is a quorum.
abbrev pub SupersetQuorum : Families → Type 0
SupersetQuorum q = (a b : ℕ) → Inside a b → Among q.stations b → q.quorum a ≡ true → q.quorum b ≡ true

-- 4. What two quorums have in common is never an allowed set.
abbrev pub OverlapNotAllowed : Families → Type 0
OverlapNotAllowed q = (a b : ℕ) → q.quorum a ≡ true → q.quorum b ≡ true → q.allowed (common a b) ≡ false

-- 5. All stations outside an allowed set together are a quorum.
abbrev pub OutsideQuorum : Families → Type 0
OutsideQuorum q = (a : ℕ) → q.allowed a ≡ true → q.quorum (missing q.stations a) ≡ true

-- the laws together, as premises of what holds for every system; a mask has sixteen bits
pub record Laws (q : Families) : Type 0 where
  pub sized : q.stations ≤ 16
  pub bounded : OfStations q.stations q.allowed
  pub seated : OfStations q.stations q.quorum
  pub empty : EmptyAllowed q
  pub subset : SubsetAllowed q
  pub superset : SupersetQuorum q
  pub overlap : OverlapNotAllowed q
  pub outside : OutsideQuorum q
