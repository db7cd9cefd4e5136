-- Which stations of a row keep a value.
use Rattle.std.specs.Prelude.{ℕ, Bool, false, List, Some, None, Option, slice_index_or}
use Rattle.station_set.specs.Sets.{set_of}

-- whether what is kept is v, by a test of sameness
abbrev pub keeps : {V : Type 0} → (V → V → Bool) → V → Option V → Bool
keeps same v None = false
keeps same v (Some w) = same w v

-- the stations whose kept value is v; a set has room for sixteen
abbrev pub holders_of : {V : Type 0} → (V → V → Bool) → V → List (Option V) → ℕ
holders_of same v row = set_of 16 (λ s. keeps same v (slice_index_or row s None))
