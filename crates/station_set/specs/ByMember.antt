-- What each operation on sets says of every station, so that nothing above speaks of bits.
use Rattle.std.specs.Prelude.{◌≡◌, ℕ, ◌^◌, ◌<◌, ◌≤◌, Bool, not, ◌&&◌, ◌||◌, Decides, ◌==◌, nat_lt}
use Rattle.station_set.specs.Below.{count_below}
use Rattle.station_set.specs.Sets.{has, Among, among, members, union, common, single, missing, with_station, without_station, set_of}

pub record ByMember : Type 0 where
  -- a set is its members
  pub same_members : (a b : ℕ) → ((s : ℕ) → has a s ≡ has b s) → a ≡ b
  pub of_union : (a b s : ℕ) → has (union a b) s ≡ (has a s || has b s)
  pub of_common : (a b s : ℕ) → has (common a b) s ≡ (has a s && has b s)
  pub of_single : (s u : ℕ) → s < 16 → has (single s) u ≡ (u == s)
  pub of_missing : (n set s : ℕ) → n ≤ 16 → has (missing n set) s ≡ (nat_lt s n && not (has set s))
  pub of_with : (set s u : ℕ) → s < 16 → has (with_station set s) u ≡ (has set u || u == s)
  pub of_without : (set s u : ℕ) → set < 2 ^ 16 → has (without_station set s) u ≡ (has set u && not (u == s))
  pub of_set_of : (n : ℕ) (p : ℕ → Bool) (s : ℕ) → n ≤ 16 → has (set_of n p) s ≡ (nat_lt s n && p s)
  pub of_members : (n set : ℕ) → set < 2 ^ n → members set ≡ count_below n (has set)
  pub among_decides : (n set : ℕ) → Decides (among n set) (Among n set)
