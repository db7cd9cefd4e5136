-- A set bounds its family where one station more, or one less, leads out of the family.
use Rattle.std.proofs.Common.{◌≡◌, ℕ, ◌^◌, ◌<◌, ◌≤◌, Bool, true, false, not, ◌&&◌, ◌||◌, Decides, eqb, get_or, sym, subst, arith, pow_mono}
use Rattle.std.specs.List.{list_all, range_with_len}
use Rattle.std.proofs.lemmas.Bool.{both_ways, and_parts, not-true, not_from_false, false_from_ne_true}
use Rattle.std.proofs.lemmas.Bool.Decides.{Decides-like, nat_tests}
use Rattle.std.proofs.lemmas.List.FromFn.{length-range_with_len, get_or-range_with_len}
use Rattle.std.proofs.lemmas.List.Sums.{AllPass-from_list_all, list_all-from_AllPass}
use Rattle.station_set.specs.Sets.{has, Inside, Among, with_station, without_station}
use Rattle.station_set.proofs.Members.{same_members, below_among, has_with, has_without}
use Rattle.quorum.specs.Laws.{Families, OfStations, SubsetAllowed, SupersetQuorum, Laws}
use Rattle.census.specs.declared.Family.{Family}
use Rattle.census.specs.declared.Family.TheVariants.{Allowed, Quorums}
use Rattle.census.specs.Outermost.{family_of, steps, Beyond, Outermost}

-- what `all` over a range says of each number in it
all_in_range : (n : ℕ) (p : ℕ → Bool) → Decides (list_all p (range_with_len 0 n)) ((k : ℕ) → k < n → p k ≡ true)
all_in_range n p =
    let at : (k d : ℕ) → k < n → get_or (range_with_len 0 n) k d ≡ k = λ k d l. omega (arith, get_or-range_with_len 0 n k d l) in
    let long = length-range_with_len 0 n in (
      (λ e k l. subst (λ s. p s ≡ true) (at k 0 l) (AllPass-from_list_all p _ e k 0 (omega (arith, long)))),
      (λ h. list_all-from_AllPass p _ (λ k d l. let below : k < n = omega (arith, long) in subst (λ s. p s ≡ true) (sym (at k d below)) (h k below))),
    )

module _ (q : Families) where
  -- the members of a set of either family are stations
  pub family_among : (family : Family) → OfStations q.stations q.allowed → OfStations q.stations q.quorum
      → (set : ℕ) → family_of family q set ≡ true → Among q.stations set
  family_among Allowed bounded seated = bounded
  family_among Quorums bounded seated = seated

  -- a set bounds its family where no set of the family beyond it differs in a station, and only there
  outermost_if : (family : Family) (set : ℕ) → family_of family q set ≡ true
      → ((b k : ℕ) → family_of family q b ≡ true → Beyond family set b → has b k ≡ not (has set k) → ⊥) → Outermost family q set
  outermost_if family set ok none = (ok, λ b ok_b beyond. same_members b set (λ k. let same = none b k ok_b beyond in grind (arith, same)))

  not_outermost : (family : Family) (set b k : ℕ) → family_of family q b ≡ true → Beyond family set b → has b k ≡ not (has set k)
      → Outermost family q set → ⊥
  not_outermost family set b k ok beyond differs outer = let same = outer.1 b ok beyond in grind (arith, same, differs)

module _ (q : Families) (room : q.stations ≤ 16) where
  -- ---- allowed sets

  with_one : (set k s : ℕ) → k < q.stations → has (with_station set k) s ≡ (has set s || eqb s k)
  with_one set k s l = has_with set k s (omega arith)

  pub largest_from : OfStations q.stations q.allowed → SubsetAllowed q → (set : ℕ) → q.allowed set ≡ true
      → ((k : ℕ) → k < q.stations → steps Allowed q set k ≡ false) → Outermost Allowed q set
  largest_from bounded subset set ok stuck =
      outermost_if q Allowed set ok (λ b k ok_b beyond differs.
      let l = bounded b ok_b k (grind (arith, beyond k)) in
      let still = subset (with_station set k) b (λ s h. grind (arith, nat_tests, with_one set k s l, beyond s)) ok_b in
      both_ways _ (stuck k l) (grind (arith, still, beyond k)))

  pub not_largest : (set k : ℕ) → k < q.stations → steps Allowed q set k ≡ true → Outermost Allowed q set → ⊥
  not_largest set k l grown =
      let w = and_parts (not (has set k)) (q.allowed (with_station set k)) grown in
      not_outermost q Allowed set (with_station set k) k w.1 (λ s h. grind (arith, with_one set k s l)) (grind (arith, nat_tests, with_one set k k l, w.0))

  -- ---- quorums

  without_one : (set k s : ℕ) → Among q.stations set → has (without_station set k) s ≡ (has set s && not (eqb s k))
  without_one set k s mine = has_without set k s (omega (arith, below_among q.stations set mine, pow_mono {i = q.stations} {j = 16} room))

  pub smallest_from : OfStations q.stations q.quorum → SupersetQuorum q → (set : ℕ) → q.quorum set ≡ true
      → ((k : ℕ) → k < q.stations → steps Quorums q set k ≡ false) → Outermost Quorums q set
  smallest_from seated superset set ok stuck =
      outermost_if q Quorums set ok (λ b k ok_b beyond differs.
      let mine = seated set ok in
      let around : Inside b (without_station set k) = λ s h. grind (arith, nat_tests, without_one set k s mine, beyond s) in
      let among : Among q.stations (without_station set k) = λ s h. mine s (grind (arith, without_one set k s mine)) in
      let still = superset b (without_station set k) around among ok_b in
      both_ways _ (stuck k (mine k (grind (arith, beyond k)))) (grind (arith, still, beyond k)))

  pub not_smallest : (set k : ℕ) → OfStations q.stations q.quorum → q.quorum set ≡ true → steps Quorums q set k ≡ true → Outermost Quorums q set → ⊥
  not_smallest set k seated ok shrunk =
      let mine = seated set ok in
      let w = and_parts (has set k) (q.quorum (without_station set k)) shrunk in
      not_outermost q Quorums set (without_station set k) k w.1 (λ s h. grind (arith, without_one set k s mine))
      (grind (arith, nat_tests, without_one set k k mine, w.0))

module _ (q : Families) (laws : Laws q) where
  pub family_below : (family : Family) (set : ℕ) → family_of family q set ≡ true → set < 2 ^ q.stations
  family_below family set ok = below_among q.stations set (family_among q family laws.bounded laws.seated set ok)

  pub outermost_from : (family : Family) (set : ℕ) → family_of family q set ≡ true
      → ((k : ℕ) → k < q.stations → steps family q set k ≡ false) → Outermost family q set
  outermost_from Allowed = largest_from q laws.sized laws.bounded laws.subset
  outermost_from Quorums = smallest_from q laws.sized laws.seated laws.superset

  pub no_step : (family : Family) (set k : ℕ) → k < q.stations → Outermost family q set → steps family q set k ≡ false
  no_step Allowed set k l outer = false_from_ne_true _ (λ step. not_largest q laws.sized set k l step outer)
  no_step Quorums set k l outer = false_from_ne_true _ (λ step. not_smallest q laws.sized set k laws.seated outer.0 step outer)

  -- the program's test of a set of the family
  pub stuck_decides : (family : Family) (set : ℕ) → family_of family q set ≡ true
      → Decides (list_all (λ s. not (steps family q set s)) (range_with_len 0 q.stations)) (Outermost family q set)
  stuck_decides family set ok =
      Decides-like _ (λ stuck. outermost_from family set ok (λ k l. not-true _ (stuck k l)))
      (λ outer k l. not_from_false _ (no_step family set k l outer))
      (all_in_range q.stations (λ s. not (steps family q set s)))
