-- The laws of a quorum system, of the sets with few and with many members.
use Rattle.std.proofs.Common.{sym, subst, arith}
use Rattle.std.specs.Prelude.{ℕ, ◌-◌, ◌*◌, ◌<◌, ◌≤◌, not, ◌&&◌, ◌||◌, Decides, nat_le}
use Rattle.std.proofs.lemmas.Bool.{false_from_ne_true, both_ways, leb-true, le-leb}
use Rattle.station_set.specs.Below.{count_below}
use Rattle.station_set.specs.Sets.{has, among, common, missing, members}
use Rattle.station_set.proofs.Below.{count_le, count_no, count_mono, count_same, count_both_either, count_opposite}
use Rattle.station_set.proofs.Members.{among_and, has_none, has-common, has_missing_below, missing-among, members_below}
use Rattle.quorum.specs.Laws.{OfStations, EmptyAllowed, SubsetAllowed, SupersetQuorum, OverlapNotAllowed, OutsideQuorum}
use Rattle.quorum.specs.CountingSets.{at_most, all_but, by_count, AtMost, AllBut}

decides_leb : (a b : ℕ) → Decides (nat_le a b) (a ≤ b)
decides_leb a b = (leb-true a b, le-leb a b)

module _ (n t : ℕ) where
  -- the two families in words
  pub at_most_words : (set : ℕ) → Decides (at_most n t set) (AtMost n t set)
  at_most_words set =
      among_and n set (nat_le (members set) t)
      (λ mine. subst (λ (k : ℕ). Decides (nat_le k t) (count_below n (has set) ≤ t)) (sym (members_below n set mine)) (decides_leb _ t))

  pub all_but_words : (set : ℕ) → Decides (all_but n t set) (AllBut n t set)
  all_but_words set =
      among_and n set (nat_le (n - t) (members set))
      (λ mine. subst (λ (k : ℕ). Decides (nat_le (n - t) k) (n - t ≤ count_below n (has set))) (sym (members_below n set mine)) (decides_leb (n - t) _))

  pub counting_bounded : OfStations n (at_most n t)
  counting_bounded a e = ((at_most_words a).0 e).0

  pub counting_seated : OfStations n (all_but n t)
  counting_seated a e = ((all_but_words a).0 e).0

  pub counting_empty : EmptyAllowed (by_count n t)
  counting_empty = (at_most_words 0).1 ((λ s member. absurd (both_ways _ (has_none s) member)), omega (arith, count_no n (has 0) (λ s _. has_none s)))

  pub counting_subset : SubsetAllowed (by_count n t)
  counting_subset a b inside e =
      let w = (at_most_words b).0 e in
      (at_most_words a).1 ((λ s h. w.0 s (inside s h)), omega (arith, w.1, count_mono n (has a) (has b) (λ s _. inside s)))

  pub counting_superset : SupersetQuorum (by_count n t)
  counting_superset a b inside among e =
      let w = (all_but_words a).0 e in
      (all_but_words b).1 (among, omega (arith, w.1, count_mono n (has a) (has b) (λ s _. inside s)))

  pub counting_overlap : 3 * t < n → OverlapNotAllowed (by_count n t)
  counting_overlap few a b ea eb =
      let wa = (all_but_words a).0 ea in
      let wb = (all_but_words b).0 eb in
      false_from_ne_true _ (λ e.
      let w = (at_most_words (common a b)).0 e in
      omega (
        arith,
        wa.1,
        wb.1,
        w.1,
        count_same n (has (common a b)) (λ s. has a s && has b s) (λ s _. has-common a b s),
        count_both_either n (has a) (has b),
        count_le n (λ s. has a s || has b s),
      ))

  pub counting_outside : n ≤ 16 → OutsideQuorum (by_count n t)
  counting_outside room a e =
      let w = (at_most_words a).0 e in
      (all_but_words (missing n a)).1
      (missing-among n a room, omega (arith, w.1, count_opposite n (has a), count_same n (has (missing n a)) (λ s. not (has a s)) (λ s. has_missing_below n a s room)))
