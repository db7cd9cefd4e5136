-- The laws of a quorum system, of the sets at one site and those that lack one site at most.
use Rattle.std.specs.Prelude.{◌≡◌, ℕ, ◌<◌, ◌≤◌, Bool, true, false, cond, not, ◌&&◌, ◌||◌, List, Decides, ◌==◌, ◌≢◌}
use Rattle.std.proofs.Math.Path.{refl}
use Rattle.std.proofs.Common.{sym, ap, ◌∙◌, inl, inr, ⊎_elim}
use native.Mathlib.Omega.{arith}
use Rattle.std.proofs.lemmas.Bool.{false_from_ne_true, cases_lt, both_ways, eqb-true, eq-eqb, and_from, not-true, not_from_false}
use Rattle.std.proofs.lemmas.Bool.Decides.{Decides-and, Decides-like}
use Rattle.station_set.specs.Sets.{has, Inside, Among, among, common, missing}
use Rattle.station_set.proofs.Below.{all_below_decides, any_below_decides, search_below, count_top}
use Rattle.station_set.proofs.Members.{among_and, among_decides, same_members, has_none, has-common, has_missing_below, missing-among}
use Rattle.quorum.specs.Laws.{OfStations, EmptyAllowed, SubsetAllowed, SupersetQuorum, OverlapNotAllowed, OutsideQuorum}
use Rattle.quorum.specs.SiteSets.{site_of, share_site, one_site, lacks_one_site, by_site, OneSite, LacksOneSite, occurs, sites_occurring}

module _ (sites : List ℕ) (n : ℕ) where
  either : (p q b : Bool) → (not (p && q) || b) ≡ true → p ≡ true → q ≡ true → b ≡ true
  either true true b e _ _ = e
  either true false b e _ q = absurd (both_ways false refl q)
  either false q b e p _ = absurd (both_ways false refl p)

  or_both : (p q b : Bool) → (p ≡ true → q ≡ true → b ≡ true) → (not (p && q) || b) ≡ true
  or_both true true b h = h refl refl
  or_both true false b h = refl
  or_both false q b h = refl

  pub share_decides : (set : ℕ) → Decides (share_site sites n set)
      ((s u : ℕ) → s < n → u < n → has set s ≡ true → has set u ≡ true → site_of sites s ≡ site_of sites u)
  unfolding share_site
  share_decides set = (
    (λ e s u ls lu hs hu.
        eqb-true _ _ (either (has set s) (has set u) _ ((all_below_decides n _).0 ((all_below_decides n _).0 e s ls) u lu) hs hu)),
    (λ w. (all_below_decides n _).1 (λ s ls. (all_below_decides n _).1 (λ u lu. or_both (has set s) (has set u) _ (λ hs hu. eq-eqb _ _ (w s u ls lu hs hu))))),
  )

module _ (sites : List ℕ) (n : ℕ) (room : n ≤ 16) where
  -- any two members are at one site
  abbrev Together : ℕ → Type 0
  Together set = (s u : ℕ) → has set s ≡ true → has set u ≡ true → site_of sites s ≡ site_of sites u

  -- ---- the two families in words

  pub one_site_decides : (set : ℕ) → Decides (one_site sites n set) (Among n set × Together set)
  one_site_decides set =
      among_and n set (share_site sites n set)
      (λ mine.
      Decides-like (share_site sites n set) (λ w s u hs hu. w s u (mine s hs) (mine u hu) hs hu) (λ w s u _ _. w s u) (share_decides sites n set))

  pub lacks_decides : (set : ℕ) → Decides (lacks_one_site sites n set) (Among n set × (one_site sites n (missing n set) ≡ true))
  lacks_decides set = Decides-and (among n set) (one_site sites n (missing n set)) (among_decides n set) ((λ e. e), (λ e. e))

  pub one_site_words : (set : ℕ) → Decides (one_site sites n set) (OneSite sites n set)
  one_site_words set = Decides-like (one_site sites n set) to from (one_site_decides set)
    where
      to : Among n set × Together set → OneSite sites n set
      to w = (
        w.0,
        ⊎_elim (λ found. inr (site_of sites found.0, λ s hs. w.1 s found.0 hs found.2))
            (λ none. inl (λ s. false_from_ne_true (has set s) (λ hs. both_ways _ (none s (w.0 s hs)) hs)))
            (search_below n (has set)),
      )

      from : OneSite sites n set → Among n set × Together set
      from w =
          (w.0, λ s u hs hu. ⊎_elim (λ none. absurd (both_ways _ (none s) hs)) (λ at. at.1 s hs ∙ sym (at.1 u hu)) w.1)

  pub lacks_words : (set : ℕ) → Decides (lacks_one_site sites n set) (LacksOneSite sites n set)
  lacks_words set = Decides-and (among n set) (one_site sites n (missing n set)) (among_decides n set) (one_site_words (missing n set))

  -- ---- the laws

  pub sites_bounded : OfStations n (one_site sites n)
  sites_bounded a e = ((one_site_decides a).0 e).0

  pub sites_seated : OfStations n (lacks_one_site sites n)
  sites_seated a e = ((lacks_decides a).0 e).0

  pub sites_empty : EmptyAllowed (by_site sites n)
  sites_empty =
      (one_site_decides 0).1
      ((λ s member. absurd (both_ways _ (has_none s) member)), (λ s u member _. absurd (both_ways _ (has_none s) member)))

  pub sites_subset : SubsetAllowed (by_site sites n)
  sites_subset a b inside e =
      let w = (one_site_decides b).0 e in
      (one_site_decides a).1 ((λ s h. w.0 s (inside s h)), (λ s u hs hu. w.1 s u (inside s hs) (inside u hu)))

  -- the stations that the larger set lacks are missing from the smaller
  missing_inside : (a b : ℕ) → Inside a b → Inside (missing n b) (missing n a)
  missing_inside a b inside s member =
      let l = missing-among n b room s member in
      let outside : has b s ≡ false = not-true _ (sym (has_missing_below n b s room l) ∙ member) in
      has_missing_below n a s room l ∙ not_from_false _ (false_from_ne_true _ (λ h. both_ways _ outside (inside s h)))

  pub sites_superset : SupersetQuorum (by_site sites n)
  sites_superset a b inside mine e =
      let w = (lacks_decides a).0 e in
      (lacks_decides b).1 (mine, sites_subset (missing n b) (missing n a) (missing_inside a b inside) w.1)

  -- the stations outside the stations outside a set of the n are the set
  missing_twice : (a : ℕ) → Among n a → missing n (missing n a) ≡ a
  missing_twice a mine = same_members _ _ at
    where
      not_not : (b : Bool) → not (not b) ≡ b
      not_not true = refl
      not_not false = refl

      inner : (s : ℕ) → s < n → has (missing n (missing n a)) s ≡ has a s
      inner s l = has_missing_below n (missing n a) s room l ∙ ap not (has_missing_below n a s room l) ∙ not_not (has a s)

      outer : (s : ℕ) → n ≤ s → has (missing n (missing n a)) s ≡ has a s
      outer s g =
          false_from_ne_true _ (λ h. let l = missing-among n (missing n a) room s h in omega arith)
          ∙ sym (false_from_ne_true _ (λ h. let l = mine s h in omega arith))

      at : (s : ℕ) → has (missing n (missing n a)) s ≡ has a s
      at s = ⊎_elim (inner s) (outer s) (cases_lt s n)

  pub sites_outside : OutsideQuorum (by_site sites n)
  sites_outside a e =
      let mine = ((one_site_decides a).0 e).0 in
      (lacks_decides (missing n a)).1 (missing-among n a room, ap (one_site sites n) (missing_twice a mine) ∙ e)

  -- ---- two quorums have in common what no one site has

  -- 0 outside a, 1 in a and outside b, 2 in both
  share : ℕ → ℕ → ℕ → ℕ
  share a b s = cond (has a s) (cond (has b s) 2 1) 0

  share_below : (a b s : ℕ) → share a b s < 3
  unfolding share
  share_below a b s = below (has a s) (has b s)
    where
      below : (p q : Bool) → cond p (cond q 2 1) 0 < 3
      below true true = omega arith
      below true false = omega arith
      below false q = omega arith

  -- the sites of the stations outside a quorum are one
  outside_together : (a s u : ℕ) → lacks_one_site sites n a ≡ true → s < n → u < n → has a s ≡ false → has a u ≡ false → site_of sites s ≡ site_of sites u
  outside_together a s u quorum ls lu out_s out_u =
      let w = (one_site_decides (missing n a)).0 ((lacks_decides a).0 quorum).1 in
      w.1 s u (has_missing_below n a s room ls ∙ ap not out_s) (has_missing_below n a u room lu ∙ ap not out_u)

  module _ (a b : ℕ) (qa : lacks_one_site sites n a ≡ true) (qb : lacks_one_site sites n b ≡ true) (shared : one_site sites n (common a b) ≡ true) where
    -- stations of one share are at one site
    one_share : (s u : ℕ) → s < n → u < n → share a b s ≡ share a b u → site_of sites s ≡ site_of sites u
    unfolding share
    one_share s u ls lu = by (has a s) (has b s) (has a u) (has b u) refl refl refl refl
      where
        by : (p bs au bu : Bool) → has a s ≡ p → has b s ≡ bs → has a u ≡ au → has b u ≡ bu
            → ◌≡◌ {A = ℕ} (cond p (cond bs 2 1) 0) (cond au (cond bu 2 1) 0) → site_of sites s ≡ site_of sites u
        by true true true true eas ebs eau ebu e =
            ((one_site_decides (common a b)).0 shared).1 s u
            (has-common a b s ∙ and_from _ _ eas ebs) (has-common a b u ∙ and_from _ _ eau ebu)
        by true true true false _ _ _ _ e = absurd (omega arith)
        by true true false bu _ _ _ _ e = absurd (omega arith)
        by true false true true _ _ _ _ e = absurd (omega arith)
        by true false true false eas ebs eau ebu e = outside_together b s u qb ls lu ebs ebu
        by true false false bu _ _ _ _ e = absurd (omega arith)
        by false bs true true _ _ _ _ e = absurd (omega arith)
        by false bs true false _ _ _ _ e = absurd (omega arith)
        by false bs false bu eas ebs eau ebu e = outside_together a s u qa ls lu eas eau

    -- a station at one of the sites that occur
    abbrev Found : ℕ → Type 0
    Found k = (s : ℕ) × (s < n) × ((site_of sites s == k) ≡ true)

    apart : (j k : ℕ) (f : Found j) (g : Found k) → j < k → share a b f.0 ≢ share a b g.0
    apart j k f g l e =
        omega (arith, eqb-true _ _ f.2, eqb-true _ _ g.2, one_share f.0 g.0 f.1 g.1 e)

    -- four numbers below three are not all different
    no_four : (p q r s : ℕ) → p < 3 → q < 3 → r < 3 → s < 3
        → (q ≢ p) → (r ≢ p) → (s ≢ p) → (r ≢ q) → (s ≢ q) → (s ≢ r) → ⊥
    no_four p q r s hp hq hr hs qp rp sp rq sq sr = omega arith

    no_shared_site : 4 ≤ sites_occurring sites n → ⊥
    unfolding sites_occurring
    no_shared_site four =
        let here = occurs sites n in
        let p = count_top 10 3 here four in
        let q = count_top p.0 2 here p.3 in
        let r = count_top q.0 1 here q.3 in
        let s = count_top r.0 0 here r.3 in
        let fp = (any_below_decides n _).0 p.2 in
        let fq = (any_below_decides n _).0 q.2 in
        let fr = (any_below_decides n _).0 r.2 in
        let fs = (any_below_decides n _).0 s.2 in
        no_four (share a b fp.0) (share a b fq.0) (share a b fr.0) (share a b fs.0)
        (share_below a b fp.0) (share_below a b fq.0) (share_below a b fr.0) (share_below a b fs.0)
        (apart q.0 p.0 fq fp q.1)
        (apart r.0 p.0 fr fp (omega (arith, q.1, r.1)))
        (apart s.0 p.0 fs fp (omega (arith, q.1, r.1, s.1)))
        (apart r.0 q.0 fr fq r.1)
        (apart s.0 q.0 fs fq (omega (arith, r.1, s.1)))
        (apart s.0 r.0 fs fr s.1)

  pub sites_overlap : 4 ≤ sites_occurring sites n → OverlapNotAllowed (by_site sites n)
  sites_overlap four a b qa qb = false_from_ne_true _ (λ shared. no_shared_site a b qa qb shared four)
