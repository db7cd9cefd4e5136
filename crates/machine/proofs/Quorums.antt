-- Quorums and the stations inside: what the laws give, where the stations outside are an allowed set.
use Rattle.std.proofs.Common.{◌≡◌, ℕ, ◌^◌, ◌<◌, ◌≤◌, true, false, not, ◌&&◌, eqb, ltb, leb, ◌⊎◌, Some, None, Option, sym, refl, ap, ◌∙◌, inl, inr, ⊎_elim}
use Rattle.std.proofs.lemmas.Bool.{both_ways, and_parts, and_from, or_cases, or_left, or_right, not-true, not_from_false, cases_Bool, cases_lt, cond-false, ltb-true, lt-ltb, le-ltb, leb-true, le-leb, eqb-true, eq-eqb}
use Rattle.station_set.specs.Sets.{has, Inside, Among, common, missing, single, with_station}
use Rattle.station_set.proofs.Below.{search_below}
use Rattle.station_set.proofs.Members.{has-common, has_none, has_missing_below, missing-among, has-set_of, has_with, has-union}
use Rattle.quorum.proofs.FromLaws.{quorum_not_allowed, quorums_share_outside, including_outside_quorum}
use Rattle.value.specs.Holders.{keeps}
use Rattle.machine.specs.State.{Setting, Lawful}
use Rattle.machine.specs.Publishing.{voters}
use Rattle.machine.specs.Operations.{fresh_reports}

-- a member of a set with one station more
pub joins : (set k a : ℕ) → has (with_station set k) a ≡ true → (has set a ≡ true) ⊎ (a ≡ k)
joins set k a h =
    ⊎_elim
    (λ l. ⊎_elim inl (λ e. inr (eqb-true a k e)) (or_cases (has set a) (eqb a k) (sym (has_with set k a l) ∙ h)))
    (λ g. let none : has (single k) a ≡ false = ap (λ m. has m a) (cond-false (ltb k 16) (2 ^ k) 0 (le-ltb k 16 g)) ∙ has_none a in
    ⊎_elim inl (λ e. absurd (both_ways _ none e)) (or_cases (has set a) (has (single k) a) (sym (has-union set (single k) a) ∙ h)))
    (cases_lt k 16)

pub joined : (set k : ℕ) → k < 16 → has (with_station set k) k ≡ true
joined set k l = has_with set k k l ∙ or_right (has set k) (eqb k k) (eq-eqb k k refl)

pub joined_before : (set k a : ℕ) → has set a ≡ true → has (with_station set k) a ≡ true
joined_before set k a h = has-union set (single k) a ∙ or_left (has set a) (has (single k) a) h

module _ {V : Type 0} (c : Setting V) (L : Lawful c) where
  -- the votes for a value
  pub voter_said : (n : ℕ) → n ≤ 16 → (votes : ℕ → Option V) (v : V) (s : ℕ) → has (voters c n votes v) s ≡ true → (s < n) × (votes s ≡ Some v)
  voter_said n room votes v s h =
      let w = and_parts (ltb s n) _ (sym (has-set_of n (λ k. keeps c.same v (votes k)) s room) ∙ h) in
      (ltb-true s n w.0, said (votes s) w.1)
    where
      said : (o : Option V) → keeps c.same v o ≡ true → o ≡ Some v
      said None e = cc
      said (Some u) e = ap (λ x. Some x) ((L.exact u v).0 e)

  pub votes_count : (n : ℕ) → n ≤ 16 → (votes : ℕ → Option V) (v : V) (s : ℕ) → s < n → votes s ≡ Some v → has (voters c n votes v) s ≡ true
  votes_count n room votes v s l e =
      has-set_of n (λ k. keeps c.same v (votes k)) s room
      ∙ and_from (ltb s n) _ (lt-ltb s n l) (ap (keeps c.same v) e ∙ (L.exact v v).1 refl)

  pub voters-among : (n : ℕ) → n ≤ 16 → (votes : ℕ → Option V) (v : V) → Among n (voters c n votes v)
  voters-among n room votes v s h = (voter_said n room votes v s h).0

  -- a quorum has members, and what lies inside no quorum is none
  pub no_quorum : (a : ℕ) → ((s : ℕ) → has a s ≡ false) → c.system.quorum a ≡ false
  no_quorum a h =
      ⊎_elim
      (λ q. absurd (both_ways _ (quorum_not_allowed c.system L.laws a q)
      (L.laws.subset a 0 (λ s m. absurd (both_ways _ (h s) m)) L.laws.empty)))
      (λ e. e) (cases_Bool (c.system.quorum a))

  pub quorum_less : (a b : ℕ) → Inside a b → Among c.system.stations b → c.system.quorum b ≡ false → c.system.quorum a ≡ false
  quorum_less a b h m e = ⊎_elim (λ q. absurd (both_ways _ e (L.laws.superset a b h m q))) (λ q. q) (cases_Bool (c.system.quorum a))

  pub quorum_is_not_allowed : (a : ℕ) → c.system.quorum a ≡ true → c.system.allowed a ≡ false
  quorum_is_not_allowed a q = quorum_not_allowed c.system L.laws a q

  -- a quorum that any table has: all stations
  pub everyone : (q : ℕ) × (c.system.quorum q ≡ true)
  everyone = (missing c.system.stations 0, L.laws.outside 0 L.laws.empty)

  module _ (f : ℕ) (ok : c.system.allowed f ≡ true) where
    -- two quorums share a station inside
    pub share : (a b : ℕ) → c.system.quorum a ≡ true → c.system.quorum b ≡ true
        → (s : ℕ) × (s < c.system.stations) × (has a s ≡ true) × (has b s ≡ true) × (has f s ≡ false)
    share a b p q = quorums_share_outside c.system L.laws a b f p q ok

    -- a set that is not allowed has a member inside
    pub member_inside : (a : ℕ) → Among c.system.stations a → c.system.allowed a ≡ false → (s : ℕ) × (s < c.system.stations) × (has a s ≡ true) × (has f s ≡ false)
    member_inside a mine e =
        ⊎_elim
        (λ w. let h = and_parts (has a w.0) (not (has f w.0)) w.2 in (w.0, w.1, h.0, not-true _ h.1))
        (λ none. absurd (both_ways _ e (L.laws.subset a f (λ s m. ⊎_elim (λ t. t) (λ out. absurd (both_ways _ (none s (mine s m)) (and_from _ _ m (not_from_false _ out)))) (cases_Bool (has f s))) ok)))
        (search_below c.system.stations (λ s. has a s && not (has f s)))

    -- a set of stations with all that are inside is a quorum
    pub all_inside : (a : ℕ) → Among c.system.stations a → ((s : ℕ) → s < c.system.stations → has f s ≡ false → has a s ≡ true) → c.system.quorum a ≡ true
    all_inside a mine h = including_outside_quorum c.system L.laws f a ok mine h

    -- the part inside of a quorum is not allowed, nor what includes it
    pub part_inside : (q a : ℕ) → c.system.quorum q ≡ true → ((s : ℕ) → s < c.system.stations → has q s ≡ true → has f s ≡ false → has a s ≡ true) → c.system.allowed a ≡ false
    part_inside q a e h =
        ⊎_elim
        (λ t. absurd (both_ways _ (L.laws.overlap q (missing c.system.stations f) e (L.laws.outside f ok)) (L.laws.subset (common q (missing c.system.stations f)) a inside t)))
        (λ t. t) (cases_Bool (c.system.allowed a))
      where
        inside : Inside (common q (missing c.system.stations f)) a
        inside s m =
            let w = and_parts (has q s) (has (missing c.system.stations f) s) (sym (has-common q (missing c.system.stations f) s) ∙ m) in
            let l = missing-among c.system.stations f L.laws.sized s w.1 in
            h s l w.0 (not-true _ (sym (has_missing_below c.system.stations f s L.laws.sized l) ∙ w.1))

-- the reports that are fresh
pub fresh_said : (n : ℕ) → n ≤ 16 → (x reported : ℕ) (row : ℕ → ℕ) (k : ℕ) → has (fresh_reports n x reported row) k ≡ true
    → (k < n) × (has reported k ≡ true) × (row k ≤ x)
fresh_said n room x reported row k h =
    let w = and_parts (ltb k n) _ (sym (has-set_of n (λ a. has reported a && leb (row a) x) k room) ∙ h) in
    let u = and_parts (has reported k) (leb (row k) x) w.1 in
    (ltb-true k n w.0, u.0, leb-true (row k) x u.1)

pub fresh_count : (n : ℕ) → n ≤ 16 → (x reported : ℕ) (row : ℕ → ℕ) (k : ℕ) → k < n → has reported k ≡ true → row k ≤ x
    → has (fresh_reports n x reported row) k ≡ true
fresh_count n room x reported row k l h le =
    has-set_of n (λ a. has reported a && leb (row a) x) k room ∙ and_from (ltb k n) _ (lt-ltb k n l) (and_from _ _ h (le-leb (row k) x le))
