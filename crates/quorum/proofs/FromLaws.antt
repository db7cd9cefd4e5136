-- What the five laws give, for every system.
use Rattle.std.proofs.Common.{not, ◌&&◌, sym, ap, ◌∙◌, ⊎_elim}
use lib.Bits.{and_self}
use Rattle.std.proofs.lemmas.Bool.{cases_Bool, both_ways, and_parts, and_from, not-true, not_from_false}
use Rattle.station_set.specs.Sets.{has, Inside, Among, common, missing}
use Rattle.station_set.proofs.Below.{search_below}
use Rattle.station_set.proofs.Members.{has-common, has_missing_below, missing-among}
use Rattle.quorum.specs.Laws.{Families, Laws}
use Rattle.quorum.specs.Consequences.{QuorumNotAllowed, QuorumsShareOutside, IncludingOutsideQuorum}

module _ (q : Families) (laws : Laws q) where
  pub quorum_not_allowed : QuorumNotAllowed q
  quorum_not_allowed a e = ap q.allowed (sym (and_self a)) ∙ laws.overlap a a e e

  pub quorums_share_outside : QuorumsShareOutside q
  quorums_share_outside a b f qa qb ok =
      ⊎_elim
      (λ found.
      let w = and_parts (has (common a b) found.0) (not (has f found.0)) found.2 in
      let m = and_parts (has a found.0) (has b found.0) (sym (has-common a b found.0) ∙ w.0) in
      (found.0, found.1, m.0, m.1, not-true _ w.1))
      (λ none.
      -- otherwise the common part lies inside f, and would be allowed
      let inside : Inside (common a b) f = λ s h.
      ⊎_elim (λ e. e) (λ out. absurd (both_ways _ (none s (stations s h)) (and_from _ _ h (not_from_false _ out)))) (cases_Bool (has f s)) in
      absurd (both_ways _ (laws.overlap a b qa qb) (laws.subset (common a b) f inside ok)))
      (search_below q.stations (λ s. has (common a b) s && not (has f s)))
    where
      stations : Among q.stations (common a b)
      stations s h = laws.seated a qa s (and_parts (has a s) (has b s) (sym (has-common a b s) ∙ h)).0

  pub including_outside_quorum : IncludingOutsideQuorum q
  including_outside_quorum f a ok mine holds =
      laws.superset (missing q.stations f) a
      (λ s h. let l = missing-among q.stations f laws.sized s h in holds s l (not-true _ (sym (has_missing_below q.stations f s laws.sized l) ∙ h)))
      mine (laws.outside f ok)
