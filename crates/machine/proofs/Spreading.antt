-- The broadcast at rest: all stations inside are equally far, and every write of an owner inside was taken.
use Rattle.std.proofs.Common.{◌≡◌, ℕ, zero, suc, ◌<◌, ◌≤◌, true, false, ◌⊎◌, Some, Option, sym, ap, ◌∙◌, subst, inl, inr, ⊎_elim, arith}
use Rattle.std.proofs.lemmas.Bool.{both_ways, cases_Bool, cases_lt, ltb-true}
use Rattle.station_set.specs.Sets.{has, Among}
use Rattle.machine.specs.declared.message.Message.{Message}
use Rattle.machine.specs.declared.message.Message.TheVariants.{Init, Echo, Ready}
use Rattle.machine.specs.State.{Setting, Lawful, State, number}
use Rattle.machine.specs.Publishing.{voters}
use Rattle.machine.specs.Calls.{sender, receiver, ahead}
use Rattle.machine.proofs.Acts.{In}
use Rattle.machine.proofs.Tables.{Mem}
use Rattle.machine.proofs.Quorums.{voters-among, votes_count, all_inside, part_inside}
use Rattle.machine.proofs.History.{History}
use Rattle.machine.proofs.Voices.{Backed, one_backs, one_ready}
use Rattle.machine.proofs.Moments.{Holds}
use Rattle.machine.proofs.CalmCells.{CalmCell}

module _ {V : Type 0} (c : Setting V) (L : Lawful c) (f : ℕ) (ok : c.system.allowed f ≡ true) (v₀ : V) where
  module _ (s : State V) (h : History V) (H : Holds c L f ok v₀ s h)
      (calm : (i j : ℕ) → CalmCell c L s.figures.stations (s.cell i j))
      (rest : (m : Message V) → Mem m s.pool → In f (sender m) → In f (receiver m) → ahead s m ≡ true) where
    n : ℕ
    n = s.figures.stations

    room : n ≤ 16
    unfolding n
    room = omega (arith, L.laws.sized, H.fits.0)

    among : (votes : ℕ → Option V) (v : V) → Among c.system.stations (voters c n votes v)
    unfolding n
    among votes v k m = omega (arith, voters-among c L n room votes v k m, H.fits.0)

    counted : (votes : ℕ → Option V) (v : V) (k : ℕ) → k < c.system.stations → votes k ≡ Some v → has (voters c n votes v) k ≡ true
    unfolding n
    counted votes v k l e = votes_count c L n room votes v k (omega (arith, l, H.fits.0)) e

    -- at rest a message about the publication at work has had its effect
    heard_init : (k i : ℕ) (v : V) → In f k → In f i → i < c.system.stations → h.published k (suc (number s i k)) ≡ Some v → (s.cell i k).copy.echoed ≡ true
    heard_init k i v e q l p =
        ⊎_elim (λ m. absurd (let z = ltb-true _ _ (rest (Init k i (suc (number s i k)) v) m e q) in omega arith))
        (λ d. ⊎_elim (λ u. absurd (omega arith)) (λ u. u.1) d) (H.arrivals.inits k i (suc (number s i k)) v e q l p)

    heard_echo : (k i j : ℕ) (v : V) → In f k → In f i → i < c.system.stations → h.echoed k j (suc (number s i j)) ≡ Some v → (s.cell i j).echoes k ≡ Some v
    heard_echo k i j v e q l p =
        ⊎_elim (λ m. absurd (let z = ltb-true _ _ (rest (Echo k i j (suc (number s i j)) v) m e q) in omega arith))
        (λ d. ⊎_elim (λ u. absurd (omega arith)) (λ u. u.1) d) (H.arrivals.echoes k i j (suc (number s i j)) v e q l p)

    heard_ready : (k i j : ℕ) (v : V) → In f k → In f i → i < c.system.stations → h.readied k j (suc (number s i j)) ≡ Some v → (s.cell i j).readies k ≡ Some v
    heard_ready k i j v e q l p =
        ⊎_elim (λ m. absurd (let z = ltb-true _ _ (rest (Ready k i j (suc (number s i j)) v) m e q) in omega arith))
        (λ d. ⊎_elim (λ u. absurd (omega arith)) (λ u. u.1) d) (H.arrivals.readies k i j (suc (number s i j)) v e q l p)

    -- not all stations inside have said READY of the publication that one still works on
    not_all_ready : (i j : ℕ) (v : V) → In f i → i < c.system.stations → ((a : ℕ) → a < c.system.stations → In f a → h.readied a j (suc (number s i j)) ≡ Some v) → ⊥
    unfolding n
    not_all_ready i j v e l all =
        both_ways _ ((calm i j).no_ready v)
        (all_inside c L f ok (voters c n (s.cell i j).readies v) (among (s.cell i j).readies v)
        (λ a u q. counted (s.cell i j).readies v a u (heard_ready a i j v q e l (all a u q))))

    -- a station that works on a publication that a quorum's members inside said READY of has said it too
    says_ready : (a j : ℕ) (v : V) → In f a → a < c.system.stations → Backed c L f ok v₀ (λ k. h.readied k j (suc (number s a j))) v → h.readied a j (suc (number s a j)) ≡ Some v
    unfolding n
    says_ready a j v e l b =
        let high = part_inside c L f ok b.0 (voters c n (s.cell a j).readies v) b.1
        (λ k u m q. counted (s.cell a j).readies v k u (heard_ready k a j v q e l (b.2 k u m q))) in
        let marked : (s.cell a j).copy.readied ≡ true =
        ⊎_elim (λ t. t) (λ unsaid. absurd (both_ways _ high ((calm a j).low_ready unsaid v))) (cases_Bool (s.cell a j).copy.readied) in
        let r = (H.truthful.marks a j e).ready_said marked in
        let k = one_backs c L f ok v₀ (λ k. h.readied k j (suc (number s a j))) v b in
        r.1 ∙ ap (λ z. Some z) (one_ready c L f ok v₀ s h H.recorded H.truthful a k.0 j (suc (number s a j)) r.0 v e k.2 r.1 k.3)

    -- none is farther than the least
    no_farther : (i k j : ℕ) → In f i → i < c.system.stations → In f k → k < c.system.stations → ((a : ℕ) → a < c.system.stations → In f a → number s i j ≤ number s a j) → number s k j ≤ number s i j
    no_farther i k j e l q u low = ⊎_elim (λ lt. absurd (bad lt)) (λ ge. ge) (cases_lt (number s i j) (number s k j))
      where
        bad : number s i j < number s k j → ⊥
        bad lt =
            let x : ℕ = suc (number s i j) in
            let t = (H.recorded.taken k j q).past_is x lt in
            let b : Backed c L f ok v₀ (λ k. h.readied k j x) t.0 = (H.truthful.reasons k j q).took_why x t.0 t.1 (omega arith) in
            not_all_ready i j t.0 e l
            (λ a m w. ⊎_elim
            (λ past.
            let r = (H.truthful.marks a j w).ready_past x (omega arith) past in
            let o = one_backs c L f ok v₀ (λ k. h.readied k j x) t.0 b in
            r.1 ∙ ap (λ z. Some z) (one_ready c L f ok v₀ s h H.recorded H.truthful a o.0 j x r.0 t.0 w o.2 r.1 o.3))
            (λ now. let same : number s a j ≡ number s i j = omega (arith, low a m w) in
            ap (λ z. h.readied a j (suc z)) (sym same)
            ∙ says_ready a j t.0 w m (subst (λ z. Backed c L f ok v₀ (λ k. h.readied k j (suc z)) t.0) (sym same) b))
            (cases_lt (number s i j) (number s a j)))

    -- a station inside that is least far
    Least : ℕ → ℕ → Type 0
    Least j m = ((a : ℕ) → a < m → In f a → ⊥) ⊎ ((i : ℕ) × (i < m) × In f i × ((a : ℕ) → a < m → In f a → number s i j ≤ number s a j))

    least : (j m : ℕ) → Least j m
    unfolding Least
    least j zero = inl (λ a l e. absurd (omega arith))
    least j (suc m) = more (least j m) (cases_Bool (has f m))
      where
        split : (a : ℕ) → a < suc m → (a < m) ⊎ (a ≡ m)
        split a l = ⊎_elim inl (λ ge. inr (omega arith)) (cases_lt a m)

        more : Least j m → (has f m ≡ true) ⊎ (has f m ≡ false) → Least j (suc m)
        more (inl none) (inl out) = inl (λ a l e. ⊎_elim (λ u. none a u e) (λ q. both_ways _ e (ap (has f) q ∙ out)) (split a l))
        more (inl none) (inr in') = inr (m, omega arith, in', λ a l e. ⊎_elim (λ u. absurd (none a u e)) (λ q. subst (λ z. number s m j ≤ number s z j) (sym q) (omega arith)) (split a l))
        more (inr w) (inl out) = inr (w.0, omega (arith, w.1), w.2, λ a l e. ⊎_elim (λ u. w.3 a u e) (λ q. absurd (both_ways _ e (ap (has f) q ∙ out))) (split a l))
        more (inr w) (inr in') =
            ⊎_elim
            (λ lt. inr (m, omega arith, in', λ a l e. ⊎_elim (λ u. omega (arith, w.3 a u e)) (λ q. subst (λ z. number s m j ≤ number s z j) (sym q) (omega arith)) (split a l)))
            (λ ge. inr (w.0, omega (arith, w.1), w.2, λ a l e. ⊎_elim (λ u. w.3 a u e) (λ q. subst (λ z. number s w.0 j ≤ number s z j) (sym q) ge) (split a l)))
            (cases_lt (number s m j) (number s w.0 j))

    -- totality at rest
    pub same_numbers : (i k j : ℕ) → In f i → i < c.system.stations → In f k → k < c.system.stations → number s i j ≡ number s k j
    unfolding Least
    same_numbers i k j e l q u =
        ⊎_elim (λ none. absurd (none i l e))
        (λ w. let a = no_farther w.0 i j w.2 w.1 e l w.3 in let b = no_farther w.0 k j w.2 w.1 q u w.3 in
        omega (arith, w.3 i l e, w.3 k u q)) (least j c.system.stations)

    -- all stations inside have echoed, and then readied, the next write of an owner inside
    all_echo : (i : ℕ) (v : V) → In f i → i < c.system.stations → h.published i (suc (number s i i)) ≡ Some v
        → (a : ℕ) → a < c.system.stations → In f a → h.echoed a i (suc (number s i i)) ≡ Some v
    all_echo i v e l p a u q =
        let same : number s a i ≡ number s i i = same_numbers a i i q u e l in
        let marked = heard_init i a v e q u (ap (λ z. h.published i (suc z)) same ∙ p) in
        let t = (H.truthful.marks a i q).echo_said marked in
        let t' : h.echoed a i (suc (number s i i)) ≡ Some t.0 = ap (λ z. h.echoed a i (suc z)) (sym same) ∙ t.1 in
        t' ∙ sym ((H.truthful.reasons a i q).echo_why (suc (number s i i)) t.0 t' e) ∙ p

    all_ready : (i : ℕ) (v : V) → In f i → i < c.system.stations → h.published i (suc (number s i i)) ≡ Some v
        → (a : ℕ) → a < c.system.stations → In f a → h.readied a i (suc (number s i i)) ≡ Some v
    unfolding n
    all_ready i v e l p a u q =
        let same : number s a i ≡ number s i i = same_numbers a i i q u e l in
        let full = all_inside c L f ok (voters c n (s.cell a i).echoes v) (among (s.cell a i).echoes v)
        (λ k m w. counted (s.cell a i).echoes v k m (heard_echo k a i v w q u (ap (λ z. h.echoed k i (suc z)) same ∙ all_echo i v e l p k m w))) in
        let marked : (s.cell a i).copy.readied ≡ true =
        ⊎_elim (λ t. t) (λ unsaid. absurd (both_ways _ ((calm a i).no_echo unsaid v) full)) (cases_Bool (s.cell a i).copy.readied) in
        let t = (H.truthful.marks a i q).ready_said marked in
        let t' : h.readied a i (suc (number s i i)) ≡ Some t.0 = ap (λ z. h.readied a i (suc z)) (sym same) ∙ t.1 in
        let b = one_backs c L f ok v₀ (λ k. h.echoed k i (suc (number s i i))) t.0 ((H.truthful.reasons a i q).ready_why (suc (number s i i)) t.0 t') in
        t' ∙ sym b.3 ∙ all_echo i v e l p b.0 b.1 b.2

    -- delivery at rest
    pub all_delivered : (i x : ℕ) (v : V) → In f i → i < c.system.stations → h.published i x ≡ Some v → x ≤ number s i i
    all_delivered i x v e l p =
        ⊎_elim
        (λ lt.
        let w = H.recorded.wrote i e in
        let up : x ≤ (s.station i).written =
        ⊎_elim (λ over. absurd (let z = w.ahead_is x over in grind arith)) (λ ge. ge) (cases_lt (s.station i).written x) in
        let next = w.past_is (suc (number s i i)) (omega arith) (omega arith) in
        absurd (not_all_ready i i next.0 e l (all_ready i next.0 e l next.1)))
        (λ ge. ge) (cases_lt (number s i i) x)
