-- At rest no station inside has an operation open: each that it waits for has answered, and all stations inside are a quorum.
-- Of the broadcast only totality and delivery are used.
use Rattle.std.proofs.Common.{◌≡◌, ℕ, ◌<◌, ◌≤◌, true, false, Some, refl, subst, ⊎_elim, arith}
use Rattle.std.proofs.lemmas.Bool.{both_ways}
use Rattle.machine.specs.declared.message.Message.{Message}
use Rattle.machine.specs.declared.message.Message.TheVariants.{WriteDone, Read, State as StateOf, CatchUp, CatchUpDone}
use Rattle.machine.specs.declared.station.Stage.{Stage}
use Rattle.machine.specs.declared.station.Stage.TheVariants.{Idle, Writing, Querying, Catching}
use Rattle.machine.specs.State.{Setting, Lawful, State, number}
use Rattle.machine.specs.Operations.{fresh_reports}
use Rattle.machine.specs.Calls.{sender, receiver, ahead}
use Rattle.machine.proofs.Acts.{In}
use Rattle.machine.proofs.Tables.{Mem}
use Rattle.machine.proofs.Quorums.{all_inside, fresh_said, fresh_count}
use Rattle.machine.proofs.History.{History, Recorded}
use Rattle.machine.proofs.Registers.{Sincere, stage_is}
use Rattle.machine.proofs.CalmStages.{CalmStage}
use Rattle.machine.proofs.Named.{NamesStage}
use Rattle.machine.proofs.Pending.{Pending, AllAwait}

module _ {V : Type 0} (c : Setting V) (L : Lawful c) (f : ℕ) (ok : c.system.allowed f ≡ true) (v₀ : V) where
  module _ (s : State V) (h : History V) (R : Recorded c f v₀ s h) (S : Sincere c f v₀ s h) (P : Pending c L f v₀ s) (sized : s.figures.stations ≡ c.system.stations)
      (calm : (a : ℕ) → CalmStage c L s.figures.stations (λ b. number s a b) (s.reports a) (s.station a).stage)
      (named : (a : ℕ) → NamesStage c s.figures.stations (s.station a).stage)
      (rest : (m : Message V) → Mem m s.pool → In f (sender m) → In f (receiver m) → ahead s m ≡ true)
      (totality : (i k j : ℕ) → In f i → i < c.system.stations → In f k → k < c.system.stations → number s i j ≡ number s k j)
      (delivery : (i x : ℕ) (v : V) → In f i → i < c.system.stations → h.published i x ≡ Some v → x ≤ number s i i) where
    -- no message of an operation waits between stations inside
    gone : (m : Message V) → ahead s m ≡ false → Mem m s.pool → In f (sender m) → In f (receiver m) → ⊥
    gone m n w e q = both_ways _ n (rest m w e q)

    no_write : (i x done : ℕ) → In f i → i < c.system.stations → (s.station i).stage ≡ Writing x done → ⊥
    no_write i x done e l so =
        let o = stage_is c f v₀ s h R S i (Writing x done) e so in
        let far = delivery i x o.0.0.0 e l o.0.0.1 in
        let a : AllAwait c L f v₀ s i (Writing x done) = subst (AllAwait c L f v₀ s i) so (P.awaits i e l) in
        both_ways _ (subst (CalmStage c L s.figures.stations (λ b. number s i b) (s.reports i)) so (calm i))
        (all_inside c L f ok done (λ k m. omega (arith, subst (NamesStage c s.figures.stations) so (named i) k m, sized))
        (λ k u q. ⊎_elim (λ m. absurd (gone (WriteDone k i x) refl m q e)) (λ d. d) (a k q u (omega (arith, far, totality i k i e l q u)))))

    no_query : (i j r reported : ℕ) → In f i → i < c.system.stations → (s.station i).stage ≡ Querying j r reported → ⊥
    no_query i j r reported e l so =
        let o = stage_is c f v₀ s h R S i (Querying j r reported) e so in
        let a : AllAwait c L f v₀ s i (Querying j r reported) = subst (AllAwait c L f v₀ s i) so (P.awaits i e l) in
        let n : ℕ = s.figures.stations in
        both_ways _ (subst (CalmStage c L s.figures.stations (λ b. number s i b) (s.reports i)) so (calm i))
        (all_inside c L f ok (fresh_reports n (number s i j) reported (s.reports i))
        (λ k m. omega (arith, (fresh_said n (omega (arith, sized, L.laws.sized)) (number s i j) reported (s.reports i) k m).0, sized))
        (λ k u q. ⊎_elim (λ m. absurd (gone (Read i k j r) refl m e q))
        (λ b. ⊎_elim (λ m. absurd (gone (StateOf k i j r m.0) refl m.1 q e))
        (λ d. fresh_count n (omega (arith, sized, L.laws.sized)) (number s i j) reported (s.reports i) k (omega (arith, u, sized)) d
        (omega (arith, o.0 k d q, totality i k j e l q u))) b) (a k q u)))

    no_catch : (i j x : ℕ) (v : V) (done : ℕ) → In f i → i < c.system.stations → (s.station i).stage ≡ Catching j x v done → ⊥
    no_catch i j x v done e l so =
        let o = stage_is c f v₀ s h R S i (Catching j x v done) e so in
        let a : AllAwait c L f v₀ s i (Catching j x v done) = subst (AllAwait c L f v₀ s i) so (P.awaits i e l) in
        both_ways _ (subst (CalmStage c L s.figures.stations (λ b. number s i b) (s.reports i)) so (calm i))
        (all_inside c L f ok done (λ k m. omega (arith, (subst (NamesStage c s.figures.stations) so (named i)).1 k m, sized))
        (λ k u q. ⊎_elim (λ m. absurd (gone (CatchUp i k j x) refl m e q))
        (λ b. ⊎_elim (λ m. absurd (omega (arith, m.1, o.0.1, totality i k j e l q u)))
        (λ d. ⊎_elim (λ m. absurd (gone (CatchUpDone k i j x) refl m q e)) (λ z. z) d) b) (a k q u)))

    pub idle_at_rest : (i : ℕ) → In f i → i < c.system.stations → (s.station i).stage ≡ Idle
    idle_at_rest i e l = go (s.station i).stage refl
      where
        go : (o : Stage V) → (s.station i).stage ≡ o → o ≡ Idle
        go Idle so = refl
        go (Writing x done) so = absurd (no_write i x done e l so)
        go (Querying j r reported) so = absurd (no_query i j r reported e l so)
        go (Catching j x v done) so = absurd (no_catch i j x v done e l so)
