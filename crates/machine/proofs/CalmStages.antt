-- Between calls no operation is left that could go on: no set that a stage collects is a quorum.
-- Of the broadcast nothing is used here but that taking a value raises one number, and that the freshness test follows.
use Rattle.std.proofs.Common.{◌≡◌, ℕ, suc, ◌≤◌, false, ◌&&◌, eqb, leb, ◌⊎◌, [], ◌∷◌, sym, refl, ap, ◌∙◌, subst, inl, inr, ⊎_elim, arith}
use mathlib.Core.Path.{fun_ext}
use Rattle.std.proofs.lemmas.Bool.{cond_both, both_ways, and_cases, cases_Bool, eqb-true, eqb-false}
use Rattle.station_set.specs.Sets.{has, with_station}
use Rattle.station_set.proofs.Members.{has_none}
use Rattle.machine.specs.declared.message.Message.{Message}
use Rattle.machine.specs.declared.message.Message.TheVariants.{Init, Echo, Ready, WriteDone, Read, State as StateOf, CatchUp, CatchUpDone}
use Rattle.machine.specs.declared.station.Stage.{Stage}
use Rattle.machine.specs.declared.station.Stage.TheVariants.{Idle, Writing, Querying, Catching}
use Rattle.machine.specs.declared.station.Station.{Station}
use Rattle.machine.specs.declared.call.Opening.{Opening}
use Rattle.machine.specs.declared.call.Call.{Call}
use Rattle.machine.specs.declared.figures.Figures.{Figures}
use Rattle.machine.specs.State.{Setting, Lawful, Cell, State, number, put, put_pair, with_cell, with_stage, fresh_cell, remove, send}
use Rattle.machine.specs.Operations.{Outcome, leaves, fresh_reports, start_catching, freshness_at, test_freshness, write_done_at, keep_report, state_at, catch_up_done_at}
use Rattle.machine.specs.Publishing.{mark_echoed, mark_readied, vote_echo, vote_ready, send_echo, send_ready, take_value, on_init, count_echoes, on_echo, join_readies, count_readies, on_ready}
use Rattle.machine.specs.Calls.{act, unless_old, step, opened}
use Rattle.machine.proofs.Cases.{after_call}
use Rattle.machine.proofs.Tables.{put_all, put_else, put_pair_all, put_pair_other}
use Rattle.machine.proofs.Quorums.{no_quorum, fresh_said}

module _ {V : Type 0} (c : Setting V) (L : Lawful c) where
  -- of one station: n stations, how far it is with each register, what was reported to it, and its stage
  abbrev pub CalmStage : ℕ → (ℕ → ℕ) → (ℕ → ℕ) → Stage V → Type 0
  CalmStage n numbers row Idle = Unit {0}
  CalmStage n numbers row (Writing x done) = c.system.quorum done ≡ false
  CalmStage n numbers row (Querying j r reported) = c.system.quorum (fresh_reports n (numbers j) reported row) ≡ false
  CalmStage n numbers row (Catching j x v done) = c.system.quorum done ≡ false

  abbrev CalmStation : State V → ℕ → Stage V → Type 0
  CalmStation s a o = CalmStage s.figures.stations (λ b. number s a b) (s.reports a) o

  pub record CalmStages (s : State V) : Type 0 where
    pub each : (a : ℕ) → CalmStation s a (s.station a).stage

  calm_like : (n n' : ℕ) (numbers numbers' : ℕ → ℕ) (row row' : ℕ → ℕ) (o : Stage V) → n' ≡ n → ((b : ℕ) → numbers' b ≡ numbers b) → row' ≡ row
      → CalmStage n numbers row o → CalmStage n' numbers' row' o
  calm_like n n' numbers numbers' row row' Idle e q p h = tt
  calm_like n n' numbers numbers' row row' (Writing x done) e q p h = h
  calm_like n n' numbers numbers' row row' (Querying j r reported) e q p h =
      subst (λ m. c.system.quorum (fresh_reports m (numbers' j) reported row') ≡ false) (sym e)
      (subst (λ y. c.system.quorum (fresh_reports n y reported row') ≡ false) (sym (q j))
      (subst (λ (g : ℕ → ℕ). c.system.quorum (fresh_reports n (numbers j) reported g) ≡ false) (sym p) h))
  calm_like n n' numbers numbers' row row' (Catching j x v done) e q p h = h

  -- what does not touch operations: figures, numbers, stations and reports stay
  record Aside (s t : State V) : Type 0 where
    figures_same : t.figures ≡ s.figures
    number_same : (a b : ℕ) → number t a b ≡ number s a b
    station_same : t.station ≡ s.station
    reports_same : t.reports ≡ s.reports

  aside : (s t : State V) → t.figures ≡ s.figures → t.cell ≡ s.cell → t.station ≡ s.station → t.reports ≡ s.reports → Aside s t
  aside s t e q p r =
      record { figures_same = e; number_same = λ a b. ap (λ (g : ℕ → ℕ → Cell V). (g a b).copy.number) q; station_same = p; reports_same = r }

  aside_cell : (i j : ℕ) (z : Cell V) (s t : State V) → z.copy.number ≡ number s i j → t.figures ≡ s.figures → t.cell ≡ put_pair i j z s.cell
      → t.station ≡ s.station → t.reports ≡ s.reports → Aside s t
  aside_cell i j z s t e f g p r =
      record {
        figures_same = f;
        number_same = λ a b. ap (λ (g : ℕ → ℕ → Cell V). (g a b).copy.number) g
            ∙ put_pair_all (λ a b (y : Cell V). y.copy.number ≡ number s a b) i j z s.cell (λ a b. refl) e a b;
        station_same = p;
        reports_same = r;
      }

  stages_aside : (s t : State V) → Aside s t → CalmStages s → CalmStages t
  stages_aside s t w h =
      record {
        each = λ a. subst (λ (g : ℕ → Station V). CalmStation t a (g a).stage) (sym w.station_same)
            (calm_like _ _ _ _ _ _ (s.station a).stage (ap (λ (y : Figures V). y.stations) w.figures_same) (w.number_same a) (ap (λ (g : ℕ → ℕ → ℕ). g a) w.reports_same) (h.each a));
      }

  -- one stage changes, to one that is calm
  stages_put : (s : State V) (i : ℕ) (o : Stage V) → CalmStages s → CalmStation s i o → (a : ℕ) → CalmStation s a (put i o (λ b. (s.station b).stage) a)
  stages_put s i o h new = put_all (λ a (x : Stage V). CalmStation s a x) i o (λ b. (s.station b).stage) h.each new

  no_members : c.system.quorum 0 ≡ false
  no_members = no_quorum c L 0 has_none

  -- The freshness test

  -- all stages but a query of register j at i
  record StagesBut (i j : ℕ) (s : State V) : Type 0 where
    each : (a : ℕ) → CalmStation s a (s.station a).stage ⊎ ((a ≡ i) × ((r : ℕ) × (reported : ℕ) × ((s.station a).stage ≡ Querying j r reported)))

  stages_tested : (i j : ℕ) (s : State V) → StagesBut i j s → CalmStages (test_freshness c i j s)
  stages_tested i j s h = go (s.station i).stage refl
    where
      -- where the stage of i is calm, all are
      whole : (o : Stage V) → (s.station i).stage ≡ o → CalmStation s i o → CalmStages s
      whole o e k = record { each = λ a. ⊎_elim (λ w. w) (λ w. rw w.0 (subst (CalmStation s i) (sym e) k)) (h.each a) }

      -- it is, unless it is such a query
      other : (o : Stage V) → (s.station i).stage ≡ o → ((r reported : ℕ) → o ≡ Querying j r reported → ⊥) → CalmStation s i o
      other o e ne = ⊎_elim (λ w. subst (CalmStation s i) e w) (λ w. absurd (ne w.1.0 w.1.1 (sym e ∙ w.1.2))) (h.each i)

      go : (o : Stage V) → (s.station i).stage ≡ o → CalmStages (freshness_at c i j s o)
      go Idle e = whole Idle e tt
      go (Writing x done) e = whole (Writing x done) e (other (Writing x done) e (λ r reported q. grind arith))
      go (Querying asked r reported) e =
          cond_both _ (start_catching i j s) s CalmStages
          (λ t. record {
            each = put_else (λ a (o : Stage V). CalmStation s a o) i (Catching j (number s i j) (s.cell i j).copy.value 0) (λ b. (s.station b).stage)
                (λ a ne. ⊎_elim (λ w. w) (λ w. absurd (ne w.0)) (h.each a)) no_members;
          })
          (λ t. whole (Querying asked r reported) e (not_fresh t))
        where
          not_fresh : (eqb asked j && c.system.quorum (fresh_reports s.figures.stations (number s i j) reported (s.reports i))) ≡ false
              → c.system.quorum (fresh_reports s.figures.stations (number s i asked) reported (s.reports i)) ≡ false
          not_fresh t =
              ⊎_elim
              (λ u. let q = eqb-true asked j u in ⊎_elim (λ w. absurd (both_ways _ w u)) (λ w. rw q w) (and_cases _ _ t))
              (λ u. other (Querying asked r reported) e (λ r' reported' w. let q : asked ≡ j = cc in eqb-false asked j u q)) (cases_Bool (eqb asked j))
      go (Catching caught x v done) e = whole (Catching caught x v done) e (other (Catching caught x v done) e (λ r reported q. grind arith))

  -- a value is taken: only a query of that register at that station may be fresh now
  but_take_value : (i j : ℕ) (v : V) (s : State V) → CalmStages s → StagesBut i j (take_value i j v s)
  but_take_value i j v s h = record { each = λ a. go a (s.station a).stage (h.each a) }
    where
      t : State V
      t = take_value i j v s

      row : (a b : ℕ) → ((a ≡ i) × (b ≡ j)) ⊎ (number (take_value i j v s) a b ≡ number s a b)
      row =
          put_pair_all (λ a b (z : Cell V). ((a ≡ i) × (b ≡ j)) ⊎ (z.copy.number ≡ number s a b)) i j (fresh_cell v (suc (number s i j))) s.cell
          (λ a b. inr refl) (inl (refl, refl))

      go : (a : ℕ) (o : Stage V) → CalmStation s a o
          → CalmStation (take_value i j v s) a o ⊎ ((a ≡ i) × ((r : ℕ) × (reported : ℕ) × (o ≡ Querying j r reported)))
      go a Idle k = inl tt
      go a (Writing x done) k = inl k
      go a (Querying b r reported) k =
          ⊎_elim (λ w. inr (w.0, (r, reported, ap (λ z. Querying z r reported) w.1)))
          (λ w. inl (subst (λ y. c.system.quorum (fresh_reports s.figures.stations y reported (s.reports a)) ≡ false) (sym w) k)) (row a b)
      go a (Catching b x w done) k = inl k

  -- Publishing

  aside_send_ready : (i j : ℕ) (v : V) (s : State V) → Aside s (send_ready i j v s)
  aside_send_ready i j v s = aside_cell i j (mark_readied (s.cell i j)) s (send_ready i j v s) refl refl refl refl refl

  stages_init : (i j : ℕ) (v : V) (s : State V) → CalmStages s → CalmStages (on_init i j v s)
  stages_init i j v s h =
      cond_both _ s (send_echo i j v s) CalmStages (λ _. h)
      (λ _. stages_aside s (send_echo i j v s) (aside_cell i j (mark_echoed (s.cell i j)) s (send_echo i j v s) refl refl refl refl refl) h)

  stages_echo : (i j k : ℕ) (v : V) (s : State V) → CalmStages s → CalmStages (on_echo c i j k v s)
  stages_echo i j k v s h =
      let z : Cell V = vote_echo k v (s.cell i j) in
      let t : State V = with_cell i j z s in
      let g : CalmStages t = stages_aside s t (aside_cell i j z s t refl refl refl refl refl) h in
      cond_both _ (count_echoes c i j v t) s CalmStages
      (λ _. cond_both _ (send_ready i j v t) t CalmStages (λ _. stages_aside t (send_ready i j v t) (aside_send_ready i j v t) g) (λ _. g)) (λ _. h)

  stages_ready : (i j k : ℕ) (v : V) (s : State V) → CalmStages s → CalmStages (on_ready c i j k v s)
  stages_ready i j k v s h =
      let z : Cell V = vote_ready k v (s.cell i j) in
      let t : State V = with_cell i j z s in
      let u : State V = join_readies c i j v t in
      let g : CalmStages t = stages_aside s t (aside_cell i j z s t refl refl refl refl refl) h in
      let g' : CalmStages u = cond_both _ (send_ready i j v t) t CalmStages (λ _. stages_aside t (send_ready i j v t) (aside_send_ready i j v t) g) (λ _. g) in
      cond_both _ (count_readies c i j v u) s CalmStages
      (λ _. cond_both _ (test_freshness c i j (take_value i j v u)) u CalmStages (λ _. stages_tested i j (take_value i j v u) (but_take_value i j v u g')) (λ _. g')) (λ _. h)

  -- Operations

  pub record StagesAfter (o : Outcome V) : Type 0 where
    pub stages : CalmStages o.state

  stages_stay : (s : State V) (o : Outcome V) → CalmStages s → Aside s o.state → StagesAfter o
  stages_stay s o h w = record { stages = stages_aside s o.state w h }

  stages_old : (i j x : ℕ) (s t : State V) → CalmStages s → CalmStages t → StagesAfter (leaves (unless_old i j x s t))
  stages_old i j x s t h k = record { stages = cond_both (leb x (number s i j)) s t CalmStages (λ _. h) (λ _. k) }

  stages_turn : (s : State V) (i : ℕ) (o : Stage V) → CalmStages s → CalmStation s i o → CalmStages (with_stage i o s)
  stages_turn s i o h new = record { each = stages_put s i o h new }

  stages_write_done : (i k x : ℕ) (s : State V) (o : Stage V) → CalmStages s → StagesAfter (write_done_at c i k x s o)
  stages_write_done i k x s Idle h = record { stages = h }
  stages_write_done i k x s (Writing y done) h =
      cond_both (eqb y x) _ _ StagesAfter
      (λ _. cond_both (c.system.quorum (with_station done k)) _ _ StagesAfter (λ _. record { stages = stages_turn s i Idle h tt })
      (λ q. record { stages = stages_turn s i (Writing x (with_station done k)) h q }))
      (λ _. record { stages = h })
  stages_write_done i k x s (Querying j r reported) h = record { stages = h }
  stages_write_done i k x s (Catching j y v done) h = record { stages = h }

  stages_caught : (i k j x : ℕ) (s : State V) (o : Stage V) → CalmStages s → StagesAfter (catch_up_done_at c i k j x s o)
  stages_caught i k j x s Idle h = record { stages = h }
  stages_caught i k j x s (Writing y done) h = record { stages = h }
  stages_caught i k j x s (Querying asked r reported) h = record { stages = h }
  stages_caught i k j x s (Catching caught y v done) h =
      cond_both (eqb caught j && eqb y x) _ _ StagesAfter
      (λ _. cond_both (c.system.quorum (with_station done k)) _ _ StagesAfter (λ _. record { stages = stages_turn s i Idle h tt })
      (λ q. record { stages = stages_turn s i (Catching j x v (with_station done k)) h q }))
      (λ _. record { stages = h })

  but_keep_report : (i k j r x reported : ℕ) (s : State V) → CalmStages s → StagesBut i j (keep_report i k j r x reported s)
  but_keep_report i k j r x reported s h =
      record {
        each = put_else
            (λ a (o : Stage V). CalmStage s.figures.stations (λ b. number s a b) (put_pair i k x s.reports a) o ⊎ ((a ≡ i) × ((r : ℕ) × (reported : ℕ) × (o ≡ Querying j r reported))))
            i (Querying j r (with_station reported k)) (λ b. (s.station b).stage)
            (λ a ne. inl (calm_like _ _ _ _ _ _ (s.station a).stage refl (λ b. refl) (fun_ext (λ b. put_pair_other s.reports i k x a b (λ q. ne q.0))) (h.each a)))
            (inr (refl, (r, with_station reported k, refl)));
      }

  stages_state : (i k j r x : ℕ) (s : State V) (o : Stage V) → CalmStages s → CalmStages (state_at c i k j r x s o)
  stages_state i k j r x s Idle h = h
  stages_state i k j r x s (Writing y done) h = h
  stages_state i k j r x s (Querying asked read reported) h =
      let t : State V = keep_report i k j r x reported s in
      cond_both _ (test_freshness c i j t) s CalmStages (λ _. stages_tested i j t (but_keep_report i k j r x reported s h)) (λ _. h)
  stages_state i k j r x s (Catching caught y v done) h = h

  stages_act : (s : State V) → CalmStages s → (m : Message V) → StagesAfter (act c s m)
  stages_act s h (Init k i x v) = stages_old i k x s (on_init i k v s) h (stages_init i k v s h)
  stages_act s h (Echo k i j x v) = stages_old i j x s (on_echo c i j k v s) h (stages_echo i j k v s h)
  stages_act s h (Ready k i j x v) = stages_old i j x s (on_ready c i j k v s) h (stages_ready i j k v s h)
  stages_act s h (WriteDone k i x) = stages_write_done i k x s (s.station i).stage h
  stages_act s h (Read k i j r) = stages_stay s _ h (aside s _ refl refl refl refl)
  stages_act s h (StateOf k i j r x) = record { stages = stages_state i k j r x s (s.station i).stage h }
  stages_act s h (CatchUp k i j x) =
      record {
        stages = cond_both (leb x (number s i j)) _ _ CalmStages
            (λ _. stages_aside s _ (aside s _ refl refl refl refl) h) (λ _. stages_aside s _ (aside s _ refl refl refl refl) h);
      }
  stages_act s h (CatchUpDone k i j x) = stages_caught i k j x s (s.station i).stage h

  -- Calls

  none_fresh : (n x : ℕ) (row : ℕ → ℕ) → n ≤ 16 → c.system.quorum (fresh_reports n x 0 row) ≡ false
  none_fresh n x row room =
      no_quorum c L _ (λ k. ⊎_elim (λ h. absurd (both_ways _ (has_none k) (fresh_said n room x 0 row k h).1)) (λ e. e) (cases_Bool (has (fresh_reports n x 0 row) k)))

  pub stages_step : (s : State V) → s.figures.stations ≡ c.system.stations → CalmStages s → (call : Call V) → CalmStages (step c s call).state
  stages_step s sized h call =
      after_call c s CalmStages
      (record {
        stays = h;
        removes = λ p. left p;
        acts = λ p m _. (stages_act (remove p s) (left p) m).stages;
        forges = λ f m _ _. stages_aside s (send (m ∷ []) s) (aside s _ refl refl refl refl) h;
        writes = λ i v _. record { each = stages_put s i (Writing (suc (s.station i).written) 0) h no_members };
        asks = λ i j _. record {
          each = stages_put s i (Querying j (suc (s.reads i j)) 0) h (none_fresh s.figures.stations (number s i j) (s.reports i) (omega (arith, L.laws.sized)));
        };
      })
      call
    where
      left : (p : ℕ) → CalmStages (remove p s)
      left p = stages_aside s (remove p s) (aside s (remove p s) refl refl refl refl) h

  pub stages_opened : (o : Opening V) → CalmStages (opened c o)
  stages_opened o = record { each = λ a. tt }
