-- Between calls no vote is left without its effect: no copy has READY votes that are a quorum, and one that has not
-- sent READY has neither ECHO votes that are a quorum nor READY votes that are not allowed.
use Rattle.std.proofs.Common.{◌≡◌, ℕ, suc, ◌<◌, ◌≤◌, true, false, ◌&&◌, eqb, leb, ◌⊎◌, [], ◌∷◌, Some, None, Option, sym, refl, ap, ◌∙◌, subst, subst₂, inl, inr, ⊎_elim, arith}
use Rattle.std.proofs.lemmas.Bool.{cond_both, both_ways, and_cases, not-false, cases_Bool, cases_eq}
use Rattle.station_set.specs.Sets.{has, Inside, with_station}
use Rattle.machine.specs.declared.message.Message.{Message}
use Rattle.machine.specs.declared.message.Message.TheVariants.{Init, Echo, Ready, WriteDone, Read, State as StateOf, CatchUp, CatchUpDone}
use Rattle.machine.specs.declared.station.Stage.{Stage}
use Rattle.machine.specs.declared.station.Stage.TheVariants.{Idle, Writing, Querying, Catching}
use Rattle.machine.specs.declared.call.Opening.{Opening}
use Rattle.machine.specs.declared.call.Call.{Call}
use Rattle.machine.specs.State.{Setting, Lawful, Cell, State, number, put, put_pair, with_cell, fresh_cell, remove, send}
use Rattle.machine.specs.Operations.{Outcome, leaves, start_catching, freshness_at, test_freshness, write_done_at, keep_report, state_at, catch_up_done_at}
use Rattle.machine.specs.Publishing.{voters, mark_echoed, mark_readied, vote_echo, vote_ready, send_echo, send_ready, take_value, on_init, count_echoes, on_echo, join_readies, count_readies, on_ready}
use Rattle.machine.specs.Calls.{act, unless_old, begin_write, begin_read, step, opened}
use Rattle.machine.proofs.Cases.{after_call}
use Rattle.machine.proofs.Tables.{put_all, put_pair_else, put_pair_same}
use Rattle.machine.proofs.Quorums.{voter_said, votes_count, voters-among, no_quorum, quorum_less}

module _ {V : Type 0} (c : Setting V) (L : Lawful c) where
  pub record CalmCell (n : ℕ) (z : Cell V) : Type 0 where
    pub no_ready : (v : V) → c.system.quorum (voters c n z.readies v) ≡ false
    pub low_ready : z.copy.readied ≡ false → (v : V) → c.system.allowed (voters c n z.readies v) ≡ true
    pub no_echo : z.copy.readied ≡ false → (v : V) → c.system.quorum (voters c n z.echoes v) ≡ false

  pub record CalmCells (s : State V) : Type 0 where
    pub each : (a b : ℕ) → CalmCell s.figures.stations (s.cell a b)

  -- One vote more

  module _ (n : ℕ) (sized : n ≡ c.system.stations) where
    room : n ≤ 16
    room = omega (arith, L.laws.sized)

    -- who votes for another value voted before
    other_voters : (votes : ℕ → Option V) (k : ℕ) (v w : V) → (v ≡ w → ⊥) → Inside (voters c n (put k (Some v) votes) w) (voters c n votes w)
    other_voters votes k v w ne s h =
        let said = voter_said c L n room (put k (Some v) votes) w s h in
        votes_count c L n room votes w s said.0
        (put_all (λ a (o : Option V). a ≡ s → o ≡ Some w → votes s ≡ Some w) k (Some v) votes (λ a e q. ap votes (sym e) ∙ q) (λ e q. absurd (ne (cc))) s refl said.1)

    same_or_other : (v w : V) → (v ≡ w) ⊎ (v ≡ w → ⊥)
    same_or_other v w = ⊎_elim (λ e. inl ((L.exact v w).0 e)) (λ e. inr (λ q. both_ways _ e ((L.exact v w).1 q))) (cases_Bool (c.same v w))

    no_quorum_yet : (votes : ℕ → Option V) (k : ℕ) (v : V) → ((w : V) → c.system.quorum (voters c n votes w) ≡ false)
        → c.system.quorum (voters c n (put k (Some v) votes) v) ≡ false → (w : V) → c.system.quorum (voters c n (put k (Some v) votes) w) ≡ false
    no_quorum_yet votes k v old new w =
        ⊎_elim (λ q. subst (λ u. c.system.quorum (voters c n (put k (Some v) votes) u) ≡ false) q new)
        (λ ne. quorum_less c L _ (voters c n votes w) (other_voters votes k v w ne) (subst (λ m. (s : ℕ) → has (voters c n votes w) s ≡ true → s < m) sized (voters-among c L n room votes w)) (old w))
        (same_or_other v w)

    still_allowed : (votes : ℕ → Option V) (k : ℕ) (v : V) → ((w : V) → c.system.allowed (voters c n votes w) ≡ true)
        → c.system.allowed (voters c n (put k (Some v) votes) v) ≡ true → (w : V) → c.system.allowed (voters c n (put k (Some v) votes) w) ≡ true
    still_allowed votes k v old new w =
        ⊎_elim (λ q. subst (λ u. c.system.allowed (voters c n (put k (Some v) votes) u) ≡ true) q new)
        (λ ne. L.laws.subset _ (voters c n votes w) (other_voters votes k v w ne) (old w)) (same_or_other v w)

    -- where nobody has voted
    nobody : (v : V) (s : ℕ) → has (voters c n (λ _. None) v) s ≡ false
    nobody v s = ⊎_elim (λ h. absurd (let said = (voter_said c L n room (λ _. None) v s h).1 in let z : ◌≡◌ {A = ℕ} 0 1 = cc in omega arith)) (λ e. e) (cases_Bool (has (voters c n (λ _. None) v) s))

    calm_fresh : (v : V) (x : ℕ) → CalmCell n (fresh_cell v x)
    calm_fresh v x =
        record {
          no_ready = λ w. no_quorum c L _ (nobody w);
          low_ready = λ _ w. L.laws.subset _ 0 (λ s h. absurd (both_ways _ (nobody w s) h)) L.laws.empty;
          no_echo = λ _ w. no_quorum c L _ (nobody w);
        }

  -- All cells but one

  record Else (i j : ℕ) (s : State V) : Type 0 where
    others : (a b : ℕ) → ((a ≡ i) × (b ≡ j) → ⊥) → CalmCell s.figures.stations (s.cell a b)

  else : (i j : ℕ) (s : State V) → CalmCells s → Else i j s
  else i j s h = record { others = λ a b _. h.each a b }

  else_put : (i j : ℕ) (z : Cell V) (s : State V) → Else i j s → Else i j (with_cell i j z s)
  else_put i j z s h =
      record {
        others = put_pair_else (λ a b (y : Cell V). ((a ≡ i) × (b ≡ j) → ⊥) → CalmCell s.figures.stations y) i j z s.cell
            (λ a b ne _. h.others a b ne) (λ ne. absurd (ne (refl, refl)));
      }

  whole : (i j : ℕ) (s : State V) → Else i j s → CalmCell s.figures.stations (s.cell i j) → CalmCells s
  whole i j s h k =
      record {
        each = λ a b. ⊎_elim
            (λ p. ⊎_elim (λ q. subst₂ (λ x y. CalmCell s.figures.stations (s.cell x y)) (sym p) (sym q) k) (λ q. h.others a b (λ e. q e.1)) (cases_eq b j))
            (λ p. h.others a b (λ e. p e.0)) (cases_eq a i);
      }

  -- the cell is overwritten by a calm one
  whole_put : (i j : ℕ) (z : Cell V) (s t : State V) → Else i j s → CalmCell s.figures.stations z → t.figures ≡ s.figures → t.cell ≡ put_pair i j z s.cell → CalmCells t
  whole_put i j z s t h k e q =
      record {
        each = λ a b. subst (λ (g : ℕ → ℕ → Cell V). CalmCell t.figures.stations (g a b)) (sym q)
            (subst (λ m. CalmCell m (put_pair i j z s.cell a b)) (ap (λ y. y.stations) (sym e))
            (put_pair_else (λ a b (y : Cell V). CalmCell s.figures.stations y) i j z s.cell h.others k a b));
      }

  pub cells_same : (s t : State V) → CalmCells s → t.figures ≡ s.figures → t.cell ≡ s.cell → CalmCells t
  cells_same s t h e q =
      record {
        each = λ a b. subst (λ (g : ℕ → ℕ → Cell V). CalmCell t.figures.stations (g a b)) (sym q)
            (subst (λ m. CalmCell m (s.cell a b)) (ap (λ y. y.stations) (sym e)) (h.each a b));
      }

  -- INIT

  calm_init : (i j : ℕ) (v : V) (s : State V) → CalmCells s → CalmCells (on_init i j v s)
  calm_init i j v s h =
      let k = h.each i j in
      cond_both _ s (send_echo i j v s) CalmCells (λ _. h)
      (λ _. whole_put i j (mark_echoed (s.cell i j)) s (send_echo i j v s) (else i j s h)
      (record { no_ready = k.no_ready; low_ready = k.low_ready; no_echo = k.no_echo }) refl refl)

  -- ECHO: calm, once the ECHO votes for v are no quorum

  record EchoOpen (n : ℕ) (v : V) (z : Cell V) : Type 0 where
    no_ready : (w : V) → c.system.quorum (voters c n z.readies w) ≡ false
    low_ready : z.copy.readied ≡ false → (w : V) → c.system.allowed (voters c n z.readies w) ≡ true
    no_echo : z.copy.readied ≡ false → c.system.quorum (voters c n z.echoes v) ≡ false → (w : V) → c.system.quorum (voters c n z.echoes w) ≡ false

  calm_count_echoes : (i j : ℕ) (v : V) (s : State V) → Else i j s → EchoOpen s.figures.stations v (s.cell i j) → CalmCells (count_echoes c i j v s)
  calm_count_echoes i j v s h k =
      cond_both _ (send_ready i j v s) s CalmCells
      (λ e. whole_put i j (mark_readied (s.cell i j)) s (send_ready i j v s) h
      (record { no_ready = k.no_ready; low_ready = λ r. absurd (both_ways true r refl); no_echo = λ r. absurd (both_ways true r refl) }) refl refl)
      (λ e. whole i j s h
      (record {
        no_ready = k.no_ready;
        low_ready = k.low_ready;
        no_echo = λ r. ⊎_elim (λ q. absurd (both_ways _ r (not-false _ q))) (λ q. k.no_echo r q) (and_cases _ _ e);
      }))

  calm_echo : (i j k : ℕ) (v : V) (s : State V) → s.figures.stations ≡ c.system.stations → CalmCells s → CalmCells (on_echo c i j k v s)
  calm_echo i j k v s sized h =
      let z : Cell V = vote_echo k v (s.cell i j) in
      let t : State V = with_cell i j z s in
      let q = h.each i j in
      cond_both _ (count_echoes c i j v t) s CalmCells
      (λ e. calm_count_echoes i j v t (else_put i j z s (else i j s h))
      (subst (EchoOpen s.figures.stations v) (sym (put_pair_same s.cell i j z))
      (record { no_ready = q.no_ready; low_ready = q.low_ready; no_echo = λ r new w. no_quorum_yet s.figures.stations sized (s.cell i j).echoes k v (q.no_echo r) new w })))
      (λ _. h)

  -- READY: calm, once the READY votes for v are allowed and no quorum

  record ReadyOpen (n : ℕ) (v : V) (z : Cell V) : Type 0 where
    no_ready : c.system.quorum (voters c n z.readies v) ≡ false → (w : V) → c.system.quorum (voters c n z.readies w) ≡ false
    low_ready : z.copy.readied ≡ false → c.system.allowed (voters c n z.readies v) ≡ true → (w : V) → c.system.allowed (voters c n z.readies w) ≡ true
    no_echo : z.copy.readied ≡ false → (w : V) → c.system.quorum (voters c n z.echoes w) ≡ false

  -- after joining, once they are no quorum
  record Joined (n : ℕ) (v : V) (z : Cell V) : Type 0 where
    no_ready : c.system.quorum (voters c n z.readies v) ≡ false → (w : V) → c.system.quorum (voters c n z.readies w) ≡ false
    low_ready : z.copy.readied ≡ false → (w : V) → c.system.allowed (voters c n z.readies w) ≡ true
    no_echo : z.copy.readied ≡ false → (w : V) → c.system.quorum (voters c n z.echoes w) ≡ false

  record HalfCalm (i j : ℕ) (v : V) (s : State V) : Type 0 where
    others : Else i j s
    this : Joined s.figures.stations v (s.cell i j)
    sized : s.figures.stations ≡ c.system.stations

  half_join_readies : (i j : ℕ) (v : V) (s : State V) → s.figures.stations ≡ c.system.stations → Else i j s → ReadyOpen s.figures.stations v (s.cell i j)
      → HalfCalm i j v (join_readies c i j v s)
  half_join_readies i j v s sized h k =
      let z : Cell V = mark_readied (s.cell i j) in
      cond_both _ (send_ready i j v s) s (HalfCalm i j v)
      (λ e. record {
        others = record { others = (else_put i j z s h).others };
        this = subst (Joined s.figures.stations v) (sym (put_pair_same s.cell i j z))
            (record { no_ready = k.no_ready; low_ready = λ r. absurd (both_ways true r refl); no_echo = λ r. absurd (both_ways true r refl) });
        sized = sized;
      })
      (λ e. record {
        others = h;
        this = record {
          no_ready = k.no_ready;
          low_ready = λ r. ⊎_elim (λ q. absurd (both_ways _ r (not-false _ q))) (λ q. k.low_ready r (not-false _ q)) (and_cases _ _ e);
          no_echo = k.no_echo;
        };
        sized = sized;
      })

  calm_freshness : (i j : ℕ) (s : State V) (o : Stage V) → CalmCells s → CalmCells (freshness_at c i j s o)
  calm_freshness i j s Idle h = h
  calm_freshness i j s (Writing x done) h = h
  calm_freshness i j s (Querying asked r reported) h =
      cond_both _ (start_catching i j s) s CalmCells (λ _. cells_same s (start_catching i j s) h refl refl) (λ _. h)
  calm_freshness i j s (Catching caught x v done) h = h

  calm_count_readies : (i j : ℕ) (v : V) (s : State V) → HalfCalm i j v s → CalmCells (count_readies c i j v s)
  calm_count_readies i j v s h =
      let t : State V = take_value i j v s in
      cond_both _ (test_freshness c i j t) s CalmCells
      (λ _. calm_freshness i j t (t.station i).stage
      (whole_put i j (fresh_cell v (suc (number s i j))) s t h.others (calm_fresh s.figures.stations h.sized v (suc (number s i j))) refl refl))
      (λ q. whole i j s h.others (record { no_ready = h.this.no_ready q; low_ready = h.this.low_ready; no_echo = h.this.no_echo }))

  calm_ready : (i j k : ℕ) (v : V) (s : State V) → s.figures.stations ≡ c.system.stations → CalmCells s → CalmCells (on_ready c i j k v s)
  calm_ready i j k v s sized h =
      let z : Cell V = vote_ready k v (s.cell i j) in
      let t : State V = with_cell i j z s in
      let q = h.each i j in
      cond_both _ (count_readies c i j v (join_readies c i j v t)) s CalmCells
      (λ e. calm_count_readies i j v (join_readies c i j v t)
      (half_join_readies i j v t sized (else_put i j z s (else i j s h))
      (subst (ReadyOpen s.figures.stations v) (sym (put_pair_same s.cell i j z))
      (record {
        no_ready = no_quorum_yet s.figures.stations sized (s.cell i j).readies k v q.no_ready;
        low_ready = λ r. still_allowed s.figures.stations sized (s.cell i j).readies k v (q.low_ready r);
        no_echo = q.no_echo;
      }))))
      (λ _. h)

  -- Outcomes: the other rules leave all cells as they are

  pub record CellsAfter (o : Outcome V) : Type 0 where
    pub cells : CalmCells o.state

  cells_stay : (s : State V) (o : Outcome V) → CalmCells s → o.state.figures ≡ s.figures → o.state.cell ≡ s.cell → CellsAfter o
  cells_stay s o h e q = record { cells = cells_same s o.state h e q }

  cells_old : (i j x : ℕ) (s t : State V) → CalmCells s → CalmCells t → CellsAfter (leaves (unless_old i j x s t))
  cells_old i j x s t h k = record { cells = cond_both (leb x (number s i j)) s t CalmCells (λ _. h) (λ _. k) }

  cells_write_done : (i k x : ℕ) (s : State V) (o : Stage V) → CalmCells s → CellsAfter (write_done_at c i k x s o)
  cells_write_done i k x s Idle h = record { cells = h }
  cells_write_done i k x s (Writing y done) h =
      cond_both (eqb y x) _ _ CellsAfter
      (λ _. cond_both (c.system.quorum (with_station done k)) _ _ CellsAfter (λ _. cells_stay s _ h refl refl) (λ _. cells_stay s _ h refl refl)) (λ _. record { cells = h })
  cells_write_done i k x s (Querying j r reported) h = record { cells = h }
  cells_write_done i k x s (Catching j y v done) h = record { cells = h }

  cells_caught : (i k j x : ℕ) (s : State V) (o : Stage V) → CalmCells s → CellsAfter (catch_up_done_at c i k j x s o)
  cells_caught i k j x s Idle h = record { cells = h }
  cells_caught i k j x s (Writing y done) h = record { cells = h }
  cells_caught i k j x s (Querying asked r reported) h = record { cells = h }
  cells_caught i k j x s (Catching caught y v done) h =
      cond_both (eqb caught j && eqb y x) _ _ CellsAfter
      (λ _. cond_both (c.system.quorum (with_station done k)) _ _ CellsAfter (λ _. cells_stay s _ h refl refl) (λ _. cells_stay s _ h refl refl)) (λ _. record { cells = h })

  cells_state : (i k j r x : ℕ) (s : State V) (o : Stage V) → CalmCells s → CalmCells (state_at c i k j r x s o)
  cells_state i k j r x s Idle h = h
  cells_state i k j r x s (Writing y done) h = h
  cells_state i k j r x s (Querying asked read reported) h =
      let t : State V = keep_report i k j r x reported s in
      cond_both _ (test_freshness c i j t) s CalmCells (λ _. calm_freshness i j t (t.station i).stage (cells_same s t h refl refl)) (λ _. h)
  cells_state i k j r x s (Catching caught y v done) h = h

  cells_act : (s : State V) → s.figures.stations ≡ c.system.stations → CalmCells s → (m : Message V) → CellsAfter (act c s m)
  cells_act s sized h (Init k i x v) = cells_old i k x s (on_init i k v s) h (calm_init i k v s h)
  cells_act s sized h (Echo k i j x v) = cells_old i j x s (on_echo c i j k v s) h (calm_echo i j k v s sized h)
  cells_act s sized h (Ready k i j x v) = cells_old i j x s (on_ready c i j k v s) h (calm_ready i j k v s sized h)
  cells_act s sized h (WriteDone k i x) = cells_write_done i k x s (s.station i).stage h
  cells_act s sized h (Read k i j r) = cells_stay s _ h refl refl
  cells_act s sized h (StateOf k i j r x) = record { cells = cells_state i k j r x s (s.station i).stage h }
  cells_act s sized h (CatchUp k i j x) =
      record { cells = cond_both (leb x (number s i j)) _ _ CalmCells (λ _. cells_same s _ h refl refl) (λ _. cells_same s _ h refl refl) }
  cells_act s sized h (CatchUpDone k i j x) = cells_caught i k j x s (s.station i).stage h

  pub cells_step : (s : State V) → s.figures.stations ≡ c.system.stations → CalmCells s → (call : Call V) → CalmCells (step c s call).state
  cells_step s sized h call =
      after_call c s CalmCells
      (record {
        stays = h;
        removes = λ p. cells_same s (remove p s) h refl refl;
        acts = λ p m _. (cells_act (remove p s) sized (cells_same s (remove p s) h refl refl) m).cells;
        forges = λ f m _ _. cells_same s (send (m ∷ []) s) h refl refl;
        writes = λ i v _. cells_same s (begin_write i v s) h refl refl;
        asks = λ i j _. cells_same s (begin_read i j s) h refl refl;
      })
      call

  pub cells_opened : (o : Opening V) → CalmCells (opened c o)
  cells_opened o = record { each = λ a b. calm_fresh c.system.stations refl o.value 0 }
