-- Every waiting message, and every operation, names stations and registers of the bench only.
use Rattle.std.proofs.Common.{◌≡◌, ℕ, suc, ◌+◌, ◌<◌, ◌≤◌, ◌&&◌, eqb, List, [], ◌∷◌, map, refl, ap, subst, ⊎_elim, arith, Result}
use Rattle.decline.specs.declared.Decline.{Decline}
use Rattle.std.specs.List.{range_with_len, All}
use Rattle.std.proofs.lemmas.Bool.{both_ways, cond_both, and_parts, ltb-true, not-false}
use Rattle.std.proofs.lemmas.List.Elements.{All-nil, All-cons, All-append, All-weaker, All-map, All-filter}
use Rattle.std.proofs.lemmas.List.FromFn.{length-range_with_len, get_or-range_with_len}
use Rattle.station_set.specs.Sets.{Among, with_station}
use Rattle.station_set.proofs.Members.{has_none}
use Rattle.machine.specs.declared.message.Message.{Message}
use Rattle.machine.specs.declared.message.Message.TheVariants.{Init, Echo, Ready, WriteDone, Read, State as StateOf, CatchUp, CatchUpDone}
use Rattle.machine.specs.declared.station.Stage.{Stage}
use Rattle.machine.specs.declared.station.Stage.TheVariants.{Idle, Writing, Querying, Catching}
use Rattle.machine.specs.declared.call.Opening.{Opening}
use Rattle.machine.specs.declared.call.Call.{Call}
use Rattle.machine.specs.declared.call.Answer.{Answer}
use Rattle.machine.specs.declared.figures.Figures.{Figures}
use Rattle.machine.specs.State.{Setting, Cell, State, number, with_cell, with_stage, remove, send, to_all}
use Rattle.machine.specs.Operations.{Outcome, leaves, start_catching, freshness_at, test_freshness, write_done_at, keep_report, state_at, catch_up_done_at}
use Rattle.machine.specs.Publishing.{vote_echo, vote_ready, send_echo, send_ready, take_value, count_echoes, on_echo, join_readies, count_readies, on_ready}
use Rattle.machine.specs.Calls.{Names, act, unless_old, begin_write, begin_read, write_reasons, read_reasons, opened, step}
use Rattle.machine.proofs.Cases.{after_call}
use Rattle.machine.proofs.Tables.{put_all, all_nth, all_removed, all_one}
use Rattle.machine.proofs.Quorums.{joins}
use Rattle.machine.proofs.Reasons.{unfit, forged_names}

counting_below : (a n top : ℕ) → a + n ≤ top → All (λ k. k < top) (range_with_len a n)
counting_below a n top l i d lt = omega (arith, get_or-range_with_len a n i d (omega (arith, length-range_with_len a n)), length-range_with_len a n)

all_of_below : {A : Type 0} (P : A → Type 0) (m : ℕ → A) (top : ℕ) → ((k : ℕ) → k < top → P (m k)) → (l : List ℕ) → All (λ k. k < top) l → All P (map m l)
all_of_below P m top h l a = All-map P m l (All-weaker (λ k. k < top) (λ k. P (m k)) h l a)

-- each element below n, of those counted from 0
pub all_below : {A : Type 0} (P : A → Type 0) (m : ℕ → A) (a n top : ℕ) → a + n ≤ top → ((k : ℕ) → k < top → P (m k)) → All P (map m (range_with_len a n))
all_below P m a n top l h = all_of_below P m top h (range_with_len a n) (counting_below a n top l)

module _ {V : Type 0} (c : Setting V) where
  abbrev pub NamesStage : ℕ → Stage V → Type 0
  NamesStage n Idle = Unit {0}
  NamesStage n (Writing x done) = Among n done
  NamesStage n (Querying j r reported) = (j < n) × Among n reported
  NamesStage n (Catching j x v done) = (j < n) × Among n done

  pub record Named (s : State V) : Type 0 where
    pub messages : All (Names s.figures.stations) s.pool
    pub stages : (a : ℕ) → NamesStage s.figures.stations (s.station a).stage

  -- Effects

  sends : (s : State V) (l : List (Message V)) → All (Names s.figures.stations) l → Named s → Named (send l s)
  sends s l a h = record { messages = All-append (Names s.figures.stations) s.pool l h.messages a; stages = h.stages }

  to_each : (s : State V) (m : ℕ → Message V) → ((k : ℕ) → k < s.figures.stations → Names s.figures.stations (m k)) → All (Names s.figures.stations) (to_all s.figures.stations m)
  to_each s m a = all_below (Names s.figures.stations) m 0 s.figures.stations s.figures.stations (omega arith) a

  stage_to : (s : State V) (i : ℕ) (o : Stage V) → NamesStage s.figures.stations o → Named s → Named (with_stage i o s)
  stage_to s i o a h = record { messages = h.messages; stages = put_all (λ b z. NamesStage s.figures.stations z) i o (λ b. (s.station b).stage) h.stages a }

  cell_to : (s : State V) (i j : ℕ) (z : Cell V) → Named s → Named (with_cell i j z s)
  cell_to s i j z h = record { messages = h.messages; stages = h.stages }

  removes : (s : State V) (p : ℕ) → Named s → Named (remove p s)
  removes s p h = record { messages = all_removed (Names s.figures.stations) s.pool p h.messages; stages = h.stages }

  nobody : (n : ℕ) → Among n 0
  nobody n k m = absurd (both_ways _ (has_none k) m)

  one_more : (n set k : ℕ) → k < n → Among n set → Among n (with_station set k)
  one_more n set k l a b m = ⊎_elim (λ w. a b w) (λ w. omega arith) (joins set k b m)

  -- Rules

  catching : (s : State V) (i j : ℕ) → i < s.figures.stations → j < s.figures.stations → Named s → Named (start_catching i j s)
  catching s i j li lj h =
      let o : Stage V = Catching j (number s i j) (s.cell i j).copy.value 0 in
      sends (with_stage i o s) _ (to_each s (λ k. CatchUp i k j (number s i j)) (λ k l. (li, l, lj))) (stage_to s i o (lj, nobody s.figures.stations) h)

  freshness : (s : State V) (i j : ℕ) (o : Stage V) → i < s.figures.stations → j < s.figures.stations → Named s → Named (freshness_at c i j s o)
  freshness s i j Idle li lj h = h
  freshness s i j (Writing x done) li lj h = h
  freshness s i j (Querying asked r reported) li lj h = cond_both _ (start_catching i j s) s Named (λ _. catching s i j li lj h) (λ _. h)
  freshness s i j (Catching caught x v done) li lj h = h

  echoes : (s : State V) (i j : ℕ) (v : V) → i < s.figures.stations → j < s.figures.stations → Named s → Named (send_echo i j v s)
  echoes s i j v li lj h = sends (with_cell i j _ s) _ (to_each s (λ k. Echo i k j (suc (number s i j)) v) (λ k l. (li, l, lj))) (cell_to s i j _ h)

  readies : (s : State V) (i j : ℕ) (v : V) → i < s.figures.stations → j < s.figures.stations → Named s → Named (send_ready i j v s)
  readies s i j v li lj h = sends (with_cell i j _ s) _ (to_each s (λ k. Ready i k j (suc (number s i j)) v) (λ k l. (li, l, lj))) (cell_to s i j _ h)

  taking : (s : State V) (i j : ℕ) (v : V) → i < s.figures.stations → j < s.figures.stations → Named s → Named (take_value i j v s)
  taking s i j v li lj h =
      record {
        messages = All-append (Names s.figures.stations) s.pool _ h.messages (All-cons (Names s.figures.stations) _ _ (li, lj)
            (all_of_below (Names s.figures.stations) (λ k. CatchUpDone i k j (suc (number s i j))) s.figures.stations (λ k l. (li, l, lj)) _
            (All-filter (λ k. eqb (s.held i k j) (suc (number s i j))) (λ k. k < s.figures.stations) (range_with_len 0 s.figures.stations) (counting_below 0 s.figures.stations s.figures.stations (omega arith)))));
        stages = h.stages;
      }

  echo : (s : State V) (i j k : ℕ) (v : V) → i < s.figures.stations → j < s.figures.stations → Named s → Named (on_echo c i j k v s)
  echo s i j k v li lj h =
      let t : State V = with_cell i j (vote_echo k v (s.cell i j)) s in
      cond_both _ (count_echoes c i j v t) s Named
      (λ _. cond_both _ (send_ready i j v t) t Named (λ _. readies t i j v li lj (cell_to s i j _ h)) (λ _. cell_to s i j _ h)) (λ _. h)

  join : (s : State V) (i j : ℕ) (v : V) → i < s.figures.stations → j < s.figures.stations → Named s
      → Named (join_readies c i j v s) × ((join_readies c i j v s).figures ≡ s.figures)
  join s i j v li lj h =
      cond_both _ (send_ready i j v s) s (λ t. Named t × (t.figures ≡ s.figures)) (λ _. (readies s i j v li lj h, refl)) (λ _. (h, refl))

  ready : (s : State V) (i j k : ℕ) (v : V) → i < s.figures.stations → j < s.figures.stations → Named s → Named (on_ready c i j k v s)
  ready s i j k v li lj h =
      let t : State V = with_cell i j (vote_ready k v (s.cell i j)) s in
      let u : State V = join_readies c i j v t in
      let w = join t i j v li lj (cell_to s i j _ h) in
      let e = ap (λ (z : Figures V). z.stations) w.1 in
      cond_both _ (count_readies c i j v u) s Named
      (λ _. cond_both _ (test_freshness c i j (take_value i j v u)) u Named
      (λ _. freshness (take_value i j v u) i j ((take_value i j v u).station i).stage (omega (arith, e, li)) (omega (arith, e, lj)) (taking u i j v (omega (arith, e, li)) (omega (arith, e, lj)) w.0))
      (λ _. w.0)) (λ _. h)

  old_or : (s t : State V) (i j x : ℕ) → Named s → Named t → Named (unless_old i j x s t)
  old_or s t i j x h g = cond_both _ s t Named (λ _. h) (λ _. g)

  -- outcomes
  pub record NamedBy (o : Outcome V) : Type 0 where
    pub state : Named o.state

  by : (s : State V) → Named s → NamedBy (leaves s)
  by s h = record { state = h }

  staged : (s : State V) (i : ℕ) (o : Stage V) (a : Result (Answer V) Decline) → NamesStage s.figures.stations o → Named s → NamedBy (record { state = with_stage i o s; answer = a })
  staged s i o a n h = record { state = stage_to s i o n h }

  write_done : (s : State V) (i k x : ℕ) (o : Stage V) → (s.station i).stage ≡ o → k < s.figures.stations → Named s → NamedBy (write_done_at c i k x s o)
  write_done s i k x Idle e l h = by s h
  write_done s i k x (Writing y done) e l h =
      let n : ℕ = s.figures.stations in
      cond_both (eqb y x) _ _ NamedBy
      (λ _. cond_both (c.system.quorum (with_station done k)) _ _ NamedBy
      (λ _. staged s i Idle _ tt h)
      (λ _. staged s i (Writing x (with_station done k)) _ (one_more n done k l (subst (NamesStage n) e (h.stages i))) h)) (λ _. by s h)
  write_done s i k x (Querying j r reported) e l h = by s h
  write_done s i k x (Catching j y v done) e l h = by s h

  caught : (s : State V) (i k j x : ℕ) (o : Stage V) → (s.station i).stage ≡ o → k < s.figures.stations → j < s.figures.stations → Named s → NamedBy (catch_up_done_at c i k j x s o)
  caught s i k j x Idle e l lj h = by s h
  caught s i k j x (Writing y done) e l lj h = by s h
  caught s i k j x (Querying asked r reported) e l lj h = by s h
  caught s i k j x (Catching was y v done) e l lj h =
      let n : ℕ = s.figures.stations in
      cond_both (eqb was j && eqb y x) _ _ NamedBy
      (λ _. cond_both (c.system.quorum (with_station done k)) _ _ NamedBy
      (λ _. staged s i Idle _ tt h)
      (λ _. staged s i (Catching j x v (with_station done k)) _ (lj, one_more n done k l (subst (NamesStage n) e (h.stages i)).1) h)) (λ _. by s h)

  state : (s : State V) (i k j r x : ℕ) (o : Stage V) → (s.station i).stage ≡ o → i < s.figures.stations → k < s.figures.stations → j < s.figures.stations → Named s → Named (state_at c i k j r x s o)
  state s i k j r x Idle e li l lj h = h
  state s i k j r x (Writing y done) e li l lj h = h
  state s i k j r x (Querying asked read reported) e li l lj h =
      let n : ℕ = s.figures.stations in
      let t : State V = keep_report i k j r x reported s in
      let g = stage_to s i (Querying j r (with_station reported k)) (lj, one_more n reported k l (subst (NamesStage n) e (h.stages i)).1) h in
      cond_both _ (test_freshness c i j t) s Named
      (λ _. freshness t i j (t.station i).stage li lj (record { messages = g.messages; stages = g.stages })) (λ _. h)
  state s i k j r x (Catching was y v done) e li l lj h = h

  acts : (s : State V) (m : Message V) → Names s.figures.stations m → Named s → NamedBy (act c s m)
  acts s (Init k i x v) a h = by _ (old_or s _ i k x h (cond_both _ s (send_echo i k v s) Named (λ _. h) (λ _. echoes s i k v a.1 a.0 h)))
  acts s (Echo k i j x v) a h = by _ (old_or s _ i j x h (echo s i j k v a.1 a.2 h))
  acts s (Ready k i j x v) a h = by _ (old_or s _ i j x h (ready s i j k v a.1 a.2 h))
  acts s (WriteDone k i x) a h = write_done s i k x (s.station i).stage refl a.0 h
  acts s (Read k i j r) a h = by _ (sends s (StateOf i k j r (number s i j) ∷ []) (all_one (Names s.figures.stations) _ (a.1, a.0, a.2)) h)
  acts s (StateOf k i j r x) a h = by _ (state s i k j r x (s.station i).stage refl a.1 a.0 a.2 h)
  acts s (CatchUp k i j x) a h =
      by _ (cond_both _ (send (CatchUpDone i k j x ∷ []) s) _ Named (λ _. sends s (CatchUpDone i k j x ∷ []) (all_one (Names s.figures.stations) _ (a.1, a.0, a.2)) h) (λ _. record { messages = h.messages; stages = h.stages }))
  acts s (CatchUpDone k i j x) a h = caught s i k j x (s.station i).stage refl a.0 a.2 h

  writes : (s : State V) (i : ℕ) (v : V) → i < s.figures.stations → Named s → Named (begin_write i v s)
  writes s i v li h =
      let x : ℕ = suc (s.station i).written in
      record {
        messages = All-append (Names s.figures.stations) s.pool _ h.messages (to_each s (λ k. Init i k x v) (λ k l. (li, l)));
        stages = put_all (λ b z. NamesStage s.figures.stations z) i (Writing x 0) (λ b. (s.station b).stage) h.stages (nobody s.figures.stations);
      }

  asks : (s : State V) (i j : ℕ) → i < s.figures.stations → j < s.figures.stations → Named s → Named (begin_read i j s)
  asks s i j li lj h =
      let r : ℕ = suc (s.reads i j) in
      record {
        messages = All-append (Names s.figures.stations) s.pool _ h.messages (to_each s (λ k. Read i k j r) (λ k l. (li, l, lj)));
        stages = put_all (λ b z. NamesStage s.figures.stations z) i (Querying j r 0) (λ b. (s.station b).stage) h.stages (lj, nobody s.figures.stations);
      }

  pub named_step : (s : State V) → Named s → (call : Call V) → Named (step c s call).state
  named_step s h call =
      after_call c s Named
      (record {
        stays = h;
        removes = λ p. removes s p h;
        acts = λ p m e. (acts (remove p s) m (all_nth (Names n) s.pool p m h.messages e) (removes s p h)).state;
        forges = λ f m e d. sends s (m ∷ []) (all_one (Names s.figures.stations) m (forged_names s f m e d)) h;
        writes = λ i v e. writes s i v (ltb-true i n (not-false _ (unfit (write_reasons s i) e 0 _ refl))) h;
        asks = λ i j e. let w = and_parts _ _ (not-false _ (unfit (read_reasons s i j) e 0 _ refl)) in asks s i j (ltb-true i n w.0) (ltb-true j n w.1) h;
      })
      call
    where
      n : ℕ
      n = s.figures.stations

  pub named_opened : (o : Opening V) → Named (opened c o)
  named_opened o = record { messages = All-nil (Names c.system.stations); stages = λ a. tt }
