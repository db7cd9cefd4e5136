-- A call raises the number of a copy by one at most.
use Rattle.std.proofs.Common.{◌≡◌, ℕ, suc, ◌≤◌, ◌&&◌, eqb, [], ◌∷◌, refl, arith}
use Rattle.std.proofs.lemmas.Bool.{cond_both}
use Rattle.station_set.specs.Sets.{with_station}
use Rattle.machine.specs.declared.message.Message.{Message}
use Rattle.machine.specs.declared.message.Message.TheVariants.{Init, Echo, Ready, WriteDone, Read, State as StateOf, CatchUp, CatchUpDone}
use Rattle.machine.specs.declared.station.Stage.{Stage}
use Rattle.machine.specs.declared.station.Stage.TheVariants.{Idle, Writing, Querying, Catching}
use Rattle.machine.specs.declared.call.Call.{Call}
use Rattle.machine.specs.State.{Setting, Cell, State, number, with_cell, fresh_cell, remove, send}
use Rattle.machine.specs.Operations.{Outcome, leaves, start_catching, freshness_at, test_freshness, write_done_at, keep_report, state_at, on_catch_up, catch_up_done_at}
use Rattle.machine.specs.Publishing.{mark_echoed, mark_readied, vote_echo, vote_ready, send_echo, send_ready, take_value, count_echoes, on_echo, join_readies, count_readies, on_ready}
use Rattle.machine.specs.Calls.{act, unless_old, begin_write, begin_read, step}
use Rattle.machine.proofs.Cases.{after_call}
use Rattle.machine.proofs.Tables.{put_pair_all}

module _ {V : Type 0} where
  abbrev Level : State V → State V → Type 0
  Level s t = (a b : ℕ) → number t a b ≡ number s a b

  pub record Raised (s t : State V) : Type 0 where
    pub by_one : (a b : ℕ) → number t a b ≤ suc (number s a b)

  raised_same : (s t : State V) → Level s t → Raised s t
  raised_same s t l = record { by_one = λ a b. omega (arith, l a b) }

  raised_none : (s : State V) → Raised s s
  raised_none s = raised_same s s (λ a b. refl)

  level_then : (s t u : State V) → Level s t → Raised t u → Raised s u
  level_then s t u l r = record { by_one = λ a b. omega (arith, l a b, r.by_one a b) }

  then_level : (s t u : State V) → Raised s t → Level t u → Raised s u
  then_level s t u r l = record { by_one = λ a b. omega (arith, l a b, r.by_one a b) }

  level_cell : (i j : ℕ) (z : Cell V) (s : State V) → z.copy.number ≡ number s i j → Level s (with_cell i j z s)
  level_cell i j z s e = put_pair_all (λ a b (y : Cell V). y.copy.number ≡ number s a b) i j z s.cell (λ a b. refl) e

  level_freshness : (c : Setting V) (i j : ℕ) (s : State V) (o : Stage V) → Level s (freshness_at c i j s o)
  level_freshness c i j s Idle = λ a b. refl
  level_freshness c i j s (Writing x done) = λ a b. refl
  level_freshness c i j s (Querying asked r reported) = cond_both _ (start_catching i j s) s (Level s) (λ _ a b. refl) (λ _ a b. refl)
  level_freshness c i j s (Catching caught x v done) = λ a b. refl

  level_send_ready : (i j : ℕ) (v : V) (s : State V) → Level s (send_ready i j v s)
  level_send_ready i j v s = level_cell i j (mark_readied (s.cell i j)) s refl

  raised_take_value : (i j : ℕ) (v : V) (s : State V) → Raised s (take_value i j v s)
  raised_take_value i j v s =
      record { by_one = put_pair_all (λ a b (y : Cell V). y.copy.number ≤ suc (number s a b)) i j (fresh_cell v (suc (number s i j))) s.cell (λ a b. omega arith) (omega arith) }

  raised_echo : (c : Setting V) (i j k : ℕ) (v : V) (s : State V) → Raised s (on_echo c i j k v s)
  raised_echo c i j k v s =
      let t : State V = with_cell i j (vote_echo k v (s.cell i j)) s in
      cond_both _ (count_echoes c i j v t) s (Raised s)
      (λ _. level_then s t (count_echoes c i j v t) (level_cell i j (vote_echo k v (s.cell i j)) s refl)
      (cond_both _ (send_ready i j v t) t (Raised t) (λ _. raised_same t (send_ready i j v t) (level_send_ready i j v t)) (λ _. raised_none t)))
      (λ _. raised_none s)

  raised_count_readies : (c : Setting V) (i j : ℕ) (v : V) (s : State V) → Raised s (count_readies c i j v s)
  raised_count_readies c i j v s =
      let t : State V = take_value i j v s in
      cond_both _ (test_freshness c i j t) s (Raised s)
      (λ _. then_level s t (test_freshness c i j t) (raised_take_value i j v s) (level_freshness c i j t (t.station i).stage)) (λ _. raised_none s)

  raised_ready : (c : Setting V) (i j k : ℕ) (v : V) (s : State V) → Raised s (on_ready c i j k v s)
  raised_ready c i j k v s =
      let t : State V = with_cell i j (vote_ready k v (s.cell i j)) s in
      let u : State V = join_readies c i j v t in
      let joined : Level t u = cond_both _ (send_ready i j v t) t (Level t) (λ _. level_send_ready i j v t) (λ _ a b. refl) in
      cond_both _ (count_readies c i j v u) s (Raised s)
      (λ _. level_then s t (count_readies c i j v u) (level_cell i j (vote_ready k v (s.cell i j)) s refl) (level_then t u (count_readies c i j v u) joined (raised_count_readies c i j v u)))
      (λ _. raised_none s)

  raised_old : (i j x : ℕ) (s t : State V) → Raised s t → Raised s (unless_old i j x s t)
  raised_old i j x s t r = cond_both _ s t (Raised s) (λ _. raised_none s) (λ _. r)

  -- outcomes
  pub record RaisedBy (s : State V) (o : Outcome V) : Type 0 where
    pub numbers : Raised s o.state

  level_by : (s : State V) (o : Outcome V) → Level s o.state → RaisedBy s o
  level_by s o l = record { numbers = raised_same s o.state l }

  by : (s t : State V) → Raised s t → RaisedBy s (leaves t)
  by s t r = record { numbers = r }

  raised_write_done : (c : Setting V) (i k x : ℕ) (s : State V) (o : Stage V) → RaisedBy s (write_done_at c i k x s o)
  raised_write_done c i k x s Idle = by s s (raised_none s)
  raised_write_done c i k x s (Writing y done) =
      cond_both (eqb y x) _ _ (RaisedBy s)
      (λ _. cond_both (c.system.quorum (with_station done k)) _ _ (RaisedBy s) (λ _. level_by s _ (λ a b. refl)) (λ _. level_by s _ (λ a b. refl)))
      (λ _. by s s (raised_none s))
  raised_write_done c i k x s (Querying j r reported) = by s s (raised_none s)
  raised_write_done c i k x s (Catching j y v done) = by s s (raised_none s)

  raised_caught : (c : Setting V) (i k j x : ℕ) (s : State V) (o : Stage V) → RaisedBy s (catch_up_done_at c i k j x s o)
  raised_caught c i k j x s Idle = by s s (raised_none s)
  raised_caught c i k j x s (Writing y done) = by s s (raised_none s)
  raised_caught c i k j x s (Querying asked r reported) = by s s (raised_none s)
  raised_caught c i k j x s (Catching caught y v done) =
      cond_both (eqb caught j && eqb y x) _ _ (RaisedBy s)
      (λ _. cond_both (c.system.quorum (with_station done k)) _ _ (RaisedBy s) (λ _. level_by s _ (λ a b. refl)) (λ _. level_by s _ (λ a b. refl)))
      (λ _. by s s (raised_none s))

  raised_state : (c : Setting V) (i k j r x : ℕ) (s : State V) (o : Stage V) → Level s (state_at c i k j r x s o)
  raised_state c i k j r x s Idle = λ a b. refl
  raised_state c i k j r x s (Writing y done) = λ a b. refl
  raised_state c i k j r x s (Querying asked read reported) =
      let t : State V = keep_report i k j r x reported s in
      cond_both _ (test_freshness c i j t) s (Level s) (λ _. level_freshness c i j t (t.station i).stage) (λ _ a b. refl)
  raised_state c i k j r x s (Catching caught y v done) = λ a b. refl

  raised_act : (c : Setting V) (s : State V) (m : Message V) → RaisedBy s (act c s m)
  raised_act c s (Init k i x v) =
      by s _ (raised_old i k x s _ (cond_both _ s (send_echo i k v s) (Raised s) (λ _. raised_none s) (λ _. raised_same s (send_echo i k v s) (level_cell i k (mark_echoed (s.cell i k)) s refl))))
  raised_act c s (Echo k i j x v) = by s _ (raised_old i j x s _ (raised_echo c i j k v s))
  raised_act c s (Ready k i j x v) = by s _ (raised_old i j x s _ (raised_ready c i j k v s))
  raised_act c s (WriteDone k i x) = raised_write_done c i k x s (s.station i).stage
  raised_act c s (Read k i j r) = level_by s _ (λ a b. refl)
  raised_act c s (StateOf k i j r x) = by s _ (raised_same s (state_at c i k j r x s (s.station i).stage) (raised_state c i k j r x s (s.station i).stage))
  raised_act c s (CatchUp k i j x) = by s (on_catch_up i k j x s) (raised_same s (on_catch_up i k j x s) (cond_both _ _ _ (Level s) (λ _ a b. refl) (λ _ a b. refl)))
  raised_act c s (CatchUpDone k i j x) = raised_caught c i k j x s (s.station i).stage

  pub raised : (c : Setting V) (s : State V) (call : Call V) → Raised s (step c s call).state
  raised c s call =
      after_call c s (Raised s)
      (record {
        stays = raised_none s;
        removes = λ p. raised_same s (remove p s) (λ a b. refl);
        acts = λ p m _. record { by_one = (raised_act c (remove p s) m).numbers.by_one };
        forges = λ f m _ _. raised_same s (send (m ∷ []) s) (λ a b. refl);
        writes = λ i v _. raised_same s (begin_write i v s) (λ a b. refl);
        asks = λ i j _. raised_same s (begin_read i j s) (λ a b. refl);
      })
      call
