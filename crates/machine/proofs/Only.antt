-- A station that acts changes its own tables only, and sends in its own name.
use Rattle.std.proofs.Common.{◌≡◌, ℕ, suc, max, ◌&&◌, eqb, List, [], ◌∷◌, ◌++◌, sym, refl, ap, ◌∙◌, append_assoc, append-nil, Ok, Err, Result}
use Rattle.decline.specs.declared.Decline.{Decline}
use mathlib.Core.Path.{fun_ext}
use Rattle.std.specs.List.{All}
use Rattle.std.proofs.lemmas.Bool.{cond_both, eqb-true, and_parts}
use Rattle.std.proofs.lemmas.List.Elements.{All-nil, All-append}
use Rattle.station_set.specs.Sets.{with_station}
use Rattle.machine.specs.declared.message.Message.{Message}
use Rattle.machine.specs.declared.message.Message.TheVariants.{Init, Echo, Ready, WriteDone, Read, State as StateOf, CatchUp, CatchUpDone}
use Rattle.machine.specs.declared.station.Stage.{Stage}
use Rattle.machine.specs.declared.station.Stage.TheVariants.{Idle, Writing, Querying, Catching}
use Rattle.machine.specs.declared.call.Answer.{Answer}
use Rattle.machine.specs.declared.call.Answer.TheVariants.{Done, WriteEnded, ReadEnded, Counted}
use Rattle.machine.specs.State.{Setting, Cell, State, number, with_cell, with_stage, with_written, with_reads, with_report, with_held, send}
use Rattle.machine.specs.Operations.{Outcome, leaves, start_catching, freshness_at, test_freshness, write_done_at, keep_report, state_at, catch_up_done_at}
use Rattle.machine.specs.Publishing.{vote_echo, vote_ready, send_echo, send_ready, release, take_value, count_echoes, on_echo, join_readies, count_readies, on_ready}
use Rattle.machine.specs.Calls.{sender, receiver, act, begin_write, begin_read, unless_old}
use Rattle.machine.proofs.Tables.{put_other, all_one, all_to_all, all_and_each, put_pair_other, put_triple_other}

release_other : (i j x : ℕ) (held : ℕ → ℕ → ℕ → ℕ) (a k b : ℕ) → (a ≡ i → ⊥) → release i j x held a k b ≡ held a k b
release_other i j x held a k b ne =
    cond_both _ 0 (held a k b) (λ y. y ≡ held a k b) (λ e. absurd (ne (eqb-true a i (and_parts _ _ e).0))) (λ _. refl)

module _ {V : Type 0} where
  pub record Only (i : ℕ) (s t : State V) : Type 0 where
    pub figures_same : t.figures ≡ s.figures
    pub cell_same : (a b : ℕ) → (a ≡ i → ⊥) → t.cell a b ≡ s.cell a b
    pub station_same : (a : ℕ) → (a ≡ i → ⊥) → t.station a ≡ s.station a
    pub reads_same : (a b : ℕ) → (a ≡ i → ⊥) → t.reads a b ≡ s.reads a b
    pub reports_same : (a : ℕ) → (a ≡ i → ⊥) → t.reports a ≡ s.reports a
    pub held_same : (a k b : ℕ) → (a ≡ i → ⊥) → t.held a k b ≡ s.held a k b
    pub sent : List (Message V)
    pub pool_is : t.pool ≡ s.pool ++ sent
    pub by : All (λ m. sender m ≡ i) sent

  pub only_none : (i : ℕ) (s : State V) → Only i s s
  only_none i s =
      record {
        figures_same = refl;
        cell_same = λ a b _. refl;
        station_same = λ a _. refl;
        reads_same = λ a b _. refl;
        reports_same = λ a _. refl;
        held_same = λ a k b _. refl;
        sent = [];
        pool_is = sym (append-nil s.pool);
        by = All-nil (λ m. sender m ≡ i);
      }

  pub only_then : (i : ℕ) (s t u : State V) → Only i s t → Only i t u → Only i s u
  only_then i s t u x y =
      record {
        figures_same = y.figures_same ∙ x.figures_same;
        cell_same = λ a b e. y.cell_same a b e ∙ x.cell_same a b e;
        station_same = λ a e. y.station_same a e ∙ x.station_same a e;
        reads_same = λ a b e. y.reads_same a b e ∙ x.reads_same a b e;
        reports_same = λ a e. y.reports_same a e ∙ x.reports_same a e;
        held_same = λ a k b e. y.held_same a k b e ∙ x.held_same a k b e;
        sent = x.sent ++ y.sent;
        pool_is = y.pool_is ∙ ap (λ l. l ++ y.sent) x.pool_is ∙ append_assoc s.pool x.sent y.sent;
        by = All-append (λ m. sender m ≡ i) x.sent y.sent x.by y.by;
      }

  only_send : (i : ℕ) (s : State V) (l : List (Message V)) → All (λ m. sender m ≡ i) l → Only i s (send l s)
  only_send i s l a =
      record {
        figures_same = refl;
        cell_same = λ a b _. refl;
        station_same = λ a _. refl;
        reads_same = λ a b _. refl;
        reports_same = λ a _. refl;
        held_same = λ a k b _. refl;
        sent = l;
        pool_is = refl;
        by = a;
      }

  only_cell : (i j : ℕ) (z : Cell V) (s : State V) → Only i s (with_cell i j z s)
  only_cell i j z s =
      record {
        figures_same = refl;
        cell_same = λ a b e. put_pair_other s.cell i j z a b (λ q. e q.0);
        station_same = λ a _. refl;
        reads_same = λ a b _. refl;
        reports_same = λ a _. refl;
        held_same = λ a k b _. refl;
        sent = [];
        pool_is = sym (append-nil s.pool);
        by = All-nil (λ m. sender m ≡ i);
      }

  only_stage : (i : ℕ) (o : Stage V) (s : State V) → Only i s (with_stage i o s)
  only_stage i o s =
      record {
        figures_same = refl;
        cell_same = λ a b _. refl;
        station_same = λ a e. ap (λ (x : Stage V). record { opening = (s.station a).opening; written = (s.station a).written; stage = x }) (put_other (λ b. (s.station b).stage) i o a e);
        reads_same = λ a b _. refl;
        reports_same = λ a _. refl;
        held_same = λ a k b _. refl;
        sent = [];
        pool_is = sym (append-nil s.pool);
        by = All-nil (λ m. sender m ≡ i);
      }

  only_written : (i x : ℕ) (s : State V) → Only i s (with_written i x s)
  only_written i x s =
      record {
        figures_same = refl;
        cell_same = λ a b _. refl;
        station_same = λ a e. ap (λ (y : ℕ). record { opening = (s.station a).opening; written = y; stage = (s.station a).stage }) (put_other (λ b. (s.station b).written) i x a e);
        reads_same = λ a b _. refl;
        reports_same = λ a _. refl;
        held_same = λ a k b _. refl;
        sent = [];
        pool_is = sym (append-nil s.pool);
        by = All-nil (λ m. sender m ≡ i);
      }

  only_reads : (i j r : ℕ) (s : State V) → Only i s (with_reads i j r s)
  only_reads i j r s =
      record {
        figures_same = refl;
        cell_same = λ a b _. refl;
        station_same = λ a _. refl;
        reads_same = λ a b e. put_pair_other s.reads i j r a b (λ q. e q.0);
        reports_same = λ a _. refl;
        held_same = λ a k b _. refl;
        sent = [];
        pool_is = sym (append-nil s.pool);
        by = All-nil (λ m. sender m ≡ i);
      }

  only_report : (i k x : ℕ) (s : State V) → Only i s (with_report i k x s)
  only_report i k x s =
      record {
        figures_same = refl;
        cell_same = λ a b _. refl;
        station_same = λ a _. refl;
        reads_same = λ a b _. refl;
        reports_same = λ a e. fun_ext (λ b. put_pair_other s.reports i k x a b (λ q. e q.0));
        held_same = λ a k b _. refl;
        sent = [];
        pool_is = sym (append-nil s.pool);
        by = All-nil (λ m. sender m ≡ i);
      }

  only_held : (i : ℕ) (held : ℕ → ℕ → ℕ → ℕ) (s : State V) → ((a k b : ℕ) → (a ≡ i → ⊥) → held a k b ≡ s.held a k b) → Only i s (with_held held s)
  only_held i held s same =
      record {
        figures_same = refl;
        cell_same = λ a b _. refl;
        station_same = λ a _. refl;
        reads_same = λ a b _. refl;
        reports_same = λ a _. refl;
        held_same = same;
        sent = [];
        pool_is = sym (append-nil s.pool);
        by = All-nil (λ m. sender m ≡ i);
      }

  -- the rules
  only_start_catching : (i j : ℕ) (s : State V) → Only i s (start_catching i j s)
  only_start_catching i j s =
      let o : Stage V = Catching j (number s i j) (s.cell i j).copy.value 0 in
      only_then i s (with_stage i o s) _ (only_stage i o s)
      (only_send i _ _ (all_to_all (λ m. sender m ≡ i) s.figures.stations (λ k. CatchUp i k j (number s i j)) (λ k. refl)))

  only_freshness : (c : Setting V) (i j : ℕ) (s : State V) (o : Stage V) → Only i s (freshness_at c i j s o)
  only_freshness c i j s Idle = only_none i s
  only_freshness c i j s (Writing x done) = only_none i s
  only_freshness c i j s (Querying asked r reported) = cond_both _ (start_catching i j s) s (Only i s) (λ _. only_start_catching i j s) (λ _. only_none i s)
  only_freshness c i j s (Catching caught x v done) = only_none i s

  only_send_echo : (i j : ℕ) (v : V) (s : State V) → Only i s (send_echo i j v s)
  only_send_echo i j v s =
      only_then i s (with_cell i j _ s) _ (only_cell i j _ s)
      (only_send i _ _ (all_to_all (λ m. sender m ≡ i) s.figures.stations (λ k. Echo i k j (suc (number s i j)) v) (λ k. refl)))

  only_send_ready : (i j : ℕ) (v : V) (s : State V) → Only i s (send_ready i j v s)
  only_send_ready i j v s =
      only_then i s (with_cell i j _ s) _ (only_cell i j _ s)
      (only_send i _ _ (all_to_all (λ m. sender m ≡ i) s.figures.stations (λ k. Ready i k j (suc (number s i j)) v) (λ k. refl)))

  only_take_value : (i j : ℕ) (v : V) (s : State V) → Only i s (take_value i j v s)
  only_take_value i j v s =
      only_then i s (with_cell i j _ s) _ (only_cell i j _ s)
      (only_then i (with_cell i j _ s) (with_held _ (with_cell i j _ s)) _ (only_held i _ (with_cell i j _ s) (release_other i j (suc (number s i j)) s.held))
      (only_send i _ _ (all_and_each (λ m. sender m ≡ i) _ (λ k. CatchUpDone i k j (suc (number s i j))) _ refl (λ k. refl))))

  only_count_echoes : (c : Setting V) (i j : ℕ) (v : V) (s : State V) → Only i s (count_echoes c i j v s)
  only_count_echoes c i j v s = cond_both _ (send_ready i j v s) s (Only i s) (λ _. only_send_ready i j v s) (λ _. only_none i s)

  only_join_readies : (c : Setting V) (i j : ℕ) (v : V) (s : State V) → Only i s (join_readies c i j v s)
  only_join_readies c i j v s = cond_both _ (send_ready i j v s) s (Only i s) (λ _. only_send_ready i j v s) (λ _. only_none i s)

  only_count_readies : (c : Setting V) (i j : ℕ) (v : V) (s : State V) → Only i s (count_readies c i j v s)
  only_count_readies c i j v s =
      cond_both _ (test_freshness c i j (take_value i j v s)) s (Only i s)
      (λ _. only_then i s (take_value i j v s) _ (only_take_value i j v s) (only_freshness c i j (take_value i j v s) _)) (λ _. only_none i s)

  only_echo : (c : Setting V) (i j k : ℕ) (v : V) (s : State V) → Only i s (on_echo c i j k v s)
  only_echo c i j k v s =
      let t : State V = with_cell i j (vote_echo k v (s.cell i j)) s in
      cond_both _ (count_echoes c i j v t) s (Only i s) (λ _. only_then i s t _ (only_cell i j _ s) (only_count_echoes c i j v t)) (λ _. only_none i s)

  only_ready : (c : Setting V) (i j k : ℕ) (v : V) (s : State V) → Only i s (on_ready c i j k v s)
  only_ready c i j k v s =
      let t : State V = with_cell i j (vote_ready k v (s.cell i j)) s in
      let u : State V = join_readies c i j v t in
      cond_both _ (count_readies c i j v u) s (Only i s)
      (λ _. only_then i s t _ (only_cell i j _ s) (only_then i t u _ (only_join_readies c i j v t) (only_count_readies c i j v u))) (λ _. only_none i s)

  only_old : (i j x : ℕ) (s t : State V) → Only i s t → Only i s (unless_old i j x s t)
  only_old i j x s t w = cond_both _ s t (Only i s) (λ _. only_none i s) (λ _. w)

  only_state : (c : Setting V) (i k j r x : ℕ) (s : State V) (o : Stage V) → Only i s (state_at c i k j r x s o)
  only_state c i k j r x s Idle = only_none i s
  only_state c i k j r x s (Writing y done) = only_none i s
  only_state c i k j r x s (Querying asked read reported) =
      cond_both _ (test_freshness c i j (keep_report i k j r x reported s)) s (Only i s)
      (λ _. only_then i s (keep_report i k j r x reported s) _
      (only_then i s (with_stage i _ s) _ (only_stage i _ s) (only_report i k x (with_stage i _ s))) (only_freshness c i j (keep_report i k j r x reported s) _))
      (λ _. only_none i s)
  only_state c i k j r x s (Catching caught y v done) = only_none i s

  pub only_write : (i : ℕ) (v : V) (s : State V) → Only i s (begin_write i v s)
  only_write i v s =
      let x : ℕ = suc (s.station i).written in
      only_then i s (with_written i x s) _ (only_written i x s)
      (only_then i (with_written i x s) (with_stage i (Writing x 0) (with_written i x s)) _ (only_stage i (Writing x 0) (with_written i x s))
      (only_send i _ _ (all_to_all (λ m. sender m ≡ i) s.figures.stations (λ k. Init i k x v) (λ k. refl))))

  pub only_read : (i j : ℕ) (s : State V) → Only i s (begin_read i j s)
  only_read i j s =
      let r : ℕ = suc (s.reads i j) in
      only_then i s (with_reads i j r s) _ (only_reads i j r s)
      (only_then i (with_reads i j r s) (with_stage i (Querying j r 0) (with_reads i j r s)) _ (only_stage i (Querying j r 0) (with_reads i j r s))
      (only_send i _ _ (all_to_all (λ m. sender m ≡ i) s.figures.stations (λ k. Read i k j r) (λ k. refl))))

  -- an answer speaks of the station that acted
  abbrev pub About : ℕ → Result (Answer V) Decline → Type 0
  About i (Ok Done) = Unit {0}
  About i (Ok (WriteEnded k x)) = k ≡ i
  About i (Ok (ReadEnded k j x v)) = k ≡ i
  About i (Ok (Counted waiting takeable)) = Unit {0}
  About i (Err reason) = Unit {0}

  -- what a station that acts leaves and answers is its own
  pub record Own (i : ℕ) (s : State V) (o : Outcome V) : Type 0 where
    pub only : Only i s o.state
    pub about : About i o.answer

  own_none : (i : ℕ) (s : State V) → Own i s (leaves s)
  own_none i s = record { only = only_none i s; about = tt }

  own_stage : (i : ℕ) (s : State V) (o : Stage V) (a : Result (Answer V) Decline) → About i a → Own i s (record { state = with_stage i o s; answer = a })
  own_stage i s o a w = record { only = only_stage i o s; about = w }

  own_write_done : (c : Setting V) (i k x : ℕ) (s : State V) (o : Stage V) → Own i s (write_done_at c i k x s o)
  own_write_done c i k x s Idle = own_none i s
  own_write_done c i k x s (Writing y done) =
      cond_both (eqb y x) _ _ (Own i s)
      (λ _. cond_both (c.system.quorum (with_station done k)) _ _ (Own i s) (λ _. own_stage i s Idle (Ok (WriteEnded i x)) refl) (λ _. own_stage i s (Writing x (with_station done k)) (Ok Done) tt))
      (λ _. own_none i s)
  own_write_done c i k x s (Querying j r reported) = own_none i s
  own_write_done c i k x s (Catching j y v done) = own_none i s

  own_caught : (c : Setting V) (i k j x : ℕ) (s : State V) (o : Stage V) → Own i s (catch_up_done_at c i k j x s o)
  own_caught c i k j x s Idle = own_none i s
  own_caught c i k j x s (Writing y done) = own_none i s
  own_caught c i k j x s (Querying asked r reported) = own_none i s
  own_caught c i k j x s (Catching caught y v done) =
      cond_both (eqb caught j && eqb y x) _ _ (Own i s)
      (λ _. cond_both (c.system.quorum (with_station done k)) _ _ (Own i s) (λ _. own_stage i s Idle (Ok (ReadEnded i j x v)) refl) (λ _. own_stage i s (Catching j x v (with_station done k)) (Ok Done) tt))
      (λ _. own_none i s)

  quiet : (i : ℕ) (s t : State V) → Only i s t → Own i s (leaves t)
  quiet i s t w = record { only = w; about = tt }

  pub own_act : (c : Setting V) (s : State V) (m : Message V) → Own (receiver m) s (act c s m)
  own_act c s (Init k i x v) = quiet i s _ (only_old i k x s _ (cond_both _ s (send_echo i k v s) (Only i s) (λ _. only_none i s) (λ _. only_send_echo i k v s)))
  own_act c s (Echo k i j x v) = quiet i s _ (only_old i j x s _ (only_echo c i j k v s))
  own_act c s (Ready k i j x v) = quiet i s _ (only_old i j x s _ (only_ready c i j k v s))
  own_act c s (WriteDone k i x) = own_write_done c i k x s (s.station i).stage
  own_act c s (Read k i j r) = quiet i s _ (only_send i s (StateOf i k j r (number s i j) ∷ []) (all_one (λ m. sender m ≡ i) _ refl))
  own_act c s (StateOf k i j r x) = quiet i s _ (only_state c i k j r x s (s.station i).stage)
  own_act c s (CatchUp k i j x) =
      quiet i s _
      (cond_both _ (send (CatchUpDone i k j x ∷ []) s) _ (Only i s) (λ _. only_send i s (CatchUpDone i k j x ∷ []) (all_one (λ m. sender m ≡ i) _ refl))
      (λ _. only_held i _ s (λ a d b ne. put_triple_other s.held i k j (max (s.held i k j) x) a d b (λ q. ne q.0))))
  own_act c s (CatchUpDone k i j x) = own_caught c i k j x s (s.station i).stage
