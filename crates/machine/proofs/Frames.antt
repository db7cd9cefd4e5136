-- What the acts leave alone: publishing does not touch operations, and operations do not touch publishing.
use Rattle.std.proofs.Common.{◌≡◌, ℕ, suc, List, refl, ap}
use Rattle.machine.specs.declared.message.Message.{Message}
use Rattle.machine.specs.declared.message.Message.TheVariants.{Init, Echo, Ready, WriteDone, Read, State as StateOf, CatchUp, CatchUpDone}
use Rattle.machine.specs.State.{Setting, Cell, State, number, put_pair, remove}
use Rattle.machine.specs.Publishing.{mark_echoed, mark_readied, vote_echo, vote_ready}
use Rattle.machine.proofs.Tables.{put_pair_all, all_one, all_to_all}
use Rattle.machine.proofs.Pools.{Swap, swap_new, swap_removed, swap_both}
use Rattle.machine.proofs.Acts.{StartRead, SendEcho, GotEcho, GotReady, SendReady, GotReport, Freshen, GotDone, EndWrite, GotCaught, EndRead, Report, AnswerNow, Hold}
use Rattle.machine.proofs.Acts.{apply, Guard, At}

-- the kinds of the broadcast, and the others
abbrev pub Casting : {V : Type 0} → Message V → Type 0
Casting (Init k i x v) = Unit {0}
Casting (Echo k i j x v) = Unit {0}
Casting (Ready k i j x v) = Unit {0}
Casting (WriteDone k i x) = ⊥
Casting (Read k i j r) = ⊥
Casting (StateOf k i j r x) = ⊥
Casting (CatchUp k i j x) = ⊥
Casting (CatchUpDone k i j x) = ⊥

abbrev pub Asking : {V : Type 0} → Message V → Type 0
Asking (Init k i x v) = ⊥
Asking (Echo k i j x v) = ⊥
Asking (Ready k i j x v) = ⊥
Asking (WriteDone k i x) = Unit {0}
Asking (Read k i j r) = Unit {0}
Asking (StateOf k i j r x) = Unit {0}
Asking (CatchUp k i j x) = Unit {0}
Asking (CatchUpDone k i j x) = Unit {0}

pub kinds_apart : {V : Type 0} (m : Message V) → Casting m → Asking m → ⊥
kinds_apart (Init k i x v) a b = b
kinds_apart (Echo k i j x v) a b = b
kinds_apart (Ready k i j x v) a b = b
kinds_apart (WriteDone k i x) a b = a
kinds_apart (Read k i j r) a b = a
kinds_apart (StateOf k i j r x) a b = a
kinds_apart (CatchUp k i j x) a b = a
kinds_apart (CatchUpDone k i j x) a b = a

module _ {V : Type 0} (c : Setting V) (f : ℕ) where
  -- an act of publishing: copies and operations stay
  pub record Casts (s t : State V) : Type 0 where
    pub figures_same : t.figures ≡ s.figures
    pub number_same : (a b : ℕ) → number t a b ≡ number s a b
    pub value_same : (a b : ℕ) → (t.cell a b).copy.value ≡ (s.cell a b).copy.value
    pub station_same : (a : ℕ) → t.station a ≡ s.station a
    pub reads_same : (a b : ℕ) → t.reads a b ≡ s.reads a b
    pub reports_same : (a : ℕ) → t.reports a ≡ s.reports a
    pub held_same : (a k b : ℕ) → t.held a k b ≡ s.held a k b
    pub pool_change : Swap Casting Casting s.pool t.pool

  -- an act on operations: cells and written numbers stay
  pub record Asks (s t : State V) : Type 0 where
    pub figures_same : t.figures ≡ s.figures
    pub cell_same : (a b : ℕ) → t.cell a b ≡ s.cell a b
    pub written_same : (a : ℕ) → (t.station a).written ≡ (s.station a).written
    pub pool_change : Swap Asking Asking s.pool t.pool

  casts_cell : (i j : ℕ) (z : Cell V) (s : State V) (l : List (Message V)) → z.copy.number ≡ number s i j → z.copy.value ≡ (s.cell i j).copy.value
      → Swap Casting Casting s.pool l
      → Casts s (record { figures = s.figures; cell = put_pair i j z s.cell; station = s.station; reads = s.reads; reports = s.reports; held = s.held; pool = l })
  casts_cell i j z s l e e' w =
      record {
        figures_same = refl;
        number_same = put_pair_all (λ a b (x : Cell V). x.copy.number ≡ number s a b) i j z s.cell (λ a b. refl) e;
        value_same = put_pair_all (λ a b (x : Cell V). x.copy.value ≡ (s.cell a b).copy.value) i j z s.cell (λ a b. refl) e';
        station_same = λ a. refl;
        reads_same = λ a b. refl;
        reports_same = λ a. refl;
        held_same = λ a k b. refl;
        pool_change = w;
      }

  pub casts_send_echo : (p i j : ℕ) (v : V) (s : State V) → Guard c f (SendEcho p i j v) s → Casts s (apply c f (SendEcho p i j v) s)
  casts_send_echo p i j v s gd =
      casts_cell i j (mark_echoed (s.cell i j)) s _ refl refl
      (swap_both Casting Casting s.pool _ p _ gd.2 tt (all_to_all Casting s.figures.stations (λ k. Echo i k j (suc (number s i j)) v) (λ k. tt)))

  pub casts_got_echo : (p i j k : ℕ) (v : V) (s : State V) → Guard c f (GotEcho p i j k v) s → Casts s (apply c f (GotEcho p i j k v) s)
  casts_got_echo p i j k v s gd = casts_cell i j (vote_echo k v (s.cell i j)) s _ refl refl (swap_removed Casting Casting s.pool p _ gd.2 tt)

  pub casts_got_ready : (p i j k : ℕ) (v : V) (s : State V) → Guard c f (GotReady p i j k v) s → Casts s (apply c f (GotReady p i j k v) s)
  casts_got_ready p i j k v s gd = casts_cell i j (vote_ready k v (s.cell i j)) s _ refl refl (swap_removed Casting Casting s.pool p _ gd.2 tt)

  pub casts_send_ready : (i j : ℕ) (v : V) (s : State V) → Casts s (apply c f (SendReady i j v) s)
  casts_send_ready i j v s =
      casts_cell i j (mark_readied (s.cell i j)) s _ refl refl
      (swap_new Casting Casting s.pool _ (all_to_all Casting s.figures.stations (λ k. Ready i k j (suc (number s i j)) v) (λ k. tt)))

  pub casts_drop : (p : ℕ) (m : Message V) (s : State V) → At c f s p m → Casting m → Casts s (remove p s)
  casts_drop p m s e w =
      record {
        figures_same = refl;
        number_same = λ a b. refl;
        value_same = λ a b. refl;
        station_same = λ a. refl;
        reads_same = λ a b. refl;
        reports_same = λ a. refl;
        held_same = λ a k b. refl;
        pool_change = swap_removed Casting Casting s.pool p m e w;
      }

  asks : (s t : State V) → t.figures ≡ s.figures → t.cell ≡ s.cell → ((a : ℕ) → (t.station a).written ≡ (s.station a).written)
      → Swap Asking Asking s.pool t.pool → Asks s t
  asks s t e e' w p = record { figures_same = e; cell_same = λ a b. ap (λ (g : ℕ → ℕ → Cell V). g a b) e'; written_same = w; pool_change = p }

  pub asks_drop : (p : ℕ) (m : Message V) (s : State V) → At c f s p m → Asking m → Asks s (remove p s)
  asks_drop p m s e w = asks s (remove p s) refl refl (λ a. refl) (swap_removed Asking Asking s.pool p m e w)

  pub asks_begin_read : (i j : ℕ) (s : State V) → Asks s (apply c f (StartRead i j) s)
  asks_begin_read i j s =
      asks s (apply c f (StartRead i j) s) refl refl (λ a. refl)
      (swap_new Asking Asking s.pool _ (all_to_all Asking s.figures.stations (λ k. Read i k j (suc (s.reads i j))) (λ k. tt)))

  pub asks_got_report : (p i k j r x reported : ℕ) (s : State V) → Guard c f (GotReport p i k j r x reported) s
      → Asks s (apply c f (GotReport p i k j r x reported) s)
  asks_got_report p i k j r x reported s gd =
      asks s (apply c f (GotReport p i k j r x reported) s) refl refl (λ a. refl) (swap_removed Asking Asking s.pool p _ gd.3 tt)

  pub asks_freshen : (i j r reported : ℕ) (s : State V) → Asks s (apply c f (Freshen i j r reported) s)
  asks_freshen i j r reported s =
      asks s (apply c f (Freshen i j r reported) s) refl refl (λ a. refl)
      (swap_new Asking Asking s.pool _ (all_to_all Asking s.figures.stations (λ k. CatchUp i k j (number s i j)) (λ k. tt)))

  pub asks_got_done : (p i k x done : ℕ) (s : State V) → Guard c f (GotDone p i k x done) s → Asks s (apply c f (GotDone p i k x done) s)
  asks_got_done p i k x done s gd =
      asks s (apply c f (GotDone p i k x done) s) refl refl (λ a. refl) (swap_removed Asking Asking s.pool p _ gd.2 tt)

  pub asks_end_write : (p i k x done : ℕ) (s : State V) → Guard c f (EndWrite p i k x done) s → Asks s (apply c f (EndWrite p i k x done) s)
  asks_end_write p i k x done s gd =
      asks s (apply c f (EndWrite p i k x done) s) refl refl (λ a. refl) (swap_removed Asking Asking s.pool p _ gd.2 tt)

  pub asks_got_caught : (p i k j x : ℕ) (v : V) (done : ℕ) (s : State V) → Guard c f (GotCaught p i k j x v done) s
      → Asks s (apply c f (GotCaught p i k j x v done) s)
  asks_got_caught p i k j x v done s gd =
      asks s (apply c f (GotCaught p i k j x v done) s) refl refl (λ a. refl) (swap_removed Asking Asking s.pool p _ gd.2 tt)

  pub asks_end_read : (p i k j x : ℕ) (v : V) (done : ℕ) (s : State V) → Guard c f (EndRead p i k j x v done) s
      → Asks s (apply c f (EndRead p i k j x v done) s)
  asks_end_read p i k j x v done s gd =
      asks s (apply c f (EndRead p i k j x v done) s) refl refl (λ a. refl) (swap_removed Asking Asking s.pool p _ gd.2 tt)

  pub asks_report : (p i k j r : ℕ) (s : State V) → Guard c f (Report p i k j r) s → Asks s (apply c f (Report p i k j r) s)
  asks_report p i k j r s gd =
      asks s (apply c f (Report p i k j r) s) refl refl (λ a. refl) (swap_both Asking Asking s.pool _ p _ gd.1 tt (all_one Asking _ tt))

  pub asks_answer : (p i k j x : ℕ) (s : State V) → Guard c f (AnswerNow p i k j x) s → Asks s (apply c f (AnswerNow p i k j x) s)
  asks_answer p i k j x s gd =
      asks s (apply c f (AnswerNow p i k j x) s) refl refl (λ a. refl) (swap_both Asking Asking s.pool _ p _ gd.1 tt (all_one Asking _ tt))

  pub asks_hold : (p i k j x : ℕ) (s : State V) → Guard c f (Hold p i k j x) s → Asks s (apply c f (Hold p i k j x) s)
  asks_hold p i k j x s gd =
      asks s (apply c f (Hold p i k j x) s) refl refl (λ a. refl) (swap_removed Asking Asking s.pool p _ gd.1 tt)
