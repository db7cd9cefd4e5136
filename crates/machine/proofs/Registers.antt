-- The registers, safety: what messages and stages of operations tell of how far stations are.
-- Of the broadcast nothing is used here but that numbers never fall and that a copy is what was taken.
use Rattle.std.proofs.Common.{◌≡◌, ℕ, suc, ◌<◌, ◌≤◌, true, List, Some, sym, refl, ap, ◌∙◌, subst, ap₂, ⊎_elim, arith}
use mathlib.Core.Path.{fun_ext}
use Rattle.std.specs.List.{remove, All, slice_get}
use Rattle.std.proofs.lemmas.Bool.{both_ways}
use Rattle.std.proofs.lemmas.Bool.Decides.{nat_tests}
use Rattle.std.proofs.lemmas.List.Elements.{All-append, All-push, All-weaker}
use Rattle.station_set.specs.Sets.{has, with_station}
use Rattle.station_set.proofs.Members.{has_none}
use Rattle.machine.specs.declared.message.Message.{Message}
use Rattle.machine.specs.declared.message.Message.TheVariants.{Init, Echo, Ready, WriteDone, Read, State as StateOf, CatchUp, CatchUpDone}
use Rattle.machine.specs.declared.station.Stage.{Stage}
use Rattle.machine.specs.declared.station.Stage.TheVariants.{Idle, Writing, Querying, Catching}
use Rattle.machine.specs.declared.station.Station.{Station}
use Rattle.machine.specs.State.{Setting, Lawful, Cell, State, number, put, put_pair, fresh_cell}
use Rattle.machine.specs.Calls.{sender}
use Rattle.machine.proofs.Tables.{put_all, put_else, put_same, put_other, put_pair_else, put_pair_other, put_pair_same, all_nth, all_removed, all_to_all, all_and_each}
use Rattle.machine.proofs.Pools.{swap_all}
use Rattle.machine.proofs.Quorums.{joins, everyone}
use Rattle.machine.proofs.Acts.{Act, Elsewhere, Drop, StartWrite, StartRead, SendEcho, GotEcho, GotReady, SendReady, TakeValue, GotReport, Freshen, GotDone, EndWrite, GotCaught, EndRead, Report, AnswerNow, Hold}
use Rattle.machine.proofs.Acts.{In, apply, Guard, Foreign}
use Rattle.machine.proofs.Frames.{Casting, Casts, casts_send_echo, casts_got_echo, casts_got_ready, casts_send_ready}
use Rattle.machine.proofs.History.{History, Known, known, note, Recorded, Later, later_refl, act_recorded}

module _ {V : Type 0} (c : Setting V) (f : ℕ) (v₀ : V) where
  -- a message of a station inside tells what that station's copy is at least
  abbrev pub SincereMessage : Known V → Message V → Type 0
  SincereMessage K (Init k i x v) = Unit {0}
  SincereMessage K (Echo k i j x v) = Unit {0}
  SincereMessage K (Ready k i j x v) = Unit {0}
  SincereMessage K (WriteDone k i x) = In f k → x ≤ K.numbers k i
  SincereMessage K (Read k i j r) = In f k → r ≤ K.reads k j
  SincereMessage K (StateOf k i j r x) = In f k → (x ≤ K.numbers k j) × (In f i → r ≤ K.reads i j)
  SincereMessage K (CatchUp k i j x) = In f k → x ≤ K.numbers k j
  SincereMessage K (CatchUpDone k i j x) = In f k → x ≤ K.numbers k j

  -- and so do the members inside of the sets that a stage collects
  abbrev pub SincereStage : Known V → ℕ → (ℕ → ℕ) → Stage V → Type 0
  SincereStage K i row Idle = Unit {0}
  SincereStage K i row (Writing x done) = ((v : V) × (K.history.published i x ≡ Some v)) × ((k : ℕ) → has done k ≡ true → In f k → x ≤ K.numbers k i)
  SincereStage K i row (Querying j r reported) = (k : ℕ) → has reported k ≡ true → In f k → row k ≤ K.numbers k j
  SincereStage K i row (Catching j x v done) =
      (K.history.took i j x ≡ Some v) × (x ≤ K.numbers i j) × ((k : ℕ) → has done k ≡ true → In f k → x ≤ K.numbers k j)

  -- an open operation is its station's last
  abbrev pub CurrentStage : ℕ → (ℕ → ℕ) → Stage V → Type 0
  CurrentStage written reads Idle = Unit {0}
  CurrentStage written reads (Writing x done) = x ≡ written
  CurrentStage written reads (Querying j r reported) = r ≡ reads j
  CurrentStage written reads (Catching j x v done) = Unit {0}

  pub record Sincere (s : State V) (h : History V) : Type 0 where
    pub messages : All (SincereMessage (known s h)) s.pool
    pub stages : (i : ℕ) → In f i → SincereStage (known s h) i (s.reports i) (s.station i).stage
    pub current : (i : ℕ) → In f i → CurrentStage (s.station i).written (s.reads i) (s.station i).stage

  module _ (K L : Known V) (w : Later c f v₀ K L) where
    message_later : (m : Message V) → SincereMessage K m → SincereMessage L m
    message_later (Init k i x v) a = tt
    message_later (Echo k i j x v) a = tt
    message_later (Ready k i j x v) a = tt
    message_later (WriteDone k i x) a = λ e. omega (arith, a e, w.numbers k i e)
    message_later (Read k i j r) a = λ e. omega (arith, a e, w.reads k j e)
    message_later (StateOf k i j r x) a = λ e. (omega (arith, (a e).0, w.numbers k j e), λ q. omega (arith, (a e).1 q, w.reads i j q))
    message_later (CatchUp k i j x) a = λ e. omega (arith, a e, w.numbers k j e)
    message_later (CatchUpDone k i j x) a = λ e. omega (arith, a e, w.numbers k j e)

    messages_later : (l : List (Message V)) → All (SincereMessage K) l → All (SincereMessage L) l
    messages_later l a = All-weaker (SincereMessage K) (SincereMessage L) message_later l a

    stage_later : (i : ℕ) (row : ℕ → ℕ) (o : Stage V) → In f i → SincereStage K i row o → SincereStage L i row o
    stage_later i row Idle e a = tt
    stage_later i row (Writing x done) e a = ((a.0.0, w.published i x _ a.0.1), λ k m q. omega (arith, a.1 k m q, w.numbers k i q))
    stage_later i row (Querying j r reported) e a = λ k m q. omega (arith, a k m q, w.numbers k j q)
    stage_later i row (Catching j x v done) e a =
        (w.took i j x v a.0, omega (arith, a.1, w.numbers i j e), λ k m q. omega (arith, a.2 k m q, w.numbers k j q))

  current_like : (written written' : ℕ) (reads reads' : ℕ → ℕ) (o : Stage V) → written' ≡ written → ((j : ℕ) → reads' j ≡ reads j)
      → CurrentStage written reads o → CurrentStage written' reads' o
  current_like written written' reads reads' Idle e q a = tt
  current_like written written' reads reads' (Writing x done) e q a = a ∙ sym e
  current_like written written' reads reads' (Querying j r reported) e q a = a ∙ sym (q j)
  current_like written written' reads reads' (Catching j x v done) e q a = tt

  module _ (s : State V) (h : History V) (R : Recorded c f v₀ s h) (S : Sincere s h) where
    -- no stage changes
    same_stages : (t : State V) (g : History V) → Later c f v₀ (known s h) (known t g) → ((i : ℕ) → In f i → t.station i ≡ s.station i)
        → ((i : ℕ) → In f i → t.reports i ≡ s.reports i) → ((i j : ℕ) → In f i → t.reads i j ≡ s.reads i j) → All (SincereMessage (known t g)) t.pool → Sincere t g
    same_stages t g w es er ed po =
        record {
          messages = po;
          stages = λ i e. subst (λ (z : Station V). SincereStage (known t g) i (t.reports i) z.stage) (sym (es i e))
              (subst (λ (row : ℕ → ℕ). SincereStage (known t g) i row (s.station i).stage) (sym (er i e))
              (stage_later (known s h) (known t g) w i (s.reports i) (s.station i).stage e (S.stages i e)));
          current = λ i e. subst (λ (z : Station V). CurrentStage (t.station i).written (t.reads i) z.stage) (sym (es i e))
              (current_like _ _ (s.reads i) _ (s.station i).stage (ap (λ (z : Station V). z.written) (es i e)) (λ j. ed i j e) (S.current i e));
        }

    -- one stage changes, with its row of reports
    new_stage : (i : ℕ) (o : Stage V) (row : ℕ → ℕ) (t : State V) → t.cell ≡ s.cell → t.reads ≡ s.reads
        → ((a : ℕ) → (t.station a).stage ≡ put i o (λ b. (s.station b).stage) a) → ((a : ℕ) → (t.station a).written ≡ (s.station a).written)
        → ((a : ℕ) → (a ≡ i → ⊥) → t.reports a ≡ s.reports a) → t.reports i ≡ row
        → (In f i → SincereStage (known s h) i row o) → (In f i → CurrentStage (s.station i).written (s.reads i) o) → All (SincereMessage (known s h)) t.pool → Sincere t h
    new_stage i o row t ec ed es ew er ei new now po =
        let K : known s h ≡ known t h = ap₂ (λ (z : ℕ → ℕ → Cell V) (y : ℕ → ℕ → ℕ). record { history = h; numbers = λ a b. (z a b).copy.number; reads = y }) (sym ec) (sym ed) in
        record {
          messages = subst (λ k. All (SincereMessage k) t.pool) K po;
          stages = λ a e. subst (λ k. SincereStage k a (t.reports a) (t.station a).stage) K
              (subst (SincereStage (known s h) a (t.reports a)) (sym (es a))
              (put_else (λ b (y : Stage V). In f b → SincereStage (known s h) b (t.reports b) y) i o (λ b. (s.station b).stage)
              (λ b ne q. subst (λ r. SincereStage (known s h) b r (s.station b).stage) (sym (er b ne)) (S.stages b q))
              (λ q. subst (λ r. SincereStage (known s h) i r o) (sym ei) (new q)) a e));
          current = λ a e. subst (λ (y : ℕ → ℕ → ℕ). CurrentStage (t.station a).written (y a) (t.station a).stage) (sym ed)
              (subst (λ m. CurrentStage m (s.reads a) (t.station a).stage) (sym (ew a))
              (subst (CurrentStage (s.station a).written (s.reads a)) (sym (es a))
              (put_all (λ b (y : Stage V). In f b → CurrentStage (s.station b).written (s.reads b) y) i o (λ b. (s.station b).stage) S.current now a e)));
        }

    pub stage_is : (i : ℕ) (o : Stage V) → In f i → (s.station i).stage ≡ o
        → SincereStage (known s h) i (s.reports i) o × CurrentStage (s.station i).written (s.reads i) o
    stage_is i o e q = (subst (SincereStage (known s h) i (s.reports i)) q (S.stages i e), subst (CurrentStage (s.station i).written (s.reads i)) q (S.current i e))

    at_place : (p : ℕ) (m : Message V) → slice_get s.pool p ≡ Some m → SincereMessage (known s h) m
    at_place p m e = all_nth (SincereMessage (known s h)) s.pool p m S.messages e

    left : (p : ℕ) → All (SincereMessage (known s h)) (remove s.pool p)
    left p = all_removed (SincereMessage (known s h)) s.pool p S.messages

    -- one station more in a set
    joined : (P : ℕ → Type 0) (set k : ℕ) → ((a : ℕ) → has set a ≡ true → In f a → P a) → (In f k → P k) → (a : ℕ) → has (with_station set k) a ≡ true → In f a → P a
    joined P set k old new a m e = ⊎_elim (λ q. old a q e) (λ q. subst P (sym q) (new (subst (In f) q e))) (joins set k a m)

    outside_message : (K : Known V) (m : Message V) → has f (sender m) ≡ true → SincereMessage K m
    outside_message K (Init k i x v) e = tt
    outside_message K (Echo k i j x v) e = tt
    outside_message K (Ready k i j x v) e = tt
    outside_message K (WriteDone k i x) e = λ q. absurd (both_ways _ q e)
    outside_message K (Read k i j r) e = λ q. absurd (both_ways _ q e)
    outside_message K (StateOf k i j r x) e = λ q. absurd (both_ways _ q e)
    outside_message K (CatchUp k i j x) e = λ q. absurd (both_ways _ q e)
    outside_message K (CatchUpDone k i j x) e = λ q. absurd (both_ways _ q e)

    casting_message : (K : Known V) (m : Message V) → Casting m → SincereMessage K m
    casting_message K (Init k i x v) e = tt
    casting_message K (Echo k i j x v) e = tt
    casting_message K (Ready k i j x v) e = tt
    casting_message K (WriteDone k i x) e = absurd e
    casting_message K (Read k i j r) e = absurd e
    casting_message K (StateOf k i j r x) e = absurd e
    casting_message K (CatchUp k i j x) e = absurd e
    casting_message K (CatchUpDone k i j x) e = absurd e

    by_foreign : (t : State V) → Foreign c f s t → Later c f v₀ (known s h) (known t h) → Sincere t h
    by_foreign t w lt =
        same_stages t h lt w.station_same w.reports_same w.reads_same
        (swap_all _ _ (SincereMessage (known t h)) s.pool t.pool w.pool_change (outside_message (known t h)) (messages_later (known s h) (known t h) lt s.pool S.messages))

    by_casts : (t : State V) (g : History V) → Casts c f s t → Later c f v₀ (known s h) (known t g) → Sincere t g
    by_casts t g w lt =
        same_stages t g lt (λ i _. w.station_same i) (λ i _. w.reports_same i) (λ i j _. w.reads_same i j)
        (swap_all _ _ (SincereMessage (known t g)) s.pool t.pool w.pool_change (casting_message (known t g)) (messages_later (known s h) (known t g) lt s.pool S.messages))

    by_take_value : (i j : ℕ) (v : V) → Later c f v₀ (known s h) (known (apply c f (TakeValue i j v) s) (note c f v₀ (TakeValue i j v) s h))
        → Sincere (apply c f (TakeValue i j v) s) (note c f v₀ (TakeValue i j v) s h)
    by_take_value i j v lt =
        let x : ℕ = suc (number s i j) in
        let t : State V = apply c f (TakeValue i j v) s in
        let g : History V = note c f v₀ (TakeValue i j v) s h in
        let reached : x ≤ number t i j = omega (arith, ap (λ (z : Cell V). z.copy.number) (put_pair_same s.cell i j (fresh_cell v x))) in
        same_stages t g lt (λ a _. refl) (λ a _. refl) (λ a b _. refl)
        (All-append (SincereMessage (known t g)) s.pool _ (messages_later (known s h) (known t g) lt s.pool S.messages)
        (all_and_each (SincereMessage (known t g)) _ (λ k. CatchUpDone i k j x) _ (λ _. reached) (λ k _. reached)))

    by_begin_write : (i : ℕ) (v : V) → In f i → Later c f v₀ (known s h) (known (apply c f (StartWrite i v) s) (note c f v₀ (StartWrite i v) s h))
        → Sincere (apply c f (StartWrite i v) s) (note c f v₀ (StartWrite i v) s h)
    by_begin_write i v e lt =
        let x : ℕ = suc (s.station i).written in
        let t : State V = apply c f (StartWrite i v) s in
        let g : History V = note c f v₀ (StartWrite i v) s h in
        record {
          messages = All-append (SincereMessage (known t g)) s.pool _ (messages_later (known s h) (known t g) lt s.pool S.messages)
              (all_to_all (SincereMessage (known t g)) s.figures.stations (λ k. Init i k x v) (λ k. tt));
          stages = put_all (λ a (o : Stage V). In f a → SincereStage (known t g) a (s.reports a) o) i (Writing x 0) (λ b. (s.station b).stage)
              (λ a q. stage_later (known s h) (known t g) lt a (s.reports a) (s.station a).stage q (S.stages a q))
              (λ _. ((v, put_pair_same h.published i x (Some v)), λ k m _. absurd (both_ways _ (has_none k) m)));
          current = put_else (λ a (o : Stage V). In f a → CurrentStage (put i x (λ b. (s.station b).written) a) (s.reads a) o) i (Writing x 0) (λ b. (s.station b).stage)
              (λ a ne q. current_like _ _ (s.reads a) (s.reads a) (s.station a).stage (put_other (λ b. (s.station b).written) i x a ne) (λ j. refl) (S.current a q))
              (λ _. sym (put_same (λ b. (s.station b).written) i x));
        }

    by_begin_read : (i j : ℕ) → In f i → Later c f v₀ (known s h) (known (apply c f (StartRead i j) s) h) → Sincere (apply c f (StartRead i j) s) h
    by_begin_read i j e lt =
        let r : ℕ = suc (s.reads i j) in
        let t : State V = apply c f (StartRead i j) s in
        record {
          messages = All-append (SincereMessage (known t h)) s.pool _ (messages_later (known s h) (known t h) lt s.pool S.messages)
              (all_to_all (SincereMessage (known t h)) s.figures.stations (λ k. Read i k j r) (λ k _. omega (arith, put_pair_same s.reads i j r)));
          stages = put_all (λ a (o : Stage V). In f a → SincereStage (known t h) a (s.reports a) o) i (Querying j r 0) (λ b. (s.station b).stage)
              (λ a q. stage_later (known s h) (known t h) lt a (s.reports a) (s.station a).stage q (S.stages a q))
              (λ _ k m _. absurd (both_ways _ (has_none k) m));
          current = put_else (λ a (o : Stage V). In f a → CurrentStage (s.station a).written (put_pair i j r s.reads a) o) i (Querying j r 0) (λ b. (s.station b).stage)
              (λ a ne q. current_like (s.station a).written (s.station a).written (s.reads a) (put_pair i j r s.reads a) (s.station a).stage refl
              (λ b. other a b ne) (S.current a q))
              (λ _. sym (put_pair_same s.reads i j r));
        }
      where
        other : (a b : ℕ) → (a ≡ i → ⊥) → put_pair i j (suc (s.reads i j)) s.reads a b ≡ s.reads a b
        other a b ne = grind (arith, nat_tests)

    pub act_sincere : (a : Act V) → Guard c f a s → Sincere (apply c f a s) (note c f v₀ a s h)
    act_sincere (Elsewhere t) gd = by_foreign t gd (act_recorded c f v₀ s h R (Elsewhere t) gd).0
    act_sincere (Drop p m) gd = same_stages (apply c f (Drop p m) s) h (later_refl c f v₀ (known s h)) (λ a _. refl) (λ a _. refl) (λ a b _. refl) (left p)
    act_sincere (StartWrite i v) gd = by_begin_write i v gd.0 (act_recorded c f v₀ s h R (StartWrite i v) gd).0
    act_sincere (StartRead i j) gd = by_begin_read i j gd.0 (act_recorded c f v₀ s h R (StartRead i j) gd).0
    act_sincere (SendEcho p i j v) gd = by_casts _ _ (casts_send_echo c f p i j v s gd) (act_recorded c f v₀ s h R (SendEcho p i j v) gd).0
    act_sincere (GotEcho p i j k v) gd = by_casts _ _ (casts_got_echo c f p i j k v s gd) (act_recorded c f v₀ s h R (GotEcho p i j k v) gd).0
    act_sincere (GotReady p i j k v) gd = by_casts _ _ (casts_got_ready c f p i j k v s gd) (act_recorded c f v₀ s h R (GotReady p i j k v) gd).0
    act_sincere (SendReady i j v) gd = by_casts _ _ (casts_send_ready c f i j v s) (act_recorded c f v₀ s h R (SendReady i j v) gd).0
    act_sincere (TakeValue i j v) gd = by_take_value i j v (act_recorded c f v₀ s h R (TakeValue i j v) gd).0
    act_sincere (GotReport p i k j r x reported) gd =
        let o = stage_is i (Querying j r reported) gd.0 gd.1 in
        new_stage i (Querying j r (with_station reported k)) (put_pair i k x s.reports i) (apply c f (GotReport p i k j r x reported) s) refl refl
        (λ a. refl) (λ a. refl) (λ a ne. fun_ext (λ b. put_pair_other s.reports i k x a b (λ q. ne q.0))) refl
        (λ _ a m e. put_pair_else (λ d b y. d ≡ i → has (with_station reported k) b ≡ true → In f b → y ≤ number s b j) i k x s.reports
        (λ d b ne q u t. ⊎_elim (λ w. subst (λ z. s.reports z b ≤ number s b j) (sym q) (o.0 b w t)) (λ w. absurd (ne (q, w))) (joins reported k b u))
        (λ _ _ t. (at_place p _ gd.3 t).0) i a refl m e)
        (λ _. o.1) (left p)
    act_sincere (Freshen i j r reported) gd =
        new_stage i (Catching j (number s i j) (s.cell i j).copy.value 0) (s.reports i) (apply c f (Freshen i j r reported) s) refl refl
        (λ a. refl) (λ a. refl) (λ a ne. refl) refl
        (λ _. ((R.taken i j gd.0).now_is, omega arith, λ k m _. absurd (both_ways _ (has_none k) m))) (λ _. tt)
        (All-append (SincereMessage (known s h)) s.pool _ S.messages
        (all_to_all (SincereMessage (known s h)) s.figures.stations (λ k. CatchUp i k j (number s i j)) (λ k _. omega arith)))
    act_sincere (GotDone p i k x done) gd =
        let o = stage_is i (Writing x done) gd.0 gd.1 in
        new_stage i (Writing x (with_station done k)) (s.reports i) (apply c f (GotDone p i k x done) s) refl refl
        (λ a. refl) (λ a. refl) (λ a ne. refl) refl
        (λ _. (o.0.0, joined (λ a. x ≤ number s a i) done k o.0.1 (at_place p _ gd.2))) (λ _. o.1) (left p)
    act_sincere (EndWrite p i k x done) gd =
        new_stage i Idle (s.reports i) (apply c f (EndWrite p i k x done) s) refl refl (λ a. refl) (λ a. refl) (λ a ne. refl) refl (λ _. tt) (λ _. tt) (left p)
    act_sincere (GotCaught p i k j x v done) gd =
        let o = stage_is i (Catching j x v done) gd.0 gd.1 in
        new_stage i (Catching j x v (with_station done k)) (s.reports i) (apply c f (GotCaught p i k j x v done) s) refl refl
        (λ a. refl) (λ a. refl) (λ a ne. refl) refl
        (λ _. (o.0.0, o.0.1, joined (λ a. x ≤ number s a j) done k o.0.2 (at_place p _ gd.2))) (λ _. tt) (left p)
    act_sincere (EndRead p i k j x v done) gd =
        new_stage i Idle (s.reports i) (apply c f (EndRead p i k j x v done) s) refl refl (λ a. refl) (λ a. refl) (λ a ne. refl) refl (λ _. tt) (λ _. tt) (left p)
    act_sincere (Report p i k j r) gd =
        same_stages (apply c f (Report p i k j r) s) h (later_refl c f v₀ (known s h)) (λ a _. refl) (λ a _. refl) (λ a b _. refl)
        (All-push (SincereMessage (known s h)) (remove s.pool p) _ (left p) (λ _. (omega arith, λ q. at_place p _ gd.1 q)))
    act_sincere (AnswerNow p i k j x) gd =
        same_stages (apply c f (AnswerNow p i k j x) s) h (later_refl c f v₀ (known s h)) (λ a _. refl) (λ a _. refl) (λ a b _. refl)
        (All-push (SincereMessage (known s h)) (remove s.pool p) _ (left p) (λ _. gd.2))
    act_sincere (Hold p i k j x) gd =
        same_stages (apply c f (Hold p i k j x) s) h (later_refl c f v₀ (known s h)) (λ a _. refl) (λ a _. refl) (λ a b _. refl) (left p)

  -- Settled: some quorum's members inside are all at least that far. Once so, always so, since numbers never fall.
  abbrev pub Settled : (ℕ → ℕ) → ℕ → Type 0
  Settled far x = (q : ℕ) × (c.system.quorum q ≡ true) × ((k : ℕ) → k < c.system.stations → has q k ≡ true → In f k → x ≤ far k)

  pub settled_later : (far far' : ℕ → ℕ) (x : ℕ) → ((k : ℕ) → In f k → far k ≤ far' k) → Settled far x → Settled far' x
  settled_later far far' x le a = (a.0, a.1, λ k l m e. omega (arith, a.2 k l m e, le k e))

  pub settled_none : Lawful c → (far : ℕ → ℕ) → Settled far 0
  settled_none L far = ((everyone c L).0, (everyone c L).1, λ k l m e. omega arith)

  module _ (s : State V) (h : History V) (R : Recorded c f v₀ s h) (S : Sincere s h) where
    -- an operation that ends is settled
    pub write_settled : (p i k x done : ℕ) → Guard c f (EndWrite p i k x done) s → Settled (λ a. number s a i) x
    write_settled p i k x done gd =
        let o = stage_is s h R S i (Writing x done) gd.0 gd.1 in
        (with_station done k, gd.3, λ a l m e. joined s h R S (λ a. x ≤ number s a i) done k o.0.1 (at_place s h R S p _ gd.2) a m e)

    pub read_settled : (p i k j x : ℕ) (v : V) (done : ℕ) → Guard c f (EndRead p i k j x v done) s → Settled (λ a. number s a j) x
    read_settled p i k j x v done gd =
        let o = stage_is s h R S i (Catching j x v done) gd.0 gd.1 in
        (with_station done k, gd.3, λ a l m e. joined s h R S (λ a. x ≤ number s a j) done k o.0.2 (at_place s h R S p _ gd.2) a m e)
