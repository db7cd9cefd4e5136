-- One reading: what it notes is not below what was settled when it began.
use Rattle.std.proofs.Common.{◌≡◌, ℕ, suc, ◌≤◌, true, false, sym, refl, ap, ◌∙◌, subst, ⊎_elim, arith}
use mathlib.Core.Path.{fun_ext}
use Rattle.std.specs.List.{remove, All}
use Rattle.std.proofs.lemmas.Bool.{both_ways}
use Rattle.std.proofs.lemmas.List.Elements.{All-append, All-push, All-weaker}
use Rattle.station_set.specs.Sets.{has, with_station}
use Rattle.station_set.proofs.Members.{has_none}
use Rattle.machine.specs.declared.message.Message.{Message}
use Rattle.machine.specs.declared.message.Message.TheVariants.{Init, Echo, Ready, WriteDone, Read, State as StateOf, CatchUp, CatchUpDone}
use Rattle.machine.specs.declared.station.Stage.{Stage}
use Rattle.machine.specs.declared.station.Stage.TheVariants.{Idle, Writing, Querying, Catching}
use Rattle.machine.specs.declared.station.Station.{Station}
use Rattle.machine.specs.State.{Setting, Lawful, State, number, put, put_pair}
use Rattle.machine.specs.Operations.{fresh_reports}
use Rattle.machine.specs.Calls.{sender}
use Rattle.machine.proofs.Tables.{put_all, put_else, put_same, put_pair_all, put_pair_else, put_pair_other, put_pair_same, all_nth, all_removed, all_to_all, all_and_each}
use Rattle.machine.proofs.Pools.{swap_all}
use Rattle.machine.proofs.Quorums.{joins, share, fresh_said}
use Rattle.machine.proofs.Acts.{Act, Elsewhere, Drop, StartWrite, StartRead, SendEcho, GotEcho, GotReady, SendReady, TakeValue, GotReport, Freshen, GotDone, EndWrite, GotCaught, EndRead, Report, AnswerNow, Hold}
use Rattle.machine.proofs.Acts.{In, apply, Guard}
use Rattle.machine.proofs.Frames.{Casting, Casts, casts_send_echo, casts_got_echo, casts_got_ready, casts_send_ready}
use Rattle.machine.proofs.History.{History, known, note, Recorded, Later, act_recorded}
use Rattle.machine.proofs.Registers.{Sincere, SincereMessage, Settled, stage_is}

module _ {V : Type 0} (c : Setting V) (L : Lawful c) (f : ℕ) (ok : c.system.allowed f ≡ true) (v₀ : V) where
  -- a reading of register j by station i with read number r; `base` is how far each station was as it began
  module _ (i j r : ℕ) (base : ℕ → ℕ) where
    abbrev pub Fresh : ℕ → Type 0
    Fresh x = (y : ℕ) → Settled c f v₀ base y → y ≤ x

    -- reports of this reading by stations inside are not below their base
    abbrev pub FreshMessage : Message V → Type 0
    FreshMessage (Init k a x v) = Unit {0}
    FreshMessage (Echo k a b x v) = Unit {0}
    FreshMessage (Ready k a b x v) = Unit {0}
    FreshMessage (WriteDone k a x) = Unit {0}
    FreshMessage (Read k a b x) = Unit {0}
    FreshMessage (StateOf k a b r' z) = In f k → a ≡ i → b ≡ j → r' ≡ r → base k ≤ z
    FreshMessage (CatchUp k a b x) = Unit {0}
    FreshMessage (CatchUpDone k a b x) = Unit {0}

    abbrev pub FreshStage : ℕ → (ℕ → ℕ) → Stage V → Type 0
    FreshStage reads row Idle = Unit {0}
    FreshStage reads row (Writing x done) = Unit {0}
    FreshStage reads row (Querying b r' reported) = b ≡ j → r' ≡ r → (k : ℕ) → has reported k ≡ true → In f k → base k ≤ row k
    FreshStage reads row (Catching b x v done) = b ≡ j → reads ≡ r → Fresh x

    pub record ReadsFresh (s : State V) : Type 0 where
      pub messages : All FreshMessage s.pool
      pub stage : FreshStage (s.reads i j) (s.reports i) (s.station i).stage
      pub low : (k : ℕ) → In f k → base k ≤ number s k j
      pub begun : r ≤ s.reads i j

    -- the fresh reports are a quorum: it meets a settled quorum inside
    fresh_quorum : (n : ℕ) → n ≤ 16 → (reported : ℕ) (row : ℕ → ℕ) → ((k : ℕ) → has reported k ≡ true → In f k → base k ≤ row k)
        → (x : ℕ) → c.system.quorum (fresh_reports n x reported row) ≡ true → Fresh x
    fresh_quorum n room reported row low x q y st =
        let m = share c L f ok st.0 (fresh_reports n x reported row) st.1 q in
        let w = fresh_said n room x reported row m.0 m.3 in
        omega (arith, st.2 m.0 m.1 m.2 m.4, low m.0 w.1 m.4, w.2)

    stage_up : (m n : ℕ) (row : ℕ → ℕ) (o : Stage V) → r ≤ m → m ≤ n → FreshStage m row o → FreshStage n row o
    stage_up m n row Idle l u w = tt
    stage_up m n row (Writing x done) l u w = tt
    stage_up m n row (Querying b r' reported) l u w = w
    stage_up m n row (Catching b x v done) l u w = λ e q. w e (omega arith)

    module _ (inside : In f i) (s : State V) (h : History V) (R : Recorded c f v₀ s h) (S : Sincere c f v₀ s h) (A : ReadsFresh s)
        (sized : s.figures.stations ≡ c.system.stations) where
      low_later : (t : State V) (g : History V) → Later c f v₀ (known s h) (known t g) → (k : ℕ) → In f k → base k ≤ number t k j
      low_later t g w k e = omega (arith, A.low k e, w.numbers k j e)

      left : (p : ℕ) → All FreshMessage (remove s.pool p)
      left p = all_removed FreshMessage s.pool p A.messages

      -- neither the stage nor the read number of i changes
      same : (t : State V) (g : History V) → Later c f v₀ (known s h) (known t g) → t.station i ≡ s.station i → t.reports i ≡ s.reports i
          → t.reads i j ≡ s.reads i j → All FreshMessage t.pool → ReadsFresh t
      same t g w es er ed po =
          record {
            messages = po;
            stage = subst (λ (z : Station V). FreshStage (t.reads i j) (t.reports i) z.stage) (sym es)
                (subst (λ row. FreshStage (t.reads i j) row (s.station i).stage) (sym er) (subst (λ m. FreshStage m (s.reports i) (s.station i).stage) (sym ed) A.stage));
            low = low_later t g w;
            begun = omega (arith, A.begun, ed);
          }

      -- the stage of some station changes
      turned : (a : ℕ) (o : Stage V) (t : State V) → ((b : ℕ) → (t.station b).stage ≡ put a o (λ d. (s.station d).stage) b) → ((i ≡ a → ⊥) → t.reports i ≡ s.reports i)
          → t.reads i j ≡ s.reads i j → Later c f v₀ (known s h) (known t h) → (a ≡ i → FreshStage (s.reads i j) (t.reports i) o) → All FreshMessage t.pool → ReadsFresh t
      turned a o t es er ed w new po =
          record {
            messages = po;
            low = low_later t h w;
            begun = omega (arith, A.begun, ed);
            stage =
                subst (λ m. FreshStage m (t.reports i) (t.station i).stage) (sym ed)
                (subst (FreshStage (s.reads i j) (t.reports i)) (sym (es i))
                (put_else (λ d (z : Stage V). d ≡ i → FreshStage (s.reads i j) (t.reports i) z) a o (λ d. (s.station d).stage)
                (λ d ne q. subst (λ row. FreshStage (s.reads i j) row (s.station d).stage) (sym (er (λ z. ne (q ∙ z))))
                (subst (λ z. FreshStage (s.reads i j) (s.reports i) (s.station z).stage) (sym q) A.stage))
                new i refl));
          }

      -- the stage that a guard names, where it is i's
      stage_at : (a : ℕ) (o : Stage V) → (s.station a).stage ≡ o → a ≡ i → FreshStage (s.reads i j) (s.reports a) o
      stage_at a o e q =
          subst (λ (row : ℕ → ℕ). FreshStage (s.reads i j) row o) (ap s.reports (sym q))
          (subst (FreshStage (s.reads i j) (s.reports i)) (ap (λ b. (s.station b).stage) (sym q) ∙ e) A.stage)

      outside_message : (m : Message V) → has f (sender m) ≡ true → FreshMessage m
      outside_message (Init k a x v) e = tt
      outside_message (Echo k a b x v) e = tt
      outside_message (Ready k a b x v) e = tt
      outside_message (WriteDone k a x) e = tt
      outside_message (Read k a b x) e = tt
      outside_message (StateOf k a b r' z) e = λ q _ _ _. absurd (both_ways _ q e)
      outside_message (CatchUp k a b x) e = tt
      outside_message (CatchUpDone k a b x) e = tt

      casting_message : (m : Message V) → Casting m → FreshMessage m
      casting_message (Init k a x v) e = tt
      casting_message (Echo k a b x v) e = tt
      casting_message (Ready k a b x v) e = tt
      casting_message (WriteDone k a x) e = tt
      casting_message (Read k a b x) e = tt
      casting_message (StateOf k a b r' z) e = absurd e
      casting_message (CatchUp k a b x) e = tt
      casting_message (CatchUpDone k a b x) e = tt

      by_casts : (t : State V) (g : History V) → Casts c f s t → Later c f v₀ (known s h) (known t g) → ReadsFresh t
      by_casts t g w lt =
          same t g lt (w.station_same i) (w.reports_same i) (w.reads_same i j)
          (swap_all _ _ FreshMessage s.pool t.pool w.pool_change casting_message A.messages)

      lt : (a : Act V) → Guard c f a s → Later c f v₀ (known s h) (known (apply c f a s) (note c f v₀ a s h))
      lt a gd = (act_recorded c f v₀ s h R a gd).0

      by_begin_read : (a b : ℕ) → Guard c f (StartRead a b) s → ReadsFresh (apply c f (StartRead a b) s)
      by_begin_read a b gd =
          let r' : ℕ = suc (s.reads a b) in
          let up : s.reads i j ≤ put_pair a b r' s.reads i j =
          put_pair_all (λ a b x. s.reads a b ≤ x) a b r' s.reads (λ a b. omega arith) (omega arith) i j in
          record {
            messages = All-append FreshMessage s.pool _ A.messages (all_to_all FreshMessage s.figures.stations (λ k. Read a k b r') (λ k. tt));
            low = A.low;
            begun = omega (arith, A.begun);
            stage = put_all (λ d (o : Stage V). d ≡ i → FreshStage (put_pair a b r' s.reads i j) (s.reports d) o) a (Querying b r' 0) (λ d. (s.station d).stage)
                (λ d q. subst (λ z. FreshStage (put_pair a b r' s.reads i j) (s.reports z) (s.station z).stage) (sym q) (stage_up _ _ (s.reports i) (s.station i).stage A.begun up A.stage))
                (λ _ _ _ k m _. absurd (both_ways _ (has_none k) m)) i refl;
          }

      by_begin_write : (a : ℕ) (v : V) → Guard c f (StartWrite a v) s → ReadsFresh (apply c f (StartWrite a v) s)
      by_begin_write a v gd =
          record {
            messages = All-append FreshMessage s.pool _ A.messages (all_to_all FreshMessage s.figures.stations (λ k. Init a k (suc (s.station a).written) v) (λ k. tt));
            low = A.low;
            begun = A.begun;
            stage = put_all (λ d (o : Stage V). d ≡ i → FreshStage (s.reads i j) (s.reports d) o) a (Writing (suc (s.station a).written) 0) (λ d. (s.station d).stage)
                (λ d q. subst (λ z. FreshStage (s.reads i j) (s.reports z) (s.station z).stage) (sym q) A.stage) (λ _. tt) i refl;
          }

      pub act_fresh : (a : Act V) → Guard c f a s → ReadsFresh (apply c f a s)
      act_fresh (Elsewhere t) gd =
          same t h (lt (Elsewhere t) gd) (gd.station_same i inside) (gd.reports_same i inside) (gd.reads_same i j inside)
          (swap_all _ _ FreshMessage s.pool t.pool gd.pool_change outside_message A.messages)
      act_fresh (Drop p m) gd = same (apply c f (Drop p m) s) h (lt (Drop p m) gd) refl refl refl (left p)
      act_fresh (StartWrite a v) gd = by_begin_write a v gd
      act_fresh (StartRead a b) gd = by_begin_read a b gd
      act_fresh (SendEcho p a b v) gd = by_casts _ _ (casts_send_echo c f p a b v s gd) (lt (SendEcho p a b v) gd)
      act_fresh (GotEcho p a b k v) gd = by_casts _ _ (casts_got_echo c f p a b k v s gd) (lt (GotEcho p a b k v) gd)
      act_fresh (GotReady p a b k v) gd = by_casts _ _ (casts_got_ready c f p a b k v s gd) (lt (GotReady p a b k v) gd)
      act_fresh (SendReady a b v) gd = by_casts _ _ (casts_send_ready c f a b v s) (lt (SendReady a b v) gd)
      act_fresh (TakeValue a b v) gd =
          same (apply c f (TakeValue a b v) s) (note c f v₀ (TakeValue a b v) s h) (lt (TakeValue a b v) gd) refl refl refl
          (All-append FreshMessage s.pool _ A.messages (all_and_each FreshMessage _ (λ k. CatchUpDone a k b (suc (number s a b))) _ tt (λ k. tt)))
      act_fresh (GotReport p a k b r' x reported) gd =
          turned a (Querying b r' (with_station reported k)) (apply c f (GotReport p a k b r' x reported) s) (λ d. refl)
          (λ ne. fun_ext (λ n. put_pair_other s.reports a k x i n (λ q. ne q.0))) refl (lt (GotReport p a k b r' x reported) gd)
          (λ q e e' d m u. put_pair_else (λ z n y. z ≡ i → has (with_station reported k) n ≡ true → In f n → base n ≤ y) a k x s.reports
          (λ z n ne w g t. ⊎_elim
          (λ old. subst (λ y. base n ≤ s.reports y n) (q ∙ sym w) (stage_at a (Querying b r' reported) gd.1 q e e' n old t))
          (λ new. absurd (ne (w ∙ sym q, new))) (joins reported k n g))
          (λ _ _ t. all_nth FreshMessage s.pool p _ A.messages gd.3 t q e e') i d refl m u)
          (left p)
      act_fresh (Freshen a b r' reported) gd =
          turned a (Catching b (number s a b) (s.cell a b).copy.value 0) (apply c f (Freshen a b r' reported) s) (λ d. refl) (λ _. refl) refl (lt (Freshen a b r' reported) gd)
          (λ q e m.
          let now : r' ≡ s.reads a b = (stage_is c f v₀ s h R S a (Querying b r' reported) gd.0 gd.1).1 in
          let is : r' ≡ r = now ∙ ap (λ z. s.reads z b) q ∙ ap (s.reads i) e ∙ m in
          fresh_quorum s.figures.stations (omega (arith, L.laws.sized)) reported (s.reports a) (stage_at a (Querying b r' reported) gd.1 q e is) (number s a b) gd.2)
          (All-append FreshMessage s.pool _ A.messages (all_to_all FreshMessage s.figures.stations (λ k. CatchUp a k b (number s a b)) (λ k. tt)))
      act_fresh (GotDone p a k x done) gd =
          turned a (Writing x (with_station done k)) (apply c f (GotDone p a k x done) s) (λ d. refl) (λ _. refl) refl (lt (GotDone p a k x done) gd) (λ q. tt) (left p)
      act_fresh (EndWrite p a k x done) gd =
          turned a Idle (apply c f (EndWrite p a k x done) s) (λ d. refl) (λ _. refl) refl (lt (EndWrite p a k x done) gd) (λ q. tt) (left p)
      act_fresh (GotCaught p a k b x v done) gd =
          turned a (Catching b x v (with_station done k)) (apply c f (GotCaught p a k b x v done) s) (λ d. refl) (λ _. refl) refl (lt (GotCaught p a k b x v done) gd)
          (λ q. subst (λ z. FreshStage (s.reads i j) (s.reports z) (Catching b x v (with_station done k))) q (stage_at a (Catching b x v done) gd.1 q)) (left p)
      act_fresh (EndRead p a k b x v done) gd =
          turned a Idle (apply c f (EndRead p a k b x v done) s) (λ d. refl) (λ _. refl) refl (lt (EndRead p a k b x v done) gd) (λ q. tt) (left p)
      act_fresh (Report p a k b r') gd =
          same (apply c f (Report p a k b r') s) h (lt (Report p a k b r') gd) refl refl refl
          (All-push FreshMessage (remove s.pool p) _ (left p) (λ e q e' _. subst (λ z. base a ≤ number s a z) (sym e') (A.low a e)))
      act_fresh (AnswerNow p a k b x) gd =
          same (apply c f (AnswerNow p a k b x) s) h (lt (AnswerNow p a k b x) gd) refl refl refl (All-push FreshMessage (remove s.pool p) _ (left p) tt)
      act_fresh (Hold p a k b x) gd = same (apply c f (Hold p a k b x) s) h (lt (Hold p a k b x) gd) refl refl refl (left p)

      -- a reading with this number that ends returns what is fresh
      pub ends_fresh : (p k x : ℕ) (v : V) (done : ℕ) → Guard c f (EndRead p i k j x v done) s → s.reads i j ≡ r → Fresh x
      ends_fresh p k x v done gd now = stage_at i (Catching j x v done) gd.1 refl refl now

  -- as a reading begins, no report of it is about
  module _ (s : State V) (h : History V) (S : Sincere c f v₀ s h) (i j : ℕ) (inside : In f i) where
    no_reports : (m : Message V) → SincereMessage c f v₀ (known s h) m → FreshMessage i j (suc (s.reads i j)) (λ k. number s k j) m
    no_reports (Init k a x v) w = tt
    no_reports (Echo k a b x v) w = tt
    no_reports (Ready k a b x v) w = tt
    no_reports (WriteDone k a x) w = tt
    no_reports (Read k a b x) w = tt
    no_reports (StateOf k a b r z) w = λ e p q u.
        let l : r ≤ s.reads a b = (w e).1 (subst (λ d. has f d ≡ false) (sym p) inside) in
        let l' : r ≤ s.reads i j = subst (λ y. r ≤ y) (ap (λ d. s.reads d b) p ∙ ap (s.reads i) q) l in
        absurd (omega arith)
    no_reports (CatchUp k a b x) w = tt
    no_reports (CatchUpDone k a b x) w = tt

    pub begins_fresh : ReadsFresh i j (suc (s.reads i j)) (λ k. number s k j) (apply c f (StartRead i j) s)
    begins_fresh =
        let r : ℕ = suc (s.reads i j) in
        record {
          messages = All-append (FreshMessage i j r (λ k. number s k j)) s.pool _
              (All-weaker (SincereMessage c f v₀ (known s h)) (FreshMessage i j r (λ k. number s k j)) no_reports s.pool S.messages)
              (all_to_all (FreshMessage i j r (λ k. number s k j)) s.figures.stations (λ k. Read i k j r) (λ k. tt));
          stage = subst (FreshStage i j r (λ k. number s k j) (put_pair i j r s.reads i j) (s.reports i)) (sym (put_same (λ d. (s.station d).stage) i (Querying j r 0)))
              (λ _ _ k m _. absurd (both_ways _ (has_none k) m));
          low = λ k e. omega arith;
          begun = omega (arith, put_pair_same s.reads i j r);
        }
