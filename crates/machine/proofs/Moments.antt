-- What holds at every moment of a run, and how an open operation goes on from call to call.
use Rattle.std.proofs.Common.{◌≡◌, ℕ, ◌<◌, ◌≤◌, true, cond, eqb, ◌⊎◌, Some, None, sym, refl, ap, ◌∙◌, subst, inl, inr, arith}
use Rattle.std.proofs.lemmas.Bool.Decides.{nat_tests}
use Rattle.std.proofs.lemmas.List.Elements.{All-nil}
use Rattle.station_set.specs.Sets.{Inside, with_station}
use Rattle.machine.specs.declared.station.Stage.{Stage}
use Rattle.machine.specs.declared.station.Stage.TheVariants.{Idle, Writing, Querying, Catching}
use Rattle.machine.specs.declared.station.Station.{Station}
use Rattle.machine.specs.declared.call.Opening.{Opening}
use Rattle.machine.specs.declared.figures.Figures.{Figures}
use Rattle.machine.specs.State.{Setting, Lawful, State, number, put}
use Rattle.machine.specs.Calls.{opened}
use Rattle.machine.proofs.Tables.{put_all}
use Rattle.machine.proofs.Acts.{Act, Elsewhere, Drop, StartWrite, StartRead, SendEcho, GotEcho, GotReady, SendReady, TakeValue, GotReport, Freshen, GotDone, EndWrite, GotCaught, EndRead, Report, AnswerNow, Hold}
use Rattle.machine.proofs.Acts.{In, apply, Guard, Inner, Chain, stay, more, Fits}
use Rattle.machine.proofs.History.{History, no_history, known, note, Recorded, Later, later_refl, later_trans, act_recorded}
use Rattle.machine.proofs.Voices.{Truthful, Honest, act_truthful, never_ahead}
use Rattle.machine.proofs.Arrivals.{Arrivals, act_arrivals, arrivals_opened}
use Rattle.machine.proofs.Registers.{Sincere, SincereMessage, act_sincere}
use Rattle.machine.proofs.Pending.{Pending, act_pending, pending_opened}
use Rattle.machine.proofs.Freshness.{ReadsFresh, act_fresh}

-- how the stage of a station may go on while no operation of it begins or ends
abbrev pub Goes_on : {V : Type 0} → Stage V → Stage V → Type 0
Goes_on Idle o = o ≡ Idle
Goes_on (Writing x done) o = (more : ℕ) × (o ≡ Writing x more)
Goes_on {V} (Querying j r reported) o =
    ((more : ℕ) × (o ≡ Querying j r more)) ⊎ ((x : ℕ) × (v : V) × (done : ℕ) × (o ≡ Catching j x v done))
Goes_on (Catching j x v done) o = (more : ℕ) × (o ≡ Catching j x v more)

pub goes_on_refl : {V : Type 0} (o : Stage V) → Goes_on o o
goes_on_refl Idle = refl
goes_on_refl (Writing x done) = (done, refl)
goes_on_refl (Querying j r reported) = inl (reported, refl)
goes_on_refl (Catching j x v done) = (done, refl)

pub goes_on_trans : {V : Type 0} (o p q : Stage V) → Goes_on o p → Goes_on p q → Goes_on o q
goes_on_trans Idle p q a b = subst (λ z. Goes_on z q) a b
goes_on_trans (Writing x done) p q a b = subst (λ z. Goes_on z q) a.1 b
goes_on_trans (Querying j r reported) p q (inl a) b = subst (λ z. Goes_on z q) a.1 b
goes_on_trans (Querying j r reported) p q (inr a) b =
    let w = subst (λ z. Goes_on z q) a.3 b in inr (a.0, a.1, w.0, w.1)
goes_on_trans (Catching j x v done) p q a b = subst (λ z. Goes_on z q) a.1 b

module _ {V : Type 0} (c : Setting V) (f : ℕ) where
  -- An operation goes on

  pub record Steady (i : ℕ) (s t : State V) : Type 0 where
    pub stage : Goes_on (s.station i).stage (t.station i).stage
    pub written : (t.station i).written ≡ (s.station i).written
    pub reads : (j : ℕ) → t.reads i j ≡ s.reads i j

  steady_stage : (i a : ℕ) (o : Stage V) (s t : State V) → ((b : ℕ) → (t.station b).stage ≡ put a o (λ d. (s.station d).stage) b) → (t.station i).written ≡ (s.station i).written
      → t.reads ≡ s.reads → Goes_on (s.station a).stage o → Steady i s t
  steady_stage i a o s t es ew er g =
      record {
        stage = subst (Goes_on (s.station i).stage) (sym (es i))
            (put_all (λ b (z : Stage V). Goes_on (s.station b).stage z) a o (λ d. (s.station d).stage) (λ b. goes_on_refl (s.station b).stage) g i);
        written = ew;
        reads = λ j. ap (λ (z : ℕ → ℕ → ℕ). z i j) er;
      }

  pub steady_same : (i : ℕ) (s t : State V) → t.station i ≡ s.station i → ((j : ℕ) → t.reads i j ≡ s.reads i j) → Steady i s t
  steady_same i s t es er =
      record {
        stage = subst (λ (z : Station V). Goes_on (s.station i).stage z.stage) (sym es) (goes_on_refl (s.station i).stage);
        written = ap (λ (z : Station V). z.written) es;
        reads = er;
      }

  goes : (s : State V) (i : ℕ) (o o' : Stage V) → (s.station i).stage ≡ o → Goes_on o o' → Goes_on (s.station i).stage o'
  goes s i o o' e g = subst (λ z. Goes_on z o') (sym e) g

  act_steady : (i : ℕ) → In f i → (a : Act V) (s : State V) → Inner c f a → Guard c f a s → Steady i s (apply c f a s)
  act_steady i e (Elsewhere t) s n gd = steady_same i s t (gd.station_same i e) (λ j. gd.reads_same i j e)
  act_steady i e (Drop p m) s n gd = steady_same i s (apply c f (Drop p m) s) refl (λ j. refl)
  act_steady i e (StartWrite a v) s n gd = absurd n
  act_steady i e (StartRead a j) s n gd = absurd n
  act_steady i e (SendEcho p a j v) s n gd = steady_same i s (apply c f (SendEcho p a j v) s) refl (λ j. refl)
  act_steady i e (GotEcho p a j k v) s n gd = steady_same i s (apply c f (GotEcho p a j k v) s) refl (λ j. refl)
  act_steady i e (GotReady p a j k v) s n gd = steady_same i s (apply c f (GotReady p a j k v) s) refl (λ j. refl)
  act_steady i e (SendReady a j v) s n gd = steady_same i s (apply c f (SendReady a j v) s) refl (λ j. refl)
  act_steady i e (TakeValue a j v) s n gd = steady_same i s (apply c f (TakeValue a j v) s) refl (λ j. refl)
  act_steady i e (GotReport p a k j r x reported) s n gd =
      steady_stage i a (Querying j r (with_station reported k)) s (apply c f (GotReport p a k j r x reported) s) (λ b. refl) refl refl
      (goes s a (Querying j r reported) (Querying j r (with_station reported k)) gd.1 (inl (with_station reported k, refl)))
  act_steady i e (Freshen a j r reported) s n gd =
      steady_stage i a (Catching j (number s a j) (s.cell a j).copy.value 0) s (apply c f (Freshen a j r reported) s) (λ b. refl) refl refl
      (goes s a (Querying j r reported) (Catching j (number s a j) (s.cell a j).copy.value 0) gd.1 (inr (number s a j, (s.cell a j).copy.value, 0, refl)))
  act_steady i e (GotDone p a k x done) s n gd =
      steady_stage i a (Writing x (with_station done k)) s (apply c f (GotDone p a k x done) s) (λ b. refl) refl refl
      (goes s a (Writing x done) (Writing x (with_station done k)) gd.1 (with_station done k, refl))
  act_steady i e (EndWrite p a k x done) s n gd = absurd n
  act_steady i e (GotCaught p a k j x v done) s n gd =
      steady_stage i a (Catching j x v (with_station done k)) s (apply c f (GotCaught p a k j x v done) s) (λ b. refl) refl refl
      (goes s a (Catching j x v done) (Catching j x v (with_station done k)) gd.1 (with_station done k, refl))
  act_steady i e (EndRead p a k j x v done) s n gd = absurd n
  act_steady i e (Report p a k j r) s n gd = steady_same i s (apply c f (Report p a k j r) s) refl (λ j. refl)
  act_steady i e (AnswerNow p a k j x) s n gd = steady_same i s (apply c f (AnswerNow p a k j x) s) refl (λ j. refl)
  act_steady i e (Hold p a k j x) s n gd = steady_same i s (apply c f (Hold p a k j x) s) refl (λ j. refl)

  pub chain_steady : (i : ℕ) → In f i → {s t : State V} → Chain c f s t → Steady i s t
  chain_steady i e {s} stay = steady_same i s s refl (λ j. refl)
  chain_steady i e {s} {t} (more a n gd d) =
      let x = act_steady i e a s n gd in
      let y = chain_steady i e d in
      record {
        stage = goes_on_trans (s.station i).stage ((apply c f a s).station i).stage (t.station i).stage x.stage y.stage;
        written = y.written ∙ x.written;
        reads = λ j. y.reads j ∙ x.reads j;
      }

module _ {V : Type 0} (c : Setting V) (L : Lawful c) (f : ℕ) (ok : c.system.allowed f ≡ true) (v₀ : V) where
  act_figures : (a : Act V) (s : State V) → Guard c f a s → (apply c f a s).figures ≡ s.figures
  act_figures (Elsewhere t) s gd = gd.figures_same
  act_figures (Drop p m) s gd = refl
  act_figures (StartWrite i v) s gd = refl
  act_figures (StartRead i j) s gd = refl
  act_figures (SendEcho p i j v) s gd = refl
  act_figures (GotEcho p i j k v) s gd = refl
  act_figures (GotReady p i j k v) s gd = refl
  act_figures (SendReady i j v) s gd = refl
  act_figures (TakeValue i j v) s gd = refl
  act_figures (GotReport p i k j r x reported) s gd = refl
  act_figures (Freshen i j r reported) s gd = refl
  act_figures (GotDone p i k x done) s gd = refl
  act_figures (EndWrite p i k x done) s gd = refl
  act_figures (GotCaught p i k j x v done) s gd = refl
  act_figures (EndRead p i k j x v done) s gd = refl
  act_figures (Report p i k j r) s gd = refl
  act_figures (AnswerNow p i k j x) s gd = refl
  act_figures (Hold p i k j x) s gd = refl

  pub chain_figures : {s t : State V} → Chain c f s t → t.figures ≡ s.figures
  chain_figures stay = refl
  chain_figures {s} (more a n gd d) = chain_figures d ∙ act_figures a s gd

  -- Invariants

  pub record Holds (s : State V) (h : History V) : Type 0 where
    pub fits : Fits c f s
    pub recorded : Recorded c f v₀ s h
    pub truthful : Truthful c L f ok v₀ s h
    pub arrivals : Arrivals c L f ok v₀ s h
    pub sincere : Sincere c f v₀ s h
    pub pending : Pending c L f v₀ s

  -- what a call did to what is known
  abbrev pub On : State V → History V → State V → History V → Type 0
  On s h t g = Later c f v₀ (known s h) (known t g) × Holds t g

  pub act_holds : (a : Act V) (s : State V) (h : History V) → Guard c f a s → Holds s h → On s h (apply c f a s) (note c f v₀ a s h)
  act_holds a s h gd H =
      let r = act_recorded c f v₀ s h H.recorded a gd in (
        r.0,
        record {
          fits = subst (λ (z : Figures V). (z.stations ≡ c.system.stations) × Inside z.faulty f) (sym (act_figures a s gd)) H.fits;
          recorded = r.1;
          truthful = (act_truthful c L f ok v₀ s h H.recorded H.truthful H.fits.0 a gd).1;
          arrivals = act_arrivals c L f ok v₀ s h H.truthful H.arrivals H.fits.0 a gd;
          sincere = act_sincere c f v₀ s h H.recorded H.sincere a gd;
          pending = act_pending c L f v₀ s h H.sincere H.pending H.fits.0 (never_ahead c L f ok v₀ s h H.recorded H.truthful) a gd;
        },
      )

  -- an act that is no begin publishes nothing
  same_published : (a : Act V) (s : State V) (h : History V) → Inner c f a → (note c f v₀ a s h).published ≡ h.published
  same_published (Elsewhere t) s h n = refl
  same_published (Drop p m) s h n = refl
  same_published (StartWrite i v) s h n = absurd n
  same_published (StartRead i j) s h n = absurd n
  same_published (SendEcho p i j v) s h n = refl
  same_published (GotEcho p i j k v) s h n = refl
  same_published (GotReady p i j k v) s h n = refl
  same_published (SendReady i j v) s h n = refl
  same_published (TakeValue i j v) s h n = refl
  same_published (GotReport p i k j r x reported) s h n = refl
  same_published (Freshen i j r reported) s h n = refl
  same_published (GotDone p i k x done) s h n = refl
  same_published (EndWrite p i k x done) s h n = absurd n
  same_published (GotCaught p i k j x v done) s h n = refl
  same_published (EndRead p i k j x v done) s h n = absurd n
  same_published (Report p i k j r) s h n = refl
  same_published (AnswerNow p i k j x) s h n = refl
  same_published (Hold p i k j x) s h n = refl

  pub chain_holds : {s t : State V} (h : History V) → Chain c f s t → Holds s h
      → (g : History V) × On s h t g × (g.published ≡ h.published)
  chain_holds {s} h stay H = (h, (later_refl c f v₀ (known s h), H), refl)
  chain_holds {s} {t} h (more a n gd d) H =
      let w = act_holds a s h gd H in
      let r = chain_holds (note c f v₀ a s h) d w.1 in
      (r.0, (later_trans c f v₀ (known s h) (known (apply c f a s) (note c f v₀ a s h)) (known t r.0) w.0 r.1.0, r.1.1), r.2 ∙ same_published a s h n)

  pub chain_fresh : (i j r : ℕ) (base : ℕ → ℕ) → In f i → {s t : State V} (h : History V) → Chain c f s t → Holds s h
      → ReadsFresh c L f ok v₀ i j r base s → ReadsFresh c L f ok v₀ i j r base t
  chain_fresh i j r base e h stay H A = A
  chain_fresh i j r base e {s} h (more a n gd d) H A =
      chain_fresh i j r base e (note c f v₀ a s h) d (act_holds a s h gd H).1
      (act_fresh c L f ok v₀ i j r base e s h H.recorded H.sincere A H.fits.0 a gd)

-- only number 0 is taken, as the opening value
taken_not : {V : Type 0} (v : V) (x : ℕ) → 0 < x → cond (eqb x 0) (Some v) None ≡ None
taken_not v x l = grind (arith, nat_tests)

taken_zero : {V : Type 0} (v : V) (x : ℕ) → x ≤ 0 → cond (eqb x 0) (Some v) None ≡ Some v
taken_zero v x l = grind (arith, nat_tests)

-- as the bench opens
module _ {V : Type 0} (c : Setting V) (L : Lawful c) (o : Opening V) (ok : c.system.allowed o.faulty ≡ true) where
  pub holds_opened : Holds c L o.faulty ok o.value (opened c o) (no_history o.value)
  unfolding no_history
  holds_opened =
      record {
        fits = (refl, λ s e. e);
        recorded = record {
          taken = λ i j e. record {
            zero_is = refl;
            now_is = refl;
            ahead_is = λ x l. taken_not o.value x l;
            past_is = λ x l. (o.value, taken_zero o.value x l);
          };
          wrote = λ i e. record { zero_is = refl; ahead_is = λ x l. refl; past_is = λ x l u. absurd (omega arith) };
        };
        truthful = record {
          honest = All-nil (Honest c L o.faulty ok o.value (no_history o.value));
          marks = λ i j e. record {
            echo_ahead = λ x l. refl;
            echo_unsaid = λ q. refl;
            echo_said = λ q. absurd (grind arith);
            ready_ahead = λ x l. refl;
            ready_unsaid = λ q. refl;
            ready_said = λ q. absurd (grind arith);
            ready_past = λ x l u. absurd (omega arith);
          };
          votes = λ i j e. record { echo_votes = λ k v q _. absurd (grind arith); ready_votes = λ k v q _. absurd (grind arith) };
          reasons = λ i j e. record {
            echo_why = λ x v q _. absurd (grind arith);
            ready_why = λ x v q. absurd (grind arith);
            took_why = λ x v q l. absurd (let z = taken_not o.value x l in grind arith);
          };
        };
        arrivals = arrivals_opened c L o ok;
        sincere = record { messages = All-nil (SincereMessage c o.faulty o.value (known (opened c o) (no_history o.value))); stages = λ i e. tt; current = λ i e. tt };
        pending = pending_opened c L o.faulty o.value o;
      }
