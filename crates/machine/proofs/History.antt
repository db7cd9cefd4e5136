-- What the tables forget: what stations inside have published, said and taken. A history only grows.
use Rattle.std.proofs.Common.{◌≡◌, ℕ, suc, ◌<◌, ◌≤◌, cond, eqb, Some, None, Option, sym, refl, ap, ◌∙◌, subst, ap₂, ⊎_elim, arith}
use Rattle.std.proofs.lemmas.Bool.{cases_lt, cases_eq}
use Rattle.std.proofs.lemmas.Bool.Decides.{nat_tests}
use Rattle.machine.specs.State.{Setting, Cell, State, number, put, put_pair, fresh_cell}
use Rattle.machine.specs.declared.station.Station.{Station}
use Rattle.machine.proofs.Tables.{put_same, put_other, put_grows, put_pair_all, put_pair_both, put_pair_same, put_pair_grows}
use Rattle.machine.proofs.Acts.{Act, Elsewhere, Drop, StartWrite, StartRead, SendEcho, GotEcho, GotReady, SendReady, TakeValue, GotReport, Freshen, GotDone, EndWrite, GotCaught, EndRead, Report, AnswerNow, Hold}
use Rattle.machine.proofs.Acts.{In, apply, Guard, Foreign}
use Rattle.machine.proofs.Frames.{Casts, Asks, casts_send_echo, casts_got_echo, casts_got_ready, casts_send_ready, asks_begin_read, asks_got_report, asks_freshen, asks_got_done, asks_end_write, asks_got_caught, asks_end_read, asks_report, asks_answer, asks_hold}

pub record History (V : Type 0) : Type 0 where
  -- published i x: the value of station i's write x
  pub published : ℕ → ℕ → Option V
  -- echoed i j x, readied i j x: what station i said in ECHO and READY of number x of register j
  pub echoed : ℕ → ℕ → ℕ → Option V
  pub readied : ℕ → ℕ → ℕ → Option V
  -- took i j x: what station i took as write x of register j; at 0 the opening value
  pub took : ℕ → ℕ → ℕ → Option V

-- as a bench opens: nothing is said, and the opening value counts as number 0
unfoldable pub no_history : {V : Type 0} → V → History V
no_history v =
    record {
      published = λ i x. None;
      echoed = λ i j x. None;
      readied = λ i j x. None;
      took = λ i j x. cond (eqb x 0) (Some v) None;
    }

abbrev pub Keeps : {A : Type 0} → (ℕ → Option A) → (ℕ → Option A) → Type 0
Keeps {A} g h = (x : ℕ) (v : A) → g x ≡ Some v → h x ≡ Some v

-- what is known at two moments, with how far each station is
pub record Known (V : Type 0) : Type 0 where
  pub history : History V
  pub numbers : ℕ → ℕ → ℕ
  pub reads : ℕ → ℕ → ℕ

abbrev pub known : {V : Type 0} → State V → History V → Known V
known s h = record { history = h; numbers = λ i j. number s i j; reads = s.reads }

module _ {V : Type 0} (c : Setting V) (f : ℕ) (v₀ : V) where
  abbrev pub note : Act V → State V → History V → History V
  note (Elsewhere t) s h = h
  note (Drop p m) s h = h
  note (StartWrite i v) s h =
      record { published = put_pair i (suc (s.station i).written) (Some v) h.published; echoed = h.echoed; readied = h.readied; took = h.took }
  note (StartRead i j) s h = h
  note (SendEcho p i j v) s h =
      record {
        published = h.published;
        echoed = put_pair i j (put (suc (number s i j)) (Some v) (h.echoed i j)) h.echoed;
        readied = h.readied;
        took = h.took;
      }
  note (GotEcho p i j k v) s h = h
  note (GotReady p i j k v) s h = h
  note (SendReady i j v) s h =
      record {
        published = h.published;
        echoed = h.echoed;
        readied = put_pair i j (put (suc (number s i j)) (Some v) (h.readied i j)) h.readied;
        took = h.took;
      }
  note (TakeValue i j v) s h =
      record {
        published = h.published;
        echoed = h.echoed;
        readied = h.readied;
        took = put_pair i j (put (suc (number s i j)) (Some v) (h.took i j)) h.took;
      }
  note (GotReport p i k j r x reported) s h = h
  note (Freshen i j r reported) s h = h
  note (GotDone p i k x done) s h = h
  note (EndWrite p i k x done) s h = h
  note (GotCaught p i k j x v done) s h = h
  note (EndRead p i k j x v done) s h = h
  note (Report p i k j r) s h = h
  note (AnswerNow p i k j x) s h = h
  note (Hold p i k j x) s h = h

  -- a copy is what was taken last, and all before it was taken
  pub record Taken (z : Cell V) (took : ℕ → Option V) : Type 0 where
    pub zero_is : took 0 ≡ Some v₀
    pub now_is : took z.copy.number ≡ Some z.copy.value
    pub ahead_is : (x : ℕ) → z.copy.number < x → took x ≡ None
    pub past_is : (x : ℕ) → x ≤ z.copy.number → (v : V) × (took x ≡ Some v)

  -- the numbers written so far are published, and no others
  pub record Published (written : ℕ) (published : ℕ → Option V) : Type 0 where
    pub zero_is : published 0 ≡ None
    pub ahead_is : (x : ℕ) → written < x → published x ≡ None
    pub past_is : (x : ℕ) → 0 < x → x ≤ written → (v : V) × (published x ≡ Some v)

  pub record Recorded (s : State V) (h : History V) : Type 0 where
    pub taken : (i j : ℕ) → In f i → Taken (s.cell i j) (h.took i j)
    pub wrote : (i : ℕ) → In f i → Published (s.station i).written (h.published i)

  -- what only grows; numbers of stations outside are not spoken of
  pub record Later (K L : Known V) : Type 0 where
    pub published : (i : ℕ) → Keeps (K.history.published i) (L.history.published i)
    pub took : (i j : ℕ) → Keeps (K.history.took i j) (L.history.took i j)
    pub numbers : (i j : ℕ) → In f i → K.numbers i j ≤ L.numbers i j
    pub reads : (i j : ℕ) → In f i → K.reads i j ≤ L.reads i j

  pub later_refl : (K : Known V) → Later K K
  later_refl K = record { published = λ i x v e. e; took = λ i j x v e. e; numbers = λ i j _. omega arith; reads = λ i j _. omega arith }

  pub later_trans : (K L M : Known V) → Later K L → Later L M → Later K M
  later_trans K L M a b =
      record {
        published = λ i x v e. b.published i x v (a.published i x v e);
        took = λ i j x v e. b.took i j x v (a.took i j x v e);
        numbers = λ i j h. omega (arith, a.numbers i j h, b.numbers i j h);
        reads = λ i j h. omega (arith, a.reads i j h, b.reads i j h);
      }

  taken_like : (z z' : Cell V) (took : ℕ → Option V) → z'.copy.number ≡ z.copy.number → z'.copy.value ≡ z.copy.value → Taken z took → Taken z' took
  taken_like z z' took e e' w =
      record {
        zero_is = w.zero_is;
        now_is = ap took e ∙ w.now_is ∙ ap (λ v. Some v) (sym e');
        ahead_is = λ x l. w.ahead_is x (omega arith);
        past_is = λ x l. w.past_is x (omega arith);
      }

  published_like : (m m' : ℕ) (g : ℕ → Option V) → m' ≡ m → Published m g → Published m' g
  published_like m m' g e w = record { zero_is = w.zero_is; ahead_is = λ x l. w.ahead_is x (omega arith); past_is = λ x l u. w.past_is x l (omega arith) }

  abbrev pub Kept : State V → History V → State V → History V → Type 0
  Kept s h t g = Later (known s h) (known t g) × Recorded t g

  module _ (s : State V) (h : History V) (R : Recorded s h) where
    kept_foreign : (t : State V) → Foreign c f s t → Kept s h t h
    kept_foreign t w = (
      record {
        published = λ i x v e. e;
        took = λ i j x v e. e;
        numbers = λ i j e. omega (arith, ap (λ (z : Cell V). z.copy.number) (w.cell_same i j e));
        reads = λ i j e. omega (arith, w.reads_same i j e);
      },
      record {
        taken = λ i j e. subst (λ (z : Cell V). Taken z (h.took i j)) (sym (w.cell_same i j e)) (R.taken i j e);
        wrote = λ i e. published_like _ _ (h.published i) (ap (λ (z : Station V). z.written) (w.station_same i e)) (R.wrote i e);
      },
    )

    kept_casts : (t : State V) → Casts c f s t → (g : History V) → g.published ≡ h.published → g.took ≡ h.took → Kept s h t g
    kept_casts t w g e e' = (
      record {
        published = λ i x v q. ap (λ (p : ℕ → ℕ → Option V). p i x) e ∙ q;
        took = λ i j x v q. ap (λ (p : ℕ → ℕ → ℕ → Option V). p i j x) e' ∙ q;
        numbers = λ i j _. omega (arith, w.number_same i j);
        reads = λ i j _. omega (arith, w.reads_same i j);
      },
      record {
        taken = λ i j q. subst (λ (p : ℕ → ℕ → ℕ → Option V). Taken (t.cell i j) (p i j)) (sym e')
            (taken_like _ _ (h.took i j) (w.number_same i j) (w.value_same i j) (R.taken i j q));
        wrote = λ i q. subst (λ (p : ℕ → ℕ → Option V). Published (t.station i).written (p i)) (sym e)
            (published_like _ _ (h.published i) (ap (λ (z : Station V). z.written) (w.station_same i)) (R.wrote i q));
      },
    )

    kept_asks : (t : State V) → Asks c f s t → ((i j : ℕ) → s.reads i j ≤ t.reads i j) → Kept s h t h
    kept_asks t w le = (
      record {
        published = λ i x v e. e;
        took = λ i j x v e. e;
        numbers = λ i j _. omega (arith, ap (λ (z : Cell V). z.copy.number) (w.cell_same i j));
        reads = λ i j _. le i j;
      },
      record {
        taken = λ i j e. subst (λ (z : Cell V). Taken z (h.took i j)) (sym (w.cell_same i j)) (R.taken i j e);
        wrote = λ i e. published_like _ _ (h.published i) (w.written_same i) (R.wrote i e);
      },
    )

    kept_begin_write : (i : ℕ) (v : V) → In f i → Kept s h (apply c f (StartWrite i v) s) (note (StartWrite i v) s h)
    kept_begin_write i v e =
        let x : ℕ = suc (s.station i).written in
        let w : Published (s.station i).written (h.published i) = R.wrote i e in (
          record {
            published = λ a y u q. put_pair_grows h.published i x v (w.ahead_is x (omega arith)) a y u q;
            took = λ a b y u q. q;
            numbers = λ a b _. omega arith;
            reads = λ a b _. omega arith;
          },
          record { taken = R.taken; wrote = λ a q. record { zero_is = none a q; ahead_is = ahead a q; past_is = past a q } },
        )
      where
        none : (a : ℕ) → In f a → put_pair i (suc (s.station i).written) (Some v) h.published a 0 ≡ None
        none a q = let o = (R.wrote a q).zero_is in grind (arith, nat_tests)

        ahead : (a : ℕ) → In f a → (y : ℕ) → put i (suc (s.station i).written) (λ b. (s.station b).written) a < y
            → put_pair i (suc (s.station i).written) (Some v) h.published a y ≡ None
        ahead a q y l = let o = (R.wrote a q).ahead_is y in grind (arith, nat_tests)

        past : (a : ℕ) → In f a → (y : ℕ) → 0 < y → y ≤ put i (suc (s.station i).written) (λ b. (s.station b).written) a
            → (u : V) × (put_pair i (suc (s.station i).written) (Some v) h.published a y ≡ Some u)
        past a q y l u =
            ⊎_elim
            (λ new. ⊎_elim
            (λ ai. let y' : y ≡ suc (s.station i).written = omega (arith, new, u, ap (put i (suc (s.station i).written) (λ b. (s.station b).written)) ai, put_same (λ b. (s.station b).written) i (suc (s.station i).written), ap (λ b. (s.station b).written) ai) in
            (v, ap₂ (put_pair i (suc (s.station i).written) (Some v) h.published) ai y' ∙ put_pair_same h.published i (suc (s.station i).written) (Some v)))
            (λ ne. absurd (omega (arith, new, u, put_other (λ b. (s.station b).written) i (suc (s.station i).written) a ne)))
            (cases_eq a i))
            (λ old. let o = (R.wrote a q).past_is y l old in
            (o.0, put_pair_grows h.published i (suc (s.station i).written) v ((R.wrote i e).ahead_is (suc (s.station i).written) (omega arith)) a y o.0 o.1))
            (cases_lt (s.station a).written y)

    kept_take_value : (i j : ℕ) (v : V) → In f i → Kept s h (apply c f (TakeValue i j v) s) (note (TakeValue i j v) s h)
    kept_take_value i j v e =
        let x : ℕ = suc (number s i j) in
        let w : Taken (s.cell i j) (h.took i j) = R.taken i j e in
        let g : ℕ → Option V = put x (Some v) (h.took i j) in
        let z : Cell V = fresh_cell v x in (
          record {
            published = λ a y u q. q;
            took = put_pair_all (λ a b (p : ℕ → Option V). Keeps (h.took a b) p) i j g h.took (λ a b y u q. q)
                (put_grows (h.took i j) x v (w.ahead_is x (omega arith)));
            numbers = λ a b _. put_pair_all (λ a b (y : Cell V). number s a b ≤ y.copy.number) i j z s.cell (λ a b. omega arith) (omega arith) a b;
            reads = λ a b _. omega arith;
          },
          record {
            taken = put_pair_both (λ a b (y : Cell V) (p : ℕ → Option V). In f a → Taken y p) i j z g s.cell h.took R.taken
                (λ _. record {
                  zero_is = put_other (h.took i j) x (Some v) 0 (omega arith) ∙ w.zero_is;
                  now_is = put_same (h.took i j) x (Some v);
                  ahead_is = λ y l. put_other (h.took i j) x (Some v) y (omega arith) ∙ w.ahead_is y (omega arith);
                  past_is = λ y l. ⊎_elim
                      (λ lt. let o = w.past_is y (omega arith) in (o.0, put_other (h.took i j) x (Some v) y (omega arith) ∙ o.1))
                      (λ ge. let q : x ≡ y = omega arith in (v, ap g (sym q) ∙ put_same (h.took i j) x (Some v))) (cases_lt y x);
                });
            wrote = R.wrote;
          },
        )

    same_reads : (i j : ℕ) → s.reads i j ≤ s.reads i j
    same_reads i j = omega arith

    pub act_recorded : (a : Act V) → Guard c f a s → Kept s h (apply c f a s) (note a s h)
    act_recorded (Elsewhere t) gd = kept_foreign t gd
    act_recorded (Drop p m) gd = (later_refl (known s h), record { taken = R.taken; wrote = R.wrote })
    act_recorded (StartWrite i v) gd = kept_begin_write i v gd.0
    act_recorded (StartRead i j) gd =
        kept_asks (apply c f (StartRead i j) s) (asks_begin_read c f i j s)
        (put_pair_all (λ a b x. s.reads a b ≤ x) i j (suc (s.reads i j)) s.reads (λ a b. omega arith) (omega arith))
    act_recorded (SendEcho p i j v) gd = kept_casts _ (casts_send_echo c f p i j v s gd) (note (SendEcho p i j v) s h) refl refl
    act_recorded (GotEcho p i j k v) gd = kept_casts _ (casts_got_echo c f p i j k v s gd) h refl refl
    act_recorded (GotReady p i j k v) gd = kept_casts _ (casts_got_ready c f p i j k v s gd) h refl refl
    act_recorded (SendReady i j v) gd = kept_casts _ (casts_send_ready c f i j v s) (note (SendReady i j v) s h) refl refl
    act_recorded (TakeValue i j v) gd = kept_take_value i j v gd.0
    act_recorded (GotReport p i k j r x reported) gd = kept_asks _ (asks_got_report c f p i k j r x reported s gd) same_reads
    act_recorded (Freshen i j r reported) gd = kept_asks _ (asks_freshen c f i j r reported s) same_reads
    act_recorded (GotDone p i k x done) gd = kept_asks _ (asks_got_done c f p i k x done s gd) same_reads
    act_recorded (EndWrite p i k x done) gd = kept_asks _ (asks_end_write c f p i k x done s gd) same_reads
    act_recorded (GotCaught p i k j x v done) gd = kept_asks _ (asks_got_caught c f p i k j x v done s gd) same_reads
    act_recorded (EndRead p i k j x v done) gd = kept_asks _ (asks_end_read c f p i k j x v done s gd) same_reads
    act_recorded (Report p i k j r) gd = kept_asks _ (asks_report c f p i k j r s gd) same_reads
    act_recorded (AnswerNow p i k j x) gd = kept_asks _ (asks_answer c f p i k j x s gd) same_reads
    act_recorded (Hold p i k j x) gd = kept_asks _ (asks_hold c f p i k j x s gd) same_reads
