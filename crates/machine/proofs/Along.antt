-- Along a run: histories, operations from their beginning to their end, and what was taken when.
use Rattle.std.proofs.Common.{◌≡◌, ℕ, zero, suc, ◌+◌, ◌<◌, ◌≤◌, Bool, true, false, ◌&&◌, ◌||◌, ◌⊎◌, List, [], ◌∷◌, length, take, Some, None, Option, sym, refl, ap, ◌∙◌, subst, inl, inr, ⊎_elim, arith, Ok, Result}
use Rattle.decline.specs.declared.Decline.{Decline}
use Rattle.std.specs.List.{slice_get}
use Rattle.std.proofs.lemmas.Bool.{and_right, both_ways, cases_lt, and_from, eq-eqb, cases_Bool}
use Rattle.station_set.specs.Below.{count_below}
use Rattle.station_set.proofs.Below.{count_none, count_more_yes, count_more_no}
use Rattle.machine.specs.declared.station.Stage.{Stage}
use Rattle.machine.specs.declared.station.Stage.TheVariants.{Idle, Writing, Querying, Catching}
use Rattle.machine.specs.declared.call.Call.{Call}
use Rattle.machine.specs.declared.call.Call.TheVariants.{BeginWrite, BeginRead}
use Rattle.machine.specs.declared.call.Answer.{Answer}
use Rattle.machine.specs.declared.call.Answer.TheVariants.{Done, WriteEnded, ReadEnded}
use Rattle.machine.specs.State.{Setting, Lawful, State, number, put_pair, with_stage, remove}
use Rattle.machine.specs.Operations.{Outcome}
use Rattle.machine.specs.Calls.{step, run, answers, opened, begin_write, begin_read}
use Rattle.machine.specs.Runs.{Run, after, call_at, answer_at, is_done, is_write_of, is_read_of, begins_write, begins_operation, WriteBegins, ReadBegins, ends_operation, NoneEnds, CompletedWrite, CompletedRead, Takes}
use Rattle.machine.proofs.Tables.{put_same, put_pair_from}
use Rattle.machine.proofs.Acts.{In, StartWrite, StartRead, EndWrite, EndRead, Guard, Stepped, went, wrote, asked, quietly, write_ends, read_ends, stepped}
use Rattle.machine.proofs.History.{History, no_history, known, Later, later_refl, later_trans}
use Rattle.machine.proofs.Registers.{SincereStage}
use Rattle.machine.proofs.Moments.{Goes_on, Steady, Holds, On, act_holds, chain_holds, holds_opened, goes_on_refl}
use Rattle.machine.proofs.Progress.{Progress, goes_on, writes, asks, ends_write, ends_read, progress}
use Rattle.machine.proofs.Raises.{raised}

-- a fact that lasts from one number to the next lasts
pub climb : (P : ℕ → Type 0) (p q : ℕ) → p ≤ q → ((m : ℕ) → p ≤ m → m < q → P m → P (suc m)) → P p → P q
climb P p zero l up h = let e : p ≡ 0 = omega arith in subst P e h
climb P p (suc q) l up h =
    ⊎_elim (λ lt. up q (omega arith) (omega arith) (climb P p q (omega arith) (λ m u w. up m u (omega arith)) h))
    (λ ge. let e : p ≡ suc q = omega arith in subst P e h) (cases_lt p (suc q))

-- one call of a run, or none
abbrev pub Made : {V : Type 0} → Setting V → State V → List (Call V) → ℕ → Type 0
Made {V} c s calls p =
    ((call : Call V) × (slice_get calls p ≡ Some call) × (run c s (take (suc p) calls) ≡ (step c (run c s (take p calls)) call).state)
    × (slice_get (answers c s calls) p ≡ Some (step c (run c s (take p calls)) call).answer))
    ⊎ ((slice_get calls p ≡ None) × (run c s (take (suc p) calls) ≡ run c s (take p calls)) × (slice_get (answers c s calls) p ≡ None))

pub made : {V : Type 0} (c : Setting V) (s : State V) (calls : List (Call V)) (p : ℕ) → Made c s calls p
made c s [] zero = inr (refl, refl, refl)
made c s [] (suc p) = inr (refl, refl, refl)
made c s (call ∷ calls) zero = inl (call, refl, refl, refl)
made c s (call ∷ calls) (suc p) = made c (step c s call).state calls p

pub past_end : {V : Type 0} (c : Setting V) (s : State V) (calls : List (Call V)) (p : ℕ) → length calls ≤ p → run c s (take p calls) ≡ run c s calls
past_end c s [] zero l = refl
past_end c s [] (suc p) l = refl
past_end c s (call ∷ calls) zero l = absurd (omega arith)
past_end c s (call ∷ calls) (suc p) l = past_end c (step c s call).state calls p (omega arith)

pub no_answer : {V : Type 0} (c : Setting V) (s : State V) (calls : List (Call V)) (p : ℕ) (a : Result (Answer V) Decline) → slice_get (answers c s calls) p ≡ Some a → p < length calls
no_answer c s [] p a e = absurd (grind arith)
no_answer c s (call ∷ calls) zero a e = omega arith
no_answer c s (call ∷ calls) (suc p) a e = let l = no_answer c (step c s call).state calls p a e in omega arith

next_yes : (n : ℕ) (t : ℕ → Bool) → t n ≡ true → count_below (suc n) t ≡ suc (count_below n t)
next_yes n t e = let q : suc n ≡ n + 1 = omega arith in ap (λ z. count_below z t) q ∙ omega (arith, count_more_yes n t e)

next_no : (n : ℕ) (t : ℕ → Bool) → t n ≡ false → count_below (suc n) t ≡ count_below n t
next_no n t e = let q : suc n ≡ n + 1 = omega arith in ap (λ z. count_below z t) q ∙ count_more_no n t e

count_up : (t : ℕ → Bool) (p q : ℕ) → p ≤ q → count_below p t ≤ count_below q t
count_up t p q l =
    climb (λ m. count_below p t ≤ count_below m t) p q l
    (λ m _ _ w. ⊎_elim (λ e. omega (arith, w, next_yes m t e)) (λ e. omega (arith, w, next_no m t e)) (cases_Bool (t m))) (omega arith)

either : (a b d : Bool) → ((a || b) && d) ≡ false → (a && d) ≡ false
either true b d e = e
either false b d e = refl

module _ {V : Type 0} (R : Run V) (L : Lawful R.setting) (ok : R.setting.system.allowed R.opening.faulty ≡ true) where
  abbrev c : Setting V
  c = R.setting

  abbrev pub f : ℕ
  f = R.opening.faulty

  abbrev pub v₀ : V
  v₀ = R.opening.value

  abbrev pub Held : State V → History V → Type 0
  Held s h = Holds c L f ok v₀ s h

  -- Histories

  -- what a call did to the history: it published nothing, or one value
  abbrev Publishes : ℕ → History V → History V → Type 0
  Publishes p h g =
      (g.published ≡ h.published)
      ⊎ ((i : ℕ) × (v : V) × In f i × (call_at R p ≡ Some (BeginWrite i v)) × (answer_at R p ≡ Some (Ok Done))
      × (g.published ≡ put_pair i (suc ((after R p).station i).written) (Some v) h.published))

  record Next (p : ℕ) (h g : History V) : Type 0 where
    later : Later c f v₀ (known (after R p) h) (known (after R (suc p)) g)
    holds : Held (after R (suc p)) g
    publishes : Publishes p h g

  -- the same of an outcome
  record NextOf (s : State V) (h : History V) (call : Call V) (o : Outcome V) (g : History V) : Type 0 where
    on : On c L f ok v₀ s h o.state g
    published :
        (g.published ≡ h.published)
        ⊎ ((i : ℕ) × (v : V) × In f i × (call ≡ BeginWrite i v) × (o.answer ≡ Ok Done) × (g.published ≡ put_pair i (suc (s.station i).written) (Some v) h.published))

  next_of : (s : State V) (h : History V) → Held s h → (call : Call V) (o : Outcome V) → Stepped c f s call o → (g : History V) × NextOf s h call o g
  next_of s h H call o (went (quietly d silent)) = let w = chain_holds c L f ok v₀ h d H in (w.0, record { on = w.1; published = inl w.2 })
  next_of s h H call o (went (write_ends p i k x done gd)) = (h, record { on = act_holds c L f ok v₀ (EndWrite p i k x done) s h gd H; published = inl refl })
  next_of s h H call o (went (read_ends p i k j x v done gd)) = (h, record { on = act_holds c L f ok v₀ (EndRead p i k j x v done) s h gd H; published = inl refl })
  next_of s h H call o (wrote i v e gd) =
      (_, record { on = act_holds c L f ok v₀ (StartWrite i v) s h gd H; published = inr (i, v, gd.0, refl, refl, refl) })
  next_of s h H call o (asked i j e gd) = (h, record { on = act_holds c L f ok v₀ (StartRead i j) s h gd H; published = inl refl })

  next : (p : ℕ) (h : History V) → Held (after R p) h → (g : History V) × Next p h g
  next p h H =
      ⊎_elim
      (λ m.
      let w = next_of (after R p) h H m.0 (step c (after R p) m.0) (stepped c f (after R p) H.fits m.0) in (
        w.0,
        record {
          later = subst (λ t. Later c f v₀ (known (after R p) h) (known t w.0)) (sym m.2) w.1.on.0;
          holds = subst (λ t. Held t w.0) (sym m.2) w.1.on.1;
          publishes = ⊎_elim inl
              (λ q. inr (q.0, q.1, q.2, m.1 ∙ ap (λ z. Some z) q.3, m.3 ∙ ap (λ z. Some z) q.4, q.5)) w.1.published;
        },
      ))
      (λ m. (
        h,
        record {
          later = subst (λ t. Later c f v₀ (known (after R p) h) (known t h)) (sym m.1) (later_refl c f v₀ (known (after R p) h));
          holds = subst (λ t. Held t h) (sym m.1) H;
          publishes = inl refl;
        },
      ))
      (made c (opened c R.opening) R.calls p)

  at : (p : ℕ) → (h : History V) × Held (after R p) h
  at zero = (no_history v₀, holds_opened c L R.opening ok)
  at (suc p) = let w = next p (at p).0 (at p).1 in (w.0, w.1.holds)

  pub history_at : ℕ → History V
  history_at p = (at p).0

  pub holds_at : (p : ℕ) → Held (after R p) (history_at p)
  unfolding history_at
  holds_at p = (at p).1

  next_at : (p : ℕ) → Next p (history_at p) (history_at (suc p))
  unfolding history_at at
  next_at p = (next p (at p).0 (at p).1).1

  pub later_at : (p q : ℕ) → p ≤ q → Later c f v₀ (known (after R p) (history_at p)) (known (after R q) (history_at q))
  later_at p q l =
      climb (λ m. Later c f v₀ (known (after R p) (history_at p)) (known (after R m) (history_at m))) p q l
      (λ m _ _ w. later_trans c f v₀ _ _ _ w (next_at m).later) (later_refl c f v₀ _)

  pub sized_at : (p : ℕ) → (after R p).figures.stations ≡ c.system.stations
  sized_at p = (holds_at p).fits.0

  pub numbers_rise : (p q k j : ℕ) → p ≤ q → In f k → number (after R p) k j ≤ number (after R q) k j
  numbers_rise p q k j l e = (later_at p q l).numbers k j e

  -- Operations

  -- what call p does to the operation of station i
  pub data Along (i p : ℕ) : Type 0 where
    goes : Steady c f i (after R p) (after R (suc p)) → ends_operation i (answer_at R p) ≡ false → begins_operation R i p ≡ false → Along i p
    begins_writing : (v : V) → call_at R p ≡ Some (BeginWrite i v) → answer_at R p ≡ Some (Ok Done) → i < c.system.stations → ((after R p).station i).stage ≡ Idle
        → after R (suc p) ≡ begin_write i v (after R p) → Along i p
    begins_reading : (j : ℕ) → call_at R p ≡ Some (BeginRead i j) → answer_at R p ≡ Some (Ok Done) → i < c.system.stations → ((after R p).station i).stage ≡ Idle
        → after R (suc p) ≡ begin_read i j (after R p) → Along i p
    ends_writing : (q k x done : ℕ) → Guard c f (EndWrite q i k x done) (after R p) → answer_at R p ≡ Some (Ok (WriteEnded i x))
        → after R (suc p) ≡ with_stage i Idle (remove q (after R p)) → Along i p
    ends_reading : (q k j x : ℕ) (v : V) (done : ℕ) → Guard c f (EndRead q i k j x v done) (after R p) → answer_at R p ≡ Some (Ok (ReadEnded i j x v))
        → after R (suc p) ≡ with_stage i Idle (remove q (after R p)) → Along i p

  along_call : (i p : ℕ) → In f i → (call : Call V) → call_at R p ≡ Some call → after R (suc p) ≡ (step c (after R p) call).state
      → answer_at R p ≡ Some (step c (after R p) call).answer → Progress c f i (after R p) call (step c (after R p) call) → Along i p
  along_call i p e call ec et ea (goes_on w n b) =
      goes (subst (Steady c f i (after R p)) (sym et) w) (ap (ends_operation i) ea ∙ n)
      (ap (λ z. (is_write_of i z || is_read_of i z) && is_done (answer_at R p)) ec
      ∙ ap (λ z. (is_write_of i (Some call) || is_read_of i (Some call)) && is_done z) ea ∙ b)
  along_call i p e call ec et ea (writes v q d l idle t) =
      begins_writing v (ec ∙ ap (λ z. Some z) q) (ea ∙ ap (λ z. Some z) d) (omega (arith, l, sized_at p)) idle (et ∙ t)
  along_call i p e call ec et ea (asks j q d l idle t) =
      begins_reading j (ec ∙ ap (λ z. Some z) q) (ea ∙ ap (λ z. Some z) d) (omega (arith, l, sized_at p)) idle (et ∙ t)
  along_call i p e call ec et ea (ends_write q k x done gd d t) = ends_writing q k x done gd (ea ∙ ap (λ z. Some z) d) (et ∙ t)
  along_call i p e call ec et ea (ends_read q k j x v done gd d t) = ends_reading q k j x v done gd (ea ∙ ap (λ z. Some z) d) (et ∙ t)

  pub along : (i p : ℕ) → In f i → Along i p
  along i p e =
      ⊎_elim
      (λ m. along_call i p e m.0 m.1 m.2 m.3 (progress c f i e (after R p) (holds_at p).fits m.0))
      (λ m. goes
      (subst (Steady c f i (after R p)) (sym m.1) (record { stage = goes_on_refl ((after R p).station i).stage; written = refl; reads = λ j. refl }))
      (ap (ends_operation i) m.2)
      (ap (λ z. (is_write_of i z || is_read_of i z) && is_done (answer_at R p)) m.0))
      (made c (opened c R.opening) R.calls p)

  -- Numbers of writes

  written_step : (i p : ℕ) → In f i → ((after R p).station i).written ≡ count_below p (begins_write R i) → Along i p
      → ((after R (suc p)).station i).written ≡ count_below (suc p) (begins_write R i)
  written_step i p e old (goes w n b) = w.written ∙ old ∙ sym (next_no p (begins_write R i) (either (is_write_of i (call_at R p)) (is_read_of i (call_at R p)) (is_done (answer_at R p)) b))
  written_step i p e old (begins_writing v ec ea l idle t) =
      let b : begins_write R i p ≡ true = and_from _ _ (ap (is_write_of i) ec ∙ eq-eqb i i refl) (ap is_done ea) in
      ap (λ (s : State V). (s.station i).written) t ∙ put_same (λ a. ((after R p).station a).written) i (suc ((after R p).station i).written)
      ∙ ap suc old ∙ sym (next_yes p (begins_write R i) b)
  written_step i p e old (begins_reading j ec ea l idle t) =
      ap (λ (s : State V). (s.station i).written) t ∙ old ∙ sym (next_no p (begins_write R i) (ap (λ z. is_write_of i z && is_done (answer_at R p)) ec))
  written_step i p e old (ends_writing q k x done gd ea t) =
      ap (λ (s : State V). (s.station i).written) t ∙ old
      ∙ sym (next_no p (begins_write R i) (ap (λ z. is_write_of i (call_at R p) && is_done z) ea ∙ and_right (is_write_of i (call_at R p)) false refl))
  written_step i p e old (ends_reading q k j x v done gd ea t) =
      ap (λ (s : State V). (s.station i).written) t ∙ old
      ∙ sym (next_no p (begins_write R i) (ap (λ z. is_write_of i (call_at R p) && is_done z) ea ∙ and_right (is_write_of i (call_at R p)) false refl))

  -- the number of the last write is how many writes were begun
  pub written_count : (i p : ℕ) → In f i → ((after R p).station i).written ≡ count_below p (begins_write R i)
  written_count i zero e = sym (count_none (begins_write R i))
  written_count i (suc p) e = written_step i p e (written_count i p e) (along i p e)

  -- a later begin write has a larger number
  pub rank_rises : (i b d x y : ℕ) (v w : V) → WriteBegins R i b x v → WriteBegins R i d y w → b < d → x < y
  rank_rises i b d x y v w p q l =
      let t : begins_write R i b ≡ true = and_from _ _ (ap (is_write_of i) p.call ∙ eq-eqb i i refl) (ap is_done p.answer) in
      omega (arith, p.rank, q.rank, next_yes b (begins_write R i) t, count_up (begins_write R i) (suc b) d (omega arith))

  -- one number, one begin write
  pub one_begin : (i b d x : ℕ) (v w : V) → WriteBegins R i b x v → WriteBegins R i d x w → v ≡ w
  one_begin i b d x v w p q =
      ⊎_elim (λ lt. absurd (let l = rank_rises i b d x x v w p q lt in omega arith))
      (λ ge. ⊎_elim (λ lt. absurd (let l = rank_rises i d b x x w v q p lt in omega arith))
      (λ ge'. let e : b ≡ d = omega arith in
      let same : Some (BeginWrite i v) ≡ Some (BeginWrite i w) = sym p.call ∙ ap (call_at R) e ∙ q.call in cc) (cases_lt d b)) (cases_lt b d)

  nothing : (j x : ℕ) (v : V) → (history_at 0).published j x ≡ Some v → ⊥
  unfolding history_at at no_history
  nothing j x v h = grind arith

  -- what is published was begun
  pub published_from : (q j x : ℕ) (v : V) → In f j → (history_at q).published j x ≡ Some v → (b : ℕ) × (b < q) × WriteBegins R j b x v
  published_from zero j x v e h = absurd (nothing j x v h)
  published_from (suc q) j x v e h =
      ⊎_elim
      (λ same. let w = published_from q j x v e (ap (λ (p : ℕ → ℕ → Option V). p j x) (sym same) ∙ h) in (w.0, omega (arith, w.1), w.2))
      (λ m. ⊎_elim
      (λ old. let w = published_from q j x v e old in (w.0, omega (arith, w.1), w.2))
      (λ new. (
        q,
        omega arith,
        record {
          call = m.3 ∙ ap (λ z. Some (BeginWrite z m.1)) (sym new.0) ∙ ap (λ z. Some (BeginWrite j z)) new.2;
          answer = m.4;
          rank = new.1 ∙ ap (λ z. suc ((after R q).station z).written) (sym new.0) ∙ ap suc (written_count j q e);
        },
      ))
      (put_pair_from (history_at q).published m.0 (suc ((after R q).station m.0).written) m.1 j x v (ap (λ (p : ℕ → ℕ → Option V). p j x) (sym m.5) ∙ h)))
      (next_at q).publishes

  -- what call b begins
  pub begun_write : (i b x : ℕ) (v : V) → In f i → WriteBegins R i b x v → after R (suc b) ≡ begin_write i v (after R b)
  begun_write i b x v e w = go (along i b e)
    where
      go : Along i b → after R (suc b) ≡ begin_write i v (after R b)
      go (goes s n none) =
          absurd (both_ways _ none (and_from _ _ (ap (λ z. is_write_of i z || is_read_of i z) w.call ∙ ap (λ t. t || false) (eq-eqb i i refl)) (ap is_done w.answer)))
      go (begins_writing u ec ea l idle t) = let q : Some (BeginWrite i u) ≡ Some (BeginWrite i v) = sym ec ∙ w.call in let q' : u ≡ v = cc in t ∙ ap (λ z. begin_write i z (after R b)) q'
      go (begins_reading j ec ea l idle t) = absurd (let q : Some (BeginRead i j) ≡ Some (BeginWrite i v) = sym ec ∙ w.call in grind arith)
      go (ends_writing q k y done gd ea t) = absurd (let z : Some (Ok (WriteEnded i y)) ≡ Some (Ok Done) = sym ea ∙ w.answer in grind arith)
      go (ends_reading q k j y u done gd ea t) = absurd (let z : Some (Ok (ReadEnded i j y u)) ≡ Some (Ok Done) = sym ea ∙ w.answer in grind arith)

  pub published_to : (i b x : ℕ) (v : V) → In f i → WriteBegins R i b x v → (history_at (suc b)).published i x ≡ Some v
  published_to i b x v e w =
      let y : ℕ = suc ((after R b).station i).written in
      let st : ((after R (suc b)).station i).stage ≡ Writing y 0 =
      ap (λ (s : State V). (s.station i).stage) (begun_write i b x v e w) ∙ put_same (λ a. ((after R b).station a).stage) i (Writing y 0) in
      let yx : y ≡ x = ap suc (written_count i b e) ∙ sym w.rank in
      let o = subst (SincereStage c f v₀ (known (after R (suc b)) (history_at (suc b))) i ((after R (suc b)).reports i)) st ((holds_at (suc b)).sincere.stages i e) in
      let h : (history_at (suc b)).published i x ≡ Some o.0.0 = ap ((history_at (suc b)).published i) (sym yx) ∙ o.0.1 in
      let p = published_from (suc b) i x o.0.0 e h in
      h ∙ ap (λ z. Some z) (one_begin i p.0 b x o.0.0 v p.2 w)

  -- What was taken

  raised_at : (p i j : ℕ) → number (after R (suc p)) i j ≤ suc (number (after R p) i j)
  raised_at p i j =
      ⊎_elim
      (λ m. omega (arith, (raised c (after R p) m.0).by_one i j, ap (λ (s : State V). number s i j) m.2))
      (λ m. omega (arith, ap (λ (s : State V). number s i j) m.1))
      (made c (opened c R.opening) R.calls p)

  reach : (q i j x : ℕ) → 0 < x → x ≤ number (after R q) i j
      → (p : ℕ) × (p < q) × (number (after R p) i j < x) × (number (after R (suc p)) i j ≡ x)
  reach zero i j x l u = absurd (omega arith)
  reach (suc q) i j x l u =
      ⊎_elim (λ lt. (q, omega arith, lt, omega (arith, raised_at q i j)))
      (λ ge. let w = reach q i j x l ge in (w.0, omega (arith, w.1), w.2, w.3)) (cases_lt (number (after R q) i j) x)

  pub takes_to : (i j x p q : ℕ) (v : V) → In f i → Takes R i j x v p → p < q → (history_at q).took i j x ≡ Some v
  takes_to i j x p q v e w l =
      (later_at (suc p) q (omega arith)).took i j x v
      (ap ((history_at (suc p)).took i j) (sym w.reached) ∙ ((holds_at (suc p)).recorded.taken i j e).now_is ∙ ap (λ z. Some z) w.value)

  pub takes_below : (q i j x : ℕ) → 0 < x → x ≤ number (after R q) i j → (p : ℕ) × (p < q) × ((v : V) × Takes R i j x v p)
  takes_below q i j x l u =
      let w = reach q i j x l u in
      (w.0, w.1, (((after R (suc w.0)).cell i j).copy.value, record { below = w.2; reached = w.3; value = refl }))

  pub took_below : (q i j x : ℕ) (v : V) → In f i → (history_at q).took i j x ≡ Some v → x ≤ number (after R q) i j
  took_below q i j x v e h =
      ⊎_elim (λ lt. absurd (let n = ((holds_at q).recorded.taken i j e).ahead_is x lt in grind arith)) (λ ge. ge) (cases_lt (number (after R q) i j) x)

  pub takes_from : (q i j x : ℕ) (v : V) → In f i → 0 < x → (history_at q).took i j x ≡ Some v → (p : ℕ) × (p < q) × Takes R i j x v p
  takes_from q i j x v e l h =
      let w = takes_below q i j x l (took_below q i j x v e h) in
      let t = takes_to i j x w.0 q w.2.0 e w.2.1 w.1 in
      let same : w.2.0 ≡ v = cc in
      (w.0, w.1, subst (λ z. Takes R i j x z w.0) same w.2.1)

  -- Operations from beginning to end

  -- where the operation of a stage began
  abbrev pub Origin : ℕ → ℕ → Stage V → Type 0
  Origin i p Idle = Unit {0}
  Origin i p (Writing x done) = (b : ℕ) × (v : V) × (b < p) × (i < c.system.stations) × WriteBegins R i b x v × NoneEnds R i b p
  Origin i p (Querying j r reported) = (b : ℕ) × (b < p) × (i < c.system.stations) × ReadBegins R i j b × NoneEnds R i b p
  Origin i p (Catching j x v done) = (b : ℕ) × (b < p) × (i < c.system.stations) × ReadBegins R i j b × NoneEnds R i b p

  none_more : (i b p : ℕ) → NoneEnds R i b p → ends_operation i (answer_at R p) ≡ false → NoneEnds R i b (suc p)
  none_more i b p w n m l u =
      ⊎_elim (λ lt. w m l lt) (λ ge. let e : p ≡ m = omega arith in subst (λ z. ends_operation i (answer_at R z) ≡ false) e n) (cases_lt m p)

  origin_on : (i p : ℕ) (o o' : Stage V) → Goes_on o o' → ends_operation i (answer_at R p) ≡ false → Origin i p o → Origin i (suc p) o'
  origin_on i p Idle o' g n w = subst (Origin i (suc p)) (sym g) tt
  origin_on i p (Writing x done) o' g n w =
      subst (Origin i (suc p)) (sym g.1) (w.0, w.1, omega (arith, w.2), w.3, w.4, none_more i w.0 p w.5 n)
  origin_on i p (Querying j r reported) o' (inl g) n w =
      subst (Origin i (suc p)) (sym g.1) (w.0, omega (arith, w.1), w.2, w.3, none_more i w.0 p w.4 n)
  origin_on i p (Querying j r reported) o' (inr g) n w =
      subst (Origin i (suc p)) (sym g.3) (w.0, omega (arith, w.1), w.2, w.3, none_more i w.0 p w.4 n)
  origin_on i p (Catching j x v done) o' g n w =
      subst (Origin i (suc p)) (sym g.1) (w.0, omega (arith, w.1), w.2, w.3, none_more i w.0 p w.4 n)

  origin_step : (i p : ℕ) → In f i → Origin i p ((after R p).station i).stage → Along i p → Origin i (suc p) ((after R (suc p)).station i).stage
  origin_step i p e old (goes w n b) = origin_on i p ((after R p).station i).stage ((after R (suc p)).station i).stage w.stage n old
  origin_step i p e old (begins_writing v ec ea l idle t) =
      let x : ℕ = suc ((after R p).station i).written in
      let st : ((after R (suc p)).station i).stage ≡ Writing x 0 = ap (λ (s : State V). (s.station i).stage) t ∙ put_same (λ a. ((after R p).station a).stage) i (Writing x 0) in
      subst (Origin i (suc p)) (sym st)
      (p, v, omega arith, l, record { call = ec; answer = ea; rank = ap suc (written_count i p e) }, λ m u w. absurd (omega arith))
  origin_step i p e old (begins_reading j ec ea l idle t) =
      let r : ℕ = suc ((after R p).reads i j) in
      let st : ((after R (suc p)).station i).stage ≡ Querying j r 0 = ap (λ (s : State V). (s.station i).stage) t ∙ put_same (λ a. ((after R p).station a).stage) i (Querying j r 0) in
      subst (Origin i (suc p)) (sym st) (p, omega arith, l, record { call = ec; answer = ea }, λ m u w. absurd (omega arith))
  origin_step i p e old (ends_writing q k x done gd ea t) =
      let st : ((after R (suc p)).station i).stage ≡ Idle = ap (λ (s : State V). (s.station i).stage) t ∙ put_same (λ a. ((after R p).station a).stage) i Idle in
      subst (Origin i (suc p)) (sym st) tt
  origin_step i p e old (ends_reading q k j x v done gd ea t) =
      let st : ((after R (suc p)).station i).stage ≡ Idle = ap (λ (s : State V). (s.station i).stage) t ∙ put_same (λ a. ((after R p).station a).stage) i Idle in
      subst (Origin i (suc p)) (sym st) tt

  pub origin : (i p : ℕ) → In f i → Origin i p ((after R p).station i).stage
  origin i zero e = tt
  origin i (suc p) e = origin_step i p e (origin i p e) (along i p e)

  -- an answer that ends an operation tells that it ended
  pub read_end : (i e j x : ℕ) (v : V) → In f i → answer_at R e ≡ Some (Ok (ReadEnded i j x v))
      → (q : ℕ) × (k : ℕ) × (done : ℕ) × Guard c f (EndRead q i k j x v done) (after R e)
  read_end i e j x v inside a = go (along i e inside)
    where
      Goal : Type 0
      Goal = (q : ℕ) × (k : ℕ) × (done : ℕ) × Guard c f (EndRead q i k j x v done) (after R e)

      go : Along i e → Goal
      go (goes w n b) = absurd (both_ways _ n (ap (ends_operation i) a ∙ eq-eqb i i refl))
      go (begins_writing u ec ea l idle t) = absurd (let z : Some (Ok Done) ≡ Some (Ok (ReadEnded i j x v)) = sym ea ∙ a in grind arith)
      go (begins_reading j' ec ea l idle t) = absurd (let z : Some (Ok Done) ≡ Some (Ok (ReadEnded i j x v)) = sym ea ∙ a in grind arith)
      go (ends_writing q k y done gd ea t) = absurd (let z : Some (Ok (WriteEnded i y)) ≡ Some (Ok (ReadEnded i j x v)) = sym ea ∙ a in grind arith)
      go (ends_reading q k j' y u done gd ea t) =
          let z : Some (Ok (ReadEnded i j' y u)) ≡ Some (Ok (ReadEnded i j x v)) = sym ea ∙ a in
          let ej : j' ≡ j = cc in
          let ey : y ≡ x = cc in
          let eu : u ≡ v = cc in
          (q, k, done, rw (ej, ey, eu) at gd)

  pub write_end : (i e x : ℕ) → In f i → answer_at R e ≡ Some (Ok (WriteEnded i x))
      → (q : ℕ) × (k : ℕ) × (done : ℕ) × Guard c f (EndWrite q i k x done) (after R e)
  write_end i e x inside a = go (along i e inside)
    where
      Goal : Type 0
      Goal = (q : ℕ) × (k : ℕ) × (done : ℕ) × Guard c f (EndWrite q i k x done) (after R e)

      go : Along i e → Goal
      go (goes w n b) = absurd (both_ways _ n (ap (ends_operation i) a ∙ eq-eqb i i refl))
      go (begins_writing u ec ea l idle t) = absurd (let z : Some (Ok Done) ≡ Some (Ok (WriteEnded i x)) = sym ea ∙ a in grind arith)
      go (begins_reading j' ec ea l idle t) = absurd (let z : Some (Ok Done) ≡ Some (Ok (WriteEnded i x)) = sym ea ∙ a in grind arith)
      go (ends_reading q k j y u done gd ea t) = absurd (let z : Some (Ok (ReadEnded i j y u)) ≡ Some (Ok (WriteEnded i x)) = sym ea ∙ a in grind arith)
      go (ends_writing q k y done gd ea t) =
          let z : Some (Ok (WriteEnded i y)) ≡ Some (Ok (WriteEnded i x)) = sym ea ∙ a in
          let ey : y ≡ x = cc in
          (q, k, done, rw ey at gd)

  -- each end has a beginning
  pub read_began : (i j e x : ℕ) (v : V) → In f i → answer_at R e ≡ Some (Ok (ReadEnded i j x v)) → (i < c.system.stations) × ((b : ℕ) × CompletedRead R i j b e x v)
  read_began i j e x v inside a =
      let w = read_end i e j x v inside a in
      let o = subst (Origin i e) w.3.1 (origin i e inside) in
      (o.2, (o.0, record { begins = o.3; later = o.1; ends = a; between = o.4 }))

  pub write_began : (i e x : ℕ) → In f i → answer_at R e ≡ Some (Ok (WriteEnded i x)) → (b : ℕ) × (v : V) × CompletedWrite R i b e x v
  write_began i e x inside a =
      let w = write_end i e x inside a in
      let o = subst (Origin i e) w.3.1 (origin i e inside) in
      (o.0, o.1, record { begins = o.4; later = o.2; ends = a; between = o.5 })
