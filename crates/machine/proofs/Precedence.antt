-- Which of two operations on a register stands first: the four cases of precedence.
-- Of the broadcast only its four properties are used.
use Rattle.std.proofs.Common.{◌≡◌, ℕ, zero, suc, ◌<◌, ◌≤◌, true, false, ◌||◌, length, Some, sym, refl, ap, ◌∙◌, subst, inl, inr, ⊎_elim, arith, Ok}
use Rattle.std.proofs.lemmas.Bool.{both_ways, cases_lt, and_from, eq-eqb}
use Rattle.station_set.specs.Sets.{has}
use Rattle.machine.specs.declared.station.Stage.{Stage}
use Rattle.machine.specs.declared.station.Stage.TheVariants.{Idle, Writing, Querying, Catching}
use Rattle.machine.specs.declared.call.Call.{Call}
use Rattle.machine.specs.declared.call.Call.TheVariants.{BeginWrite, BeginRead}
use Rattle.machine.specs.declared.call.Answer.TheVariants.{Done, WriteEnded, ReadEnded}
use Rattle.machine.specs.declared.figures.Figures.{Figures}
use Rattle.machine.specs.State.{Setting, Lawful, State, number}
use Rattle.machine.specs.Operations.{Outcome}
use Rattle.machine.specs.Calls.{step, opened, begin_read}
use Rattle.machine.specs.Runs.{Run, after, at_end, answer_at, is_done, is_write_of, is_read_of, Correct, WriteBegins, ReadBegins, ends_operation, NoneEnds, CompletedWrite, CompletedRead}
use Rattle.machine.specs.Properties.{Broadcast}
use Rattle.machine.proofs.Tables.{put_same, put_pair_same}
use Rattle.machine.proofs.Quorums.{share}
use Rattle.machine.proofs.Acts.{In, StartWrite, StartRead, EndWrite, EndRead, Stepped, went, wrote, asked, quietly, write_ends, read_ends, stepped}
use Rattle.machine.proofs.History.{History, known}
use Rattle.machine.proofs.Registers.{SincereStage, Settled, write_settled, read_settled, settled_later}
use Rattle.machine.proofs.Freshness.{ReadsFresh, act_fresh, begins_fresh, ends_fresh}
use Rattle.machine.proofs.Moments.{Goes_on, Holds, chain_fresh, chain_figures}
use Rattle.machine.proofs.Along.{climb, made, past_end, history_at, holds_at, numbers_rise, Along, goes, begins_writing, begins_reading, ends_writing, ends_reading, along, rank_rises, takes_below, read_end, write_end}

module _ {V : Type 0} (R : Run V) (L : Lawful R.setting) (ok : R.setting.system.allowed R.opening.faulty ≡ true) where
  abbrev c : Setting V
  c = R.setting

  abbrev faulty : ℕ
  faulty = R.opening.faulty

  abbrev opening : V
  opening = R.opening.value

  -- The figures stay as opened, so the correct stations are those inside.

  step_figures : (s : State V) (call : Call V) (o : Outcome V) → Stepped c faulty s call o → o.state.figures ≡ s.figures
  step_figures s call o (went (quietly d silent)) = chain_figures c L faulty ok opening d
  step_figures s call o (went (write_ends p i k x done gd)) = refl
  step_figures s call o (went (read_ends p i k j x v done gd)) = refl
  step_figures s call o (wrote i v e gd) = refl
  step_figures s call o (asked i j e gd) = refl

  figures_next : (p : ℕ) → (after R (suc p)).figures ≡ (after R p).figures
  figures_next p =
      ⊎_elim
      (λ m. ap (λ (s : State V). s.figures) m.2 ∙ step_figures (after R p) m.0 (step c (after R p) m.0) (stepped c faulty (after R p) (holds_at R L ok p).fits m.0))
      (λ m. ap (λ (s : State V). s.figures) m.1)
      (made c (opened c R.opening) R.calls p)

  figures_at : (p : ℕ) → (after R p).figures ≡ (opened c R.opening).figures
  figures_at zero = refl
  figures_at (suc p) = figures_next p ∙ figures_at p

  pub end_is : at_end R ≡ after R (length R.calls)
  end_is = sym (past_end c (opened c R.opening) R.calls (length R.calls) (omega arith))

  pub figures_end : (at_end R).figures ≡ (opened c R.opening).figures
  figures_end = ap (λ (s : State V). s.figures) end_is ∙ figures_at (length R.calls)

  pub inside : (i : ℕ) → Correct R i → In faulty i
  inside i w = ap (λ (z : Figures V). has z.faulty i) (sym figures_end) ∙ w.sound

  pub below : (i : ℕ) → Correct R i → i < c.system.stations
  below i w = omega (arith, w.station, ap (λ (z : Figures V). z.stations) figures_end)

  pub correct : (i : ℕ) → In faulty i → i < c.system.stations → Correct R i
  correct i e l =
      record {
        station = omega (arith, l, ap (λ (z : Figures V). z.stations) figures_end);
        sound = ap (λ (z : Figures V). has z.faulty i) figures_end ∙ e;
      }

  -- A reading from its beginning to its end

  fresh_step : (i j r : ℕ) (base : ℕ → ℕ) → In faulty i → (s : State V) (h : History V) → Holds c L faulty ok opening s h → (call : Call V) (o : Outcome V)
      → Stepped c faulty s call o → ReadsFresh c L faulty ok opening i j r base s → ReadsFresh c L faulty ok opening i j r base o.state
  fresh_step i j r base e s h H call o (went (quietly d silent)) A = chain_fresh c L faulty ok opening i j r base e h d H A
  fresh_step i j r base e s h H call o (went (write_ends p a k x done gd)) A =
      act_fresh c L faulty ok opening i j r base e s h H.recorded H.sincere A H.fits.0 (EndWrite p a k x done) gd
  fresh_step i j r base e s h H call o (went (read_ends p a k b x v done gd)) A =
      act_fresh c L faulty ok opening i j r base e s h H.recorded H.sincere A H.fits.0 (EndRead p a k b x v done) gd
  fresh_step i j r base e s h H call o (wrote a v d gd) A =
      act_fresh c L faulty ok opening i j r base e s h H.recorded H.sincere A H.fits.0 (StartWrite a v) gd
  fresh_step i j r base e s h H call o (asked a b d gd) A =
      act_fresh c L faulty ok opening i j r base e s h H.recorded H.sincere A H.fits.0 (StartRead a b) gd

  fresh_next : (i j r : ℕ) (base : ℕ → ℕ) → In faulty i → (p : ℕ) → ReadsFresh c L faulty ok opening i j r base (after R p)
      → ReadsFresh c L faulty ok opening i j r base (after R (suc p))
  fresh_next i j r base e p A =
      ⊎_elim
      (λ m. subst (ReadsFresh c L faulty ok opening i j r base) (sym m.2)
      (fresh_step i j r base e (after R p) (history_at R L ok p) (holds_at R L ok p) m.0 (step c (after R p) m.0) (stepped c faulty (after R p) (holds_at R L ok p).fits m.0) A))
      (λ m. subst (ReadsFresh c L faulty ok opening i j r base) (sym m.1) A)
      (made c (opened c R.opening) R.calls p)

  -- station i is reading register j
  abbrev Reading : ℕ → Stage V → Type 0
  Reading j Idle = ⊥
  Reading j (Writing x done) = ⊥
  Reading j (Querying k r reported) = k ≡ j
  Reading j (Catching k x v done) = k ≡ j

  reading_on : (j : ℕ) (o o' : Stage V) → Goes_on o o' → Reading j o → Reading j o'
  reading_on j Idle o' g w = absurd w
  reading_on j (Writing x done) o' g w = absurd w
  reading_on j (Querying k r reported) o' (inl g) w = subst (Reading j) (sym g.1) w
  reading_on j (Querying k r reported) o' (inr g) w = subst (Reading j) (sym g.3) w
  reading_on j (Catching k x v done) o' g w = subst (Reading j) (sym g.1) w

  module _ (i j b : ℕ) (e : In faulty i) (begin : ReadBegins R i j b) where
    abbrev r : ℕ
    r = suc ((after R b).reads i j)

    abbrev base : ℕ → ℕ
    base k = number (after R b) k j

    record OpenAt (p : ℕ) : Type 0 where
      stage : Reading j ((after R p).station i).stage
      reads : (after R p).reads i j ≡ r
      fresh : ReadsFresh c L faulty ok opening i j r base (after R p)

    opens : Along R L ok i b → OpenAt (suc b)
    opens (goes s n none) =
        absurd (both_ways _ none (and_from _ _ (ap (λ z. is_write_of i z || is_read_of i z) begin.call ∙ eq-eqb i i refl) (ap is_done begin.answer)))
    opens (begins_writing v ec ea l idle t) = absurd (let q : Some (BeginWrite i v) ≡ Some (BeginRead i j) = sym ec ∙ begin.call in grind arith)
    opens (begins_reading k ec ea l idle t) =
        let q : Some (BeginRead i k) ≡ Some (BeginRead i j) = sym ec ∙ begin.call in
        let kj : k ≡ j = cc in
        let t' : after R (suc b) ≡ begin_read i j (after R b) = t ∙ ap (λ z. begin_read i z (after R b)) kj in
        record {
          stage = subst (Reading j) (sym (ap (λ (s : State V). (s.station i).stage) t' ∙ put_same (λ a. ((after R b).station a).stage) i (Querying j r 0))) refl;
          reads = ap (λ (s : State V). s.reads i j) t' ∙ put_pair_same (after R b).reads i j r;
          fresh = subst (ReadsFresh c L faulty ok opening i j r base) (sym t')
              (begins_fresh c L faulty ok opening (after R b) (history_at R L ok b) (holds_at R L ok b).sincere i j e);
        }
    opens (ends_writing q k x done gd ea t) = absurd (let z : Some (Ok (WriteEnded i x)) ≡ Some (Ok Done) = sym ea ∙ begin.answer in grind arith)
    opens (ends_reading q k k' x v done gd ea t) = absurd (let z : Some (Ok (ReadEnded i k' x v)) ≡ Some (Ok Done) = sym ea ∙ begin.answer in grind arith)

    stays : (p : ℕ) → ends_operation i (answer_at R p) ≡ false → OpenAt p → Along R L ok i p → OpenAt (suc p)
    stays p n w (goes s n' none) =
        record {
          stage = reading_on j ((after R p).station i).stage ((after R (suc p)).station i).stage s.stage w.stage;
          reads = s.reads j ∙ w.reads;
          fresh = fresh_next i j r base e p w.fresh;
        }
    stays p n w (begins_writing v ec ea l idle t) = absurd (subst (Reading j) idle w.stage)
    stays p n w (begins_reading k ec ea l idle t) = absurd (subst (Reading j) idle w.stage)
    stays p n w (ends_writing q k x done gd ea t) = absurd (both_ways _ n (ap (ends_operation i) ea ∙ eq-eqb i i refl))
    stays p n w (ends_reading q k k' x v done gd ea t) = absurd (both_ways _ n (ap (ends_operation i) ea ∙ eq-eqb i i refl))

    open_until : (p : ℕ) → b < p → NoneEnds R i b p → OpenAt p
    open_until p l none = climb OpenAt (suc b) p (omega arith) (λ m u w h. stays m (none m (omega arith) w) h (along R L ok i m e)) (opens (along R L ok i b e))

  abbrev pub Far : ℕ → ℕ → ℕ → Type 0
  Far p j x = Settled c faulty opening (λ k. number (after R p) k j) x

  settled_on : (p q j x : ℕ) → p ≤ q → Far p j x → Far q j x
  settled_on p q j x l w = settled_later c faulty opening _ _ x (λ k e. numbers_rise R L ok p q k j l e) w

  -- a read that ends is settled, and not below what was settled when it began
  read_far : (i j b e x : ℕ) (v : V) → In faulty i → CompletedRead R i j b e x v → Far e j x
  read_far i j b e x v h w =
      let g = read_end R L ok i e j x v h w.ends in
      read_settled c faulty opening (after R e) (history_at R L ok e) (holds_at R L ok e).recorded (holds_at R L ok e).sincere g.0 i g.1 j x v g.2 g.3

  read_fresh : (i j b e x y : ℕ) (v : V) → In faulty i → CompletedRead R i j b e x v → Far b j y → y ≤ x
  read_fresh i j b e x y v h w st =
      let g = read_end R L ok i e j x v h w.ends in
      let o = open_until i j b h w.begins e w.later w.between in
      ends_fresh c L faulty ok opening i j (suc ((after R b).reads i j)) (λ k. number (after R b) k j) h (after R e) (history_at R L ok e)
      (holds_at R L ok e).recorded (holds_at R L ok e).sincere o.fresh (holds_at R L ok e).fits.0 g.0 g.1 x v g.2 g.3 o.reads y st

  write_far : (i b e x : ℕ) (v : V) → In faulty i → CompletedWrite R i b e x v → Far e i x
  write_far i b e x v h w =
      let g = write_end R L ok i e x h w.ends in
      write_settled c faulty opening (after R e) (history_at R L ok e) (holds_at R L ok e).recorded (holds_at R L ok e).sincere g.0 i g.1 x g.2 g.3

  -- what was noted was taken
  pub read_took : (i j b e x : ℕ) (v : V) → In faulty i → CompletedRead R i j b e x v → (history_at R L ok e).took i j x ≡ Some v
  read_took i j b e x v h w =
      let g = read_end R L ok i e j x v h w.ends in
      (subst (SincereStage c faulty opening (known (after R e) (history_at R L ok e)) i ((after R e).reports i)) g.3.1 ((holds_at R L ok e).sincere.stages i h)).0

  -- someone inside is as far as what is settled
  far_one : (p j x : ℕ) → Far p j x → (k : ℕ) × (k < c.system.stations) × In faulty k × (x ≤ number (after R p) k j)
  far_one p j x st = let m = share c L faulty ok st.0 st.0 st.1 st.1 in (m.0, m.1, m.4, st.2 m.0 m.1 m.2 m.4)

  module _ (B : Broadcast R) where
    -- a write's number is above every number taken when it began
    write_above : (j b x k : ℕ) (v : V) → Correct R j → Correct R k → WriteBegins R j b x v → number (after R b) k j < x
    write_above j b x k v hj hk w =
        ⊎_elim
        (λ pos.
        let t = takes_below R L ok b k j (number (after R b) k j) pos (omega arith) in
        let u = B.validity k j (number (after R b) k j) t.0 t.2.0 hk hj t.2.1 in
        rank_rises R L ok j u.0 b (number (after R b) k j) x t.2.0 v u.2 w (omega (arith, u.1, t.1)))
        (λ none. omega (arith, w.rank))
        (cases_lt 0 (number (after R b) k j))

    -- The four cases. In each the first operation ended before the second began.

    pub write_then_write : (j b e x d y : ℕ) (v w : V) → CompletedWrite R j b e x v → WriteBegins R j d y w → e < d → x < y
    write_then_write j b e x d y v w a z l = rank_rises R L ok j b d x y v w a.begins z (omega (arith, a.later))

    pub write_then_read : (j b e x k d g y : ℕ) (v w : V) → Correct R j → Correct R k → CompletedWrite R j b e x v → CompletedRead R k j d g y w → e < d → x ≤ y
    write_then_read j b e x k d g y v w hj hk a z l =
        read_fresh k j d g y x w (inside k hk) z (settled_on e d j x (omega arith) (write_far j b e x v (inside j hj) a))

    pub read_then_write : (i j b e x d y : ℕ) (v w : V) → Correct R i → Correct R j → CompletedRead R i j b e x v → WriteBegins R j d y w → e < d → x < y
    read_then_write i j b e x d y v w hi hj a z l =
        let m = far_one d j x (settled_on e d j x (omega arith) (read_far i j b e x v (inside i hi) a)) in
        omega (arith, m.3, write_above j d y m.0 w hj (correct m.0 m.2 m.1) z)

    pub read_then_read : (i j b e x k d g y : ℕ) (v w : V) → Correct R i → Correct R k → CompletedRead R i j b e x v → CompletedRead R k j d g y w → e < d → x ≤ y
    read_then_read i j b e x k d g y v w hi hk a z l =
        read_fresh k j d g y x w (inside k hk) z (settled_on e d j x (omega arith) (read_far i j b e x v (inside i hi) a))

    -- a write that ended was taken
    pub write_reached : (j b e x : ℕ) (v : V) → Correct R j → CompletedWrite R j b e x v
        → (k : ℕ) × Correct R k × (x ≤ number (after R e) k j)
    write_reached j b e x v hj a =
        let m = far_one e j x (write_far j b e x v (inside j hj) a) in (m.0, correct m.0 m.2 m.1, m.3)
