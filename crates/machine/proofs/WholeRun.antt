-- Order and rest of a run, put together.
use Rattle.std.proofs.Common.{◌≡◌, ℕ, zero, suc, ◌<◌, ◌≤◌, true, false, ◌&&◌, ◌||◌, ltb, length, Some, None, Option, sym, refl, ap, ◌∙◌, subst, inl, inr, ⊎_elim, arith, Result}
use Rattle.decline.specs.declared.Decline.{Decline}
use Rattle.std.proofs.lemmas.Bool.{both_ways, and_parts, and_from, and_cases, and_right, not_from_false, not-false, ltb-true, lt-ltb, eq-eqb, cases_lt}
use Rattle.station_set.specs.Sets.{has}
use Rattle.station_set.proofs.Below.{search_below}
use Rattle.machine.specs.declared.message.Message.{Message}
use Rattle.machine.specs.declared.station.Stage.{Stage}
use Rattle.machine.specs.declared.station.Stage.TheVariants.{Idle, Writing, Querying, Catching}
use Rattle.machine.specs.declared.call.Answer.{Answer}
use Rattle.machine.specs.declared.figures.Figures.{Figures}
use Rattle.machine.specs.State.{Setting, Lawful, State, number}
use Rattle.machine.specs.declared.call.Opening.{Opening}
use Rattle.machine.specs.Calls.{sender, receiver, ahead, is_idle, Lengths, open_reasons, open_decline, opened}
use Rattle.machine.specs.Runs.{Run, after, at_end, call_at, answer_at, is_done, is_write_of, is_read_of, begins_operation, ends_operation, WriteBegins, AtRest}
use Rattle.machine.specs.Properties.{Agreement, Validity, Totality, Delivery, Broadcast, BroadcastProperties}
use Rattle.machine.specs.Order.{Order, Rest, OrderAndRest}
use Rattle.machine.proofs.Tables.{Mem, mem_nth, put_same}
use Rattle.machine.proofs.Voices.{one_value, taken_published}
use Rattle.machine.proofs.Moments.{Goes_on}
use Rattle.machine.proofs.Along.{climb, made, no_answer, history_at, holds_at, later_at, Along, goes, begins_writing, begins_reading, ends_writing, ends_reading, along, begun_write, published_from, published_to, takes_to, read_began, write_began}
use Rattle.machine.proofs.Precedence.{inside, below, correct, end_is, figures_end}
use Rattle.machine.proofs.Listing.{order, is_order}
use Rattle.machine.proofs.Calm.{Calm, calm_opened, calm_step}
use Rattle.machine.proofs.Named.{Named, named_opened, named_step}
use Rattle.machine.proofs.AtRest.{idle_at_rest}
use Rattle.machine.proofs.Reasons.{unfit}
use Rattle.machine.proofs.Acts.{In}
use Rattle.machine.proofs.Spreading.{same_numbers, all_delivered}

module _ {V : Type 0} (R : Run V) (L : Lawful R.setting) (ok : R.setting.system.allowed R.opening.faulty ≡ true) where
  abbrev c : Setting V
  c = R.setting

  abbrev faulty : ℕ
  faulty = R.opening.faulty

  abbrev calls : ℕ
  calls = length R.calls

  -- Safety of the broadcast

  agreement : Agreement R
  agreement i k j x p q v w hi hk t u =
      ⊎_elim
      (λ lt. one_value c L faulty ok R.opening.value (after R (suc p)) (history_at R L ok (suc p)) (holds_at R L ok (suc p)).recorded (holds_at R L ok (suc p)).truthful
      i k j x v w (inside R L ok i hi) (inside R L ok k hk) (takes_to R L ok i j x p (suc p) v (inside R L ok i hi) t (omega arith)) (takes_to R L ok k j x q (suc p) w (inside R L ok k hk) u (omega arith)))
      (λ le. one_value c L faulty ok R.opening.value (after R (suc q)) (history_at R L ok (suc q)) (holds_at R L ok (suc q)).recorded (holds_at R L ok (suc q)).truthful
      i k j x v w (inside R L ok i hi) (inside R L ok k hk) (takes_to R L ok i j x p (suc q) v (inside R L ok i hi) t (omega arith)) (takes_to R L ok k j x q (suc q) w (inside R L ok k hk) u (omega arith)))
      (cases_lt q p)

  -- a write is begun before it is taken
  validity : Validity R
  validity i j x p v hi hj t =
      let h = taken_published c L faulty ok R.opening.value (after R (suc p)) (history_at R L ok (suc p)) (holds_at R L ok (suc p)).recorded (holds_at R L ok (suc p)).truthful
      i j x v (inside R L ok i hi) (inside R L ok j hj) (omega (arith, t.below)) (takes_to R L ok i j x p (suc p) v (inside R L ok i hi) t (omega arith)) in
      let w = published_from R L ok (suc p) j x v (inside R L ok j hj) h in
      (w.0, earlier w.0 w.1 w.2, w.2)
    where
      -- the call that took it is no begin write
      earlier : (b : ℕ) → b < suc p → WriteBegins R j b x v → b < p
      earlier b l w =
          ⊎_elim (λ lt. lt)
          (λ ge. let e : b ≡ p = omega arith in
          absurd (omega (arith, t.below, t.reached, same (subst (λ z. WriteBegins R j z x v) e w)))) (cases_lt b p)
        where
          same : WriteBegins R j p x v → number (after R (suc p)) i j ≡ number (after R p) i j
          same w = ap (λ (s : State V). number s i j) (begun_write R L ok j p x v (inside R L ok j hj) w)

  -- At rest

  calm_at : (p : ℕ) → Calm c L (after R p)
  calm_at zero = calm_opened c L R.opening
  calm_at (suc p) =
      ⊎_elim
      (λ m. subst (Calm c L) (sym m.2) (calm_step c L (after R p) (holds_at R L ok p).fits.0 (calm_at p) m.0))
      (λ m. subst (Calm c L) (sym m.1) (calm_at p))
      (made c (opened c R.opening) R.calls p)

  named_at : (p : ℕ) → Named c (after R p)
  named_at zero = named_opened c R.opening
  named_at (suc p) =
      ⊎_elim
      (λ m. subst (Named c) (sym m.2) (named_step c (after R p) (named_at p) m.0))
      (λ m. subst (Named c) (sym m.1) (named_at p))
      (made c (opened c R.opening) R.calls p)

  waits_ahead : AtRest (at_end R) → (m : Message V) → Mem m (after R calls).pool → In faulty (sender m) → In faulty (receiver m) → ahead (after R calls) m ≡ true
  waits_ahead rest m w e q =
      let rest' : AtRest (after R calls) = subst AtRest (end_is R L ok) rest in
      let p = mem_nth m (after R calls).pool w in
      rest' p.0 m p.1 (and_from _ _ (not_from_false _ (sound (sender m) e)) (not_from_false _ (sound (receiver m) q)))
    where
      sound : (k : ℕ) → In faulty k → has (after R calls).figures.faulty k ≡ false
      sound k e = ap (λ (s : State V). has s.figures.faulty k) (sym (end_is R L ok)) ∙ ap (λ (z : Figures V). has z.faulty k) (figures_end R L ok) ∙ e

  totality : Totality R
  totality rest i k j hi hk =
      subst (λ (s : State V). number s i j ≡ number s k j) (sym (end_is R L ok))
      (same_numbers c L faulty ok R.opening.value (after R calls) (history_at R L ok calls) (holds_at R L ok calls) (calm_at calls).cells (waits_ahead rest)
      i k j (inside R L ok i hi) (below R L ok i hi) (inside R L ok k hk) (below R L ok k hk))

  delivery : Delivery R
  delivery rest i j b x v hi hj w =
      let l : b < calls = no_answer c (opened c R.opening) R.calls b _ w.answer in
      let p = (later_at R L ok (suc b) calls (omega arith)).published j x v (published_to R L ok j b x v (inside R L ok j hj) w) in
      let d = all_delivered c L faulty ok R.opening.value (after R calls) (history_at R L ok calls) (holds_at R L ok calls) (calm_at calls).cells (waits_ahead rest)
      j x v (inside R L ok j hj) (below R L ok j hj) p in
      omega (arith, d, totality rest i j j hi hj, ap (λ (s : State V). number s j j) (end_is R L ok))

  pub broadcast : Broadcast R
  broadcast = record { agreement = agreement; validity = validity; totality = totality; delivery = delivery }

  -- Order, from the four properties

  pub ordered : Broadcast R → Order R
  ordered B =
      record {
        read_began = λ i j e x v h a. (read_began R L ok i j e x v (inside R L ok i h) a).1;
        write_began = λ i e x h a. write_began R L ok i e x (inside R L ok i h) a;
        agreement = B.agreement;
        own_writes = B.validity;
        orders = λ j. (order R L ok B j, is_order R L ok B j);
      }

  -- An operation that was begun and has not ended is open.

  not_idle_on : (o o' : Stage V) → Goes_on o o' → is_idle o ≡ false → is_idle o' ≡ false
  not_idle_on Idle o' g e = absurd (both_ways true e refl)
  not_idle_on (Writing x done) o' g e = ap is_idle g.1
  not_idle_on (Querying j r reported) o' (inl g) e = ap is_idle g.1
  not_idle_on (Querying j r reported) o' (inr g) e = ap is_idle g.3
  not_idle_on (Catching j x v done) o' g e = ap is_idle g.1

  opens : (i b : ℕ) → begins_operation R i b ≡ true → Along R L ok i b → is_idle ((after R (suc b)).station i).stage ≡ false
  opens i b t (goes s n none) = absurd (both_ways _ none t)
  opens i b t (begins_writing v ec ea l idle e) = ap (λ (s : State V). is_idle (s.station i).stage) e ∙ ap is_idle (put_same (λ a. ((after R b).station a).stage) i (Writing (suc ((after R b).station i).written) 0))
  opens i b t (begins_reading j ec ea l idle e) = ap (λ (s : State V). is_idle (s.station i).stage) e ∙ ap is_idle (put_same (λ a. ((after R b).station a).stage) i (Querying j (suc ((after R b).reads i j)) 0))
  opens i b t (ends_writing q k x done gd ea e) = absurd (both_ways _ (ap (λ z. (is_write_of i (call_at R b) || is_read_of i (call_at R b)) && is_done z) ea ∙ and_right _ false refl) t)
  opens i b t (ends_reading q k j x v done gd ea e) = absurd (both_ways _ (ap (λ z. (is_write_of i (call_at R b) || is_read_of i (call_at R b)) && is_done z) ea ∙ and_right _ false refl) t)

  stays_open : (i p : ℕ) → ends_operation i (answer_at R p) ≡ false → is_idle ((after R p).station i).stage ≡ false → Along R L ok i p → is_idle ((after R (suc p)).station i).stage ≡ false
  stays_open i p n w (goes s n' none) = not_idle_on ((after R p).station i).stage ((after R (suc p)).station i).stage s.stage w
  stays_open i p n w (begins_writing v ec ea l idle e) = absurd (both_ways _ w (ap is_idle idle))
  stays_open i p n w (begins_reading j ec ea l idle e) = absurd (both_ways _ w (ap is_idle idle))
  stays_open i p n w (ends_writing q k x done gd ea e) = absurd (both_ways _ n (ap (ends_operation i) ea ∙ eq-eqb i i refl))
  stays_open i p n w (ends_reading q k j x v done gd ea e) = absurd (both_ways _ n (ap (ends_operation i) ea ∙ eq-eqb i i refl))

  done_some : (a : Option (Result (Answer V) Decline)) → is_done a ≡ true → (d : Result (Answer V) Decline) × (a ≡ Some d)
  done_some None e = absurd (both_ways true (sym e) refl)
  done_some (Some d) e = (d, refl)

  pub ended : (i b : ℕ) → In faulty i → ((after R calls).station i).stage ≡ Idle → begins_operation R i b ≡ true
      → (e : ℕ) × (b < e) × (ends_operation i (answer_at R e) ≡ true)
  ended i b e idle t =
      ⊎_elim
      (λ w. let u = and_parts _ _ w.2 in (w.0, ltb-true _ _ u.0, u.1))
      (λ none.
      let d = done_some (answer_at R b) (and_parts _ _ t).1 in
      let l : b < calls = no_answer c (opened c R.opening) R.calls b d.0 d.1 in
      let open' : is_idle ((after R calls).station i).stage ≡ false =
      climb (λ p. is_idle ((after R p).station i).stage ≡ false) (suc b) calls (omega arith)
      (λ m lo hi w. stays_open i m (silent m (omega arith) (none m hi)) w (along R L ok i m e)) (opens i b t (along R L ok i b e)) in
      absurd (both_ways _ open' (ap is_idle idle)))
      (search_below calls (λ m. ltb b m && ends_operation i (answer_at R m)))
    where
      silent : (m : ℕ) → b < m → (ltb b m && ends_operation i (answer_at R m)) ≡ false → ends_operation i (answer_at R m) ≡ false
      silent m l w = ⊎_elim (λ u. absurd (both_ways _ u (lt-ltb b m l))) (λ u. u) (and_cases _ _ w)

  -- Rest, from the four properties

  pub rests : Broadcast R → Rest R
  rests B rest i hi =
      let e = inside R L ok i hi in
      let l = below R L ok i hi in
      let H = holds_at R L ok calls in
      let idle : ((after R calls).station i).stage ≡ Idle =
      idle_at_rest c L faulty ok R.opening.value (after R calls) (history_at R L ok calls) H.recorded H.sincere H.pending H.fits.0
      (calm_at calls).stages (named_at calls).stages (waits_ahead rest)
      (λ a k j u m w n. subst (λ (s : State V). number s a j ≡ number s k j) (end_is R L ok) (B.totality rest a k j (correct R L ok a u m) (correct R L ok k w n)))
      (λ a x v u m p.
      let w = published_from R L ok calls a x v u p in
      subst (λ (s : State V). x ≤ number s a a) (end_is R L ok) (B.delivery rest a a w.0 x v (correct R L ok a u m) (correct R L ok a u m) w.2))
      i e l in
      (ap (λ (s : State V). (s.station i).stage) (end_is R L ok) ∙ idle, λ b t. ended i b e idle t)

-- an open that is not declined was handed an allowed faulty set
faulty_allowed : {V : Type 0} (c : Setting V) (t : Lengths) (o : Opening V) → open_decline c t o ≡ None → c.system.allowed o.faulty ≡ true
faulty_allowed c t o e = not-false _ (unfit (open_reasons c t o) e 1 _ refl)

pub order_and_rest : {V : Type 0} (c : Setting V) → Lawful c → OrderAndRest c
order_and_rest {V} c L t o calls e =
    let ok = faulty_allowed c t o e in
    let R : Run V = record { setting = c; opening = o; calls = calls } in
    let B = broadcast R L ok in
    (ordered R L ok B, rests R L ok B)

pub broadcast_properties : {V : Type 0} (c : Setting V) → Lawful c → BroadcastProperties c
broadcast_properties c L t o calls e = broadcast (record { setting = c; opening = o; calls = calls }) L (faulty_allowed c t o e)
