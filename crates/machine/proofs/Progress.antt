-- What one call does to the operation of a station inside.
use Rattle.std.proofs.Common.{◌≡◌, ℕ, ◌<◌, Bool, true, false, ◌&&◌, ◌||◌, Some, None, sym, refl, ap, ◌∙◌, subst, ⊎_elim, Ok, Err, Result}
use Rattle.std.proofs.lemmas.Bool.{and_right, both_ways, cases_eq, ne_eqb, ltb-true, not-false, and_parts}
use Rattle.decline.specs.declared.Decline.{Decline}
use Rattle.station_set.specs.Sets.{has}
use Rattle.machine.specs.declared.station.Stage.{Stage}
use Rattle.machine.specs.declared.station.Stage.TheVariants.{Idle}
use Rattle.machine.specs.declared.call.Call.{Call}
use Rattle.machine.specs.declared.call.Call.TheVariants.{Open, BeginWrite, BeginRead, Take, Forge, Withdraw, Count}
use Rattle.machine.specs.declared.call.Answer.{Answer}
use Rattle.machine.specs.declared.call.Answer.TheVariants.{Done, WriteEnded, ReadEnded, Counted}
use Rattle.machine.specs.State.{Setting, State, with_stage, remove}
use Rattle.machine.specs.Operations.{Outcome, leaves}
use Rattle.machine.specs.Calls.{write_reasons, write_decline, read_reasons, read_decline, begin_write, begin_read, step}
use Rattle.machine.specs.Runs.{is_done, is_write_of, is_read_of, ends_operation}
use Rattle.machine.proofs.Tables.{put_all}
use Rattle.machine.proofs.Reasons.{unfit}
use Rattle.machine.proofs.Acts.{EndWrite, EndRead, Guard, Fits, Silent, Went, quietly, write_ends, read_ends, unless_both, write_idle, read_idle, take_went, forging_went, withdrawing_went}
use Rattle.machine.proofs.Only.{only_write, only_read}
use Rattle.machine.proofs.Moments.{Goes_on, goes_on_refl, Steady, chain_steady, steady_same}

module _ {V : Type 0} (c : Setting V) (f : ℕ) where
  -- the call begins an operation of station i
  abbrev pub begins : ℕ → Call V → Result (Answer V) Decline → Bool
  begins i call answer = (is_write_of i (Some call) || is_read_of i (Some call)) && is_done (Some answer)

  pub data Progress (i : ℕ) (s : State V) (call : Call V) (o : Outcome V) : Type 0 where
    goes_on : Steady c f i s o.state → ends_operation i (Some o.answer) ≡ false → begins i call o.answer ≡ false → Progress i s call o
    writes : (v : V) → call ≡ BeginWrite i v → o.answer ≡ Ok Done → i < s.figures.stations → (s.station i).stage ≡ Idle
        → o.state ≡ begin_write i v s → Progress i s call o
    asks : (j : ℕ) → call ≡ BeginRead i j → o.answer ≡ Ok Done → i < s.figures.stations → (s.station i).stage ≡ Idle
        → o.state ≡ begin_read i j s → Progress i s call o
    ends_write : (p k x done : ℕ) → Guard c f (EndWrite p i k x done) s → o.answer ≡ Ok (WriteEnded i x)
        → o.state ≡ with_stage i Idle (remove p s) → Progress i s call o
    ends_read : (p k j x : ℕ) (v : V) (done : ℕ) → Guard c f (EndRead p i k j x v done) s → o.answer ≡ Ok (ReadEnded i j x v)
        → o.state ≡ with_stage i Idle (remove p s) → Progress i s call o

  module _ (i : ℕ) (inside : has f i ≡ false) (s : State V) (w : Fits c f s) where
    silent_of : (a : Result (Answer V) Decline) → Silent c f a → ends_operation i (Some a) ≡ false
    silent_of (Ok Done) h = refl
    silent_of (Ok (WriteEnded k x)) h = ne_eqb k i (λ e. both_ways _ inside (ap (has f) (sym e) ∙ h))
    silent_of (Ok (ReadEnded k j x v)) h = ne_eqb k i (λ e. both_ways _ inside (ap (has f) (sym e) ∙ h))
    silent_of (Ok (Counted waiting takeable)) h = refl
    silent_of (Err reason) h = refl

    -- another station's operation ends
    other_ends : (a p : ℕ) → (a ≡ i → ⊥) → Steady c f i s (with_stage a Idle (remove p s))
    other_ends a p ne =
        record {
          stage = put_all (λ b (z : Stage V). b ≡ i → Goes_on (s.station i).stage z) a Idle (λ d. (s.station d).stage)
              (λ b e. subst (λ z. Goes_on (s.station i).stage (s.station z).stage) (sym e) (goes_on_refl (s.station i).stage))
              (λ e. absurd (ne e)) i refl;
          written = refl;
          reads = λ j. refl;
        }

    by_went : (call : Call V) (o : Outcome V) → (begins i call o.answer ≡ false) → Went c f s o → Progress i s call o
    by_went call o b (quietly d h) = goes_on (chain_steady c f i inside d) (silent_of o.answer h) b
    by_went call o b (write_ends p a k x done gd) =
        ⊎_elim (λ e. ends_write p k x done (subst (λ z. Guard c f (EndWrite p z k x done) s) e gd) (ap (λ z. Ok (WriteEnded z x)) e) (ap (λ z. with_stage z Idle (remove p s)) e))
        (λ ne. goes_on (other_ends a p ne) (ne_eqb a i ne) b) (cases_eq a i)
    by_went call o b (read_ends p a k j x v done gd) =
        ⊎_elim (λ e. ends_read p k j x v done (subst (λ z. Guard c f (EndRead p z k j x v done) s) e gd) (ap (λ z. Ok (ReadEnded z j x v)) e) (ap (λ z. with_stage z Idle (remove p s)) e))
        (λ ne. goes_on (other_ends a p ne) (ne_eqb a i ne) b) (cases_eq a i)

    stays : (call : Call V) (d : Decline) → begins i call (Err d) ≡ false → Progress i s call (record { state = s; answer = Err d })
    stays call d b = goes_on (steady_same c f i s s refl (λ j. refl)) refl b

    wrote : (k : ℕ) (v : V) → write_decline s k ≡ None → Progress i s (BeginWrite k v) (leaves (begin_write k v s))
    wrote k v e =
        ⊎_elim
        (λ q. writes v (ap (λ z. BeginWrite z v) q) refl (subst (λ z. z < s.figures.stations) q (ltb-true k _ (not-false _ (unfit (write_reasons s k) e 0 _ refl))))
        (ap (λ z. (s.station z).stage) (sym q) ∙ write_idle c f s k e) (ap (λ z. begin_write z v s) q))
        (λ ne. let o = only_write k v s in
        goes_on (steady_same c f i s (begin_write k v s) (o.station_same i (λ z. ne (sym z))) (λ j. o.reads_same i j (λ z. ne (sym z)))) refl
        (ap (λ t. (t || false) && true) (ne_eqb k i ne)))
        (cases_eq k i)

    read : (k j : ℕ) → read_decline s k j ≡ None → Progress i s (BeginRead k j) (leaves (begin_read k j s))
    read k j e =
        ⊎_elim
        (λ q. asks j (ap (λ z. BeginRead z j) q) refl
        (subst (λ z. z < s.figures.stations) q (ltb-true k _ (and_parts _ _ (not-false _ (unfit (read_reasons s k j) e 0 _ refl))).0))
        (ap (λ z. (s.station z).stage) (sym q) ∙ read_idle c f s k j e) (ap (λ z. begin_read z j s) q))
        (λ ne. let o = only_read k j s in
        goes_on (steady_same c f i s (begin_read k j s) (o.station_same i (λ z. ne (sym z))) (λ j. o.reads_same i j (λ z. ne (sym z)))) refl
        (ap (λ t. (false || t) && true) (ne_eqb k i ne)))
        (cases_eq k i)

    pub progress : (call : Call V) → Progress i s call (step c s call)
    progress (Open o) = goes_on (steady_same c f i s s refl (λ j. refl)) refl refl
    progress (BeginWrite k v) =
        unless_both c f (write_decline s k) (leaves (begin_write k v s)) s (Progress i s (BeginWrite k v)) (wrote k v)
        (λ d. stays (BeginWrite k v) d (and_right _ false refl))
    progress (BeginRead k j) =
        unless_both c f (read_decline s k j) (leaves (begin_read k j s)) s (Progress i s (BeginRead k j)) (read k j)
        (λ d. stays (BeginRead k j) d (and_right _ false refl))
    progress (Take p) = by_went (Take p) (step c s (Take p)) refl (take_went c f s w p)
    progress (Forge g) = by_went (Forge g) (step c s (Forge g)) refl (forging_went c f s w g)
    progress (Withdraw p) = by_went (Withdraw p) (step c s (Withdraw p)) refl (withdrawing_went c f s w p)
    progress Count = goes_on (steady_same c f i s s refl (λ j. refl)) refl refl
