-- What a call on an open bench comes to, case by case. To show something of the state after any call, show it of these.
use Rattle.std.proofs.Common.{◌≡◌, ℕ, [], ◌∷◌, Some, None, Option, refl}
use Rattle.std.specs.List.{slice_get}
use Rattle.std.proofs.lemmas.Bool.{cond_both}
use Rattle.decline.specs.declared.Decline.{Decline}
use Rattle.machine.specs.declared.message.Message.{Message}
use Rattle.machine.specs.declared.call.Forgery.{Forgery}
use Rattle.machine.specs.declared.call.Call.{Call}
use Rattle.machine.specs.declared.call.Call.TheVariants.{Open, BeginWrite, BeginRead, Take, Forge, Withdraw, Count}
use Rattle.machine.specs.State.{Setting, State, is_faulty, remove, send}
use Rattle.machine.specs.Operations.{Outcome, leaves}
use Rattle.machine.specs.Calls.{receiver, act, unless, receive, write_decline, begin_write, read_decline, begin_read, take_decline, forged, forge_decline, join_forged, withdraw_decline, step}

module _ {V : Type 0} (c : Setting V) (s : State V) (Q : State V → Type 0) where
  pub record Cases : Type 0 where
    -- nothing happens, a message is only removed, or a receiver acts on it
    pub stays : Q s
    pub removes : (p : ℕ) → Q (remove p s)
    pub acts : (p : ℕ) (m : Message V) → slice_get s.pool p ≡ Some m → Q (act c (remove p s) m).state
    -- a message is forged, or an operation begins
    pub forges : (f : Forgery V) (m : Message V) → forged s.figures.highest f ≡ Some m → forge_decline s f (Some m) ≡ None → Q (send (m ∷ []) s)
    pub writes : (i : ℕ) (v : V) → write_decline s i ≡ None → Q (begin_write i v s)
    pub asks : (i j : ℕ) → read_decline s i j ≡ None → Q (begin_read i j s)

  module _ (w : Cases) where
    unless_declined : (o : Option Decline) (u : Outcome V) → (o ≡ None → Q u.state) → Q (unless o u s).state
    unless_declined None u h = h refl
    unless_declined (Some d) u h = w.stays

    received : (p : ℕ) (o : Option (Message V)) → slice_get s.pool p ≡ o → Q (receive c p s o).state
    received p None e = w.stays
    received p (Some m) e =
        cond_both (is_faulty s (receiver m)) (leaves (remove p s)) (act c (remove p s) m) (λ o. Q o.state) (λ _. w.removes p) (λ _. w.acts p m e)

    joined : (f : Forgery V) (o : Option (Message V)) → forged s.figures.highest f ≡ o → forge_decline s f o ≡ None → Q (join_forged o s)
    joined f None e d = w.stays
    joined f (Some m) e d = w.forges f m e d

    pub after_call : (call : Call V) → Q (step c s call).state
    after_call (Open o) = w.stays
    after_call (BeginWrite i v) = unless_declined (write_decline s i) (leaves (begin_write i v s)) (w.writes i v)
    after_call (BeginRead i j) = unless_declined (read_decline s i j) (leaves (begin_read i j s)) (w.asks i j)
    after_call (Take p) = unless_declined (take_decline c s p) (receive c p s (slice_get s.pool p)) (λ _. received p (slice_get s.pool p) refl)
    after_call (Forge f) =
        unless_declined (forge_decline s f (forged s.figures.highest f)) (leaves (join_forged (forged s.figures.highest f) s))
        (joined f (forged s.figures.highest f) refl)
    after_call (Withdraw p) = unless_declined (withdraw_decline s (slice_get s.pool p)) (leaves (remove p s)) (λ _. w.removes p)
    after_call Count = w.stays
