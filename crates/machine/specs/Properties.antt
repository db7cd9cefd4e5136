-- The four properties of the broadcast. They are all that the registers use of it.
use Rattle.std.specs.Prelude.{◌≡◌, ℕ, ◌<◌, ◌≤◌, List, None}
use Rattle.machine.specs.declared.call.Opening.{Opening}
use Rattle.machine.specs.declared.call.Call.{Call}
use Rattle.machine.specs.State.{Setting, number}
use Rattle.machine.specs.Calls.{Lengths, open_decline}
use Rattle.machine.specs.Runs.{Run, at_end, Correct, WriteBegins, Takes, AtRest}

module _ {V : Type 0} (R : Run V) where
  -- No two correct stations take different values for one number.
  abbrev pub Agreement : Type 0
  Agreement = (i k j x p q : ℕ) (v w : V) → Correct R i → Correct R k → Takes R i j x v p → Takes R k j x w q → v ≡ w

  -- What a correct station takes as write x of a correct owner is that owner's x-th begin write that was not declined,
  -- with that call's value, and it was begun before.
  abbrev pub Validity : Type 0
  Validity = (i j x p : ℕ) (v : V) → Correct R i → Correct R j → Takes R i j x v p → (b : ℕ) × (b < p) × WriteBegins R j b x v

  -- At rest all correct stations are equally far with every register.
  abbrev pub Totality : Type 0
  Totality = AtRest (at_end R) → (i k j : ℕ) → Correct R i → Correct R k → number (at_end R) i j ≡ number (at_end R) k j

  -- At rest every correct station has taken every write that a correct owner began.
  abbrev pub Delivery : Type 0
  Delivery =
      AtRest (at_end R) → (i j b x : ℕ) (v : V) → Correct R i → Correct R j → WriteBegins R j b x v → x ≤ number (at_end R) i j

  pub record Broadcast : Type 0 where
    pub agreement : Agreement
    pub validity : Validity
    pub totality : Totality
    pub delivery : Delivery

-- They hold of every list of calls after an open that was not declined.
abbrev pub BroadcastProperties : {V : Type 0} → Setting V → Type 0
BroadcastProperties {V} c =
    (t : Lengths) (o : Opening V) (calls : List (Call V)) → open_decline c t o ≡ None
    → Broadcast (record { setting = c; opening = o; calls = calls })
