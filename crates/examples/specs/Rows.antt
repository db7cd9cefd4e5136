-- Rows of the table of examples: what each claims, by the definitions that the contracts of the code use.
use Rattle.std.specs.Prelude.{◌≡◌, ℕ, Bool, not, List, [], ◌∷◌, map, Some, None, Option, slice_index, Ok, Err, Result, is_none}
use Rattle.decline.specs.declared.Decline.{Decline}
use Rattle.std.specs.Option.{option_map}
use Rattle.decline.specs.Numbers.{number_of}
use Rattle.station_set.specs.Sets.{first}
use Rattle.quorum.specs.Reasons.{decline_of}
use Rattle.machine.specs.declared.call.Forgery.{Forgery}
use Rattle.machine.specs.declared.call.Call.TheVariants.{BeginWrite, Take, Forge}
use Rattle.machine.specs.declared.call.Answer.{Answer}
use Rattle.machine.specs.declared.call.Answer.TheVariants.{Done, WriteEnded, ReadEnded, Counted}
use Rattle.machine.specs.State.{Setting, State}
use Rattle.machine.specs.Operations.{Outcome, fresh_reports, on_write_done}
use Rattle.machine.specs.Calls.{opened, step, answers, is_idle}
use Rattle.examples.specs.Systems.{System, families_of, bar_of, setting, stations}

pub data Row : Type 0 where
  -- a set of stations, whether the system allows it, and whether it is a quorum
  set_of_stations : System → List ℕ → (allowed quorum : Bool) → Row
  -- the number with which the system is declined, or none where it is made
  making : System → Option ℕ → Row
  -- READY(0, x, 7) from station 3, which is faulty, to station 0 of a bench just opened: the number with which its
  -- take is declined, or none where it is taken
  taking_ready : System → (x : ℕ) → Option ℕ → Row
  -- WRITE_DONE of its first write reaches station 0 from these stations, one after the other: the number of the write
  -- that the last of them ends, or none where the write stays open
  write_dones : System → (from : List ℕ) → Option ℕ → Row
  -- the reports of stations 0, 1, .. : which of them are fresh against a number, and whether these are a quorum
  reports : System → (reported : List ℕ) → (number : ℕ) → (fresh : List ℕ) → (quorum : Bool) → Row

-- a bench just opened, where station 3 is faulty
abbrev pub new_bench : System → State ℕ
new_bench system = opened (setting system) (record { faulty = stations (3 ∷ []); highest = 9; places = 100; value = 5 })

-- READY(0, x, 7) from station 3 to station 0, as a forge spells it
abbrev pub forged_ready : ℕ → Forgery ℕ
forged_ready x = record { kind = 3; sender = 3; receiver = 0; register = 0; number = x; read = 0; value = 7 }

-- the number of a decline
abbrev pub declined_with : Result (Answer ℕ) Decline → Option ℕ
declined_with (Ok Done) = None
declined_with (Ok (WriteEnded i x)) = None
declined_with (Ok (ReadEnded i j x v)) = None
declined_with (Ok (Counted waiting takeable)) = None
declined_with (Err reason) = Some (number_of reason)

-- the number of the write that ended
abbrev pub ended_write : Result (Answer ℕ) Decline → Option ℕ
ended_write (Ok Done) = None
ended_write (Ok (WriteEnded i x)) = Some x
ended_write (Ok (ReadEnded i j x v)) = None
ended_write (Ok (Counted waiting takeable)) = None
ended_write (Err reason) = None

-- station 0 has begun its first write
abbrev pub begun : System → Outcome ℕ
begun system = step (setting system) (new_bench system) (BeginWrite 0 7)

-- WRITE_DONE(1) reaches it from these stations
abbrev pub after_dones : Setting ℕ → Outcome ℕ → List ℕ → Outcome ℕ
after_dones c outcome [] = outcome
after_dones c outcome (k ∷ from) = after_dones c (on_write_done c 0 k 1 outcome.state) from

-- what a row claims
abbrev pub Claim : Row → Type 0
Claim (set_of_stations system members allowed quorum) =
    ((families_of system).allowed (stations members) ≡ allowed) × ((families_of system).quorum (stations members) ≡ quorum)
Claim (making system number) = option_map (λ reason. number_of (decline_of reason)) (bar_of system) ≡ number
Claim (taking_ready system x number) =
    map declined_with (answers (setting system) (new_bench system) (Forge (forged_ready x) ∷ Take 0 ∷ [])) ≡ None ∷ number ∷ []
Claim (write_dones system from number) =
    let last = after_dones (setting system) (begun system) from in
    (ended_write last.answer ≡ number) × (is_idle (last.state.station 0).stage ≡ not (is_none number))
Claim (reports system reported number fresh quorum) =
    (fresh_reports (families_of system).stations number (first (families_of system).stations) (λ k. slice_index reported k) ≡ stations fresh)
    × ((families_of system).quorum (stations fresh) ≡ quorum)
