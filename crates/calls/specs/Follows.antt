-- What a call leaves, whether it is declined or not.
use Rattle.std.specs.Prelude.{◌≡◌, Option, None, Some, Result, Ok, Err}
use Rattle.std.specs.Result.{ForErr}
use Rattle.decline.specs.declared.Decline.{Decline}
use Rattle.machine.specs.declared.figures.Figures.{Figures}
use Rattle.machine.specs.declared.call.Answer.{Answer}
use Rattle.machine.specs.declared.call.Forgery.{Forgery}
use Rattle.machine.specs.declared.message.Message.{Message}
use Rattle.machine.specs.State.{State}
use Rattle.machine.specs.Operations.{Outcome}
use Rattle.machine.specs.Calls.{forged, forge_decline}
use Rattle.tables.specs.declared.lent.Tables.{Tables}
use Rattle.tables.specs.View.{Becomes}

-- a call that may be declined: the reason, or what it goes on with
abbrev pub permitted : {A : Type 0} → Option Decline → A → Result A Decline
permitted None a = Ok a
permitted (Some reason) a = Err reason

-- It answers what the machine answers, and leaves the machine's state. Where it is declined, it wrote nothing at all.
pub record Follows {V : Type 0} (f : Figures V) (before after : Tables V) (answer : Result (Answer V) Decline) (outcome : Outcome V) : Type 0 where
  pub answers : answer ≡ outcome.answer
  pub shows : Becomes f before after outcome.state
  pub declined : ForErr answer (λ reason. after ≡ before)

-- the message that may be forged of these fields, or the reason against it
abbrev pub Forgeable : {V : Type 0} → State V → Forgery V → Result (Message V) Decline → Type 0
Forgeable s f (Ok m) = (forged s.figures.highest f ≡ Some m) × (forge_decline s f (Some m) ≡ None)
Forgeable s f (Err reason) = forge_decline s f (forged s.figures.highest f) ≡ Some reason
