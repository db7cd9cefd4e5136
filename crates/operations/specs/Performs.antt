-- What a rule that answers leaves.
use Rattle.std.specs.Prelude.{◌≡◌, Ok}
use Rattle.machine.specs.declared.figures.Figures.{Figures}
use Rattle.machine.specs.declared.call.Answer.{Answer}
use Rattle.machine.specs.Operations.{Outcome}
use Rattle.tables.specs.declared.lent.Tables.{Tables}
use Rattle.tables.specs.View.{Becomes}

-- it answers what the machine answers, and leaves the machine's state
pub record Performs {V : Type 0} (f : Figures V) (before after : Tables V) (answer : Answer V) (outcome : Outcome V) : Type 0 where
  pub answers : Ok answer ≡ outcome.answer
  pub shows : Becomes f before after outcome.state
