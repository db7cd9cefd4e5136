-- What opening leaves, whether it is declined or not.
use Rattle.std.specs.Prelude.{◌≡◌, length, Result}
use Rattle.std.specs.Result.{ForOk, ForErr}
use Rattle.decline.specs.declared.Decline.{Decline}
use Rattle.machine.specs.declared.figures.Figures.{Figures}
use Rattle.machine.specs.declared.call.Opening.{Opening}
use Rattle.machine.specs.State.{Setting}
use Rattle.machine.specs.Calls.{Lengths, open_decline, figures_of, opened}
use Rattle.tables.specs.declared.lent.Tables.{Tables}
use Rattle.tables.specs.View.{Becomes}
use Rattle.calls.specs.Follows.{permitted}

-- how many elements each lent table has
abbrev pub lengths : {V : Type 0} → Tables V → Lengths
lengths t =
    record {
      messages = length t.pool.slots.now;
      votes = length t.votes.now;
      held = length t.held.now;
      stations = length t.stations.now;
      copies = length t.copies.now;
      reads = length t.reads.now;
      reports = length t.reports.now;
    }

-- It gives the figures that the machine opens with, and the tables show its state; where it is declined, it wrote nothing.
pub record Opens {V : Type 0} (c : Setting V) (o : Opening V) (before after : Tables V) (result : Result (Figures V) Decline) : Type 0 where
  pub figures : result ≡ permitted (open_decline c (lengths before) o) (figures_of c o)
  pub shows : ForOk result (λ f. Becomes f before after (opened c o))
  pub declined : ForErr result (λ reason. after ≡ before)
