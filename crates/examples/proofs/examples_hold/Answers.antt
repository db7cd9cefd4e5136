use Rattle.examples.proofs.Checked.{examples_hold}
use Rattle.examples.proofs.examples_hold.Goals as goal

pub returns : goal.returns
returns c = examples_hold
