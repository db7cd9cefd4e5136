use Rattle.std.specs.Fmt.{HasWritten, IsPlainFormatter}
use Rattle.survey_text.specs.Printed.{members_text}
use Rattle.survey_text.proofs.sets.BracedDisplay.fmt.Given as goal

abbrev pub invariant-loop-s : goal.invariant-loop-s
invariant-loop-s g l =
    IsPlainFormatter l.initial.f → HasWritten g.W.Write.write_str_gives l.initial.f (members_text l.s-counter l.self.0) l.f
