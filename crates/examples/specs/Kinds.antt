-- When two values of the example's kind are the same.
use Rattle.std.specs.Prelude.{Bool, ◌&&◌, ◌==◌}
use Rattle.examples.specs.declared.kinds.Timed.{Timed}

abbrev pub same_timed : Timed → Timed → Bool
same_timed a b = a.count == b.count && a.second == b.second
