-- When two values of a kind are the same.
use Rattle.std.specs.Prelude.{Bool, ◌&&◌, ◌==◌}
use Rattle.value.specs.declared.tally.Tally.{Tally}
use Rattle.value.specs.declared.number.Number.{Number}

abbrev pub same_number : Number → Number → Bool
same_number a b = a.0 == b.0

-- in all three counts
abbrev pub same_tally : Tally → Tally → Bool
same_tally a b = a.passed == b.passed && (a.failed == b.failed && a.skipped == b.skipped)
