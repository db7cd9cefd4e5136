use Rattle.std.proofs.Common.{◌≡◌, ℕ, ◌<◌, Bool}
use Rattle.station_set.specs.Sets.{set_of}
use Rattle.station_set.proofs.set_of.Given as goal

abbrev pub invariant-loop-s : goal.invariant-loop-s
invariant-loop-s g l =
    ((s : ℕ) → s < l.fn.n → goal.F-pre g l.passes s)
    × ((test : ℕ → Bool) → ((s : ℕ) (b : Bool) → s < l.s → goal.F-post g l.passes s b → b ≡ test s) → l.set ≡ set_of l.s test)
