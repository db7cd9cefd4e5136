-- A message that leaves the pool does not change whether one is ahead.
use Rattle.std.proofs.Common.{◌≡◌, ℕ, refl}
use Rattle.machine.specs.declared.message.Message.{Message}
use Rattle.machine.specs.declared.message.Message.TheVariants.{Init, Echo, Ready, WriteDone, Read, State as StateOf, CatchUp, CatchUpDone}
use Rattle.machine.specs.State.{State, remove}
use Rattle.machine.specs.Calls.{ahead}

pub ahead_removed : {V : Type 0} (place : ℕ) (s : State V) (m : Message V) → ahead (remove place s) m ≡ ahead s m
ahead_removed place s (Init k i x v) = refl
ahead_removed place s (Echo k i j x v) = refl
ahead_removed place s (Ready k i j x v) = refl
ahead_removed place s (WriteDone k i x) = refl
ahead_removed place s (Read k i j r) = refl
ahead_removed place s (StateOf k i j r x) = refl
ahead_removed place s (CatchUp k i j x) = refl
ahead_removed place s (CatchUpDone k i j x) = refl
