-- Between calls nothing is left undone, at any station: what votes or answers call for has been done in the call that brought the last of them.
use Rattle.std.proofs.Common.{◌≡◌, ℕ}
use Rattle.machine.specs.declared.call.Opening.{Opening}
use Rattle.machine.specs.declared.call.Call.{Call}
use Rattle.machine.specs.State.{Setting, Lawful, State, number}
use Rattle.machine.specs.Calls.{step, opened}
use Rattle.machine.proofs.CalmCells.{CalmCell, cells_step, cells_opened}
use Rattle.machine.proofs.CalmStages.{CalmStage, stages_step, stages_opened}

module _ {V : Type 0} (c : Setting V) (L : Lawful c) where
  pub record Calm (s : State V) : Type 0 where
    pub cells : (a b : ℕ) → CalmCell c L s.figures.stations (s.cell a b)
    pub stages : (a : ℕ) → CalmStage c L s.figures.stations (λ b. number s a b) (s.reports a) (s.station a).stage

  pub calm_opened : (o : Opening V) → Calm (opened c o)
  calm_opened o = record { cells = (cells_opened c L o).each; stages = (stages_opened c L o).each }

  pub calm_step : (s : State V) → s.figures.stations ≡ c.system.stations → Calm s → (call : Call V) → Calm (step c s call).state
  calm_step s sized h call =
      record {
        cells = (cells_step c L s sized (record { each = h.cells }) call).each;
        stages = (stages_step c L s sized (record { each = h.stages }) call).each;
      }
