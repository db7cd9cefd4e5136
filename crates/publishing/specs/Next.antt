-- The publication that a station works on.
use Rattle.std.specs.Prelude.{◌≡◌, ℕ, suc}
use Rattle.machine.specs.declared.figures.Figures.{Figures}
use Rattle.machine.specs.State.{number}
use Rattle.tables.specs.declared.lent.Tables.{Tables}
use Rattle.tables.specs.View.{view}
use Rattle.publishing.specs.declared.publication.Publication.{Publication}

-- it is the one after the number that station i's copy of the register has
abbrev pub IsNext : {V : Type 0} → Figures V → Tables V → ℕ → Publication V → Type 0
IsNext f t i publication = publication.number ≡ suc (number (view f t) i publication.register)
