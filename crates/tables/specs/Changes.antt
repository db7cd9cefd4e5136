-- How one part of the state changes, where the machine has no word for it.
use Rattle.std.specs.Prelude.{◌≡◌, ℕ, ◌<◌, None}
use Rattle.machine.specs.declared.figures.Figures.{Figures}
use Rattle.machine.specs.declared.message.Message.{Message}
use Rattle.machine.specs.declared.station.RegisterCopy.{RegisterCopy}
use Rattle.machine.specs.State.{Cell, State, send, to_all, with_cell}
use Rattle.machine.specs.Publishing.{vote_echo, vote_ready}
use Rattle.machine.specs.Calls.{Names}
use Rattle.tables.specs.declared.lent.Tables.{Tables}
use Rattle.tables.specs.declared.lent.VoteKind.{VoteKind}
use Rattle.tables.specs.declared.lent.VoteKind.TheVariants.{Echo, Ready}
use Rattle.tables.specs.View.{view, Becomes}

-- a cell with one vote more
abbrev pub vote : {V : Type 0} → VoteKind → ℕ → V → Cell V → Cell V
vote Echo k v c = vote_echo k v c
vote Ready k v c = vote_ready k v c

-- station i's copy of register j becomes another
abbrev pub with_copy : {V : Type 0} → ℕ → ℕ → RegisterCopy V → State V → State V
with_copy i j copy s = with_cell i j (record { copy = copy; echoes = (s.cell i j).echoes; readies = (s.cell i j).readies }) s

-- nobody has cast a vote of a kind
abbrev pub no_votes : {V : Type 0} → VoteKind → Cell V → Cell V
no_votes Echo c = record { copy = c.copy; echoes = λ _. None; readies = c.readies }
no_votes Ready c = record { copy = c.copy; echoes = c.echoes; readies = λ _. None }

abbrev pub with_no_votes : {V : Type 0} → VoteKind → ℕ → ℕ → State V → State V
with_no_votes kind i j s = with_cell i j (no_votes kind (s.cell i j)) s

-- If the message to station k can only be the one that a table has, those of the table are sent.
abbrev pub SendsEach : {V : Type 0} → Figures V → (ℕ → Message V → Type 0) → Tables V → Tables V → Type 0
SendsEach {V} f CanBe before after =
    (table : ℕ → Message V) → ((k : ℕ) (m : Message V) → k < f.stations → CanBe k m → m ≡ table k) → ((k : ℕ) → k < f.stations → Names f.stations (table k))
    → Becomes f before after (send (to_all f.stations table) (view f before))
