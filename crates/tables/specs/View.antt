-- What the tables of an open bench show: the machine's state.
use Rattle.std.specs.Prelude.{◌≡◌, ℕ, ◌*◌, ◌≤◌, List, length, Option, None}
use Rattle.std.specs.List.{All}
use Rattle.grid.specs.Grid.{line, pairs, triples, halves}
use Rattle.slices.specs.Lent.{SamePast}
use Rattle.pool.specs.Pool.{in_order}
use Rattle.machine.specs.declared.figures.Figures.{Figures}
use Rattle.machine.specs.declared.station.RegisterCopy.{RegisterCopy}
use Rattle.machine.specs.State.{Cell, State, fresh_cell}
use Rattle.machine.specs.Calls.{Names, first_station}
use Rattle.tables.specs.declared.lent.Tables.{Tables}
use Rattle.tables.specs.declared.lent.VoteKind.{VoteKind}
use Rattle.tables.specs.declared.lent.VoteKind.TheVariants.{Echo, Ready}

-- what a table shows past its stations: the entries that opening writes
abbrev pub first_copy : {V : Type 0} → V → RegisterCopy V
first_copy v = (fresh_cell v 0).copy

-- the votes of a kind
abbrev pub half : VoteKind → ℕ
half Echo = 0
half Ready = 1

abbrev pub votes_shown : {V : Type 0} → ℕ → List (Option V) → VoteKind → ℕ → ℕ → ℕ → Option V
votes_shown n votes kind = halves None n votes (half kind)

abbrev pub cells : {V : Type 0} → Figures V → List (RegisterCopy V) → List (Option V) → ℕ → ℕ → Cell V
cells f copies votes i j =
    record {
      copy = pairs (first_copy f.opening) f.stations copies i j;
      echoes = votes_shown f.stations votes Echo i j;
      readies = votes_shown f.stations votes Ready i j;
    }

abbrev pub view : {V : Type 0} → Figures V → Tables V → State V
view f t =
    record {
      figures = f;
      cell = cells f t.copies.now t.votes.now;
      station = line (first_station f.opening) f.stations t.stations.now;
      reads = pairs 0 f.stations t.reads.now;
      reports = pairs 0 f.stations t.reports.now;
      held = triples 0 f.stations t.held.now;
      pool = in_order t.pool;
    }

-- the votes of a kind that a cell holds
abbrev pub votes_of : {V : Type 0} → VoteKind → Cell V → ℕ → Option V
votes_of Echo c = c.echoes
votes_of Ready c = c.readies

-- the figures are below their upper limits, and the slices have room for them
pub record Room {V : Type 0} (f : Figures V) (t : Tables V) : Type 0 where
  pub few : f.stations ≤ 10
  pub numbers : f.highest ≤ 999999999999
  pub places : f.places ≤ 4000
  pub slots : f.places ≤ length t.pool.slots.now
  pub votes : 2 * f.stations * f.stations * f.stations ≤ length t.votes.now
  pub held : f.stations * f.stations * f.stations ≤ length t.held.now
  pub stations : f.stations ≤ length t.stations.now
  pub copies : f.stations * f.stations ≤ length t.copies.now
  pub reads : f.stations * f.stations ≤ length t.reads.now
  pub reports : f.stations * f.stations ≤ length t.reports.now

-- what always holds of the tables of an open bench
pub record Sound {V : Type 0} (f : Figures V) (t : Tables V) : Type 0 where
  pub room : Room f t
  pub waiting : t.pool.waiting ≤ f.places
  -- every message that waits is of stations and registers that there are
  pub named : All (Names f.stations) (in_order t.pool)

-- the slices are the same ones, and past what the bench uses of them they hold what they held
pub record SameLent {V : Type 0} (f : Figures V) (before after : Tables V) : Type 0 where
  pub messages : SamePast f.places before.pool.slots after.pool.slots
  pub votes : SamePast (2 * f.stations * f.stations * f.stations) before.votes after.votes
  pub held : SamePast (f.stations * f.stations * f.stations) before.held after.held
  pub stations : SamePast f.stations before.stations after.stations
  pub copies : SamePast (f.stations * f.stations) before.copies after.copies
  pub reads : SamePast (f.stations * f.stations) before.reads after.reads
  pub reports : SamePast (f.stations * f.stations) before.reports after.reports

-- sound tables, in the caller's memory, that show s
pub record Becomes {V : Type 0} (f : Figures V) (before after : Tables V) (s : State V) : Type 0 where
  pub shows : view f after ≡ s
  pub sound : Sound f after
  pub lent : SameLent f before after
