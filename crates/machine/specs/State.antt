-- What a bench holds while it is open, and how one part of it changes.
use Rattle.std.specs.Prelude.{◌≡◌, ℕ, Bool, false, cond, ◌&&◌, List, ◌++◌, map, None, Decides, Option, ◌==◌}
use Rattle.std.specs.List.{range_with_len, remove as removed}
use Rattle.station_set.specs.Sets.{has}
use Rattle.quorum.specs.Laws.{Families, Laws}
use Rattle.machine.specs.declared.figures.Figures.{Figures}
use Rattle.machine.specs.declared.message.Message.{Message}
use Rattle.machine.specs.declared.station.Stage.{Stage}
use Rattle.machine.specs.declared.station.Station.{Station}
use Rattle.machine.specs.declared.station.RegisterCopy.{RegisterCopy}

-- What a call is handed: the quorum system, as its stations and its two families, and the test of sameness of values.
pub record Setting (V : Type 0) : Type 0 where
  pub system : Families
  pub same : V → V → Bool

abbrev pub setting : {V : Type 0} → Families → (V → V → Bool) → Setting V
setting system same = record { system = system; same = same }

-- what is supposed of it: the five laws, and that sameness of values is exact
pub record Lawful {V : Type 0} (c : Setting V) : Type 0 where
  pub laws : Laws c.system
  pub exact : (a b : V) → Decides (c.same a b) (a ≡ b)

-- A station works on one publication of each register: the one after the number that its copy has.
-- A cell is its copy, and the first ECHO and the first READY vote of each station for that publication.
pub record Cell (V : Type 0) : Type 0 where
  pub copy : RegisterCopy V
  pub echoes : ℕ → Option V
  pub readies : ℕ → Option V

pub record State (V : Type 0) : Type 0 where
  pub figures : Figures V
  -- cell i j: what station i has of register j
  pub cell : ℕ → ℕ → Cell V
  pub station : ℕ → Station V
  -- reads i j: the number of station i's last reading of register j
  pub reads : ℕ → ℕ → ℕ
  -- reports i k: what station k last reported to a query of station i; it counts while k is among those that reported
  pub reports : ℕ → ℕ → ℕ
  -- held i k j: the highest number for which station k awaits station i's catch-up answer about register j, or 0
  pub held : ℕ → ℕ → ℕ → ℕ
  -- the messages on their way, in the order they joined
  pub pool : List (Message V)

-- a table with one entry overwritten
abbrev pub put : {A : Type 0} → ℕ → A → (ℕ → A) → ℕ → A
put i x f a = cond (a == i) x (f a)

abbrev pub put_pair : {A : Type 0} → ℕ → ℕ → A → (ℕ → ℕ → A) → ℕ → ℕ → A
put_pair i j x f a b = cond (a == i && b == j) x (f a b)

abbrev pub put_triple : {A : Type 0} → ℕ → ℕ → ℕ → A → (ℕ → ℕ → ℕ → A) → ℕ → ℕ → ℕ → A
put_triple i k j x f a b c = cond (a == i && (b == k && c == j)) x (f a b c)

-- one part of the state becomes another
abbrev pub with_pool : {V : Type 0} → List (Message V) → State V → State V
with_pool pool s =
    record { figures = s.figures; cell = s.cell; station = s.station; reads = s.reads; reports = s.reports; held = s.held; pool = pool }

abbrev pub with_cell : {V : Type 0} → ℕ → ℕ → Cell V → State V → State V
with_cell i j c s =
    record {
      figures = s.figures;
      cell = put_pair i j c s.cell;
      station = s.station;
      reads = s.reads;
      reports = s.reports;
      held = s.held;
      pool = s.pool;
    }

abbrev pub with_stage : {V : Type 0} → ℕ → Stage V → State V → State V
with_stage i stage s =
    record {
      figures = s.figures;
      cell = s.cell;
      station = λ a. record { opening = (s.station a).opening; written = (s.station a).written; stage = put i stage (λ b. (s.station b).stage) a };
      reads = s.reads;
      reports = s.reports;
      held = s.held;
      pool = s.pool;
    }

abbrev pub with_written : {V : Type 0} → ℕ → ℕ → State V → State V
with_written i x s =
    record {
      figures = s.figures;
      cell = s.cell;
      station = λ a. record { opening = (s.station a).opening; written = put i x (λ b. (s.station b).written) a; stage = (s.station a).stage };
      reads = s.reads;
      reports = s.reports;
      held = s.held;
      pool = s.pool;
    }

abbrev pub with_reads : {V : Type 0} → ℕ → ℕ → ℕ → State V → State V
with_reads i j r s =
    record {
      figures = s.figures;
      cell = s.cell;
      station = s.station;
      reads = put_pair i j r s.reads;
      reports = s.reports;
      held = s.held;
      pool = s.pool;
    }

abbrev pub with_report : {V : Type 0} → ℕ → ℕ → ℕ → State V → State V
with_report i k x s =
    record {
      figures = s.figures;
      cell = s.cell;
      station = s.station;
      reads = s.reads;
      reports = put_pair i k x s.reports;
      held = s.held;
      pool = s.pool;
    }

abbrev pub with_held : {V : Type 0} → (ℕ → ℕ → ℕ → ℕ) → State V → State V
with_held held s =
    record { figures = s.figures; cell = s.cell; station = s.station; reads = s.reads; reports = s.reports; held = held; pool = s.pool }

-- the two ways the pool changes: a message leaves and those behind it move up; messages join the end
abbrev pub remove : {V : Type 0} → ℕ → State V → State V
remove place s = with_pool (removed s.pool place) s

abbrev pub send : {V : Type 0} → List (Message V) → State V → State V
send messages s = with_pool (s.pool ++ messages) s

-- one message to each station, from station 0 on
abbrev pub to_all : {A : Type 0} → ℕ → (ℕ → A) → List A
to_all n message = map message (range_with_len 0 n)

-- how far station i is with register j
abbrev pub number : {V : Type 0} → State V → ℕ → ℕ → ℕ
number s i j = (s.cell i j).copy.number

abbrev pub is_faulty : {V : Type 0} → State V → ℕ → Bool
is_faulty s k = has s.figures.faulty k

-- a cell where nothing was sent and nobody has voted
abbrev pub fresh_cell : {V : Type 0} → V → ℕ → Cell V
fresh_cell v x = record { copy = record { value = v; number = x; echoed = false; readied = false }; echoes = λ _. None; readies = λ _. None }
