-- How a correct station acts on the other five kinds: the operations on the registers above the broadcast.
use Rattle.std.specs.Prelude.{ℕ, max, cond, not, ◌&&◌, [], ◌∷◌, ◌==◌, nat_le, Ok, Result}
use Rattle.decline.specs.declared.Decline.{Decline}
use Rattle.station_set.specs.Sets.{has, with_station, set_of}
use Rattle.machine.specs.declared.message.Message.TheVariants.{State as StateOf, CatchUp, CatchUpDone}
use Rattle.machine.specs.declared.station.Stage.{Stage}
use Rattle.machine.specs.declared.station.Stage.TheVariants.{Idle, Writing, Querying, Catching}
use Rattle.machine.specs.declared.call.Answer.{Answer}
use Rattle.machine.specs.declared.call.Answer.TheVariants.{Done, WriteEnded, ReadEnded}
use Rattle.machine.specs.State.{Setting, State, number, put_triple, with_stage, with_report, with_held, send, to_all}

-- what a call leaves, and what it answers
pub record Outcome (V : Type 0) : Type 0 where
  pub state : State V
  pub answer : Result (Answer V) Decline

abbrev pub leaves : {V : Type 0} → State V → Outcome V
leaves s = record { state = s; answer = Ok Done }

-- the stations of those that reported whose report is at most x
abbrev pub fresh_reports : ℕ → ℕ → ℕ → (ℕ → ℕ) → ℕ
fresh_reports n x reported row = set_of n (λ k. has reported k && nat_le (row k) x)

-- station i notes its copy of register j and asks who is as far
abbrev pub start_catching : {V : Type 0} → ℕ → ℕ → State V → State V
start_catching i j s =
    send (to_all s.figures.stations (λ k. CatchUp i k j (number s i j)))
    (with_stage i (Catching j (number s i j) (s.cell i j).copy.value 0) s)

abbrev pub freshness_at : {V : Type 0} → Setting V → ℕ → ℕ → State V → Stage V → State V
freshness_at c i j s Idle = s
freshness_at c i j s (Writing x done) = s
freshness_at c i j s (Querying asked r reported) =
    cond (asked == j && c.system.quorum (fresh_reports s.figures.stations (number s i j) reported (s.reports i))) (start_catching i j s) s
freshness_at c i j s (Catching caught x v done) = s

-- if station i is querying register j, and the stations whose report is at most its own number are a quorum, it goes on to catching
abbrev pub test_freshness : {V : Type 0} → Setting V → ℕ → ℕ → State V → State V
test_freshness c i j s = freshness_at c i j s (s.station i).stage

-- WRITE_DONE from station k: while i is writing this number, k is done
abbrev pub end_write : {V : Type 0} → Setting V → ℕ → ℕ → ℕ → State V → Outcome V
end_write c i x done s =
    cond (c.system.quorum done) (record { state = with_stage i Idle s; answer = Ok (WriteEnded i x) }) (leaves (with_stage i (Writing x done) s))

abbrev pub write_done_at : {V : Type 0} → Setting V → ℕ → ℕ → ℕ → State V → Stage V → Outcome V
write_done_at c i k x s Idle = leaves s
write_done_at c i k x s (Writing y done) = cond (y == x) (end_write c i x (with_station done k) s) (leaves s)
write_done_at c i k x s (Querying j r reported) = leaves s
write_done_at c i k x s (Catching j y v done) = leaves s

abbrev pub on_write_done : {V : Type 0} → Setting V → ℕ → ℕ → ℕ → State V → Outcome V
on_write_done c i k x s = write_done_at c i k x s (s.station i).stage

-- READ from station k: tell it how far i is
abbrev pub on_read : {V : Type 0} → ℕ → ℕ → ℕ → ℕ → State V → State V
on_read i k j r s = send (StateOf i k j r (number s i j) ∷ []) s

-- STATE from station k: its first report to this reading is kept, and the freshness test follows
abbrev pub keep_report : {V : Type 0} → ℕ → ℕ → ℕ → ℕ → ℕ → ℕ → State V → State V
keep_report i k j r x reported s =
    with_report i k x (with_stage i (Querying j r (with_station reported k)) s)

abbrev pub state_at : {V : Type 0} → Setting V → ℕ → ℕ → ℕ → ℕ → ℕ → State V → Stage V → State V
state_at c i k j r x s Idle = s
state_at c i k j r x s (Writing y done) = s
state_at c i k j r x s (Querying asked read reported) =
    cond (asked == j && (read == r && not (has reported k))) (test_freshness c i j (keep_report i k j r x reported s)) s
state_at c i k j r x s (Catching caught y v done) = s

abbrev pub on_state : {V : Type 0} → Setting V → ℕ → ℕ → ℕ → ℕ → ℕ → State V → State V
on_state c i k j r x s = state_at c i k j r x s (s.station i).stage

-- CATCH_UP from station k: answer where i is as far, else hold the larger of the two numbers
abbrev pub on_catch_up : {V : Type 0} → ℕ → ℕ → ℕ → ℕ → State V → State V
on_catch_up i k j x s =
    cond (nat_le x (number s i j)) (send (CatchUpDone i k j x ∷ []) s) (with_held (put_triple i k j (max (s.held i k j) x) s.held) s)

-- CATCH_UP_DONE from station k: while i is catching this number, k is done; the reading returns what was noted
abbrev pub end_read : {V : Type 0} → Setting V → ℕ → ℕ → ℕ → V → ℕ → State V → Outcome V
end_read c i j x v done s =
    cond (c.system.quorum done) (record { state = with_stage i Idle s; answer = Ok (ReadEnded i j x v) }) (leaves (with_stage i (Catching j x v done) s))

abbrev pub catch_up_done_at : {V : Type 0} → Setting V → ℕ → ℕ → ℕ → ℕ → State V → Stage V → Outcome V
catch_up_done_at c i k j x s Idle = leaves s
catch_up_done_at c i k j x s (Writing y done) = leaves s
catch_up_done_at c i k j x s (Querying asked r reported) = leaves s
catch_up_done_at c i k j x s (Catching caught y v done) =
    cond (caught == j && y == x) (end_read c i j x v (with_station done k) s) (leaves s)

abbrev pub on_catch_up_done : {V : Type 0} → Setting V → ℕ → ℕ → ℕ → ℕ → State V → Outcome V
on_catch_up_done c i k j x s = catch_up_done_at c i k j x s (s.station i).stage
