-- The calls on a bench: when each is declined, what it does otherwise, and a run of calls.
use Rattle.std.specs.Prelude.{◌≡◌, ℕ, suc, ◌+◌, ◌*◌, ◌<◌, Bool, true, false, cond, not, ◌&&◌, ◌||◌, List, [], ◌∷◌, length, Some, None, is_none, count_by, Option, ◌==◌, nat_le, nat_lt, Ok, Err, Result}
use Rattle.std.specs.List.{slice_get}
use Rattle.decline.specs.declared.Decline.{Decline}
use Rattle.decline.specs.declared.Decline.TheVariants.{Closed, AlreadyOpen, OutsideLimits, NotAllowed, OtherSize, NoSuchStation, WrongSide, BadForgery, NotIdle, NumbersUsedUp, NoSuchMessage, Ahead, PoolFull}
use Rattle.machine.specs.declared.figures.Figures.{Figures}
use Rattle.machine.specs.declared.message.Message.{Message}
use Rattle.machine.specs.declared.message.Message.TheVariants.{Init, Echo, Ready, WriteDone, Read, State as StateOf, CatchUp, CatchUpDone}
use Rattle.machine.specs.declared.station.Stage.{Stage}
use Rattle.machine.specs.declared.station.Stage.TheVariants.{Idle, Writing, Querying, Catching}
use Rattle.machine.specs.declared.station.Station.{Station}
use Rattle.machine.specs.declared.call.Opening.{Opening}
use Rattle.machine.specs.declared.call.Forgery.{Forgery}
use Rattle.machine.specs.declared.call.Call.{Call}
use Rattle.machine.specs.declared.call.Call.TheVariants.{Open, BeginWrite, BeginRead, Take, Forge, Withdraw, Count}
use Rattle.machine.specs.declared.call.Answer.{Answer}
use Rattle.machine.specs.declared.call.Answer.TheVariants.{Done, Counted}
use Rattle.machine.specs.State.{Setting, State, number, is_faulty, fresh_cell, with_stage, with_written, with_reads, remove, send, to_all}
use Rattle.machine.specs.Publishing.{on_init, on_echo, on_ready}
use Rattle.machine.specs.Operations.{Outcome, leaves, on_write_done, on_read, on_state, on_catch_up, on_catch_up_done}

-- Messages

abbrev pub sender : {V : Type 0} → Message V → ℕ
sender (Init k i x v) = k
sender (Echo k i j x v) = k
sender (Ready k i j x v) = k
sender (WriteDone k i x) = k
sender (Read k i j r) = k
sender (StateOf k i j r x) = k
sender (CatchUp k i j x) = k
sender (CatchUpDone k i j x) = k

abbrev pub receiver : {V : Type 0} → Message V → ℕ
receiver (Init k i x v) = i
receiver (Echo k i j x v) = i
receiver (Ready k i j x v) = i
receiver (WriteDone k i x) = i
receiver (Read k i j r) = i
receiver (StateOf k i j r x) = i
receiver (CatchUp k i j x) = i
receiver (CatchUpDone k i j x) = i

-- all its stations, and its register if it names one, are below n
abbrev pub Names : {V : Type 0} → ℕ → Message V → Type 0
Names n (Init k i x v) = (k < n) × (i < n)
Names n (Echo k i j x v) = (k < n) × (i < n) × (j < n)
Names n (Ready k i j x v) = (k < n) × (i < n) × (j < n)
Names n (WriteDone k i x) = (k < n) × (i < n)
Names n (Read k i j r) = (k < n) × (i < n) × (j < n)
Names n (StateOf k i j r x) = (k < n) × (i < n) × (j < n)
Names n (CatchUp k i j x) = (k < n) × (i < n) × (j < n)
Names n (CatchUpDone k i j x) = (k < n) × (i < n) × (j < n)

-- an INIT, ECHO or READY past the publication that its receiver works on: it has to wait
abbrev pub ahead : {V : Type 0} → State V → Message V → Bool
ahead s (Init k i x v) = nat_lt (suc (number s i k)) x
ahead s (Echo k i j x v) = nat_lt (suc (number s i j)) x
ahead s (Ready k i j x v) = nat_lt (suc (number s i j)) x
ahead s (WriteDone k i x) = false
ahead s (Read k i j r) = false
ahead s (StateOf k i j r x) = false
ahead s (CatchUp k i j x) = false
ahead s (CatchUpDone k i j x) = false

-- a publication that its receiver has taken already has no effect
abbrev pub unless_old : {V : Type 0} → ℕ → ℕ → ℕ → State V → State V → State V
unless_old i j x s acted = cond (nat_le x (number s i j)) s acted

-- what a correct receiver does with a message that has left the pool and is not ahead
abbrev pub act : {V : Type 0} → Setting V → State V → Message V → Outcome V
act c s (Init k i x v) = leaves (unless_old i k x s (on_init i k v s))
act c s (Echo k i j x v) = leaves (unless_old i j x s (on_echo c i j k v s))
act c s (Ready k i j x v) = leaves (unless_old i j x s (on_ready c i j k v s))
act c s (WriteDone k i x) = on_write_done c i k x s
act c s (Read k i j r) = leaves (on_read i k j r s)
act c s (StateOf k i j r x) = leaves (on_state c i k j r x s)
act c s (CatchUp k i j x) = leaves (on_catch_up i k j x s)
act c s (CatchUpDone k i j x) = on_catch_up_done c i k j x s

-- Declines

-- of reasons in their order, the first that fits
abbrev pub first_that_fits : List (Bool × Decline) → Option Decline
first_that_fits [] = None
first_that_fits (reason ∷ reasons) = cond reason.0 (Some reason.1) (first_that_fits reasons)

-- a call that is declined changes nothing
abbrev pub unless : {V : Type 0} → Option Decline → Outcome V → State V → Outcome V
unless None outcome s = outcome
unless (Some reason) outcome s = record { state = s; answer = Err reason }

abbrev pub within : ℕ → ℕ → ℕ → Bool
within low high x = nat_le low x && nat_le x high

-- a call sends at most 3n + 1 messages, so it wants that many free places
abbrev pub has_places : {V : Type 0} → State V → Bool
has_places s = nat_le (length s.pool + (3 * s.figures.stations + 1)) s.figures.places

abbrev pub is_idle : {V : Type 0} → Stage V → Bool
is_idle Idle = true
is_idle (Writing x done) = false
is_idle (Querying j r reported) = false
is_idle (Catching j x v done) = false

-- Begin write and begin read

abbrev pub write_reasons : {V : Type 0} → State V → ℕ → List (Bool × Decline)
write_reasons s i =
    (not (nat_lt i s.figures.stations), NoSuchStation)
    ∷ (is_faulty s i, WrongSide)
    ∷ (not (is_idle (s.station i).stage), NotIdle)
    ∷ (not (nat_lt (s.station i).written s.figures.highest), NumbersUsedUp)
    ∷ (not (has_places s), PoolFull)
    ∷ []

abbrev pub write_decline : {V : Type 0} → State V → ℕ → Option Decline
write_decline s i = first_that_fits (write_reasons s i)

abbrev pub begin_write : {V : Type 0} → ℕ → V → State V → State V
begin_write i v s =
    let x = suc (s.station i).written in
    send (to_all s.figures.stations (λ k. Init i k x v)) (with_stage i (Writing x 0) (with_written i x s))

abbrev pub write_outcome : {V : Type 0} → State V → ℕ → V → Outcome V
write_outcome s i v = unless (write_decline s i) (leaves (begin_write i v s)) s

abbrev pub read_reasons : {V : Type 0} → State V → ℕ → ℕ → List (Bool × Decline)
read_reasons s i j =
    (not (nat_lt i s.figures.stations && nat_lt j s.figures.stations), NoSuchStation)
    ∷ (is_faulty s i, WrongSide)
    ∷ (not (is_idle (s.station i).stage), NotIdle)
    ∷ (not (nat_lt (s.reads i j) s.figures.highest), NumbersUsedUp)
    ∷ (not (has_places s), PoolFull)
    ∷ []

abbrev pub read_decline : {V : Type 0} → State V → ℕ → ℕ → Option Decline
read_decline s i j = first_that_fits (read_reasons s i j)

abbrev pub begin_read : {V : Type 0} → ℕ → ℕ → State V → State V
begin_read i j s =
    let r = suc (s.reads i j) in
    send (to_all s.figures.stations (λ k. Read i k j r)) (with_stage i (Querying j r 0) (with_reads i j r s))

abbrev pub read_outcome : {V : Type 0} → State V → ℕ → ℕ → Outcome V
read_outcome s i j = unless (read_decline s i j) (leaves (begin_read i j s)) s

-- Take: a faulty receiver only removes the message

abbrev pub receive_reasons : {V : Type 0} → State V → Message V → List (Bool × Decline)
receive_reasons s m = (ahead s m, Ahead) ∷ (not (has_places s), PoolFull) ∷ []

abbrev pub receive_decline : {V : Type 0} → State V → Option (Message V) → Option Decline
receive_decline s None = Some NoSuchMessage
receive_decline s (Some m) = cond (is_faulty s (receiver m)) None (first_that_fits (receive_reasons s m))

abbrev pub take_decline : {V : Type 0} → Setting V → State V → ℕ → Option Decline
take_decline c s place = cond (c.system.stations == s.figures.stations) (receive_decline s (slice_get s.pool place)) (Some OtherSize)

abbrev pub receive : {V : Type 0} → Setting V → ℕ → State V → Option (Message V) → Outcome V
receive c place s None = leaves s
receive c place s (Some m) = cond (is_faulty s (receiver m)) (leaves (remove place s)) (act c (remove place s) m)

abbrev pub take_outcome : {V : Type 0} → Setting V → State V → ℕ → Outcome V
take_outcome c s place = unless (take_decline c s place) (receive c place s (slice_get s.pool place)) s

-- Forge: one message from a faulty sender, with the fields that its kind uses

abbrev pub uses_register : ℕ → Bool
uses_register kind = within 2 3 kind || within 5 8 kind

-- the message of these fields; none where there is no such kind, or a number is outside its range
abbrev pub forged : {V : Type 0} → ℕ → Forgery V → Option (Message V)
forged highest f =
    cond (f.kind == 1) (cond (within 1 highest f.number) (Some (Init f.sender f.receiver f.number f.value)) None)
    (cond (f.kind == 2) (cond (within 1 highest f.number) (Some (Echo f.sender f.receiver f.register f.number f.value)) None)
    (cond (f.kind == 3) (cond (within 1 highest f.number) (Some (Ready f.sender f.receiver f.register f.number f.value)) None)
    (cond (f.kind == 4) (cond (within 1 highest f.number) (Some (WriteDone f.sender f.receiver f.number)) None)
    (cond (f.kind == 5) (cond (within 1 highest f.read) (Some (Read f.sender f.receiver f.register f.read)) None)
    (cond (f.kind == 6) (cond (within 1 highest f.read && within 0 highest f.number) (Some (StateOf f.sender f.receiver f.register f.read f.number)) None)
    (cond (f.kind == 7) (cond (within 0 highest f.number) (Some (CatchUp f.sender f.receiver f.register f.number)) None)
    (cond (f.kind == 8) (cond (within 0 highest f.number) (Some (CatchUpDone f.sender f.receiver f.register f.number)) None)
    None)))))))

-- which fields a kind uses besides its sender and receiver, and, above, a register
abbrev pub uses_number : ℕ → Bool
uses_number kind = within 1 4 kind || within 6 8 kind

abbrev pub uses_read : ℕ → Bool
uses_read kind = within 5 6 kind

abbrev pub uses_value : ℕ → Bool
uses_value kind = within 1 3 kind

-- fields as a forge takes them: a number that the kind does not use is 0, an unused value the opening one
abbrev pub normalized : {V : Type 0} → V → Forgery V → Forgery V
normalized opening f =
    record {
      kind = f.kind;
      sender = f.sender;
      receiver = f.receiver;
      register = cond (uses_register f.kind) f.register 0;
      number = cond (uses_number f.kind) f.number 0;
      read = cond (uses_read f.kind) f.read 0;
      value = cond (uses_value f.kind) f.value opening;
    }

-- a message with all its fields: the number of its kind, and 0 and the opening value where it has none
abbrev pub spelled : {V : Type 0} → V → Message V → Forgery V
spelled o (Init k i x v) = record { kind = 1; sender = k; receiver = i; register = 0; number = x; read = 0; value = v }
spelled o (Echo k i j x v) = record { kind = 2; sender = k; receiver = i; register = j; number = x; read = 0; value = v }
spelled o (Ready k i j x v) = record { kind = 3; sender = k; receiver = i; register = j; number = x; read = 0; value = v }
spelled o (WriteDone k i x) = record { kind = 4; sender = k; receiver = i; register = 0; number = x; read = 0; value = o }
spelled o (Read k i j r) = record { kind = 5; sender = k; receiver = i; register = j; number = 0; read = r; value = o }
spelled o (StateOf k i j r x) = record { kind = 6; sender = k; receiver = i; register = j; number = x; read = r; value = o }
spelled o (CatchUp k i j x) = record { kind = 7; sender = k; receiver = i; register = j; number = x; read = 0; value = o }
spelled o (CatchUpDone k i j x) = record { kind = 8; sender = k; receiver = i; register = j; number = x; read = 0; value = o }

-- the ranges of the numbers of each kind
abbrev pub in_range : {V : Type 0} → ℕ → Message V → Bool
in_range highest (Init k i x v) = within 1 highest x
in_range highest (Echo k i j x v) = within 1 highest x
in_range highest (Ready k i j x v) = within 1 highest x
in_range highest (WriteDone k i x) = within 1 highest x
in_range highest (Read k i j r) = within 1 highest r
in_range highest (StateOf k i j r x) = within 1 highest r && within 0 highest x
in_range highest (CatchUp k i j x) = within 0 highest x
in_range highest (CatchUpDone k i j x) = within 0 highest x

-- A forged message is the fields that were given, normalized; and every message in its ranges can be forged.
pub record Forges {V : Type 0} (highest : ℕ) (opening : V) : Type 0 where
  pub as_given : (f : Forgery V) (m : Message V) → forged highest f ≡ Some m → (spelled opening m ≡ normalized opening f) × (in_range highest m ≡ true)
  pub all : (m : Message V) → in_range highest m ≡ true → forged highest (spelled opening m) ≡ Some m

abbrev pub forge_reasons : {V : Type 0} → State V → Forgery V → Option (Message V) → List (Bool × Decline)
forge_reasons s f message =
    (not (nat_lt f.sender s.figures.stations && nat_lt f.receiver s.figures.stations), NoSuchStation)
    ∷ (uses_register f.kind && not (nat_lt f.register s.figures.stations), NoSuchStation)
    ∷ (not (is_faulty s f.sender), WrongSide)
    ∷ (is_none message, BadForgery)
    ∷ (not (has_places s), PoolFull)
    ∷ []

abbrev pub forge_decline : {V : Type 0} → State V → Forgery V → Option (Message V) → Option Decline
forge_decline s f message = first_that_fits (forge_reasons s f message)

abbrev pub join_forged : {V : Type 0} → Option (Message V) → State V → State V
join_forged None s = s
join_forged (Some m) s = send (m ∷ []) s

abbrev pub forge_outcome : {V : Type 0} → State V → Forgery V → Outcome V
forge_outcome s f =
    unless (forge_decline s f (forged s.figures.highest f)) (leaves (join_forged (forged s.figures.highest f) s)) s

-- Withdraw: a message whose sender is faulty leaves

abbrev pub withdraw_decline : {V : Type 0} → State V → Option (Message V) → Option Decline
withdraw_decline s None = Some NoSuchMessage
withdraw_decline s (Some m) = cond (is_faulty s (sender m)) None (Some WrongSide)

abbrev pub withdraw_outcome : {V : Type 0} → State V → ℕ → Outcome V
withdraw_outcome s place = unless (withdraw_decline s (slice_get s.pool place)) (leaves (remove place s)) s

-- Count

abbrev pub is_correct : {V : Type 0} → State V → ℕ → Bool
is_correct s k = not (is_faulty s k)

abbrev pub between_correct : {V : Type 0} → State V → Message V → Bool
between_correct s m = is_correct s (sender m) && is_correct s (receiver m)

-- can be taken between correct stations
abbrev pub takeable : {V : Type 0} → State V → Message V → Bool
takeable s m = between_correct s m && not (ahead s m)

-- how many messages wait, and how many of them can be taken between correct stations
abbrev pub counts : {V : Type 0} → State V → ℕ × ℕ
counts s = (length s.pool, count_by (takeable s) s.pool)

abbrev pub count : {V : Type 0} → State V → Result (Answer V) Decline
count s = Ok (Counted (counts s).0 (counts s).1)

-- One call on an open bench

abbrev pub step : {V : Type 0} → Setting V → State V → Call V → Outcome V
step c s (Open o) = record { state = s; answer = Err AlreadyOpen }
step c s (BeginWrite i v) = write_outcome s i v
step c s (BeginRead i j) = read_outcome s i j
step c s (Take place) = take_outcome c s place
step c s (Forge f) = forge_outcome s f
step c s (Withdraw place) = withdraw_outcome s place
step c s Count = record { state = s; answer = count s }

-- a run of calls, one after the other
abbrev pub run : {V : Type 0} → Setting V → State V → List (Call V) → State V
run c s [] = s
run c s (call ∷ calls) = run c (step c s call).state calls

abbrev pub answers : {V : Type 0} → Setting V → State V → List (Call V) → List (Result (Answer V) Decline)
answers c s [] = []
answers c s (call ∷ calls) = (step c s call).answer ∷ answers c (step c s call).state calls

-- Open

-- how many elements each lent table has
pub record Lengths : Type 0 where
  pub messages : ℕ
  pub votes : ℕ
  pub held : ℕ
  pub stations : ℕ
  pub copies : ℕ
  pub reads : ℕ
  pub reports : ℕ

-- the tables have room for n stations and p messages
abbrev pub suffices : Lengths → ℕ → ℕ → Bool
suffices t n p =
    nat_le p t.messages
    && (nat_le (2 * (n * n * n)) t.votes
    && (nat_le (n * n * n) t.held
    && (nat_le n t.stations
    && (nat_le (n * n) t.copies && (nat_le (n * n) t.reads && nat_le (n * n) t.reports)))))

abbrev pub in_limits : Lengths → ℕ → ℕ → ℕ → Bool
in_limits t n highest places =
    within 1 10 n && (within 1 999999999999 highest && (within (3 * n + 1) 4000 places && suffices t n places))

abbrev pub open_reasons : {V : Type 0} → Setting V → Lengths → Opening V → List (Bool × Decline)
open_reasons c t o =
    (not (in_limits t c.system.stations o.highest o.places), OutsideLimits) ∷ (not (c.system.allowed o.faulty), NotAllowed) ∷ []

abbrev pub open_decline : {V : Type 0} → Setting V → Lengths → Opening V → Option Decline
open_decline c t o = first_that_fits (open_reasons c t o)

-- what opening fixes
abbrev pub figures_of : {V : Type 0} → Setting V → Opening V → Figures V
figures_of c o =
    record { stations = c.system.stations; faulty = o.faulty; highest = o.highest; places = o.places; opening = o.value }

-- the record of a station that has done nothing
abbrev pub first_station : {V : Type 0} → V → Station V
first_station v = record { opening = v; written = 0; stage = Idle }

-- the state of a bench that has just been opened with these figures
abbrev pub at_opening : {V : Type 0} → Figures V → State V
at_opening f =
    record {
      figures = f;
      cell = λ _ _. fresh_cell f.opening 0;
      station = λ _. first_station f.opening;
      reads = λ _ _. 0;
      reports = λ _ _. 0;
      held = λ _ _ _. 0;
      pool = [];
    }

abbrev pub opened : {V : Type 0} → Setting V → Opening V → State V
opened c o = at_opening (figures_of c o)

-- A bench is closed over the lent tables, or open with a state.
abbrev pub Bench : Type 0 → Type 0
Bench V = Option (State V)

pub record Reply (V : Type 0) : Type 0 where
  pub bench : Bench V
  pub answer : Result (Answer V) Decline

abbrev pub open_reply : {V : Type 0} → Setting V → Opening V → Option Decline → Reply V
open_reply c o None = record { bench = Some (opened c o); answer = Ok Done }
open_reply c o (Some reason) = record { bench = None; answer = Err reason }

abbrev pub closed_reply : {V : Type 0} → Setting V → Lengths → Call V → Reply V
closed_reply c t (Open o) = open_reply c o (open_decline c t o)
closed_reply c t (BeginWrite i v) = record { bench = None; answer = Err Closed }
closed_reply c t (BeginRead i j) = record { bench = None; answer = Err Closed }
closed_reply c t (Take place) = record { bench = None; answer = Err Closed }
closed_reply c t (Forge f) = record { bench = None; answer = Err Closed }
closed_reply c t (Withdraw place) = record { bench = None; answer = Err Closed }
closed_reply c t Count = record { bench = None; answer = Err Closed }

-- a call on a bench, closed or open
abbrev pub call_on : {V : Type 0} → Setting V → Lengths → Bench V → Call V → Reply V
call_on c t None call = closed_reply c t call
call_on c t (Some s) call = record { bench = Some (step c s call).state; answer = (step c s call).answer }
