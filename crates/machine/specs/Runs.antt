-- A run: a list of calls on a bench that was just opened, and the operations that they begin and end.
use Rattle.std.specs.Prelude.{◌≡◌, ℕ, suc, ◌<◌, Bool, true, false, ◌&&◌, ◌||◌, List, take, Some, None, Decides, count_by, Option, ◌==◌, Ok, Err, Result}
use Rattle.decline.specs.declared.Decline.{Decline}
use Rattle.std.specs.List.{slice_get}
use Rattle.station_set.specs.Below.{count_below}
use Rattle.machine.specs.declared.message.Message.{Message}
use Rattle.machine.specs.declared.call.Opening.{Opening}
use Rattle.machine.specs.declared.call.Call.{Call}
use Rattle.machine.specs.declared.call.Call.TheVariants.{Open, BeginWrite, BeginRead, Take, Forge, Withdraw, Count}
use Rattle.machine.specs.declared.call.Answer.{Answer}
use Rattle.machine.specs.declared.call.Answer.TheVariants.{Done, WriteEnded, ReadEnded, Counted}
use Rattle.machine.specs.State.{Setting, State, number, is_faulty}
use Rattle.machine.specs.Calls.{ahead, between_correct, takeable, run, answers, opened}

pub record Run (V : Type 0) : Type 0 where
  pub setting : Setting V
  pub opening : Opening V
  pub calls : List (Call V)

-- the bench after the first p calls, and at the end
abbrev pub after : {V : Type 0} → Run V → ℕ → State V
after R p = run R.setting (opened R.setting R.opening) (take p R.calls)

abbrev pub at_end : {V : Type 0} → Run V → State V
at_end R = run R.setting (opened R.setting R.opening) R.calls

-- call p, counted from 0, and its answer
abbrev pub call_at : {V : Type 0} → Run V → ℕ → Option (Call V)
call_at R p = slice_get R.calls p

abbrev pub answer_at : {V : Type 0} → Run V → ℕ → Option (Result (Answer V) Decline)
answer_at R p = slice_get (answers R.setting (opened R.setting R.opening) R.calls) p

-- a station of the bench that is not faulty
pub record Correct {V : Type 0} (R : Run V) (i : ℕ) : Type 0 where
  pub station : i < (at_end R).figures.stations
  pub sound : is_faulty (at_end R) i ≡ false

-- A begin call that is not declined answers Done, and its operation begins.

abbrev pub is_done : {V : Type 0} → Option (Result (Answer V) Decline) → Bool
is_done None = false
is_done (Some (Ok Done)) = true
is_done (Some (Ok (WriteEnded i x))) = false
is_done (Some (Ok (ReadEnded i j x v))) = false
is_done (Some (Ok (Counted waiting takeable))) = false
is_done (Some (Err reason)) = false

abbrev pub is_write_of : {V : Type 0} → ℕ → Option (Call V) → Bool
is_write_of i None = false
is_write_of i (Some (Open o)) = false
is_write_of i (Some (BeginWrite k v)) = k == i
is_write_of i (Some (BeginRead k j)) = false
is_write_of i (Some (Take place)) = false
is_write_of i (Some (Forge f)) = false
is_write_of i (Some (Withdraw place)) = false
is_write_of i (Some Count) = false

abbrev pub is_read_of : {V : Type 0} → ℕ → Option (Call V) → Bool
is_read_of i None = false
is_read_of i (Some (Open o)) = false
is_read_of i (Some (BeginWrite k v)) = false
is_read_of i (Some (BeginRead k j)) = k == i
is_read_of i (Some (Take place)) = false
is_read_of i (Some (Forge f)) = false
is_read_of i (Some (Withdraw place)) = false
is_read_of i (Some Count) = false

-- call p is a begin write of station i that is not declined
abbrev pub begins_write : {V : Type 0} → Run V → ℕ → ℕ → Bool
begins_write R i p = is_write_of i (call_at R p) && is_done (answer_at R p)

-- call b begins an operation of station i
abbrev pub begins_operation : {V : Type 0} → Run V → ℕ → ℕ → Bool
begins_operation R i b = (is_write_of i (call_at R b) || is_read_of i (call_at R b)) && is_done (answer_at R b)

-- call b begins write x of station i, with the value v: it is the x-th begin write of i that is not declined
pub record WriteBegins {V : Type 0} (R : Run V) (i b x : ℕ) (v : V) : Type 0 where
  pub call : call_at R b ≡ Some (BeginWrite i v)
  pub answer : answer_at R b ≡ Some (Ok Done)
  pub rank : x ≡ suc (count_below b (begins_write R i))

-- call b begins a reading of register j by station i
pub record ReadBegins {V : Type 0} (R : Run V) (i j b : ℕ) : Type 0 where
  pub call : call_at R b ≡ Some (BeginRead i j)
  pub answer : answer_at R b ≡ Some (Ok Done)

-- An operation ends with the first answer after its beginning that says so of its station.

abbrev pub ends_operation : {V : Type 0} → ℕ → Option (Result (Answer V) Decline) → Bool
ends_operation i None = false
ends_operation i (Some (Ok Done)) = false
ends_operation i (Some (Ok (WriteEnded k x))) = k == i
ends_operation i (Some (Ok (ReadEnded k j x v))) = k == i
ends_operation i (Some (Ok (Counted waiting takeable))) = false
ends_operation i (Some (Err reason)) = false

-- no operation of station i ends between calls b and e
abbrev pub NoneEnds : {V : Type 0} → Run V → ℕ → ℕ → ℕ → Type 0
NoneEnds R i b e = (m : ℕ) → b < m → m < e → ends_operation i (answer_at R m) ≡ false

-- write x of station i, with the value v, begun by call b and ended by call e
pub record CompletedWrite {V : Type 0} (R : Run V) (i b e x : ℕ) (v : V) : Type 0 where
  pub begins : WriteBegins R i b x v
  pub later : b < e
  pub ends : answer_at R e ≡ Some (Ok (WriteEnded i x))
  pub between : NoneEnds R i b e

-- a reading of register j by station i, begun by call b, ended by call e, which returned number x and value v
pub record CompletedRead {V : Type 0} (R : Run V) (i j b e x : ℕ) (v : V) : Type 0 where
  pub begins : ReadBegins R i j b
  pub later : b < e
  pub ends : answer_at R e ≡ Some (Ok (ReadEnded i j x v))
  pub between : NoneEnds R i b e

-- call p lets station i take write x of register j, with the value v: it raises the number of i's copy to x
pub record Takes {V : Type 0} (R : Run V) (i j x : ℕ) (v : V) (p : ℕ) : Type 0 where
  pub below : number (after R p) i j < x
  pub reached : number (after R (suc p)) i j ≡ x
  pub value : ((after R (suc p)).cell i j).copy.value ≡ v

-- At rest, every message that waits between correct stations is ahead.
abbrev pub AtRest : {V : Type 0} → State V → Type 0
AtRest {V} s = (p : ℕ) (m : Message V) → slice_get s.pool p ≡ Some m → between_correct s m ≡ true → ahead s m ≡ true

-- So it is at rest exactly when the second number that count answers is 0.
abbrev pub RestByCount : Type 0 → Type 0
RestByCount V = (s : State V) → Decides (count_by (takeable s) s.pool == 0) (AtRest s)
