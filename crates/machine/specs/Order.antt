-- Order and rest: what a bench promises of every run.
use Rattle.std.specs.Prelude.{◌≡◌, ℕ, ◌<◌, true, List, [], ◌∷◌, take, Some, None, Ok}
use Rattle.std.specs.List.{slice_get}
use Rattle.machine.specs.declared.station.Stage.TheVariants.{Idle}
use Rattle.machine.specs.declared.call.Opening.{Opening}
use Rattle.machine.specs.declared.call.Call.{Call}
use Rattle.machine.specs.declared.call.Answer.TheVariants.{WriteEnded, ReadEnded}
use Rattle.machine.specs.State.{Setting}
use Rattle.machine.specs.Calls.{Lengths, open_decline}
use Rattle.machine.specs.Runs.{Run, at_end, answer_at, Correct, Takes, WriteBegins, CompletedWrite, CompletedRead, begins_operation, ends_operation, AtRest}
use Rattle.machine.specs.Properties.{Agreement, Validity}

-- The operations of one register, as they stand in its order: a write by its number and value;
-- a completed read by its station, the call that ended it, and the number and value it returned.
pub data Operation (V : Type 0) : Type 0 where
  write : (x : ℕ) (v : V) → Operation V
  read : (i e x : ℕ) (v : V) → Operation V

-- an operation stands at place p of a list
abbrev pub Stands : {V : Type 0} → List (Operation V) → ℕ → Operation V → Type 0
Stands order p o = slice_get order p ≡ Some o

-- what a read finds after some operations: the number and value of the last write, or what stood before them
abbrev pub found : {V : Type 0} → ℕ × V → List (Operation V) → ℕ × V
found last [] = last
found last (write x v ∷ rest) = found (x, v) rest
found last (read i e x v ∷ rest) = found last rest

module _ {V : Type 0} (R : Run V) where
  -- What belongs into the order of register j: a write that a correct station took, and a read that one completed.
  -- A completed write of a correct owner was always taken by a correct station (`holds_writes`).
  abbrev pub Belongs : ℕ → Operation V → Type 0
  Belongs j (write x v) = (i : ℕ) × Correct R i × ((p : ℕ) × Takes R i j x v p)
  Belongs j (read i e x v) = Correct R i × ((b : ℕ) × CompletedRead R i j b e x v)

  -- When an operation of register j begins, and when it ends. A faulty owner's writes do neither; a correct owner's
  -- write that is still open has begun.
  abbrev pub Begins : ℕ → Operation V → ℕ → Type 0
  Begins j (write x v) b = Correct R j × WriteBegins R j b x v
  Begins j (read i e x v) b = CompletedRead R i j b e x v

  abbrev pub Ends : ℕ → Operation V → ℕ → Type 0
  Ends j (write x v) e = Correct R j × ((b : ℕ) × CompletedWrite R j b e x v)
  Ends j (read i e x v) f = e ≡ f

  -- A list is an order of register j:
  pub record IsOrder (j : ℕ) (order : List (Operation V)) : Type 0 where
    -- it holds each completed operation of a correct station, and each write that one of them took,
    pub holds_reads : (i b e x : ℕ) (v : V) → Correct R i → CompletedRead R i j b e x v → (p : ℕ) × Stands order p (read i e x v)
    pub holds_writes : (b e x : ℕ) (v : V) → Correct R j → CompletedWrite R j b e x v → (p : ℕ) × Stands order p (write x v)
    pub holds_taken : (i x t : ℕ) (v : V) → Correct R i → Takes R i j x v t → (p : ℕ) × Stands order p (write x v)
    -- nothing else,
    pub nothing_else : (p : ℕ) (o : Operation V) → Stands order p o → Belongs j o
    -- and each once;
    pub once : (p q : ℕ) (o : Operation V) → Stands order p o → Stands order q o → p ≡ q
    -- every read returns the number and value of the last write before it, or 0 and the opening value where none is;
    pub legal : (p i e x : ℕ) (v : V) → Stands order p (read i e x v) → found (0, R.opening.value) (take p order) ≡ (x, v)
    -- what ended before another began stands earlier;
    pub precedence : (p q e b : ℕ) (o o' : Operation V) → Stands order p o → Stands order q o' → Ends j o e → Begins j o' b → e < b → p < q
    -- writes stand by their numbers.
    pub by_number : (p q x y : ℕ) (v w : V) → Stands order p (write x v) → Stands order q (write y w) → x < y → p < q

  pub record Order : Type 0 where
    -- Each answer that an operation ended is the end of one that was begun, of that register or with that number.
    pub read_began : (i j e x : ℕ) (v : V) → Correct R i → answer_at R e ≡ Some (Ok (ReadEnded i j x v))
        → (b : ℕ) × CompletedRead R i j b e x v
    pub write_began : (i e x : ℕ) → Correct R i → answer_at R e ≡ Some (Ok (WriteEnded i x))
        → (b : ℕ) × (v : V) × CompletedWrite R i b e x v
    -- The writes of a register have one value each, and a correct owner's are those that it began.
    pub agreement : Agreement R
    pub own_writes : Validity R
    -- Each register has an order.
    pub orders : (j : ℕ) → (order : List (Operation V)) × IsOrder j order

  -- At rest no correct station has an operation open: its stage is idle, and each operation that it began has ended.
  abbrev pub Rest : Type 0
  Rest =
      AtRest (at_end R) → (i : ℕ) → Correct R i
      → (((at_end R).station i).stage ≡ Idle)
      × ((b : ℕ) → begins_operation R i b ≡ true → (e : ℕ) × (b < e) × (ends_operation i (answer_at R e) ≡ true))

-- Order and rest of every list of calls after an open that was not declined.
abbrev pub OrderAndRest : {V : Type 0} → Setting V → Type 0
OrderAndRest {V} c =
    (t : Lengths) (o : Opening V) (calls : List (Call V)) → open_decline c t o ≡ None
    → Order (record { setting = c; opening = o; calls = calls }) × Rest (record { setting = c; opening = o; calls = calls })
