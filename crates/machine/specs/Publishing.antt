-- How a correct station acts on INIT, ECHO and READY: Bracha's broadcast of one publication after the other.
use Rattle.std.specs.Prelude.{ℕ, suc, Bool, true, false, cond, not, ◌&&◌, List, ◌∷◌, map, Some, None, filter, is_none, Option, ◌==◌, nat_eq}
use Rattle.std.specs.List.{range_with_len}
use Rattle.station_set.specs.Sets.{set_of}
use Rattle.value.specs.Holders.{keeps}
use Rattle.machine.specs.declared.message.Message.{Message}
use Rattle.machine.specs.declared.message.Message.TheVariants.{Echo, Ready, WriteDone, CatchUpDone}
use Rattle.machine.specs.State.{Setting, Cell, State, number, with_cell, with_held, send, put, to_all, fresh_cell}
use Rattle.machine.specs.Operations.{test_freshness}

-- the stations whose vote is v
abbrev pub voters : {V : Type 0} → Setting V → ℕ → (ℕ → Option V) → V → ℕ
voters c n votes v = set_of n (λ k. keeps c.same v (votes k))

-- cells with one mark or vote more
abbrev pub mark_echoed : {V : Type 0} → Cell V → Cell V
mark_echoed c =
    record {
      copy = record { value = c.copy.value; number = c.copy.number; echoed = true; readied = c.copy.readied };
      echoes = c.echoes;
      readies = c.readies;
    }

abbrev pub mark_readied : {V : Type 0} → Cell V → Cell V
mark_readied c =
    record {
      copy = record { value = c.copy.value; number = c.copy.number; echoed = c.copy.echoed; readied = true };
      echoes = c.echoes;
      readies = c.readies;
    }

abbrev pub vote_echo : {V : Type 0} → ℕ → V → Cell V → Cell V
vote_echo k v c = record { copy = c.copy; echoes = put k (Some v) c.echoes; readies = c.readies }

abbrev pub vote_ready : {V : Type 0} → ℕ → V → Cell V → Cell V
vote_ready k v c = record { copy = c.copy; echoes = c.echoes; readies = put k (Some v) c.readies }

-- the sets that the two tests ask the system about
abbrev pub echo_voters : {V : Type 0} → Setting V → ℕ → ℕ → V → State V → ℕ
echo_voters c i j v s = voters c s.figures.stations (s.cell i j).echoes v

abbrev pub ready_voters : {V : Type 0} → Setting V → ℕ → ℕ → V → State V → ℕ
ready_voters c i j v s = voters c s.figures.stations (s.cell i j).readies v

-- station i sends ECHO, or READY, of v for register j to all
abbrev pub send_echo : {V : Type 0} → ℕ → ℕ → V → State V → State V
send_echo i j v s =
    send (to_all s.figures.stations (λ k. Echo i k j (suc (number s i j)) v)) (with_cell i j (mark_echoed (s.cell i j)) s)

abbrev pub send_ready : {V : Type 0} → ℕ → ℕ → V → State V → State V
send_ready i j v s =
    send (to_all s.figures.stations (λ k. Ready i k j (suc (number s i j)) v)) (with_cell i j (mark_readied (s.cell i j)) s)

-- the answers to the stations that await number x of register j from station i, from station 0 on
abbrev pub held_answers : {V : Type 0} → ℕ → (ℕ → ℕ) → ℕ → ℕ → ℕ → List (Message V)
held_answers n awaited i j x = map (λ k. CatchUpDone i k j x) (filter (λ k. nat_eq (awaited k) x) (range_with_len 0 n))

-- the entries that were answered become 0
abbrev pub release : ℕ → ℕ → ℕ → (ℕ → ℕ → ℕ → ℕ) → ℕ → ℕ → ℕ → ℕ
release i j x held a k b = cond (a == i && (b == j && held a k b == x)) 0 (held a k b)

-- station i takes v as the next write of register j, tells the owner, and answers those it held
abbrev pub take_value : {V : Type 0} → ℕ → ℕ → V → State V → State V
take_value i j v s =
    let x = suc (number s i j) in
    send (WriteDone i j x ∷ held_answers s.figures.stations (λ k. s.held i k j) i j x)
    (with_held (release i j x s.held) (with_cell i j (fresh_cell v x) s))

abbrev pub on_init : {V : Type 0} → ℕ → ℕ → V → State V → State V
on_init i j v s = cond (s.cell i j).copy.echoed s (send_echo i j v s)

-- ECHO votes for v that are a quorum
abbrev pub count_echoes : {V : Type 0} → Setting V → ℕ → ℕ → V → State V → State V
count_echoes c i j v s = cond (not (s.cell i j).copy.readied && c.system.quorum (echo_voters c i j v s)) (send_ready i j v s) s

-- only the first vote of station k counts
abbrev pub on_echo : {V : Type 0} → Setting V → ℕ → ℕ → ℕ → V → State V → State V
on_echo c i j k v s = cond (is_none ((s.cell i j).echoes k)) (count_echoes c i j v (with_cell i j (vote_echo k v (s.cell i j)) s)) s

-- READY votes for v that are more than faulty stations could cast
abbrev pub join_readies : {V : Type 0} → Setting V → ℕ → ℕ → V → State V → State V
join_readies c i j v s = cond (not (s.cell i j).copy.readied && not (c.system.allowed (ready_voters c i j v s))) (send_ready i j v s) s

-- READY votes for v that are a quorum
abbrev pub count_readies : {V : Type 0} → Setting V → ℕ → ℕ → V → State V → State V
count_readies c i j v s = cond (c.system.quorum (ready_voters c i j v s)) (test_freshness c i j (take_value i j v s)) s

abbrev pub on_ready : {V : Type 0} → Setting V → ℕ → ℕ → ℕ → V → State V → State V
on_ready c i j k v s =
    cond (is_none ((s.cell i j).readies k)) (count_readies c i j v (join_readies c i j v (with_cell i j (vote_ready k v (s.cell i j)) s))) s
