-- How the stations that await a number of a register are answered, one after the other.
use Rattle.std.specs.Prelude.{ℕ, cond, [], ◌∷◌, ◌==◌}
use Rattle.machine.specs.declared.message.Message.TheVariants.{CatchUpDone}
use Rattle.machine.specs.State.{State, put_triple, send, with_held}
use Rattle.machine.specs.Publishing.{held_answers, release}

-- station k is answered if it awaits number x of register j from station i
abbrev pub answer_one : {V : Type 0} → ℕ → ℕ → ℕ → ℕ → State V → State V
answer_one i j x k s = cond (s.held i k j == x) (send (CatchUpDone i k j x ∷ []) (with_held (put_triple i k j 0 s.held) s)) s

-- each station is answered that awaits it
abbrev pub answer_each : {V : Type 0} → ℕ → ℕ → ℕ → ℕ → State V → State V
answer_each n i j x s = send (held_answers n (λ k. s.held i k j) i j x) (with_held (release i j x s.held) s)
