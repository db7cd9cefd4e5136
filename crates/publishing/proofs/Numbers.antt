-- What leaves a station's number of a register as it was.
use Rattle.std.proofs.Common.{◌≡◌, ℕ, ap, refl, not, ◌&&◌}
use Rattle.std.proofs.lemmas.Bool.{cond_both}
use Rattle.machine.specs.State.{Setting, Cell, State, number, with_cell}
use Rattle.machine.specs.Publishing.{mark_readied, ready_voters, send_ready, join_readies}
use Rattle.tables.specs.declared.lent.VoteKind.{VoteKind}
use Rattle.tables.specs.declared.lent.VoteKind.TheVariants.{Echo, Ready}
use Rattle.tables.specs.Changes.{vote}
use Rattle.tables.proofs.Chain.{put_pair_here}

pub number_voted : {V : Type 0} (kind : VoteKind) (i j k : ℕ) (v : V) (s : State V) → number (with_cell i j (vote kind k v (s.cell i j)) s) i j ≡ number s i j
number_voted {V} Echo i j k v s = ap (λ (c : Cell V). c.copy.number) (put_pair_here i j (vote Echo k v (s.cell i j)) s.cell)
number_voted {V} Ready i j k v s = ap (λ (c : Cell V). c.copy.number) (put_pair_here i j (vote Ready k v (s.cell i j)) s.cell)

pub number_joined : {V : Type 0} (c : Setting V) (i j : ℕ) (v : V) (s : State V) → number (join_readies c i j v s) i j ≡ number s i j
number_joined {V} c i j v s =
    cond_both (not (s.cell i j).copy.readied && not (c.system.allowed (ready_voters c i j v s))) (send_ready i j v s) s (λ u. number u i j ≡ number s i j)
    (λ _. ap (λ (c : Cell V). c.copy.number) (put_pair_here i j (mark_readied (s.cell i j)) s.cell)) (λ _. refl)
