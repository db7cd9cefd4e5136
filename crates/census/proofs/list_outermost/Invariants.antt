use Rattle.std.proofs.Common.{◌≡◌, ◌≤◌, vec_items, vec_len, vec_capacity}
use Rattle.census.specs.Outermost.{Outermost, Exactly}
use Rattle.census.proofs.Listed.{Below}
use Rattle.census.proofs.list_outermost.Given as goal

abbrev pub invariant-loop-mask : goal.invariant-loop-mask
invariant-loop-mask g l =
    record {
      listed : Exactly (Below (Outermost l.family (g.S.QuorumSystem.families l.system)) l.mask) (vec_items l.sets);
      few : vec_len l.sets ≤ l.mask;
      room : vec_capacity l.sets ≡ vec_capacity l.initial.sets;
    }
