use Rattle.std.proofs.Common.{ℕ, ◌∙◌, arith}
use Rattle.std.proofs.lemmas.Bool.{both_ways}
use Rattle.quorum.specs.Laws.{Laws}
use Rattle.census.specs.Outermost.{Outermost}
use Rattle.census.proofs.Steps.{family_below}
use Rattle.census.proofs.Listed.{listed_yes, listed_no, listed_all}
use Rattle.census.proofs.list_outermost.Goals as goal
use Rattle.census.proofs.list_outermost.Goals.{then-is_outermost, else-is_outermost}

pub loop-mask-preserved : goal.loop-mask-preserved
loop-mask-preserved g c =
    let P : ℕ → Type 0 = Outermost c.args.family (g.S.QuorumSystem.families c.args.system.now) in
    let inv = c.loop-mask.invariant in
    elim c.if-is_outermost.branch [
      | then-is_outermost w ↦
          let listed = listed_yes P c.loop-mask.mask _ (c.is_outermost.ensures.0 w.if-is_outermost.true) inv.listed in
          let more = w.push_reserved.ensures in
          rw w.sets-is (record { listed = rw more.items listed; few = omega (arith, inv.few, more.len); room = more.capacity ∙ inv.room })
      | else-is_outermost w ↦
          let listed = listed_no P c.loop-mask.mask _ (λ p. both_ways _ w.if-is_outermost.false (c.is_outermost.ensures.1 p)) inv.listed in
          rw w.sets-is (record { listed = listed; few = omega (arith, inv.few); room = inv.room })
    ]

pub returns : goal.returns
returns g c =
    let q = g.S.QuorumSystem.families c.args.system.now in
    let met = g.met.S.QuorumSystem in
    let laws : Laws q = search (met.sized, met.bounded, met.seated, met.empty, met.subset, met.superset, met.overlap, met.outside) in
    listed_all _ c.loop-mask.mask _ (λ set p. omega (arith, family_below q laws c.args.family set p.0)) c.loop-mask.invariant.listed
