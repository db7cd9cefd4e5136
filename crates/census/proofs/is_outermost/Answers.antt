use Rattle.std.proofs.Common.{rules, tests, not, sym, refl, ◌∙◌, arith}
use Rattle.std.proofs.lemmas.Iterator.{YieldsList-from_range}
use Rattle.std.proofs.lemmas.Iterator.Search.{all_from_yields_List}
use Rattle.std.proofs.lemmas.Bool.Decides.{Decides-at}
use Rattle.quorum.specs.Laws.{Laws}
use Rattle.census.specs.Outermost.{steps}
use Rattle.census.proofs.is_outermost.Goals as goal
use Rattle.census.proofs.Steps.{stuck_decides}

pub returns-then-is_in : goal.returns-then-is_in
returns-then-is_in g c =
    let q = g.S.QuorumSystem.families c.args.system.now in
    let met = g.met.S.QuorumSystem in
    let laws : Laws q = search (met.sized, met.bounded, met.seated, met.empty, met.subset, met.superset, met.overlap, met.outside) in
    let stuck =
    all_from_yields_List (λ s. not (steps c.args.family q c.args.set s)) _ _ _ c.all.ensures.ran (YieldsList-from_range 0 c.size.result q.stations refl (omega (arith, c.size.ensures)))
    (λ x b q k. search (rules, tests)) in
    Decides-at _ _ stuck (stuck_decides q laws c.args.family c.args.set (sym c.is_in.ensures ∙ c.if-is_in.true))
