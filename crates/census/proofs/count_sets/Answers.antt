use Rattle.std.proofs.Common.{rules, tests, refl, ap, ◌∙◌, arith}
use Rattle.std.specs.List.{range_with_len}
use Rattle.std.proofs.lemmas.Iterator.{YieldsList-from_range}
use Rattle.std.proofs.lemmas.Iterator.Consumers.{YieldsList-at, YieldsList-from_filter, count_from_yields_List}
use Rattle.std.proofs.lemmas.List.Sums.{length-filter}
use Rattle.station_set.proofs.Below.{count_by_range}
use Rattle.station_set.specs.Below.{count_below}
use Rattle.census.specs.Outermost.{family_of}
use Rattle.census.proofs.count_sets.Goals as goal

pub returns : goal.returns
returns g c =
    let q = g.S.QuorumSystem.families c.args.system.now in
    let family = family_of c.args.family q in
    let n = c.count_masks.result in
    count_from_yields_List c.filter.result _ c.count.ensures.ran
    (YieldsList-from_filter _ family (YieldsList-at c.filter.ensures.source (YieldsList-from_range 0 n n refl (omega arith))) c.filter.ensures.closure (λ x b q k. search (rules, tests)))
    ∙ length-filter family (range_with_len 0 n) ∙ count_by_range n family ∙ ap (λ k. count_below k family) c.count_masks.ensures.value
