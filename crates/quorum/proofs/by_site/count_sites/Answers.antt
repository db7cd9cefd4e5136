use Rattle.std.proofs.Common.{rules, tests, length, refl, ◌∙◌}
use Rattle.std.specs.List.{range_with_len}
use Rattle.std.proofs.lemmas.Iterator.{YieldsList-from_range}
use Rattle.std.proofs.lemmas.Iterator.Consumers.{YieldsList-at, YieldsList-from_filter, count_from_yields_List}
use Rattle.std.proofs.lemmas.List.Sums.{length-filter}
use Rattle.station_set.proofs.Below.{count_by_range}
use Rattle.quorum.specs.SiteSets.{occurs, sites_occurring}
use Rattle.quorum.proofs.by_site.count_sites.Goals as goal

pub returns : goal.returns
unfolding sites_occurring
returns c =
    let xs = c.args.sites.now in
    let here = occurs xs (length xs) in
    count_from_yields_List c.filter.result _ c.count.ensures.ran
    (YieldsList-from_filter _ here (YieldsList-at c.filter.ensures.source (YieldsList-from_range 0 10 10 refl refl)) c.filter.ensures.closure (λ x b q k. search (rules, tests)))
    ∙ length-filter here (range_with_len 0 10) ∙ count_by_range 10 here
