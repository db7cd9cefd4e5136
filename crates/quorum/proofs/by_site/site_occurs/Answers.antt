use Rattle.std.proofs.Common.{eqb, length, get_or}
use Rattle.std.proofs.lemmas.List.Elements.{contains_decides}
use Rattle.std.proofs.lemmas.List.{get_or_default}
use Rattle.std.proofs.lemmas.Bool.{eq-eqb, eqb-true}
use Rattle.std.proofs.lemmas.Bool.Decides.{Decides-like, same_from_decides, Decides-eqb}
use Rattle.station_set.proofs.Below.{any_below_decides}
use Rattle.quorum.proofs.by_site.site_occurs.Goals as goal

pub returns : goal.returns
returns c =
    let xs = c.args.sites.now in
    let site = c.args.site in
    same_from_decides _ _
    (Decides-like c.contains.result
    (λ found. (found.0, found.1, eq-eqb (get_or xs found.0 0) site (found.2 0)))
    (λ found. (found.0, found.1, λ d. rw (get_or_default xs found.0 d 0 found.1) (eqb-true (get_or xs found.0 0) site found.2)))
    (contains_decides eqb Decides-eqb xs site _ c.contains.ensures.cases))
    (any_below_decides (length xs) (λ s. eqb (get_or xs s 0) site))
