use Rattle.std.proofs.Common.{rules, tests, ◌≡◌, true, false}
use Rattle.std.proofs.lemmas.Iterator.{first_from_Range}
use Rattle.station_set.specs.Sets.{has}
use Rattle.quorum.proofs.by_site.first_member.Goals as goal

pub returns : goal.returns
returns c =
    let set = c.args.set in
    let found =
    first_from_Range _ _ _ _ (λ s. has set s ≡ true) (λ s. has set s ≡ false) c.find.ensures.ran
    (λ x q k. search (rules, tests)) (λ x q k. (search rules, search (rules, tests))) in
    search (rules, found)
