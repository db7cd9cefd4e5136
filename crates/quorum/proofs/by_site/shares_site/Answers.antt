use Rattle.std.proofs.Common.{sym, ◌∙◌}
use Rattle.std.proofs.lemmas.Bool.{both_ways}
use Rattle.std.proofs.lemmas.Bool.Decides.{Decides-like, same_from_decides}
use Rattle.quorum.specs.SiteLaws.{share_decides}
use Rattle.quorum.proofs.by_site.shares_site.Goals as goal

-- the site of the first member is that of all, or two members differ
pub returns-in-Some : goal.returns-in-Some
returns-in-Some c =
    let first = c.in-Some.first in
    let member = c.in-Some.ensures in
    same_from_decides _ _
    (Decides-like c.all_at.result (λ at s u ls lu hs hu. at s ls hs ∙ sym (at u lu hu)) (λ share u lu hu. share u first lu member.0 hu member.1) c.all_at.ensures)
    (share_decides c.args.sites.now _ c.args.set)

pub returns-in-None : goal.returns-in-None
returns-in-None c =
    sym ((share_decides c.args.sites.now _ c.args.set).1 (λ s u ls lu hs hu. absurd (both_ways _ (c.in-None.ensures s ls) hs)))
