use Rattle.std.proofs.Common.{rules, ◌≡◌, length, ◌&&◌, ap, ◌∙◌, arith}
use Rattle.quorum.specs.SiteSets.{share_site}
use Rattle.quorum.proofs.SiteLists.{share_front}
use Rattle.quorum.proofs.by_site.BySiteQuorumSystem.is_allowed.Goals as goal

pub returns-then-is_among : goal.returns-then-is_among
returns-then-is_among c =
    let q = c.args.self.now in
    let set = c.args.set in
    c.shares_site.ensures ∙ ap (λ xs. share_site xs (length xs) set) c.sites.ensures ∙ share_front q.sites q.n (let long : length q.sites ≡ 10 = search rules in omega (arith, long, q.most)) set
    ∙ ap (λ b. b && share_site q.sites q.n set) c.if-is_among.ensures
