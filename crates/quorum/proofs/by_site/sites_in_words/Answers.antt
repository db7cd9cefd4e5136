use Rattle.quorum.specs.SiteLaws.{one_site_words, lacks_words}
use Rattle.quorum.proofs.by_site.sites_in_words.Goals as goal

pub returns : goal.returns
returns c sites n set room = (one_site_words sites n room set, lacks_words sites n room set)
