-- By site: station s stands at the site that the list has at s, and the stations of one site may be faulty together.
use Rattle.std.specs.Prelude.{◌≡◌, ℕ, ◌<◌, ◌≤◌, Bool, true, false, cond, not, ◌&&◌, ◌||◌, ◌⊎◌, List, [], ◌∷◌, length, Some, None, Decides, Option, ◌==◌, nat_eq, nat_lt, slice_index}
use Rattle.station_set.specs.Below.{all_below, any_below, count_below}
use Rattle.station_set.specs.Sets.{has, Among, among, missing}
use Rattle.quorum.specs.Laws.{Families}
use Rattle.quorum.specs.declared.unfit.Unfit.{Unfit}
use Rattle.quorum.specs.declared.unfit.Unfit.TheVariants.{NoStations, TooManyStations, NoSuchSite, TooFewSites}

abbrev pub site_of : List ℕ → ℕ → ℕ
site_of sites s = slice_index sites s

-- any two members of the set share their site
unfoldable pub share_site : List ℕ → ℕ → ℕ → Bool
share_site sites n set =
    all_below n (λ s. all_below n (λ u. not (has set s && has set u) || site_of sites s == site_of sites u))

-- a set of the n stations that is empty or whose members share one site
abbrev pub one_site : List ℕ → ℕ → ℕ → Bool
one_site sites n set = among n set && share_site sites n set

-- a set of the n stations whose missing stations are empty or share one site
abbrev pub lacks_one_site : List ℕ → ℕ → ℕ → Bool
lacks_one_site sites n set = among n set && one_site sites n (missing n set)

abbrev pub by_site : List ℕ → ℕ → Families
by_site sites n = record { stations = n; allowed = one_site sites n; quorum = lacks_one_site sites n }

-- the same in words: the set is empty, or there is a site at which each member stands
abbrev pub OneSite : List ℕ → ℕ → ℕ → Type 0
OneSite sites n set =
    Among n set × (((s : ℕ) → has set s ≡ false) ⊎ ((k : ℕ) × ((s : ℕ) → has set s ≡ true → site_of sites s ≡ k)))

abbrev pub LacksOneSite : List ℕ → ℕ → ℕ → Type 0
LacksOneSite sites n set = Among n set × OneSite sites n (missing n set)

abbrev pub SitesInWords : Type 0
SitesInWords =
    (sites : List ℕ) (n set : ℕ) → n ≤ 16
    → Decides (one_site sites n set) (OneSite sites n set) × Decides (lacks_one_site sites n set) (LacksOneSite sites n set)

-- whether one of the n stations stands at site k
abbrev pub occurs : List ℕ → ℕ → ℕ → Bool
occurs sites n k = any_below n (λ s. nat_eq (site_of sites s) k)

-- how many of the sites 0 to 9 occur
unfoldable pub sites_occurring : List ℕ → ℕ → ℕ
sites_occurring sites n = count_below 10 (occurs sites n)

-- the limits of a list of sites
pub record SiteLimits (sites : List ℕ) : Type 0 where
  pub some_station : 1 ≤ length sites
  pub few_stations : length sites ≤ 10
  pub sites_known : (s : ℕ) → s < length sites → site_of sites s < 10
  pub four_sites : 4 ≤ sites_occurring sites (length sites)

-- the first site number in the list that is above 9, or else what follows
abbrev pub bad_site_or : Option Unfit → List ℕ → Option Unfit
bad_site_or next [] = next
bad_site_or next (site ∷ sites) = cond (nat_lt site 10) (bad_site_or next sites) (Some (NoSuchSite site))

-- the first limit that the list breaks
unfoldable pub sites_bar : List ℕ → Option Unfit
sites_bar sites =
    cond (length sites == 0) (Some NoStations)
    (cond (nat_lt 10 (length sites)) (Some TooManyStations)
    (bad_site_or (cond (nat_lt (sites_occurring sites (length sites)) 4) (Some TooFewSites) None) sites))
