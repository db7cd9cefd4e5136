-- Lists of sites: the first limit that one breaks, and a table that begins with one.
use Rattle.std.proofs.Common.{◌≡◌, ℕ, ◌<◌, ◌≤◌, cond, not, ◌&&◌, ◌||◌, eqb, ltb, leb, List, [], ◌∷◌, length, get_or, take, Some, None, Option, sym, refl, ap, ap₂, ◌∙◌, ⊎_elim, arith}
use Rattle.std.specs.List.{find}
use mathlib.Core.Path.{fun_ext}
use Rattle.std.proofs.lemmas.List.{ext_get_or, length-take-le, get_or-take}
use Rattle.std.proofs.lemmas.Bool.{cases_lt, cond-true, cond-false, eq-eqb, ne_eqb, lt-ltb, le-ltb, lt-leb, le-leb}
use Rattle.station_set.specs.Sets.{has, among, missing}
use Rattle.station_set.proofs.Below.{all_same, any_same, count_same}
use Rattle.quorum.specs.declared.unfit.Unfit.{Unfit}
use Rattle.quorum.specs.declared.unfit.Unfit.TheVariants.{NoStations, TooManyStations, NoSuchSite, TooFewSites}
use Rattle.quorum.specs.SiteSets.{site_of, share_site, one_site, lacks_one_site, by_site, occurs, sites_occurring, bad_site_or, sites_bar}

-- ---- the first limit that a list breaks

pub bar_of_none : (xs : List ℕ) → length xs ≡ 0 → sites_bar xs ≡ Some NoStations
unfolding sites_bar
bar_of_none xs e = cond-true _ _ _ (eq-eqb (length xs) 0 e)

pub bar_of_many : (xs : List ℕ) → 10 < length xs → sites_bar xs ≡ Some TooManyStations
unfolding sites_bar
bar_of_many xs h = cond-false _ _ _ (ne_eqb (length xs) 0 (λ e. omega arith)) ∙ cond-true _ _ _ (lt-ltb 10 (length xs) h)

-- what is asked once every site is known
abbrev last_bar : List ℕ → Option Unfit
last_bar xs = cond (ltb (sites_occurring xs (length xs)) 4) (Some TooFewSites) None

bar_of_sites : (xs : List ℕ) → (length xs ≡ 0 → ⊥) → length xs ≤ 10 → sites_bar xs ≡ bad_site_or (last_bar xs) xs
unfolding sites_bar
bar_of_sites xs some few = cond-false _ _ _ (ne_eqb (length xs) 0 some) ∙ cond-false _ _ _ (le-ltb 10 (length xs) few)

-- the reason, by the first site above 9
abbrev pub reason_or : Option Unfit → Option ℕ → Option Unfit
reason_or next None = next
reason_or next (Some site) = Some (NoSuchSite site)

pub bad_site_found : (next : Option Unfit) (xs : List ℕ) → bad_site_or next xs ≡ reason_or next (find (leb 10) xs)
bad_site_found next [] = refl
bad_site_found next (x ∷ xs) =
    ⊎_elim
    (λ known. cond-true _ _ _ (lt-ltb x 10 known) ∙ bad_site_found next xs ∙ ap (reason_or next) (sym (cond-false _ _ _ (lt-leb 10 x known))))
    (λ unknown. cond-false _ _ _ (le-ltb x 10 unknown) ∙ ap (reason_or next) (sym (cond-true _ _ _ (le-leb 10 x unknown))))
    (cases_lt x 10)

-- what a list of one to ten sites breaks, by its first site above 9
found_bar : (xs : List ℕ) (found : Option ℕ) → (length xs ≡ 0 → ⊥) → length xs ≤ 10 → find (leb 10) xs ≡ found → sites_bar xs ≡ reason_or (last_bar xs) found
found_bar xs found some few e = bar_of_sites xs some few ∙ bad_site_found (last_bar xs) xs ∙ ap (reason_or (last_bar xs)) e

pub bar_of_unknown : (xs : List ℕ) (site : ℕ) → (length xs ≡ 0 → ⊥) → length xs ≤ 10 → find (leb 10) xs ≡ Some site → sites_bar xs ≡ Some (NoSuchSite site)
bar_of_unknown xs site some few e = found_bar xs _ some few e

pub bar_of_few : (xs : List ℕ) → (length xs ≡ 0 → ⊥) → length xs ≤ 10 → find (leb 10) xs ≡ None → sites_occurring xs (length xs) < 4
    → sites_bar xs ≡ Some TooFewSites
bar_of_few xs some few e small = found_bar xs _ some few e ∙ cond-true _ _ _ (lt-ltb (sites_occurring xs (length xs)) 4 small)

pub no_bar : (xs : List ℕ) → (length xs ≡ 0 → ⊥) → length xs ≤ 10 → find (leb 10) xs ≡ None → 4 ≤ sites_occurring xs (length xs) → sites_bar xs ≡ None
no_bar xs some few e four = found_bar xs _ some few e ∙ cond-false _ _ _ (le-ltb (sites_occurring xs (length xs)) 4 four)

-- ---- a table that begins with the list

pub table_front : (xs ys : List ℕ) → length xs ≤ length ys → ((k : ℕ) → k < length xs → get_or ys k 0 ≡ get_or xs k 0) → take (length xs) ys ≡ xs
table_front xs ys le same =
    let len = length-take-le (length xs) ys le in
    ext_get_or 0 _ _ len (λ i h. let k : i < length xs = omega arith in get_or-take (length xs) ys i 0 k ∙ same i k)

-- lists that agree on the n stations have the same families
same_share : (xs ys : List ℕ) (n : ℕ) → ((k : ℕ) → k < n → site_of xs k ≡ site_of ys k) → (set : ℕ) → share_site xs n set ≡ share_site ys n set
unfolding share_site
same_share xs ys n same set =
    all_same n _ _ (λ s ls. all_same n _ _ (λ u lu. ap (λ k. not (has set s && has set u) || eqb k (site_of xs u)) (same s ls) ∙ ap (λ k. not (has set s && has set u) || eqb (site_of ys s) k) (same u lu)))

pub same_one_site : (xs ys : List ℕ) (n : ℕ) → ((k : ℕ) → k < n → site_of xs k ≡ site_of ys k) → (set : ℕ) → one_site xs n set ≡ one_site ys n set
same_one_site xs ys n same set = ap (λ t. among n set && t) (same_share xs ys n same set)

-- the first n of the sites decide whether a set shares one
pub share_front : (xs : List ℕ) (n : ℕ) → n ≤ length xs → (set : ℕ) → share_site (take n xs) (length (take n xs)) set ≡ share_site xs n set
share_front xs n room set =
    ap (λ m. share_site (take n xs) m set) (length-take-le n xs room) ∙ same_share (take n xs) xs n (λ k h. get_or-take n xs k 0 h) set

pub same_lacks : (xs ys : List ℕ) (n : ℕ) → ((k : ℕ) → k < n → site_of xs k ≡ site_of ys k) → (set : ℕ) → lacks_one_site xs n set ≡ lacks_one_site ys n set
same_lacks xs ys n same set = ap (λ t. among n set && t) (same_one_site xs ys n same (missing n set))

pub same_families : (xs ys : List ℕ) (n : ℕ) → ((k : ℕ) → k < n → site_of xs k ≡ site_of ys k) → by_site xs n ≡ by_site ys n
same_families xs ys n same =
    let allowed : one_site xs n ≡ one_site ys n = fun_ext (same_one_site xs ys n same) in
    let quorum : lacks_one_site xs n ≡ lacks_one_site ys n = fun_ext (same_lacks xs ys n same) in
    ap₂ (λ a q. record { stations = n; allowed = a; quorum = q }) allowed quorum

pub same_sites : (xs ys : List ℕ) (n : ℕ) → ((k : ℕ) → k < n → site_of xs k ≡ site_of ys k) → sites_occurring xs n ≡ sites_occurring ys n
unfolding sites_occurring
same_sites xs ys n same =
    count_same 10 (occurs xs n) (occurs ys n) (λ site _. any_same n _ _ (λ s l. ap (λ k. eqb k site) (same s l)))
