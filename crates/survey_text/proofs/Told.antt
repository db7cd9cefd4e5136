-- What is told of a system that was made is told of its figures.
use Rattle.std.proofs.Common.{◌≡◌, ℕ, ◌<◌, List, length, take, Ok, Err, Option, Result, Vec, vec_items, sym, ap, ◌∙◌, MatchOption, MatchResult}
use Rattle.std.specs.declared.alloc.Global.{Global}
use Rattle.std.proofs.lemmas.List.{get_or-take}
use Rattle.quorum.specs.declared.unfit.Unfit.{Unfit}
use Rattle.quorum.specs.Reasons.{MadeUnless}
use Rattle.quorum.specs.declared.counting.Counting.{Counting}
use Rattle.quorum.specs.declared.by_site.BySite.{BySite}
use Rattle.quorum.specs.CountingSets.{by_count, counting_bar}
use Rattle.quorum.specs.SiteSets.{site_of, by_site, sites_bar}
use Rattle.quorum.proofs.SiteLists.{same_families}
use Rattle.survey_text.specs.declared.request.Request.{Request}
use Rattle.survey_text.specs.Printed.{counting_name, sites_name, request_name, declined_text}
use Rattle.survey_text.specs.Answered.{Reports, Answers}

-- the system that was made, or the first reason that bars it, is what the figures give
pub told : {S : Type 0} (bar : Option Unfit) (P R : S → Type 0) (A : Type 0) (D : Unfit → Type 0) (made : Result S Unfit)
    → MadeUnless bar P made → ((system : S) → P system → R system → A) → MatchResult made R D → MatchOption bar A D
told bar P R A D (Ok system) m h t = rw m.0 (h system m.1 t)
told bar P R A D (Err reason) m h t = rw m t

-- the same figures give the same sets
pub by_figures : (n t m s : ℕ) (name text : List ℕ) → (m ≡ n) × (s ≡ t) → Reports (by_count m s) name text → Reports (by_count n t) name text
by_figures n t m s name text same h = rw (← same.0, ← same.1) h

-- a table that begins with the sites gives the same sets
pub by_sites : (sites table : List ℕ) (n : ℕ) (name text : List ℕ) → (n ≡ length sites) × (take n table ≡ sites)
    → Reports (by_site table n) name text → Reports (by_site sites (length sites)) name text
by_sites sites table n name text made h =
    let same : (k : ℕ) → k < n → site_of table k ≡ site_of sites k = λ k l. sym (get_or-take n table k 0 l) ∙ ap (λ xs. site_of xs k) made.1 in
    rw (← made.0, ← same_families table sites n same) h

pub counting_told : (request : Request) (n t : ℕ) (made : Result Counting Unfit) (text : List ℕ) → request ≡ Request.Counting n t
    → MadeUnless (counting_bar n t) (λ q. (q.n ≡ n) × (q.t ≡ t)) made
    → MatchResult made (λ q. Reports (by_count q.n q.t) (request_name request) text) (λ reason. text ≡ declined_text reason)
    → Answers request text
counting_told request n t made text is right =
    rw is (told _ _ _ _ _ made right (λ q same. by_figures n t q.n q.t (counting_name n t) text same))

pub sites_told : (request : Request) (sites : Vec ℕ Global) (xs : List ℕ) (made : Result BySite Unfit) (text : List ℕ) → request ≡ Request.Sites sites → xs ≡ vec_items sites
    → MadeUnless (sites_bar xs) (λ q. (q.n ≡ length xs) × (take q.n q.sites ≡ xs)) made
    → MatchResult made (λ q. Reports (by_site q.sites q.n) (request_name request) text) (λ reason. text ≡ declined_text reason)
    → Answers request text
sites_told request sites xs made text is items right =
    rw (is, ← items) (told _ _ _ _ _ made right (λ q front. by_sites xs q.sites q.n (sites_name xs) text front))
