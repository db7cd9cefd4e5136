use Rattle.std.proofs.Common.{rules, tests, ◌≡◌, ℕ, suc, zero, ◌+◌, ◌<◌, List, length, get_or, sym, subst, zero-add, add-zero, arith}
use Rattle.std.specs.Array.{IsFromFnResultFrom}
use Rattle.std.specs.Fn.{Called}
use denote.Param.Members.{Mut}
use Rattle.quorum.proofs.SiteLists.{table_front, same_sites}
use Rattle.quorum.proofs.by_site.table_of.Goals as goal

-- what `from_fn` puts at each place, where its closure keeps its state
placed : {F : Type 0} (g : Mut F (ℕ × Unit {0}) ℕ) (f : F) (ys : List ℕ) (At : ℕ → ℕ → Type 0)
    → ((s y : ℕ) (q : F) → Called g f (s, tt) y q → (q ≡ f) × At s y)
    → (n i : ℕ) → IsFromFnResultFrom g f ys i n → (k : ℕ) → k < n → At (i + k) (get_or ys (i + k) 0)
placed g f ys At says zero i made k l = absurd (omega arith)
placed {F} g f ys At says (suc n) i made zero l =
    let here = says i made.1 made.0 made.3 in
    subst (λ m. At m (get_or ys m 0)) (sym (add-zero i)) (subst (At i) (sym (made.2.1 0)) here.1)
placed {F} g f ys At says (suc n) i made (suc k) l =
    let here = says i made.1 made.0 made.3 in
    let rest = subst (λ (q : F). IsFromFnResultFrom g q ys (i + 1) n) here.0 made.4 in
    subst (λ m. At m (get_or ys m 0)) (omega arith) (placed g f ys At says n (i + 1) rest k (omega arith))

pub returns : goal.returns
returns c =
    let xs = c.args.sites.now in
    let made = placed _ _ c.from_fn.result (λ s y. s < length xs → y ≡ get_or xs s 0) (λ s y q k. (search rules, λ l. search (rules, tests))) 10 0 c.from_fn.ensures.items.each in
    let same : (k : ℕ) → k < length xs → get_or c.from_fn.result k 0 ≡ get_or xs k 0 = λ k l.
    subst (λ m. m < length xs → get_or c.from_fn.result m 0 ≡ get_or xs m 0) (zero-add k) (made k (omega (arith, c.requires.0))) l in
    record {
      front = table_front xs c.from_fn.result (omega (arith, c.from_fn.ensures.items.long, c.requires.0)) same;
      occurring = same_sites c.from_fn.result xs (length xs) same;
    }
