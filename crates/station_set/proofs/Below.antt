-- Laws of tests over the numbers below n.
use Rattle.std.proofs.Common.{◌≡◌, ℕ, zero, suc, ◌+◌, ◌<◌, count_by, zero-add, sym, ◌≤◌, Bool, true, false, cond, not, ◌&&◌, ◌||◌, ◌⊎◌, Decides, refl, ap, ◌∙◌, inl, inr, ⊎_elim, add-zero, add-one, arith}
use Rattle.std.specs.List.{fold, range_with_len}
use Rattle.std.proofs.lemmas.Bool.{cases_Bool, both_ways, cond_both, cond-true, cond-false}
use Rattle.std.proofs.lemmas.Bool.Decides.{Decides-below_and, Decides-below_or}
use Rattle.station_set.specs.Below.{all_below, any_below, count_below}

pub all_below_decides : (n : ℕ) (p : ℕ → Bool) → Decides (all_below n p) ((s : ℕ) → s < n → p s ≡ true)
unfolding all_below
all_below_decides n p = Decides-below_and p (λ s. p s ≡ true) (λ k. all_below k p) (λ s. ((λ e. e), (λ e. e))) refl (λ _. refl) n

pub any_below_decides : (n : ℕ) (p : ℕ → Bool) → Decides (any_below n p) ((s : ℕ) × (s < n) × (p s ≡ true))
unfolding any_below
any_below_decides n p = Decides-below_or p (λ s. p s ≡ true) (λ k. any_below k p) (λ s. ((λ e. e), (λ e. e))) refl (λ _. refl) n

-- one of the numbers below n passes, or none does
pub search_below : (n : ℕ) (p : ℕ → Bool) → ((s : ℕ) × (s < n) × (p s ≡ true)) ⊎ ((s : ℕ) → s < n → p s ≡ false)
search_below n p =
    ⊎_elim (λ e. inl ((any_below_decides n p).0 e))
    (λ e. inr (λ s h. ⊎_elim (λ y. absurd (both_ways _ e ((any_below_decides n p).1 (s, h, y)))) (λ f. f) (cases_Bool (p s))))
    (cases_Bool (any_below n p))

pub all_same : (n : ℕ) (p q : ℕ → Bool) → ((s : ℕ) → s < n → p s ≡ q s) → all_below n p ≡ all_below n q
unfolding all_below
all_same zero p q h = refl
all_same (suc n) p q h =
    let ih = all_same n p q (λ s l. h s (omega arith)) in
    let here = h n (omega arith) in
    rw (ih, here)

pub any_same : (n : ℕ) (p q : ℕ → Bool) → ((s : ℕ) → s < n → p s ≡ q s) → any_below n p ≡ any_below n q
unfolding any_below
any_same zero p q h = refl
any_same (suc n) p q h =
    let ih = any_same n p q (λ s l. h s (omega arith)) in
    let here = h n (omega arith) in
    rw (ih, here)

-- ---- how many pass

pub count_none : (p : ℕ → Bool) → count_below 0 p ≡ 0
unfolding count_below
count_none p = refl

pub count_more : (n : ℕ) (p : ℕ → Bool) → count_below (n + 1) p ≡ count_below n p + cond (p n) 1 0
unfolding count_below
count_more n p = rw add-one

pub count_more_yes : (n : ℕ) (p : ℕ → Bool) → p n ≡ true → count_below (n + 1) p ≡ count_below n p + 1
count_more_yes n p e = count_more n p ∙ ap (λ b. count_below n p + cond b 1 0) e

pub count_more_no : (n : ℕ) (p : ℕ → Bool) → p n ≡ false → count_below (n + 1) p ≡ count_below n p
count_more_no n p e = count_more n p ∙ ap (λ b. count_below n p + cond b 1 0) e ∙ add-zero (count_below n p)

-- counting along a range, as a chain of iterators does
count_along : (p : ℕ → Bool) (a n : ℕ) → fold (λ c x. c + cond (p x) 1 0) (count_below a p) (range_with_len a n) ≡ count_below (a + n) p
count_along p a zero = ap (λ k. count_below k p) (sym (add-zero a))
count_along p a (suc n) =
    ap (λ c. fold (λ c x. c + cond (p x) 1 0) c (range_with_len (a + 1) n)) (sym (count_more a p))
    ∙ count_along p (a + 1) n ∙ ap (λ k. count_below k p) (omega arith)

pub count_by_range : (n : ℕ) (p : ℕ → Bool) → count_by p (range_with_len 0 n) ≡ count_below n p
count_by_range n p =
    ap (λ c. fold (λ c x. c + cond (p x) 1 0) c (range_with_len 0 n)) (sym (count_none p)) ∙ count_along p 0 n ∙ ap (λ k. count_below k p) (zero-add n)

pub count_le : (n : ℕ) (p : ℕ → Bool) → count_below n p ≤ n
unfolding count_below
count_le zero p = omega arith
count_le (suc n) p = let ih = count_le n p in cond_both (p n) 1 0 (λ x. count_below n p + x ≤ suc n) (λ _. omega arith) (λ _. omega arith)

pub count_no : (n : ℕ) (p : ℕ → Bool) → ((s : ℕ) → s < n → p s ≡ false) → count_below n p ≡ 0
unfolding count_below
count_no zero p h = refl
count_no (suc n) p h =
    let ih = count_no n p (λ s l. h s (omega arith)) in
    let here = h n (omega arith) in
    rw (ih, here)

-- of more than c numbers below n that pass, the largest has c below it
pub count_top : (n c : ℕ) (p : ℕ → Bool) → c < count_below n p → (k : ℕ) × (k < n) × (p k ≡ true) × (c ≤ count_below k p)
unfolding count_below
count_top zero c p h = absurd (omega arith)
count_top (suc n) c p h =
    ⊎_elim (λ e. (n, omega arith, e, omega (arith, cond-true {A = ℕ} (p n) 1 0 e)))
    (λ e. let r = count_top n c p (omega (arith, cond-false {A = ℕ} (p n) 1 0 e)) in (r.0, omega (arith, r.1), r.2, r.3))
    (cases_Bool (p n))

-- where one test implies the other, no more pass it
pub count_mono : (n : ℕ) (p q : ℕ → Bool) → ((s : ℕ) → s < n → p s ≡ true → q s ≡ true) → count_below n p ≤ count_below n q
unfolding count_below
count_mono zero p q h = omega arith
count_mono (suc n) p q h =
    let ih = count_mono n p q (λ s l. h s (omega arith)) in
    let here = h n (omega arith) in
    ⊎_elim (λ a. let b = here a in rw (a, b) (omega arith)) (λ a. rw a (omega arith)) (cases_Bool (p n))

pub count_same : (n : ℕ) (p q : ℕ → Bool) → ((s : ℕ) → s < n → p s ≡ q s) → count_below n p ≡ count_below n q
unfolding count_below
count_same zero p q h = refl
count_same (suc n) p q h =
    let ih = count_same n p q (λ s l. h s (omega arith)) in
    let here = h n (omega arith) in
    rw (ih, here)

-- those that pass both tests and those that pass either are counted as those that pass each
pub count_both_either : (n : ℕ) (p q : ℕ → Bool) → count_below n (λ s. p s && q s) + count_below n (λ s. p s || q s) ≡ count_below n p + count_below n q
unfolding count_below
count_both_either zero p q = refl
count_both_either (suc n) p q =
    let ih = count_both_either n p q in
    let step : (a b : Bool) → cond (a && b) 1 0 + cond (a || b) 1 0 ≡ cond a 1 0 + cond b 1 0 = λ a b. sums a b in
    omega (arith, step (p n) (q n))
  where
    sums : (a b : Bool) → cond (a && b) 1 0 + cond (a || b) 1 0 ≡ cond a 1 0 + cond b 1 0
    sums true true = refl
    sums true false = refl
    sums false true = refl
    sums false false = refl

-- each number passes a test or its opposite
pub count_opposite : (n : ℕ) (p : ℕ → Bool) → count_below n p + count_below n (λ s. not (p s)) ≡ n
unfolding count_below
count_opposite zero p = refl
count_opposite (suc n) p = omega (arith, count_opposite n p, sums (p n))
  where
    sums : (a : Bool) → cond a 1 0 + cond (not a) 1 0 ≡ 1
    sums true = refl
    sums false = refl
