-- A bench is at rest exactly when count finds nothing to take between correct stations.
use Rattle.std.proofs.Common.{◌≡◌, ℕ, suc, ◌+◌, Bool, true, false, cond, not, List, [], ◌∷◌, Some, count_by, sym, refl, ap, ◌∙◌, ⊎_elim, arith}
use Rattle.std.specs.List.{All, slice_get}
use Rattle.std.proofs.lemmas.Bool.{both_ways, and_cases, and_left, and_right, cases_Bool, eqb-true, eq-eqb, not-false, not_from_true}
use Rattle.std.proofs.lemmas.List.Elements.{All-nil, All-cons}
use Rattle.std.proofs.lemmas.List.Sums.{sum_by-cons}
use Rattle.machine.specs.Calls.{ahead, between_correct, takeable}
use Rattle.machine.specs.Runs.{RestByCount}
use Rattle.machine.proofs.Tables.{all_nth}

one_of : (t : Bool) (n : ℕ) → cond t 1 0 + n ≡ 0 → (t ≡ false) × (n ≡ 0)
one_of true n e = absurd (omega arith)
one_of false n e = (refl, omega arith)

none_counted : {A : Type 0} (t : A → Bool) (l : List A) → count_by t l ≡ 0 → All (λ m. t m ≡ false) l
none_counted t [] e = All-nil (λ m. t m ≡ false)
none_counted t (m ∷ l) e =
    let w = one_of (t m) (count_by t l) (sym (sum_by-cons (λ x. cond (t x) 1 0) m l) ∙ e) in All-cons (λ m. t m ≡ false) m l w.0 (none_counted t l w.1)

count_none : {A : Type 0} (t : A → Bool) (l : List A) → ((p : ℕ) (m : A) → slice_get l p ≡ Some m → t m ≡ false) → count_by t l ≡ 0
count_none t [] h = refl
count_none t (m ∷ l) h =
    let one : count_by t (m ∷ l) ≡ 0 + count_by t l = sum_by-cons (λ x. cond (t x) 1 0) m l ∙ ap (λ b. cond b 1 0 + count_by t l) (h 0 m refl) in
    omega (arith, one, count_none t l (λ p x e. h (suc p) x e))

pub rest_by_count : (V : Type 0) → RestByCount V
rest_by_count V s = (
  λ e p m at between.
      ⊎_elim (λ no. absurd (both_ways _ no between)) (λ no. not-false _ no)
      (and_cases (between_correct s m) (not (ahead s m)) (all_nth (λ m. takeable s m ≡ false) s.pool p m (none_counted (takeable s) s.pool (eqb-true _ 0 e)) at)),
  λ rest. eq-eqb _ 0
      (count_none (takeable s) s.pool
      (λ p m at. ⊎_elim (λ between. and_right _ _ (not_from_true _ (rest p m at between))) (λ out. and_left _ _ out) (cases_Bool (between_correct s m)))),
)
