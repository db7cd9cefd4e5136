-- Changes of a lent slice, one after the other.
use Rattle.std.proofs.Common.{◌≡◌, ℕ, ◌+◌, ◌-◌, ◌<◌, ◌≤◌, List, length, drop, set, refl, sym, ap, ◌∙◌, arith}
use Rattle.std.specs.Borrow.{MutBor}
use Rattle.std.proofs.lemmas.List.{drop-drop, drop-set-lt, length-drop, length-set, ext_get_or, get_or-drop}
use Rattle.slices.specs.Lent.{SamePast, Filled}

pub past_none : {X : Type 0} (n : ℕ) (a : MutBor (List X)) → SamePast n a a
past_none n a = record { slice = refl; length = refl; rest = refl }

pub past_more : {X : Type 0} (n m : ℕ) (a b : MutBor (List X)) → n ≤ m → SamePast n a b → SamePast m a b
past_more n m a b l p =
    let e : m ≡ n + (m - n) = omega (arith, l) in
    record {
      slice = p.slice;
      length = p.length;
      rest =
          ap (λ k. drop k b.now) e ∙ sym (drop-drop (m - n) n b.now) ∙ ap (drop (m - n)) p.rest ∙ drop-drop (m - n) n a.now ∙ ap (λ k. drop k a.now) (sym e);
    }

pub past_then : {X : Type 0} (n m : ℕ) (a b c : MutBor (List X)) → n ≤ m → SamePast n a b → SamePast m b c → SamePast m a c
past_then n m a b c l p q =
    let w = past_more n m a b l p in
    record { slice = q.slice ∙ w.slice; length = q.length ∙ w.length; rest = q.rest ∙ w.rest }

-- one element among the first m is written
pub past_set : {X : Type 0} (m : ℕ) (a b : MutBor (List X)) (i : ℕ) (x : X) → b.ghost_name ≡ a.ghost_name → b.now ≡ set a.now i x → i < m → SamePast m a b
past_set m a b i x slice now l =
    record { slice = slice; length = ap length now ∙ length-set a.now i x; rest = ap (drop m) now ∙ drop-set-lt m a.now i x l }

-- elements among the first m are filled
pub past_fill : {X : Type 0} (m : ℕ) (a b : MutBor (List X)) (from count : ℕ) (x : X) → b.ghost_name ≡ a.ghost_name → Filled from count x a.now b.now → from + count ≤ m
    → SamePast m a b
past_fill m a b from count x slice filled l =
    record {
      slice = slice;
      length = filled.length;
      rest =
          ext_get_or x (drop m b.now) (drop m a.now) (length-drop m b.now ∙ ap (λ k. k - m) filled.length ∙ sym (length-drop m a.now))
          (λ i within.
          get_or-drop m b.now i x ∙ filled.outside (m + i) x (λ above below. absurd (omega (arith, below, l))) ∙ sym (get_or-drop m a.now i x));
    }
