-- The order of a register, as a list: for each number from 0 on the write of that number, then the completed reads
-- that returned it, as they ended. No sorting is needed.
use Rattle.std.proofs.Common.{◌≡◌, ℕ, zero, suc, ◌<◌, ◌≤◌, true, false, cond, not, ◌&&◌, eqb, ◌⊎◌, List, [], ◌∷◌, ◌++◌, length, get_or, take, Some, None, Option, sym, refl, ap, ◌∙◌, subst, ap₂, inl, inr, ⊎_elim, arith, Ok, Err, Result}
use Rattle.decline.specs.declared.Decline.{Decline}
use Rattle.std.specs.List.{All, slice_get}
use Rattle.std.proofs.lemmas.Bool.{both_ways, cases_lt, cases_Bool, cond_both, cond-true, and_parts, and_from, eqb-true, eq-eqb, not-true, not_from_false, cases_order}
use Rattle.std.proofs.lemmas.List.Elements.{All-nil, All-cons, All-head, All-tail, All-append, All-weaker}
use Rattle.station_set.specs.Sets.{has}
use Rattle.machine.specs.declared.call.Answer.{Answer}
use Rattle.machine.specs.declared.call.Answer.TheVariants.{Done, WriteEnded, ReadEnded, Counted}
use Rattle.machine.specs.State.{Setting, Lawful, State, number}
use Rattle.machine.specs.Runs.{Run, after, answer_at, Correct, CompletedWrite, CompletedRead, Takes}
use Rattle.machine.specs.Calls.{opened}
use Rattle.machine.specs.Properties.{Broadcast}
use Rattle.machine.specs.Order.{Operation, write, read, found, Belongs, Begins, Ends, IsOrder}
use Rattle.machine.proofs.Acts.{In}
use Rattle.machine.proofs.Tables.{Mem, all_nth, all_one, mem_nth, mem_left, mem_right}
use Rattle.machine.proofs.Quorums.{everyone, share}
use Rattle.machine.proofs.Along.{history_at, holds_at, numbers_rise, takes_below, took_below, takes_from, takes_to, one_begin, read_began, no_answer, past_end}
use Rattle.machine.proofs.Precedence.{inside, below, correct, read_took, write_then_write, write_then_read, read_then_write, read_then_read, write_reached}

-- Ascending lists

module _ {V : Type 0} where
  -- the number of an operation, and its rank among those of its number
  abbrev number_of : Operation V → ℕ
  number_of (write x v) = x
  number_of (read i e x v) = x

  abbrev rank_of : Operation V → ℕ
  rank_of (write x v) = 0
  rank_of (read i e x v) = suc e

  pub record ComesFirst (o o' : Operation V) : Type 0 where
    pub by : (number_of o < number_of o') ⊎ ((number_of o ≡ number_of o') × (rank_of o < rank_of o'))

  never_both : (o o' : Operation V) → ComesFirst o o' → ComesFirst o' o → ⊥
  never_both o o' a b =
      ⊎_elim
      (λ l. ⊎_elim (λ m. absurd (omega arith)) (λ m. absurd (omega (arith, m.0))) b.by)
      (λ l. ⊎_elim (λ m. absurd (omega (arith, l.0))) (λ m. absurd (omega (arith, l.1, m.1))) b.by) a.by

  abbrev Ascending : List (Operation V) → Type 0
  Ascending [] = Unit {0}
  Ascending (o ∷ l) = All (ComesFirst o) l × Ascending l

  ascending_append : (l r : List (Operation V)) → Ascending l → Ascending r → All (λ o. All (ComesFirst o) r) l → Ascending (l ++ r)
  ascending_append [] r a b w = b
  ascending_append (o ∷ l) r a b w =
      let P : Operation V → Type 0 = λ o. All (ComesFirst o) r in
      (All-append (ComesFirst o) l r a.0 (All-head P o l w), ascending_append l r a.1 b (All-tail P o l w))

  ascending_at : (l : List (Operation V)) (p q : ℕ) (o o' : Operation V) → Ascending l → slice_get l p ≡ Some o → slice_get l q ≡ Some o' → p < q → ComesFirst o o'
  ascending_at [] p q o o' a e e' l = absurd (let z : ◌≡◌ {A = ℕ} 0 1 = cc in omega arith)
  ascending_at (x ∷ xs) zero zero o o' a e e' l = absurd (omega arith)
  ascending_at (x ∷ xs) zero (suc q) o o' a e e' l = let s : x ≡ o = cc in subst (λ z. ComesFirst z o') s (all_nth (ComesFirst x) xs q o' a.0 e')
  ascending_at (x ∷ xs) (suc p) zero o o' a e e' l = absurd (omega arith)
  ascending_at (x ∷ xs) (suc p) (suc q) o o' a e e' l = ascending_at xs p q o o' a.1 e e' (omega arith)

  -- in an ascending list what comes first stands earlier
  stands_earlier : (l : List (Operation V)) (p q : ℕ) (o o' : Operation V) → Ascending l → slice_get l p ≡ Some o → slice_get l q ≡ Some o' → ComesFirst o o' → p < q
  stands_earlier l p q o o' a e e' w =
      ⊎_elim
      (λ same. absurd (let s : Some o ≡ Some o' = sym e ∙ ap (slice_get l) same ∙ e' in let s' : o ≡ o' = cc in never_both o o (subst (ComesFirst o) (sym s') w) (subst (ComesFirst o) (sym s') w)))
      (λ other. ⊎_elim (λ lt. lt) (λ gt. absurd (never_both o o' w (ascending_at l q p o' o a e' e gt))) other)
      (cases_order p q)

  stands_once : (l : List (Operation V)) (p q : ℕ) (o : Operation V) → Ascending l → slice_get l p ≡ Some o → slice_get l q ≡ Some o → p ≡ q
  stands_once l p q o a e e' =
      ⊎_elim (λ same. same)
      (λ other. absurd (⊎_elim (λ lt. let w = ascending_at l p q o o a e e' lt in never_both o o w w) (λ gt. let w = ascending_at l q p o o a e' e gt in never_both o o w w) other))
      (cases_order p q)

  -- every read finds what it returned
  abbrev Legal : ℕ × V → List (Operation V) → Type 0
  Legal last [] = Unit {0}
  Legal last (write x v ∷ l) = Legal (x, v) l
  Legal last (read i e x v ∷ l) = (last ≡ (x, v)) × Legal last l

  legal_append : (last : ℕ × V) (l r : List (Operation V)) → Legal last l → Legal (found last l) r → Legal last (l ++ r)
  legal_append last [] r a b = b
  legal_append last (write x v ∷ l) r a b = legal_append (x, v) l r a b
  legal_append last (read i e x v ∷ l) r a b = (a.0, legal_append last l r a.1 b)

  found-append : (last : ℕ × V) (l r : List (Operation V)) → found last (l ++ r) ≡ found (found last l) r
  found-append last [] r = refl
  found-append last (write x v ∷ l) r = found-append (x, v) l r
  found-append last (read i e x v ∷ l) r = found-append last l r

  legal_at : (last : ℕ × V) (l : List (Operation V)) (p i e x : ℕ) (v : V) → Legal last l → slice_get l p ≡ Some (read i e x v) → found last (take p l) ≡ (x, v)
  legal_at last [] p i e x v a q = absurd (let z : ◌≡◌ {A = ℕ} 0 1 = cc in omega arith)
  legal_at last (write y w ∷ l) zero i e x v a q = absurd (let z : ◌≡◌ {A = Option (Operation V)} (Some (write y w)) (Some (read i e x v)) = q in grind arith)
  legal_at last (write y w ∷ l) (suc p) i e x v a q = legal_at (y, w) l p i e x v a q
  legal_at last (read k d y w ∷ l) zero i e x v a q = let ey : y ≡ x = cc in let ew : w ≡ v = cc in a.0 ∙ ap₂ (λ m n. (m, n)) ey ew
  legal_at last (read k d y w ∷ l) (suc p) i e x v a q = legal_at last l p i e x v a.1 q

  -- reads of one number and value, all of which find it
  abbrev Returns : ℕ → V → Operation V → Type 0
  Returns x v (write y w) = ⊥
  Returns x v (read i e y w) = (y ≡ x) × (w ≡ v)

  legal_reads : (x : ℕ) (v : V) (l : List (Operation V)) → All (Returns x v) l → Legal (x, v) l × (found (x, v) l ≡ (x, v))
  legal_reads x v [] a = (tt, refl)
  legal_reads x v (write y w ∷ l) a = absurd (All-head (Returns x v) (write y w) l a)
  legal_reads x v (read i e y w ∷ l) a =
      let h = All-head (Returns x v) (read i e y w) l a in
      let r = legal_reads x v l (All-tail (Returns x v) (read i e y w) l a) in ((ap₂ (λ m n. (m, n)) (sym h.0) (sym h.1), r.0), r.1)

module _ {V : Type 0} (R : Run V) (L : Lawful R.setting) (ok : R.setting.system.allowed R.opening.faulty ≡ true) (B : Broadcast R) (j : ℕ) where
  abbrev c : Setting V
  c = R.setting

  abbrev faulty : ℕ
  faulty = R.opening.faulty

  abbrev calls : ℕ
  calls = length R.calls

  abbrev far : ℕ → ℕ
  far k = number (after R calls) k j

  -- a correct station that is as far as any
  someone : (k : ℕ) × (k < c.system.stations) × In faulty k
  someone = let e = everyone c L in let m = share c L faulty ok e.0 e.0 e.1 e.1 in (m.0, m.1, m.4)

  Farthest : ℕ → Type 0
  Farthest n = (m : ℕ) × (m < c.system.stations) × In faulty m × ((k : ℕ) → k < n → In faulty k → far k ≤ far m)

  farthest_of : (n : ℕ) → n ≤ c.system.stations → Farthest n
  unfolding Farthest
  farthest_of zero l = (someone.0, someone.1, someone.2, λ k u e. absurd (omega arith))
  farthest_of (suc n) l = more (farthest_of n (omega arith)) (cases_Bool (has faulty n))
    where
      split : (k : ℕ) → k < suc n → (k < n) ⊎ (k ≡ n)
      split k u = ⊎_elim inl (λ ge. inr (omega arith)) (cases_lt k n)

      more : Farthest n → (has faulty n ≡ true) ⊎ (has faulty n ≡ false) → Farthest (suc n)
      more w (inl out) = (w.0, w.1, w.2, λ k u e. ⊎_elim (λ lt. w.3 k lt e) (λ q. absurd (both_ways _ e (ap (has faulty) q ∙ out))) (split k u))
      more w (inr in') =
          ⊎_elim
          (λ lt. (n, omega arith, in', λ k u e. ⊎_elim (λ b. omega (arith, w.3 k b e)) (λ q. subst (λ z. far z ≤ far n) (sym q) (omega arith)) (split k u)))
          (λ ge. (w.0, w.1, w.2, λ k u e. ⊎_elim (λ b. w.3 k b e) (λ q. subst (λ z. far z ≤ far w.0) (sym q) ge) (split k u)))
          (cases_lt (far w.0) (far n))

  farthest : Farthest c.system.stations
  farthest = farthest_of c.system.stations (omega arith)

  leader : ℕ
  unfolding Farthest
  leader = farthest.0

  leader_in : In faulty leader
  unfolding leader Farthest
  leader_in = farthest.2

  leader_below : leader < c.system.stations
  unfolding leader Farthest
  leader_below = farthest.1

  leader_far : (k : ℕ) → Correct R k → far k ≤ far leader
  unfolding leader Farthest
  leader_far k h = farthest.3 k (below R L ok k h) (inside R L ok k h)

  leader_correct : Correct R leader
  leader_correct = correct R L ok leader leader_in leader_below

  -- its values stand for the writes
  abbrev or_opening : Option V → V
  or_opening None = R.opening.value
  or_opening (Some v) = v

  abbrev value_of : ℕ → V
  value_of x = or_opening ((history_at R L ok calls).took leader j x)

  value_is : (x : ℕ) → x ≤ far leader → (history_at R L ok calls).took leader j x ≡ Some (value_of x)
  value_is x l = let w = ((holds_at R L ok calls).recorded.taken leader j leader_in).past_is x l in w.1 ∙ ap (λ o. Some (or_opening o)) (sym w.1)

  value_zero : value_of 0 ≡ R.opening.value
  value_zero = ap or_opening ((holds_at R L ok calls).recorded.taken leader j leader_in).zero_is

  leader_takes : (x : ℕ) → 0 < x → x ≤ far leader → (p : ℕ) × (p < calls) × Takes R leader j x (value_of x) p
  leader_takes x l u = takes_from R L ok calls leader j x (value_of x) leader_in l (value_is x u)

  -- what a correct station took is that value
  taken_value : (i x p : ℕ) (v : V) → Correct R i → Takes R i j x v p → x ≤ far leader → v ≡ value_of x
  taken_value i x p v h t u =
      let w = leader_takes x (omega (arith, t.below)) u in B.agreement i leader j x p w.0 v (value_of x) h leader_correct t w.2

  -- The list

  abbrev entry : ℕ → ℕ → Option (Result (Answer V) Decline) → List (Operation V)
  entry x e None = []
  entry x e (Some (Ok Done)) = []
  entry x e (Some (Ok (WriteEnded i y))) = []
  entry x e (Some (Ok (ReadEnded i k y v))) = cond (eqb k j && (eqb y x && not (has faulty i))) (read i e y v ∷ []) []
  entry x e (Some (Ok (Counted waiting takeable))) = []
  entry x e (Some (Err reason)) = []

  -- the reads of number x that one of the first calls ended
  abbrev reads : ℕ → ℕ → List (Operation V)
  reads x zero = []
  reads x (suc e) = reads x e ++ entry x e (answer_at R e)

  abbrev upto : ℕ → List (Operation V)
  upto zero = reads 0 calls
  upto (suc x) = upto x ++ write (suc x) (value_of (suc x)) ∷ reads (suc x) calls

  -- what stands among the reads
  abbrev ReadOf : ℕ → ℕ → Operation V → Type 0
  ReadOf x n (write y v) = ⊥
  ReadOf x n (read i e y v) = (y ≡ x) × (e < n) × In faulty i × (answer_at R e ≡ Some (Ok (ReadEnded i j y v)))

  read_longer : (x n : ℕ) (o : Operation V) → ReadOf x n o → ReadOf x (suc n) o
  read_longer x n (write y v) w = absurd w
  read_longer x n (read i e y v) w = (w.0, omega (arith, w.1), w.2, w.3)

  -- an entry is empty, or one read
  entry_or_none : (P : List (Operation V) → Type 0) (x e : ℕ) (a : Option (Result (Answer V) Decline)) → P []
      → ((i y : ℕ) (v : V) → y ≡ x → In faulty i → a ≡ Some (Ok (ReadEnded i j y v)) → P (read i e y v ∷ [])) → P (entry x e a)
  entry_or_none P x e None none one = none
  entry_or_none P x e (Some (Ok Done)) none one = none
  entry_or_none P x e (Some (Ok (WriteEnded i y))) none one = none
  entry_or_none P x e (Some (Ok (ReadEnded i k y v))) none one =
      cond_both (eqb k j && (eqb y x && not (has faulty i))) (read i e y v ∷ []) [] P
      (λ t. let w = and_parts _ _ t in let u = and_parts _ _ w.1 in
      one i y v (eqb-true y x u.0) (not-true _ u.1) (ap (λ z. Some (Ok (ReadEnded i z y v))) (eqb-true k j w.0))) (λ _. none)
  entry_or_none P x e (Some (Ok (Counted waiting takeable))) none one = none
  entry_or_none P x e (Some (Err reason)) none one = none

  entry_is : (x e : ℕ) (a : Option (Result (Answer V) Decline)) → answer_at R e ≡ a → All (ReadOf x (suc e)) (entry x e a)
  entry_is x e a q =
      entry_or_none (All (ReadOf x (suc e))) x e a (All-nil (ReadOf x (suc e)))
      (λ i y v same in' r. all_one (ReadOf x (suc e)) (read i e y v) (same, omega arith, in', q ∙ r))

  reads_are : (x n : ℕ) → All (ReadOf x n) (reads x n)
  reads_are x zero = All-nil (ReadOf x 0)
  reads_are x (suc n) =
      All-append (ReadOf x (suc n)) (reads x n) _ (All-weaker (ReadOf x n) (ReadOf x (suc n)) (read_longer x n) (reads x n) (reads_are x n)) (entry_is x n (answer_at R n) refl)

  reads_hold : (x n i e : ℕ) (v : V) → e < n → In faulty i → answer_at R e ≡ Some (Ok (ReadEnded i j x v)) → Mem (read i e x v) (reads x n)
  reads_hold x zero i e v l h q = absurd (omega arith)
  reads_hold x (suc n) i e v l h q =
      ⊎_elim
      (λ lt. mem_left (read i e x v) (reads x n) _ (reads_hold x n i e v lt h q))
      (λ ge. let en : e ≡ n = omega arith in
      mem_right (read i e x v) (reads x n) _
      (subst (λ a. Mem (read i e x v) (entry x n a)) (sym q ∙ ap (answer_at R) en)
      (subst (λ l. Mem (read i e x v) l)
      (sym (cond-true (eqb j j && (eqb x x && not (has faulty i))) (read i n x v ∷ []) []
      (and_from _ _ (eq-eqb j j refl) (and_from _ _ (eq-eqb x x refl) (not_from_false _ h)))))
      (inl (ap (λ z. read i z x v) (sym en))))))
      (cases_lt e n)

  first_read : (x n : ℕ) (o : Operation V) → ReadOf x n o → (o' : Operation V) → ReadOf x (suc n) o' → rank_of o' ≡ suc n → ComesFirst o o'
  first_read x n (write y v) w o' w' q = absurd w
  first_read x n (read i e y v) w (write y' v') w' q = absurd w'
  first_read x n (read i e y v) w (read i' e' y' v') w' q = record { by = inr (w.0 ∙ sym w'.0, omega (arith, w.1)) }

  entry_last : (x e : ℕ) (a : Option (Result (Answer V) Decline)) → All (λ o. rank_of o ≡ suc e) (entry x e a) × Ascending (entry x e a)
  entry_last x e a =
      entry_or_none (λ l. All (λ o. rank_of o ≡ suc e) l × Ascending l) x e a (All-nil (λ o. rank_of o ≡ suc e), tt)
      (λ i y v _ _ _. (all_one (λ o. rank_of o ≡ suc e) (read i e y v) refl, (All-nil (ComesFirst (read i e y v)), tt)))

  reads_ascend : (x n : ℕ) → Ascending (reads x n)
  reads_ascend x zero = tt
  reads_ascend x (suc n) =
      let new : List (Operation V) = entry x n (answer_at R n) in
      let last = entry_last x n (answer_at R n) in
      ascending_append (reads x n) new (reads_ascend x n) last.1
      (All-weaker (ReadOf x n) (λ o. All (ComesFirst o) new)
      (λ o w p d lt. first_read x n o w (get_or new p d) (entry_is x n (answer_at R n) refl p d lt) (last.0 p d lt))
      (reads x n) (reads_are x n))

  read_number : (x n : ℕ) (o : Operation V) → ReadOf x n o → number_of o ≡ x
  read_number x n (write y v) w = absurd w
  read_number x n (read i e y v) w = w.0

  write_first : (x n : ℕ) (v : V) (o : Operation V) → ReadOf x n o → ComesFirst (write x v) o
  write_first x n v (write y w) r = absurd r
  write_first x n v (read i e y w) r = record { by = inr (sym r.0, omega arith) }

  upto_below : (x : ℕ) → All (λ o. number_of o ≤ x) (upto x)
  upto_below zero = All-weaker (ReadOf 0 calls) (λ o. number_of o ≤ 0) (λ o w. omega (arith, read_number 0 calls o w)) (reads 0 calls) (reads_are 0 calls)
  upto_below (suc x) =
      All-append (λ o. number_of o ≤ suc x) (upto x) _ (All-weaker (λ o. number_of o ≤ x) (λ o. number_of o ≤ suc x) (λ o w. omega arith) (upto x) (upto_below x))
      (All-cons (λ o. number_of o ≤ suc x) (write (suc x) (value_of (suc x))) (reads (suc x) calls) (omega arith)
      (All-weaker (ReadOf (suc x) calls) (λ o. number_of o ≤ suc x) (λ o w. omega (arith, read_number (suc x) calls o w)) (reads (suc x) calls) (reads_are (suc x) calls)))

  upto_ascends : (x : ℕ) → Ascending (upto x)
  upto_ascends zero = reads_ascend 0 calls
  upto_ascends (suc x) =
      ascending_append (upto x) _ (upto_ascends x) (
        All-weaker (ReadOf (suc x) calls) (ComesFirst (write (suc x) (value_of (suc x)))) (write_first (suc x) calls (value_of (suc x))) (reads (suc x) calls) (reads_are (suc x) calls),
        reads_ascend (suc x) calls,
      )
      (All-weaker (λ o. number_of o ≤ x) (λ o. All (ComesFirst o) (write (suc x) (value_of (suc x)) ∷ reads (suc x) calls))
      (λ o w. All-cons (ComesFirst o) (write (suc x) (value_of (suc x))) (reads (suc x) calls) (record { by = inl (omega arith) })
      (All-weaker (ReadOf (suc x) calls) (ComesFirst o) (λ o' r. record { by = inl (omega (arith, read_number (suc x) calls o' r)) }) (reads (suc x) calls) (reads_are (suc x) calls)))
      (upto x) (upto_below x))

  -- a read returned what the leader took
  read_value : (x : ℕ) → x ≤ far leader → (o : Operation V) → ReadOf x calls o → Returns x (value_of x) o
  read_value x u (write y v) w = absurd w
  read_value x u (read i e y v) w =
      let r = read_began R L ok i j e y v w.2 w.3 in
      (w.0, subst (λ z. v ≡ value_of z) w.0 (same y (subst (λ z. z ≤ far leader) (sym w.0) u) (correct R L ok i w.2 r.0) (read_took R L ok i j r.1.0 e y v w.2 r.1.1)))
    where
      same : (y : ℕ) → y ≤ far leader → Correct R i → (history_at R L ok e).took i j y ≡ Some v → v ≡ value_of y
      same zero u h t = let z : Some v ≡ Some R.opening.value = sym t ∙ ((holds_at R L ok e).recorded.taken i j w.2).zero_is in let z' : v ≡ R.opening.value = cc in z' ∙ sym value_zero
      same (suc y) u h t = let p = takes_from R L ok e i j (suc y) v w.2 (omega arith) t in taken_value i (suc y) p.0 v h p.2 u

  reads_return : (x : ℕ) → x ≤ far leader → All (Returns x (value_of x)) (reads x calls)
  reads_return x u = All-weaker (ReadOf x calls) (Returns x (value_of x)) (read_value x u) (reads x calls) (reads_are x calls)

  upto_legal : (x : ℕ) → x ≤ far leader → Legal (0, R.opening.value) (upto x) × (found (0, R.opening.value) (upto x) ≡ (x, value_of x))
  upto_legal zero u =
      let w = legal_reads 0 (value_of 0) (reads 0 calls) (reads_return 0 u) in
      (subst (λ v. Legal (0, v) (reads 0 calls)) value_zero w.0, subst (λ v. found (0, v) (reads 0 calls) ≡ (0, value_of 0)) value_zero w.1)
  upto_legal (suc x) u =
      let old = upto_legal x (omega arith) in
      let w = legal_reads (suc x) (value_of (suc x)) (reads (suc x) calls) (reads_return (suc x) u) in (
        legal_append (0, R.opening.value) (upto x) _ old.0 w.0,
        found-append (0, R.opening.value) (upto x) (write (suc x) (value_of (suc x)) ∷ reads (suc x) calls) ∙ w.1,
      )

  -- what stands in the list belongs there
  read_belongs : (x : ℕ) (o : Operation V) → ReadOf x calls o → Belongs R j o
  read_belongs x (write y v) w = absurd w
  read_belongs x (read i e y v) w = let r = read_began R L ok i j e y v w.2 w.3 in (correct R L ok i w.2 r.0, r.1)

  upto_belongs : (x : ℕ) → x ≤ far leader → All (Belongs R j) (upto x)
  upto_belongs zero u = All-weaker (ReadOf 0 calls) (Belongs R j) (read_belongs 0) (reads 0 calls) (reads_are 0 calls)
  upto_belongs (suc x) u =
      let w = leader_takes (suc x) (omega arith) u in
      All-append (Belongs R j) (upto x) _ (upto_belongs x (omega arith))
      (All-cons (Belongs R j) (write (suc x) (value_of (suc x))) (reads (suc x) calls) (leader, leader_correct, (w.0, w.2))
      (All-weaker (ReadOf (suc x) calls) (Belongs R j) (read_belongs (suc x)) (reads (suc x) calls) (reads_are (suc x) calls)))

  upto_reads : (t x : ℕ) (o : Operation V) → x ≤ t → Mem o (reads x calls) → Mem o (upto t)
  upto_reads zero x o l m = let e : x ≡ 0 = omega arith in subst (λ z. Mem o (reads z calls)) e m
  upto_reads (suc t) x o l m =
      ⊎_elim (λ lt. mem_left o (upto t) _ (upto_reads t x o (omega arith) m))
      (λ ge. let e : x ≡ suc t = omega arith in mem_right o (upto t) _ (inr (subst (λ z. Mem o (reads z calls)) e m))) (cases_lt x (suc t))

  upto_writes : (t x : ℕ) → 0 < x → x ≤ t → Mem (write x (value_of x)) (upto t)
  upto_writes zero x l u = absurd (omega arith)
  upto_writes (suc t) x l u =
      ⊎_elim (λ lt. mem_left (write x (value_of x)) (upto t) _ (upto_writes t x l (omega arith)))
      (λ ge. let e : suc t ≡ x = omega arith in mem_right (write x (value_of x)) (upto t) _ (inl (ap (λ z. write z (value_of z)) e))) (cases_lt x (suc t))

  pub order : List (Operation V)
  order = upto (far leader)

  order_ascends : Ascending order
  unfolding order
  order_ascends = upto_ascends (far leader)

  order_belongs : (p : ℕ) (o : Operation V) → slice_get order p ≡ Some o → Belongs R j o
  unfolding order
  order_belongs p o e = all_nth (Belongs R j) order p o (upto_belongs (far leader) (omega arith)) e

  -- past its last call nothing is taken
  in_calls : (i x p : ℕ) (v : V) → Takes R i j x v p → p < calls
  in_calls i x p v t =
      ⊎_elim (λ lt. lt)
      (λ ge.
      let q : after R (suc p) ≡ after R p = past_end c (opened c R.opening) R.calls (suc p) (omega arith) ∙ sym (past_end c (opened c R.opening) R.calls p ge) in
      absurd (omega (arith, t.below, t.reached, ap (λ (s : State V). number s i j) q)))
      (cases_lt p calls)

  taken_far : (i x p : ℕ) (v : V) → Correct R i → Takes R i j x v p → x ≤ far leader
  taken_far i x p v h t =
      omega (arith, leader_far i h, took_below R L ok calls i j x v (inside R L ok i h) (takes_to R L ok i j x p calls v (inside R L ok i h) t (in_calls i x p v t)))

  holds_taken : (i x p : ℕ) (v : V) → Correct R i → Takes R i j x v p → (q : ℕ) × (slice_get order q ≡ Some (write x v))
  unfolding order
  holds_taken i x p v h t =
      let u = taken_far i x p v h t in
      let m = mem_nth (write x (value_of x)) order (upto_writes (far leader) x (omega (arith, t.below)) u) in
      (m.0, m.1 ∙ ap (λ z. Some (write x z)) (sym (taken_value i x p v h t u)))

  comes_first : (o o' : Operation V) (e b : ℕ) → Belongs R j o → Belongs R j o' → Ends R j o e → Begins R j o' b → e < b → ComesFirst o o'
  comes_first (write x v) (write y w) e b s s' en be l = record { by = inl (write_then_write R L ok B j en.1.0 e x b y v w en.1.1 be.1 l) }
  comes_first (write x v) (read k g y w) e b s s' en be l =
      let u = write_then_read R L ok B j en.1.0 e x k b g y v w en.0 s'.0 en.1.1 be l in
      record { by = ⊎_elim inl (λ ge. inr (omega arith, omega arith)) (cases_lt x y) }
  comes_first (read i d x v) (write y w) e b s s' en be l =
      record { by = inl (read_then_write R L ok B i j s.1.0 d x b y v w s.0 be.0 s.1.1 be.1 (omega arith)) }
  comes_first (read i d x v) (read k g y w) e b s s' en be l =
      let u = read_then_read R L ok B i j s.1.0 d x k b g y v w s.0 s'.0 s.1.1 be (omega arith) in
      record { by = ⊎_elim inl (λ ge. inr (omega arith, omega (arith, be.later))) (cases_lt x y) }

  holds_reads : (i b e x : ℕ) (v : V) → Correct R i → CompletedRead R i j b e x v → (p : ℕ) × (slice_get order p ≡ Some (read i e x v))
  unfolding order
  holds_reads i b e x v h w =
      let l : e < calls = no_answer c (opened c R.opening) R.calls e _ w.ends in
      let t = took_below R L ok e i j x v (inside R L ok i h) (read_took R L ok i j b e x v (inside R L ok i h) w) in
      let u : x ≤ far leader = omega (arith, t, numbers_rise R L ok e calls i j (omega arith) (inside R L ok i h), leader_far i h) in
      mem_nth (read i e x v) order (upto_reads (far leader) x (read i e x v) u (reads_hold x calls i e v l (inside R L ok i h) w.ends))

  holds_writes : (b e x : ℕ) (v : V) → Correct R j → CompletedWrite R j b e x v → (p : ℕ) × (slice_get order p ≡ Some (write x v))
  holds_writes b e x v h w =
      let k = write_reached R L ok B j b e x v h w in
      let t = takes_below R L ok e k.0 j x (omega (arith, w.begins.rank)) k.2 in
      let u = B.validity k.0 j x t.0 t.2.0 k.1 h t.2.1 in
      let same : t.2.0 ≡ v = one_begin R L ok j u.0 b x t.2.0 v u.2 w.begins in
      holds_taken k.0 x t.0 v k.1 (subst (λ z. Takes R k.0 j x z t.0) same t.2.1)

  pub is_order : IsOrder R j order
  unfolding order
  is_order =
      record {
        holds_reads = holds_reads;
        holds_writes = holds_writes;
        holds_taken = holds_taken;
        nothing_else = order_belongs;
        once = λ p q o e e'. stands_once order p q o order_ascends e e';
        legal = λ p i e x v q. legal_at (0, R.opening.value) order p i e x v (upto_legal (far leader) (omega arith)).0 q;
        precedence = λ p q e b o o' m m' en be l.
            stands_earlier order p q o o' order_ascends m m' (comes_first o o' e b (order_belongs p o m) (order_belongs q o' m') en be l);
        by_number = λ p q x y v w m m' l. stands_earlier order p q (write x v) (write y w) order_ascends m m' (record { by = inl l });
      }
