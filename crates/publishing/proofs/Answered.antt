-- Stations that await a number are answered one after the other, and at the end all of them are.
use Rattle.std.proofs.Common.{◌≡◌, ℕ, suc, ◌+◌, ◌≤◌, Bool, true, false, cond, ◌&&◌, ◌==◌, eqb, nat_eq, nat_lt, List, [], ◌∷◌, ◌++◌, map, filter, refl, sym, ap, ap₂, ◌∙◌, arith, append-nil, append_assoc}
use Rattle.std.specs.List.{range_with_len}
use Rattle.std.proofs.Math.Path.{fun_ext}
use Rattle.std.proofs.lemmas.Bool.{ltb-true}
use Rattle.std.proofs.lemmas.Bool.Decides.{nat_tests}
use Rattle.std.proofs.lemmas.List.{map-append, map-id}
use Rattle.std.proofs.lemmas.List.Elements.{filter-append}
use Rattle.std.proofs.lemmas.List.FromFn.{map-range_with_len_more}
use Rattle.grid.specs.Grid.{triples}
use Rattle.grid.proofs.Entries.{shown_past}
use Rattle.machine.specs.declared.figures.Figures.{Figures}
use Rattle.machine.specs.declared.message.Message.{Message}
use Rattle.machine.specs.declared.message.Message.TheVariants.{WriteDone, CatchUpDone}
use Rattle.machine.specs.State.{State, number, put_pair, put_triple, send, with_cell, with_held, fresh_cell}
use Rattle.machine.specs.Publishing.{held_answers, release, take_value}
use Rattle.tables.specs.declared.lent.Tables.{Tables}
use Rattle.tables.specs.View.{view}
use Rattle.publishing.specs.Answering.{answer_one, answer_each}

-- those of the stations below m are answered that await it
abbrev pub release_first : ℕ → ℕ → ℕ → ℕ → (ℕ → ℕ → ℕ → ℕ) → ℕ → ℕ → ℕ → ℕ
release_first m i j x held a k b = cond (nat_lt k m && (a == i && (b == j && held a k b == x))) 0 (held a k b)

abbrev pub answer_first : {V : Type 0} → ℕ → ℕ → ℕ → ℕ → State V → State V
answer_first m i j x s = send (held_answers m (λ k. s.held i k j) i j x) (with_held (release_first m i j x s.held) s)

one_more : (n : ℕ) → range_with_len 0 (n + 1) ≡ range_with_len 0 n ++ n ∷ []
one_more n =
    sym (map-id (range_with_len 0 (n + 1))) ∙ map-range_with_len_more (λ k. k) 0 n n (omega arith) ∙ ap (λ l. l ++ n ∷ []) (map-id (range_with_len 0 n))

module _ (i j x : ℕ) where
  answers_more : {V : Type 0} (m : ℕ) (awaited : ℕ → ℕ) → held_answers {V = V} (m + 1) awaited i j x ≡ held_answers m awaited i j x ++ map (λ k. CatchUpDone i k j x) (filter (λ k. nat_eq (awaited k) x) (m ∷ []))
  answers_more {V} m awaited =
      ap (λ l. map (λ k. CatchUpDone i k j x) (filter (λ k. nat_eq (awaited k) x) l)) (one_more m)
      ∙ ap (map (λ k. CatchUpDone i k j x)) (filter-append (λ k. nat_eq (awaited k) x) (range_with_len 0 m) (m ∷ []))
      ∙ map-append (λ k. CatchUpDone i k j x) (filter (λ k. nat_eq (awaited k) x) (range_with_len 0 m)) (filter (λ k. nat_eq (awaited k) x) (m ∷ []))

  -- station m has not been answered before its turn
  unanswered : (m : ℕ) (held : ℕ → ℕ → ℕ → ℕ) → release_first m i j x held i m j ≡ held i m j
  unanswered m held = grind (arith, nat_tests)

  released : (m : ℕ) (held : ℕ → ℕ → ℕ → ℕ) → eqb (held i m j) x ≡ true → put_triple i m j 0 (release_first m i j x held) ≡ release_first (m + 1) i j x held
  released m held e = fun_ext (λ a. fun_ext (λ b. fun_ext (λ c. grind (arith, nat_tests))))

  not_released : (m : ℕ) (held : ℕ → ℕ → ℕ → ℕ) → eqb (held i m j) x ≡ false → release_first m i j x held ≡ release_first (m + 1) i j x held
  not_released m held e = fun_ext (λ a. fun_ext (λ b. fun_ext (λ c. grind (arith, nat_tests))))

  pub answer_more : {V : Type 0} (m : ℕ) (s : State V) → answer_one i j x m (answer_first m i j x s) ≡ answer_first (m + 1) i j x s
  answer_more {V} m s =
      ap (λ h. cond (eqb h x) (send (CatchUpDone i m j x ∷ []) (with_held (put_triple i m j 0 (release_first m i j x s.held)) so_far)) so_far) (unanswered m s.held)
      ∙ turn (eqb (s.held i m j) x) refl
    where
      so_far : State V
      so_far = answer_first m i j x s

      first : List (Message V)
      first = held_answers m (λ k. s.held i k j) i j x

      turn : (b : Bool) → eqb (s.held i m j) x ≡ b
          → cond b (send (CatchUpDone i m j x ∷ []) (with_held (put_triple i m j 0 (release_first m i j x s.held)) so_far)) so_far ≡ answer_first (m + 1) i j x s
      turn true e =
          ap₂ (λ h l. record s { held = h; pool = l }) (released m s.held e)
          (append_assoc s.pool first (CatchUpDone i m j x ∷ [])
          ∙ ap (λ l. s.pool ++ l) (ap (λ b. first ++ map (λ k. CatchUpDone i k j x) (cond b (m ∷ []) [])) (sym e) ∙ sym (answers_more m (λ k. s.held i k j))))
      turn false e =
          ap₂ (λ h l. record s { held = h; pool = l }) (not_released m s.held e)
          (ap (λ l. s.pool ++ l) (sym (append-nil first) ∙ ap (λ b. first ++ map (λ k. CatchUpDone i k j x) (cond b (m ∷ []) [])) (sym e) ∙ sym (answers_more m (λ k. s.held i k j))))

  -- where no station past n awaits anything, those below n are all
  pub release_all : (n : ℕ) (held : ℕ → ℕ → ℕ → ℕ) → ((k : ℕ) → n ≤ k → held i k j ≡ 0) → release_first n i j x held ≡ release i j x held
  release_all n held none = fun_ext (λ a. fun_ext (λ b. fun_ext (λ c. at a b c)))
    where
      at : (a b c : ℕ) → release_first n i j x held a b c ≡ release i j x held a b c
      at a b c = let past : n ≤ b → held i b j ≡ 0 = none b in grind (arith, nat_tests)

-- no table shows a held number past its stations
none_past : (n : ℕ) (held : List ℕ) (i j k : ℕ) → n ≤ k → triples 0 n held i k j ≡ 0
none_past n held i j k past = shown_past 0 n n held i (k ∷ j ∷ []) (at (nat_lt k n) refl)
  where
    at : (b : Bool) → nat_lt k n ≡ b → (b && (nat_lt j n && true)) ≡ false
    at true e = absurd (omega (arith, ltb-true k n e, past))
    at false e = refl

-- those below n are all that the tables show
pub answered_all : {V : Type 0} (i j x : ℕ) (f : Figures V) (t : Tables V) → answer_first f.stations i j x (view f t) ≡ answer_each f.stations i j x (view f t)
answered_all i j x f t =
    let s = view f t in
    ap (λ h. send (held_answers f.stations (λ k. s.held i k j) i j x) (with_held h s)) (release_all i j x f.stations s.held (λ k past. none_past f.stations t.held.now i j k past))

-- the value is taken, its owner is told, and then those who awaited it are answered
pub value_taken : {V : Type 0} (n i j x : ℕ) (v : V) (s : State V) → n ≡ s.figures.stations → x ≡ suc (number s i j)
    → answer_each n i j x (send (WriteDone i j x ∷ []) (with_cell i j (fresh_cell v x) s)) ≡ take_value i j v s
value_taken {V} n i j x v s same next =
    let y = suc (number s i j) in
    ap₂ (λ n m. answer_each n i j m (send (WriteDone i j m ∷ []) (with_cell i j (fresh_cell v m) s))) same next
    ∙ ap (λ l. record s { cell = put_pair i j (fresh_cell v y) s.cell; held = release i j y s.held; pool = l })
    (append_assoc s.pool (WriteDone i j y ∷ []) (held_answers s.figures.stations (λ k. s.held i k j) i j y))
