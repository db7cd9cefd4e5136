-- Where entries stand: each in a place of its own, and a write at one changes what is shown there alone.
use Rattle.std.proofs.Common.{◌≡◌, ℕ, ◌+◌, ◌-◌, ◌*◌, ◌/◌, ◌%◌, ◌<◌, ◌≤◌, Bool, true, false, cond, ◌&&◌, nat_lt, eqb, List, [], ◌∷◌, length, get_or, set, refl, sym, ap, ap₂, ◌∙◌, arith}
use Rattle.std.proofs.lemmas.Nat.{mul-add-lt, div-mul-add, mod-mul-add}
use Rattle.std.proofs.lemmas.Bool.{and_parts, and_from, ltb-true, lt-ltb, eqb-true, eq-eqb, both_ways, false≢true}
use Rattle.std.proofs.lemmas.List.{get_or-set_same, get_or-set_other}
use Rattle.slices.specs.Lent.{Filled}
use Rattle.grid.specs.Grid.{row_index, entry, each_below, shown, line, pairs, triples, halves}

-- how many entries h rows have, with as many columns after one another
abbrev pub entries : ℕ → ℕ → List ℕ → ℕ
entries n h [] = h
entries n h (j ∷ columns) = entries n (h * n) columns

pub row_below : (n h i j : ℕ) → i < h → j < n → row_index n i j < h * n
row_below n h i j p q = omega (arith, mul-add-lt i n j h p q)

-- an entry is one of those that the rows have
pub entry_below : (n h i : ℕ) (columns : List ℕ) → i < h → each_below n columns ≡ true → entry n i columns < entries n h columns
entry_below n h i [] p q = p
entry_below n h i (j ∷ columns) p q =
    let r = and_parts (nat_lt j n) (each_below n columns) q in
    entry_below n (h * n) (row_index n i j) columns (row_below n h i j p (ltb-true j n r.0)) r.1

row_same : (n i j k l : ℕ) → j < n → l < n → row_index n i j ≡ row_index n k l → (i ≡ k) × (j ≡ l)
row_same n i j k l p q e =
    (sym (div-mul-add i n j p) ∙ ap (λ c. c / n) e ∙ div-mul-add k n l q, sym (mod-mul-add i n j p) ∙ ap (λ c. c % n) e ∙ mod-mul-add k n l q)

-- whether two lists of columns are the same
abbrev pub same : List ℕ → List ℕ → Bool
same [] [] = true
same [] (j ∷ js) = false
same (i ∷ is) [] = false
same (i ∷ is) (j ∷ js) = eqb i j && same is js

-- entries in one place are of one row and the same columns
pub entry_same : (n i k : ℕ) (is ks : List ℕ) → length is ≡ length ks → each_below n is ≡ true → each_below n ks ≡ true
    → entry n i is ≡ entry n k ks → (i ≡ k) × (same is ks ≡ true)
entry_same n i k [] [] l p q e = (e, refl)
entry_same n i k [] (b ∷ ks) l p q e = absurd (omega (arith, l))
entry_same n i k (a ∷ is) [] l p q e = absurd (omega (arith, l))
entry_same n i k (a ∷ is) (b ∷ ks) l p q e =
    let r = and_parts (nat_lt a n) (each_below n is) p in
    let s = and_parts (nat_lt b n) (each_below n ks) q in
    let w = entry_same n (row_index n i a) (row_index n k b) is ks (omega (arith, l)) r.1 s.1 e in
    let z = row_same n i a k b (ltb-true a n r.0) (ltb-true b n s.0) w.0 in
    (z.0, and_from (eqb a b) (same is ks) (eq-eqb a b z.1) w.1)

same_is : (is ks : List ℕ) → same is ks ≡ true → is ≡ ks
same_is [] [] e = refl
same_is [] (b ∷ ks) e = absurd (false≢true e)
same_is (a ∷ is) [] e = absurd (false≢true e)
same_is (a ∷ is) (b ∷ ks) e =
    let r = and_parts (eqb a b) (same is ks) e in
    ap₂ (λ x xs. x ∷ xs) (eqb-true a b r.0) (same_is is ks r.1)

-- what is shown after a write at a row and columns
pub shown-set : {X : Type 0} (d : X) (h n : ℕ) (xs : List X) (i : ℕ) (is : List ℕ) (x : X) → entries n h is ≤ length xs → i < h → each_below n is ≡ true
    → (k : ℕ) (ks : List ℕ) → length ks ≡ length is
    → shown d h n (set xs (entry n i is) x) k ks ≡ cond (eqb k i && same ks is) x (shown d h n xs k ks)
shown-set {X} d h n xs i is x room p q k ks l = at_entry (eqb k i && same ks is) refl
  where
    here : entry n i is < length xs
    here = omega (arith, room, entry_below n h i is p q)

    inside : Bool
    inside = nat_lt k h && each_below n ks

    within : (b : Bool) → inside ≡ b → ((eqb k i && same ks is) ≡ false)
        → cond b (get_or (set xs (entry n i is) x) (entry n k ks) d) d ≡ cond b (get_or xs (entry n k ks) d) d
    within false e o = refl
    within true e o =
        let r = and_parts (nat_lt k h) (each_below n ks) e in
        get_or-set_other xs (entry n i is) (entry n k ks) x d
        (λ z. let s = entry_same n k i ks is l r.1 q z in both_ways _ o (and_from (eqb k i) (same ks is) (eq-eqb k i s.0) s.1))

    at_entry : (b : Bool) → (eqb k i && same ks is) ≡ b → shown d h n (set xs (entry n i is) x) k ks ≡ cond b x (shown d h n xs k ks)
    at_entry true e =
        let r = and_parts (eqb k i) (same ks is) e in
        let row : k ≡ i = eqb-true k i r.0 in
        let columns : ks ≡ is = same_is ks is r.1 in
        let there : inside ≡ true = ap₂ (λ a b. nat_lt a h && each_below n b) row columns ∙ and_from (nat_lt i h) (each_below n is) (lt-ltb i h p) q in
        ap (λ b. cond b (get_or (set xs (entry n i is) x) (entry n k ks) d) d) there
        ∙ ap₂ (λ a b. get_or (set xs (entry n i is) x) (entry n a b) d) row columns
        ∙ get_or-set_same xs (entry n i is) x d here
    at_entry false e = within inside refl e

and-true : (b : Bool) → (b && true) ≡ b
and-true true = refl
and-true false = refl

pub line-set : {X : Type 0} (d : X) (n : ℕ) (xs : List X) (i : ℕ) (x : X) → n ≤ length xs → i < n → (a : ℕ) → line d n (set xs i x) a ≡ cond (eqb a i) x (line d n xs a)
line-set d n xs i x room p a =
    shown-set d n n xs i [] x room p refl a [] refl ∙ ap (λ b. cond b x (line d n xs a)) (and-true (eqb a i))

pub pairs-set : {X : Type 0} (d : X) (n : ℕ) (xs : List X) (i j : ℕ) (x : X) → n * n ≤ length xs → i < n → j < n
    → (a b : ℕ) → pairs d n (set xs (row_index n i j) x) a b ≡ cond (eqb a i && eqb b j) x (pairs d n xs a b)
pairs-set d n xs i j x room p q a b =
    shown-set d n n xs i (j ∷ []) x room p (and-true (nat_lt j n) ∙ lt-ltb j n q) a (b ∷ []) refl
    ∙ ap (λ t. cond (eqb a i && t) x (pairs d n xs a b)) (and-true (eqb b j))

pub triples-set : {X : Type 0} (d : X) (n : ℕ) (xs : List X) (i j k : ℕ) (x : X) → n * n * n ≤ length xs → i < n → j < n → k < n
    → (a b c : ℕ) → triples d n (set xs (row_index n (row_index n i j) k) x) a b c ≡ cond (eqb a i && (eqb b j && eqb c k)) x (triples d n xs a b c)
triples-set d n xs i j k x room p q r a b c =
    shown-set d n n xs i (j ∷ k ∷ []) x room p (and_from (nat_lt j n) (nat_lt k n && true) (lt-ltb j n q) (and-true (nat_lt k n) ∙ lt-ltb k n r)) a (b ∷ c ∷ []) refl
    ∙ ap (λ t. cond (eqb a i && (eqb b j && t)) x (triples d n xs a b c)) (and-true (eqb c k))

pub halves-set : {X : Type 0} (d : X) (n : ℕ) (xs : List X) (half i j k : ℕ) (x : X) → 2 * n * n * n ≤ length xs → half < 2 → i < n → j < n → k < n
    → (g a b c : ℕ) → halves d n (set xs (row_index n (row_index n half i) j * n + k) x) g a b c
    ≡ cond (eqb g half && (eqb a i && (eqb b j && eqb c k))) x (halves d n xs g a b c)
halves-set d n xs half i j k x room f p q r g a b c =
    shown-set d 2 n xs half (i ∷ j ∷ k ∷ []) x room f
    (and_from (nat_lt i n) _ (lt-ltb i n p) (and_from (nat_lt j n) (nat_lt k n && true) (lt-ltb j n q) (and-true (nat_lt k n) ∙ lt-ltb k n r))) g (a ∷ b ∷ c ∷ []) refl
    ∙ ap (λ t. cond (eqb g half && (eqb a i && (eqb b j && t))) x (halves d n xs g a b c)) (and-true (eqb c k))

-- Reading at a row and columns that there are

pub shown_is : {X : Type 0} (d : X) (h n : ℕ) (xs : List X) (i : ℕ) (is : List ℕ) → i < h → each_below n is ≡ true → shown d h n xs i is ≡ get_or xs (entry n i is) d
shown_is d h n xs i is p q = ap (λ b. cond b (get_or xs (entry n i is) d) d) (and_from (nat_lt i h) (each_below n is) (lt-ltb i h p) q)

pub line_is : {X : Type 0} (d : X) (n : ℕ) (xs : List X) (i : ℕ) → i < n → line d n xs i ≡ get_or xs i d
line_is d n xs i p = shown_is d n n xs i [] p refl

pub halves_is : {X : Type 0} (d : X) (n : ℕ) (xs : List X) (half i j k : ℕ) → half < 2 → i < n → j < n → k < n
    → halves d n xs half i j k ≡ get_or xs (row_index n (row_index n half i) j * n + k) d
halves_is d n xs half i j k f p q r =
    shown_is d 2 n xs half (i ∷ j ∷ k ∷ []) f
    (and_from (nat_lt i n) _ (lt-ltb i n p) (and_from (nat_lt j n) (nat_lt k n && true) (lt-ltb j n q) (and-true (nat_lt k n) ∙ lt-ltb k n r)))

-- there is nothing past the columns
pub shown_past : {X : Type 0} (d : X) (h n : ℕ) (xs : List X) (i : ℕ) (is : List ℕ) → each_below n is ≡ false → shown d h n xs i is ≡ d
shown_past d h n xs i is e = ap (λ b. cond (nat_lt i h && b) (get_or xs (entry n i is) d) d) e ∙ none (nat_lt i h)
  where
    none : (b : Bool) → cond (b && false) (get_or xs (entry n i is) d) d ≡ d
    none true = refl
    none false = refl

-- Tables whose entries all are d

pub shown_clear : {X : Type 0} (d : X) (h n : ℕ) (xs : List X) → (i : ℕ) (is : List ℕ) → ((k : ℕ) → k < entries n h is → get_or xs k d ≡ d)
    → shown d h n xs i is ≡ d
shown_clear d h n xs i is clear = within (nat_lt i h && each_below n is) refl
  where
    within : (b : Bool) → (nat_lt i h && each_below n is) ≡ b → cond b (get_or xs (entry n i is) d) d ≡ d
    within false e = refl
    within true e =
        let r = and_parts (nat_lt i h) (each_below n is) e in
        clear (entry n i is) (entry_below n h i is (ltb-true i h r.0) r.1)

-- the entries of one row of a half become d
pub halves-fill : {X : Type 0} (d : X) (n : ℕ) (xs ys : List X) (half i j : ℕ) → Filled (row_index n (row_index n half i) j * n) n d xs ys → half < 2 → i < n → j < n
    → (g a b k : ℕ) → halves d n ys g a b k ≡ cond (eqb g half && (eqb a i && eqb b j)) d (halves d n xs g a b k)
halves-fill {X} d n xs ys half i j filled f p q g a b k = within (nat_lt g 2 && each_below n (a ∷ b ∷ k ∷ [])) refl
  where
    first : ℕ
    first = row_index n (row_index n half i) j * n

    at : ℕ
    at = row_index n (row_index n (row_index n g a) b) k

    here : Bool
    here = eqb g half && (eqb a i && eqb b j)

    d_or_d : (t : Bool) → d ≡ cond t d d
    d_or_d true = refl
    d_or_d false = refl

    columns : each_below n (a ∷ b ∷ k ∷ []) ≡ true → (a < n) × (b < n) × (k < n)
    columns e =
        let r = and_parts (nat_lt a n) (nat_lt b n && (nat_lt k n && true)) e in
        let s = and_parts (nat_lt b n) (nat_lt k n && true) r.1 in
        (ltb-true a n r.0, ltb-true b n s.0, ltb-true k n (and_parts (nat_lt k n) true s.1).0)

    in_row : (t : Bool) → here ≡ t → (a < n) × (b < n) × (k < n) → get_or ys at d ≡ cond t d (get_or xs at d)
    in_row true e l =
        let r = and_parts (eqb g half) (eqb a i && eqb b j) e in
        let s = and_parts (eqb a i) (eqb b j) r.1 in
        let place : at ≡ first + k =
        ap (λ u. row_index n (row_index n (row_index n u a) b) k) (eqb-true g half r.0)
        ∙ ap₂ (λ u w. row_index n (row_index n (row_index n half u) w) k) (eqb-true a i s.0) (eqb-true b j s.1) in
        filled.inside at d (omega (arith, place)) (omega (arith, place, l.2))
    in_row false e l =
        filled.outside at d
        (λ above below.
        let m = at - first in
        let place : at ≡ row_index n (row_index n (row_index n half i) j) m = omega (arith, above) in
        let same_row = row_same n (row_index n (row_index n g a) b) k (row_index n (row_index n half i) j) m l.2 (omega (arith, above, below)) place in
        let same_half = row_same n (row_index n g a) b (row_index n half i) j l.1 q same_row.0 in
        let same_first = row_same n g a half i l.0 p same_half.0 in
        both_ways here e
        (and_from (eqb g half) _ (eq-eqb g half same_first.0) (and_from (eqb a i) (eqb b j) (eq-eqb a i same_first.1) (eq-eqb b j same_half.1))))

    within : (t : Bool) → (nat_lt g 2 && each_below n (a ∷ b ∷ k ∷ [])) ≡ t → cond t (get_or ys at d) d ≡ cond here d (cond t (get_or xs at d) d)
    within false e = d_or_d here
    within true e = in_row here refl (columns (and_parts (nat_lt g 2) (each_below n (a ∷ b ∷ k ∷ [])) e).1)
