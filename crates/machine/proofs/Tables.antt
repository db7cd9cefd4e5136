-- Tables with one entry overwritten, and lists of messages: what holds of all entries or messages lasts.
use Rattle.std.proofs.Common.{◌≡◌, ℕ, zero, suc, ◌+◌, ◌<◌, ◌≤◌, Bool, true, false, cond, ◌&&◌, eqb, ◌⊎◌, List, [], ◌∷◌, ◌++◌, map, take, drop, Some, None, filter, is_none, get_or, Option, sym, refl, ap, subst, subst₂, inl, inr, ⊎_elim, arith}
use Rattle.std.specs.List.{range_with_len, remove, All, slice_get}
use Rattle.std.proofs.lemmas.Bool.{cond_both, and_parts, and_from, both_ways, eqb-true, eqb-false, eq-eqb, cases_lt}
use Rattle.std.proofs.lemmas.Bool.Decides.{nat_tests}
use Rattle.std.proofs.lemmas.List.Elements.{All-nil, All-cons, All-append, All-take, All-drop, All-map}
use Rattle.std.proofs.lemmas.Option.{slice_get_within, get_or_from_slice_get}
use Rattle.machine.specs.State.{put, put_pair, put_triple, to_all}

-- a fact of every entry lasts when one is overwritten by what has it
pub put_all : {A : Type 0} (P : ℕ → A → Type 0) (k : ℕ) (x : A) (f : ℕ → A) → ((a : ℕ) → P a (f a)) → P k x → (a : ℕ) → P a (put k x f a)
put_all P k x f old new a = cond_both (eqb a k) x (f a) (P a) (λ e. subst (λ y. P y x) (sym (eqb-true a k e)) new) (λ _. old a)

-- the same, where the other entries are known to be others
pub put_else : {A : Type 0} (P : ℕ → A → Type 0) (k : ℕ) (x : A) (f : ℕ → A)
    → ((a : ℕ) → (a ≡ k → ⊥) → P a (f a)) → P k x → (a : ℕ) → P a (put k x f a)
put_else P k x f old new a =
    cond_both (eqb a k) x (f a) (P a) (λ e. subst (λ y. P y x) (sym (eqb-true a k e)) new) (λ e. old a (eqb-false a k e))

pub put_pair_all : {A : Type 0} (P : ℕ → ℕ → A → Type 0) (i j : ℕ) (x : A) (f : ℕ → ℕ → A)
    → ((a b : ℕ) → P a b (f a b)) → P i j x → (a b : ℕ) → P a b (put_pair i j x f a b)
put_pair_all P i j x f old new a b =
    cond_both (eqb a i && eqb b j) x (f a b) (P a b)
    (λ e. let h = and_parts (eqb a i) (eqb b j) e in
    subst₂ (λ y z. P y z x) (sym (eqb-true a i h.0)) (sym (eqb-true b j h.1)) new)
    (λ _. old a b)

-- the same, where the other entries are known to be others
pub put_pair_else : {A : Type 0} (P : ℕ → ℕ → A → Type 0) (i j : ℕ) (x : A) (f : ℕ → ℕ → A)
    → ((a b : ℕ) → ((a ≡ i) × (b ≡ j) → ⊥) → P a b (f a b)) → P i j x → (a b : ℕ) → P a b (put_pair i j x f a b)
put_pair_else P i j x f old new a b =
    cond_both (eqb a i && eqb b j) x (f a b) (P a b)
    (λ e. let h = and_parts (eqb a i) (eqb b j) e in
    subst₂ (λ y z. P y z x) (sym (eqb-true a i h.0)) (sym (eqb-true b j h.1)) new)
    (λ e. old a b (λ q. both_ways _ e (and_from _ _ (eq-eqb a i q.0) (eq-eqb b j q.1))))

pub put_pair_other : {A : Type 0} (f : ℕ → ℕ → A) (i j : ℕ) (x : A) (a b : ℕ) → ((a ≡ i) × (b ≡ j) → ⊥) → put_pair i j x f a b ≡ f a b
put_pair_other f i j x a b ne = put_pair_else (λ a b y. ((a ≡ i) × (b ≡ j) → ⊥) → y ≡ f a b) i j x f (λ a b _ _. refl) (λ n. absurd (n (refl, refl))) a b ne

pub put_triple_else : {A : Type 0} (P : ℕ → ℕ → ℕ → A → Type 0) (i k j : ℕ) (x : A) (f : ℕ → ℕ → ℕ → A)
    → ((a b d : ℕ) → ((a ≡ i) × (b ≡ k) × (d ≡ j) → ⊥) → P a b d (f a b d)) → P i k j x → (a b d : ℕ) → P a b d (put_triple i k j x f a b d)
put_triple_else P i k j x f old new a b d =
    cond_both (eqb a i && (eqb b k && eqb d j)) x (f a b d) (P a b d)
    (λ e. let h = and_parts (eqb a i) (eqb b k && eqb d j) e in
    let h' = and_parts (eqb b k) (eqb d j) h.1 in
    subst (λ y. P y b d x) (sym (eqb-true a i h.0)) (subst₂ (λ y z. P i y z x) (sym (eqb-true b k h'.0)) (sym (eqb-true d j h'.1)) new))
    (λ e. old a b d (λ q. both_ways _ e (and_from _ _ (eq-eqb a i q.0) (and_from _ _ (eq-eqb b k q.1) (eq-eqb d j q.2)))))

pub put_triple_other : {A : Type 0} (f : ℕ → ℕ → ℕ → A) (i k j : ℕ) (x : A) (a b d : ℕ) → ((a ≡ i) × (b ≡ k) × (d ≡ j) → ⊥)
    → put_triple i k j x f a b d ≡ f a b d
put_triple_other f i k j x a b d ne =
    put_triple_else (λ a b d y. ((a ≡ i) × (b ≡ k) × (d ≡ j) → ⊥) → y ≡ f a b d) i k j x f (λ a b d _ _. refl) (λ n. absurd (n (refl, refl, refl))) a b d ne

-- two tables overwritten at the same entry
pub put_pair_both : {A B : Type 0} (P : ℕ → ℕ → A → B → Type 0) (i j : ℕ) (x : A) (y : B) (f : ℕ → ℕ → A) (g : ℕ → ℕ → B)
    → ((a b : ℕ) → P a b (f a b) (g a b)) → P i j x y → (a b : ℕ) → P a b (put_pair i j x f a b) (put_pair i j y g a b)
put_pair_both P i j x y f g old new a b = go (eqb a i && eqb b j) refl
  where
    go : (t : Bool) → (eqb a i && eqb b j) ≡ t → P a b (cond t x (f a b)) (cond t y (g a b))
    go true e =
        let h = and_parts (eqb a i) (eqb b j) e in
        subst₂ (λ u w. P u w x y) (sym (eqb-true a i h.0)) (sym (eqb-true b j h.1)) new
    go false e = old a b

pub put_same : {A : Type 0} (f : ℕ → A) (k : ℕ) (x : A) → put k x f k ≡ x
put_same f k x = grind (arith, nat_tests)

pub put_other : {A : Type 0} (f : ℕ → A) (k : ℕ) (x : A) (a : ℕ) → (a ≡ k → ⊥) → put k x f a ≡ f a
put_other f k x a ne = grind (arith, nat_tests)

pub put_pair_same : {A : Type 0} (f : ℕ → ℕ → A) (i j : ℕ) (x : A) → put_pair i j x f i j ≡ x
put_pair_same f i j x = grind (arith, nat_tests)

-- writing where nothing stood keeps what stood
pub put_grows : {A : Type 0} (f : ℕ → Option A) (x : ℕ) (v : A) → f x ≡ None
    → (y : ℕ) (w : A) → f y ≡ Some w → put x (Some v) f y ≡ Some w
put_grows f x v e y w h = grind (arith, nat_tests)

pub put_pair_grows : {A : Type 0} (f : ℕ → ℕ → Option A) (i x : ℕ) (v : A) → f i x ≡ None
    → (a y : ℕ) (w : A) → f a y ≡ Some w → put_pair i x (Some v) f a y ≡ Some w
put_pair_grows f i x v e a y w h = grind (arith, nat_tests)

-- a fact of every value that stands lasts when one more is written
pub stands_put : {A : Type 0} (P : ℕ → A → Type 0) (f : ℕ → Option A) (x : ℕ) (v : A)
    → ((y : ℕ) (w : A) → f y ≡ Some w → P y w) → P x v → (y : ℕ) (w : A) → put x (Some v) f y ≡ Some w → P y w
stands_put {A} P f x v old new =
    put_all (λ y (o : Option A). (w : A) → o ≡ Some w → P y w) x (Some v) f old (λ w e. let q : v ≡ w = cc in subst (P x) q new)

-- what stands after one more is written stood before, or is it
pub put_pair_from : {A : Type 0} (f : ℕ → ℕ → Option A) (i x : ℕ) (v : A) (a y : ℕ) (w : A) → put_pair i x (Some v) f a y ≡ Some w
    → (f a y ≡ Some w) ⊎ ((a ≡ i) × (y ≡ x) × (v ≡ w))
put_pair_from {A} f i x v a y w =
    put_pair_all (λ a y (o : Option A). o ≡ Some w → (f a y ≡ Some w) ⊎ ((a ≡ i) × (y ≡ x) × (v ≡ w))) i x (Some v) f (λ a y e. inl e) (λ e. inr (refl, refl, cc)) a y

-- Small cases

pub is_absent : {A : Type 0} (o : Option A) → is_none o ≡ true → o ≡ None
is_absent None e = refl
is_absent (Some v) e = cc

pub is_there : {A : Type 0} (o : Option A) → is_none o ≡ false → (v : A) × (o ≡ Some v)
is_there None e = absurd (grind arith)
is_there (Some v) e = (v, refl)

-- Lists

pub all_nth : {A : Type 0} (P : A → Type 0) (l : List A) (p : ℕ) (m : A) → All P l → slice_get l p ≡ Some m → P m
all_nth P l p m a e = subst P (get_or_from_slice_get l p m m e) (a p m (slice_get_within l p m e))

pub all_removed : {A : Type 0} (P : A → Type 0) (l : List A) (p : ℕ) → All P l → All P (remove l p)
all_removed P l p a = All-append P (take p l) (drop (suc p) l) (All-take P p l a) (All-drop P (suc p) l a)

-- a fact of everything is a fact of each element
pub all_of : {A : Type 0} (P : A → Type 0) (l : List A) → ((x : A) → P x) → All P l
all_of P l h p d lt = h (get_or l p d)

-- a list of one element
pub all_one : {A : Type 0} (P : A → Type 0) (x : A) → P x → All P (x ∷ [])
all_one P x h = All-cons P x [] h (All-nil P)

-- a fact of every f k is a fact of those in a list
all_each : {A : Type 0} (P : A → Type 0) (f : ℕ → A) (l : List ℕ) → ((k : ℕ) → P (f k)) → All P (map f l)
all_each P f l h = All-map P f l (all_of (λ k. P (f k)) l h)

pub all_to_all : {A : Type 0} (P : A → Type 0) (n : ℕ) (f : ℕ → A) → ((k : ℕ) → P (f k)) → All P (to_all n f)
all_to_all P n f h = all_each P f (range_with_len 0 n) h

-- the same after one more
pub all_and_each : {A : Type 0} (P : A → Type 0) (x : A) (f : ℕ → A) (l : List ℕ) → P x → ((k : ℕ) → P (f k)) → All P (x ∷ map f l)
all_and_each P x f l one h = All-cons P x (map f l) one (all_each P f l h)

-- a message stands in a list
abbrev pub Mem : {A : Type 0} → A → List A → Type 0
Mem m [] = ⊥
Mem m (x ∷ l) = (x ≡ m) ⊎ Mem m l

pub mem_left : {A : Type 0} (m : A) (l r : List A) → Mem m l → Mem m (l ++ r)
mem_left m [] r h = absurd h
mem_left m (x ∷ l) r (inl e) = inl e
mem_left m (x ∷ l) r (inr h) = inr (mem_left m l r h)

pub mem_right : {A : Type 0} (m : A) (l r : List A) → Mem m r → Mem m (l ++ r)
mem_right m [] r h = h
mem_right m (x ∷ l) r h = inr (mem_right m l r h)

pub mem_nth : {A : Type 0} (m : A) (l : List A) → Mem m l → (p : ℕ) × (slice_get l p ≡ Some m)
mem_nth m [] h = absurd h
mem_nth m (x ∷ l) (inl e) = (0, ap (λ y. Some y) e)
mem_nth m (x ∷ l) (inr h) = let w = mem_nth m l h in (suc w.0, w.1)

pub mem_map : {A B : Type 0} (f : A → B) (x : A) (l : List A) → Mem x l → Mem (f x) (map f l)
mem_map f x [] h = absurd h
mem_map f x (y ∷ l) (inl e) = inl (ap f e)
mem_map f x (y ∷ l) (inr h) = inr (mem_map f x l h)

pub mem_kept : {A : Type 0} (t : A → Bool) (x : A) (l : List A) → t x ≡ true → Mem x l → Mem x (filter t l)
mem_kept t x [] e h = absurd h
mem_kept t x (y ∷ l) e (inl q) = cond_both (t y) (y ∷ filter t l) (filter t l) (Mem x) (λ _. inl q) (λ n. absurd (grind (arith, nat_tests)))
mem_kept t x (y ∷ l) e (inr h) =
    cond_both (t y) (y ∷ filter t l) (filter t l) (Mem x) (λ _. inr (mem_kept t x l e h)) (λ _. mem_kept t x l e h)

pub mem_counting : (a n k : ℕ) → a ≤ k → k < a + n → Mem k (range_with_len a n)
mem_counting a zero k l u = absurd (omega arith)
mem_counting a (suc n) k l u =
    ⊎_elim (λ lt. inr (mem_counting (a + 1) n k (omega arith) (omega arith))) (λ ge. inl (omega arith)) (cases_lt a k)

pub mem_to_all : {A : Type 0} (f : ℕ → A) (n k : ℕ) → k < n → Mem (f k) (to_all n f)
mem_to_all f n k l = mem_map f k (range_with_len 0 n) (mem_counting 0 n k (omega arith) (omega arith))

-- what stood before a removal is what was removed, or still stands
pub mem_removed : {A : Type 0} (m m' : A) (l : List A) (p : ℕ) → slice_get l p ≡ Some m' → Mem m l → (m' ≡ m) ⊎ Mem m (remove l p)
mem_removed m m' [] p e h = absurd h
mem_removed m m' (x ∷ l) zero e (inl q) = inl (cc)
mem_removed m m' (x ∷ l) zero e (inr h) = inr h
mem_removed m m' (x ∷ l) (suc p) e (inl q) = inr (inl q)
mem_removed m m' (x ∷ l) (suc p) e (inr h) = ⊎_elim inl (λ g. inr (inr g)) (mem_removed m m' l p e h)
