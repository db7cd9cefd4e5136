-- Sets of stations by member: what each operation on masks says of every station.
use Rattle.std.proofs.Common.{◌≡◌, ℕ, zero, suc, ◌+◌, ◌-◌, ◌*◌, ◌/◌, ◌%◌, ◌^◌, ◌<◌, ◌≤◌, min, max, Bool, true, false, cond, not, ◌&&◌, ◌||◌, eqb, ltb, Decides, sym, refl, ap, ◌∙◌, ⊎_elim, add_comm, pow-suc, add-one, arith, pow_pos, pow_mono}
use lib.Bits.{bit_xor}
use lib.Count.{ones, ones_cat, ones-ones}
use Rattle.std.proofs.lemmas.Nat.{div_below, mod_below, shr_split}
use Rattle.std.proofs.lemmas.Bool.{cases_lt, cases_eq, cases_Bool, cond-true, cond-false, eq-eqb, ne_eqb, lt-ltb, ltb-true, le-ltb, both_ways, and_left, and_parts, and_from}
use Rattle.std.proofs.lemmas.Bool.Decides.{nat_tests}
use Rattle.station_set.specs.Below.{count_below}
use Rattle.station_set.specs.Sets.{has, Among, among, members, union, common, single, first, missing, with_station, without_station, set_of}
use Rattle.station_set.proofs.Below.{count_same}
use Rattle.station_set.proofs.Bits.{bit, bit_lt, bit_suc, bit_zero, bit_of_none, bit_past, bit-bit_and, bit-bit_or, bit-bit_xor, bit_low, bit_top, same_bits, below_own_power, below_power, ones_zero}

-- a test of membership by the bit
by_bit : (set s : ℕ) (b : Bool) → bit set s ≡ cond b 1 0 → has set s ≡ b
unfolding has
by_bit set s true e = eq-eqb (bit set s) 1 e
by_bit set s false e = ne_eqb (bit set s) 1 (λ one. omega arith)

-- the bit by the test of membership
bit_of : (set s : ℕ) → bit set s ≡ cond (has set s) 1 0
unfolding has
bit_of set s =
    ⊎_elim (λ e. e ∙ sym (cond-true (eqb (bit set s) 1) 1 0 (eq-eqb (bit set s) 1 e)))
    (λ ne. let z : bit set s ≡ 0 = omega (arith, bit_lt set s) in z ∙ sym (cond-false (eqb (bit set s) 1) 1 0 (ne_eqb (bit set s) 1 ne)))
    (cases_eq (bit set s) 1)

-- sets with the same members are the same set
pub same_members : (a b : ℕ) → ((s : ℕ) → has a s ≡ has b s) → a ≡ b
same_members a b same =
    let k = max a b in
    let ha : a < 2 ^ k = omega (arith, below_own_power a, pow_mono {i = a} {j = k} (omega arith)) in
    let hb : b < 2 ^ k = omega (arith, below_own_power b, pow_mono {i = b} {j = k} (omega arith)) in
    same_bits k a b ha hb (λ s. bit_of a s ∙ ap (λ t. cond t 1 0) (same s) ∙ sym (bit_of b s))

pub has_none : (s : ℕ) → has 0 s ≡ false
has_none s = by_bit 0 s false (bit_of_none s)

pub has-common : (a b s : ℕ) → has (common a b) s ≡ (has a s && has b s)
has-common a b s = by_bit (common a b) s (has a s && has b s) (bit-bit_and a b s ∙ ap (λ x. min x (bit b s)) (bit_of a s) ∙ ap (min (cond (has a s) 1 0)) (bit_of b s) ∙ least (has a s) (has b s))
  where
    least : (p q : Bool) → min (cond p 1 0) (cond q 1 0) ≡ cond (p && q) 1 0
    least true true = refl
    least true false = refl
    least false true = refl
    least false false = refl

pub has-union : (a b s : ℕ) → has (union a b) s ≡ (has a s || has b s)
has-union a b s = by_bit (union a b) s (has a s || has b s) (bit-bit_or a b s ∙ ap (λ x. max x (bit b s)) (bit_of a s) ∙ ap (max (cond (has a s) 1 0)) (bit_of b s) ∙ most (has a s) (has b s))
  where
    most : (p q : Bool) → max (cond p 1 0) (cond q 1 0) ≡ cond (p || q) 1 0
    most true true = refl
    most true false = refl
    most false true = refl
    most false false = refl

-- ---- members below n

pub among_below : (n set : ℕ) → set < 2 ^ n → Among n set
among_below n set h s member =
    ⊎_elim (λ k. k) (λ k. absurd (both_ways _ (by_bit set s false (bit_past n set s h k)) member)) (cases_lt s n)

pub below_among : (n set : ℕ) → Among n set → set < 2 ^ n
below_among n set among =
    below_power n set (λ s h. bit_of set s ∙ ap (λ t. cond t 1 0) (outside s h))
  where
    outside : (s : ℕ) → n ≤ s → has set s ≡ false
    outside s h = ⊎_elim (λ e. absurd (let l = among s e in omega arith)) (λ e. e) (cases_Bool (has set s))

pub among_decides : (n set : ℕ) → Decides (among n set) (Among n set)
among_decides n set = ((λ e. among_below n set (ltb-true set (2 ^ n) e)), (λ h. lt-ltb set (2 ^ n) (below_among n set h)))

-- a test that asks first whether the set is one of the n stations
pub among_and : {P : Type 0} (n set : ℕ) (test : Bool) → (Among n set → Decides test P) → Decides (among n set && test) (Among n set × P)
among_and n set test then = (
  (λ e. let w = and_parts (among n set) test e in let mine = (among_decides n set).0 w.0 in (mine, (then mine).0 w.1)),
  (λ w. and_from (among n set) test ((among_decides n set).1 w.0) ((then w.0).1 w.1)),
)

-- a station past the set's stations is no member
pub has_past : (n set s : ℕ) → set < 2 ^ n → n ≤ s → has set s ≡ false
has_past n set s h k = by_bit set s false (bit_past n set s h k)

-- ---- one station, and the first n

pub has-single : (s u : ℕ) → s < 16 → has (single s) u ≡ eqb u s
has-single s u room = ap (λ m. has m u) (cond-true (ltb s 16) (2 ^ s) 0 (lt-ltb s 16 room)) ∙ power u
  where
    power : (u : ℕ) → has (2 ^ s) u ≡ eqb u s
    power u =
        let whole : 2 ^ s ≡ 1 * 2 ^ s + 0 = omega arith in
        ⊎_elim
        (λ e. rw e (by_bit (2 ^ s) s true (ap (λ x. bit x s) whole ∙ bit_top 1 s 0 (omega arith) (pow_pos s)) ∙ sym (eq-eqb s s refl)))
        (λ ne. ⊎_elim
        (λ l. by_bit (2 ^ s) u false (ap (λ x. bit x u) whole ∙ bit_low 1 s 0 u l ∙ bit_of_none u) ∙ sym (ne_eqb u s ne))
        (λ g. has_past (suc s) (2 ^ s) u (omega (arith, pow-suc 2 s, pow_pos s)) (omega arith) ∙ sym (ne_eqb u s ne))
        (cases_lt u s))
        (cases_eq u s)

-- all n bits set
bit_of_all : (n s : ℕ) → s < n → bit (2 ^ n - 1) s ≡ 1
bit_of_all zero s l = absurd (omega arith)
bit_of_all (suc n) zero l = bit_zero (2 ^ suc n - 1) ∙ omega (arith, pow-suc 2 n, pow_pos n)
bit_of_all (suc n) (suc s) l =
    let half : (2 ^ suc n - 1) / 2 ≡ 2 ^ n - 1 = omega (arith, pow-suc 2 n, pow_pos n) in
    bit_suc (2 ^ suc n - 1) s ∙ ap (λ x. bit x s) half ∙ bit_of_all n s (omega arith)

has_all : (n s : ℕ) → has (2 ^ n - 1) s ≡ ltb s n
has_all n s =
    ⊎_elim (λ l. by_bit (2 ^ n - 1) s true (bit_of_all n s l) ∙ sym (lt-ltb s n l))
    (λ g. has_past n (2 ^ n - 1) s (omega (arith, pow_pos n)) g ∙ sym (le-ltb s n g)) (cases_lt s n)

pub has_first : (n s : ℕ) → n ≤ 16 → has (first n) s ≡ ltb s n
has_first n s room =
    ⊎_elim (λ l. ap (λ m. has m s) (cond-true (ltb n 16) (2 ^ n - 1) 65535 (lt-ltb n 16 l)) ∙ has_all n s)
    (λ g.
    let full : n ≡ 16 = omega arith in
    ap (λ m. has m s) (cond-false (ltb n 16) (2 ^ n - 1) 65535 (le-ltb n 16 g)) ∙ has_all 16 s ∙ ap (ltb s) (sym full))
    (cases_lt n 16)

-- ---- what a set lacks

has_xor : (a b s : ℕ) → has (bit_xor a b) s ≡ cond (has a s) (not (has b s)) (has b s)
has_xor a b s = by_bit (bit_xor a b) s (cond (has a s) (not (has b s)) (has b s)) (bit-bit_xor a b s ∙ by (has a s) (has b s) (bit_of a s) (bit_of b s))
  where
    by : (p q : Bool) → bit a s ≡ cond p 1 0 → bit b s ≡ cond q 1 0 → (bit a s + bit b s) % 2 ≡ cond (cond p (not q) q) 1 0
    by true true ea eb = omega arith
    by true false ea eb = omega arith
    by false true ea eb = omega arith
    by false false ea eb = omega arith

pub has-missing : (n set s : ℕ) → n ≤ 16 → has (missing n set) s ≡ (ltb s n && not (has set s))
has-missing n set s room =
    has_xor (first n) (common (first n) set) s
    ∙ ap (λ t. cond (has (first n) s) (not t) t) (has-common (first n) set s)
    ∙ by (has (first n) s) (has set s) ∙ ap (λ t. t && not (has set s)) (has_first n s room)
  where
    by : (p q : Bool) → cond p (not (p && q)) (p && q) ≡ (p && not q)
    by true q = refl
    by false q = refl

pub has_missing_below : (n set s : ℕ) → n ≤ 16 → s < n → has (missing n set) s ≡ not (has set s)
has_missing_below n set s room l = has-missing n set s room ∙ ap (λ t. t && not (has set s)) (lt-ltb s n l)

pub missing-among : (n set : ℕ) → n ≤ 16 → Among n (missing n set)
missing-among n set room s member =
    ltb-true s n (and_parts (ltb s n) (not (has set s)) (sym (has-missing n set s room) ∙ member)).0

-- ---- one station more, or less

pub has_with : (set s u : ℕ) → s < 16 → has (with_station set s) u ≡ (has set u || eqb u s)
has_with set s u room = has-union set (single s) u ∙ ap (λ t. has set u || t) (has-single s u room)

pub has_without : (set s u : ℕ) → set < 2 ^ 16 → has (without_station set s) u ≡ (has set u && not (eqb u s))
has_without set s u small =
    has-common set (missing 16 (single s)) u
    ∙ ⊎_elim
    (λ member.
    let room = among_below 16 set small u member in
    ap (λ t. has set u && t) (has_missing_below 16 (single s) u (omega arith) room ∙ ap not (at room)))
    (λ out. ap (λ t. t && has (missing 16 (single s)) u) out ∙ sym (ap (λ t. t && not (eqb u s)) out))
    (cases_Bool (has set u))
  where
    at : u < 16 → has (single s) u ≡ eqb u s
    at room =
        ⊎_elim (has-single s u)
        (λ g. ap (λ m. has m u) (cond-false (ltb s 16) (2 ^ s) 0 (le-ltb s 16 g)) ∙ has_none u ∙ sym (ne_eqb u s (λ e. omega arith)))
        (cases_lt s 16)

-- ---- the set of the stations that pass a test

pub set_of_none : (p : ℕ → Bool) → 0 ≡ set_of 0 p
unfolding set_of
set_of_none p = refl

-- the step of a loop over the stations
pub set_of_more : (n : ℕ) (p : ℕ → Bool) → cond (p n) (with_station (set_of n p) n) (set_of n p) ≡ set_of (n + 1) p
unfolding set_of
set_of_more n p = rw add-one

-- a set is known by the test of the stations below n
pub set_of_same : (n : ℕ) (p q : ℕ → Bool) → ((s : ℕ) → s < n → p s ≡ q s) → set_of n p ≡ set_of n q
unfolding set_of
set_of_same zero p q same = refl
set_of_same (suc n) p q same =
    ap (λ b. cond b (with_station (set_of n p) n) (set_of n p)) (same n (omega arith))
    ∙ ap (λ m. cond (q n) (with_station m n) m) (set_of_same n p q (λ s l. same s (omega (arith, l))))

pub has-set_of : (n : ℕ) (p : ℕ → Bool) (s : ℕ) → n ≤ 16 → has (set_of n p) s ≡ (ltb s n && p s)
unfolding set_of
has-set_of zero p s room = has_none s ∙ sym (and_left (ltb s 0) (p s) (le-ltb s 0 (omega arith)))
has-set_of (suc n) p s room =
    let rest = has-set_of n p s (omega arith) in
    ⊎_elim
    (λ e. ap (λ m. has m s) (cond-true (p n) (with_station (set_of n p) n) (set_of n p) e) ∙ has_with (set_of n p) n s (omega arith) ∙ ap (λ t. t || eqb s n) rest ∙ yes_more e)
    (λ e. ap (λ m. has m s) (cond-false (p n) (with_station (set_of n p) n) (set_of n p) e) ∙ rest ∙ no_more e)
    (cases_Bool (p n))
  where
    yes_more : p n ≡ true → ((ltb s n && p s) || eqb s n) ≡ (ltb s (suc n) && p s)
    yes_more e = ⊎_elim (λ same. let here : p s ≡ true = ap p same ∙ e in grind (arith, nat_tests)) (λ other. grind (arith, nat_tests)) (cases_eq s n)

    no_more : p n ≡ false → (ltb s n && p s) ≡ (ltb s (suc n) && p s)
    no_more e = ⊎_elim (λ same. let here : p s ≡ false = ap p same ∙ e in grind (arith, nat_tests)) (λ other. grind (arith, nat_tests)) (cases_eq s n)

-- stations that do not pass may be left out
pub set_of_rest : (n k : ℕ) (p : ℕ → Bool) → n ≤ k → k ≤ 16 → ((s : ℕ) → n ≤ s → s < k → p s ≡ false) → set_of n p ≡ set_of k p
set_of_rest n k p le room quiet =
    same_members (set_of n p) (set_of k p) (λ s. has-set_of n p s (omega arith) ∙ at s ∙ sym (has-set_of k p s room))
  where
    at : (s : ℕ) → (ltb s n && p s) ≡ (ltb s k && p s)
    at s =
        ⊎_elim (λ l. grind (arith, nat_tests))
        (λ g. ⊎_elim (λ m. let here = quiet s g m in grind (arith, nat_tests)) (λ m. grind (arith, nat_tests)) (cases_lt s k))
        (cases_lt s n)

-- ---- how many members

pub ones_members : (n set : ℕ) → set < 2 ^ n → members set ≡ count_below n (has set)
unfolding count_below
ones_members zero set h = let z : set ≡ 0 = omega arith in ap ones z ∙ ones_zero
ones_members (suc n) set h =
    let low = set % 2 ^ n in
    let top = set / 2 ^ n in
    let small : low < 2 ^ n = mod_below set (2 ^ n) (pow_pos n) in
    let whole : set ≡ top * 2 ^ n + low = sym (shr_split set n) in
    let flag : top < 2 = div_below set (2 ^ n) 2 (pow_pos n) (omega (arith, pow-suc 2 n)) in
    let own : bit set n ≡ top = omega arith in
    let rest : (s : ℕ) → s < n → has low s ≡ has set s = λ s l.
    by_bit low s (has set s) (sym (bit_low top n low s l) ∙ ap (λ x. bit x s) (sym whole) ∙ bit_of set s) in
    ap ones whole ∙ ones_cat n top low small ∙ ap (λ x. x + ones low) (ones_flag top flag ∙ sym own ∙ bit_of set n)
    ∙ ap (λ x. cond (has set n) 1 0 + x) (ones_members n low small ∙ count_same n (has low) (has set) rest)
    ∙ add_comm (cond (has set n) 1 0) (count_below n (has set))
  where
    ones_flag : (b : ℕ) → b < 2 → ones b ≡ b
    ones_flag b l = ⊎_elim (λ e. rw e ones_zero) (λ ne. let one : b ≡ 1 = omega arith in rw one (ones-ones 1)) (cases_eq b 0)

-- the same of a set of n stations
pub members_below : (n set : ℕ) → Among n set → members set ≡ count_below n (has set)
members_below n set mine = ones_members n set (below_among n set mine)
