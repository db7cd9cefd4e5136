-- The bits of a mask, for the lemmas on members; nothing above this crate speaks of bits.
use Rattle.std.proofs.Common.{◌≡◌, ℕ, zero, suc, ◌+◌, ◌*◌, ◌/◌, ◌%◌, ◌^◌, ◌<◌, ◌≤◌, min, max, sym, ap, ◌∙◌, lt_of_lt_of_le, pow-suc, div-one, one-add, arith, pow_pos, pow_mono}
use native.Mathlib.Nat.{zero-div, div-eq_of_lt}
use lib.Bits.{bit_and, bit_or, bit_xor, and_step, or_step, and_shr, or_shr, xor_shr, xor_add_and}
use lib.Count.{ones, ones-le}
use Rattle.std.proofs.lemmas.Nat.{shr-shr, shr_high}

-- bit s of m
abbrev pub bit : ℕ → ℕ → ℕ
bit m s = m / 2 ^ s % 2

pub bit_lt : (m s : ℕ) → bit m s < 2
bit_lt m s = omega arith

-- bit s + 1 of m is bit s of its half
pub bit_suc : (m s : ℕ) → bit m (suc s) ≡ bit (m / 2) s
bit_suc m s = ap (λ x. x % 2) (sym (shr-shr m 1 s ∙ ap (λ k. m / 2 ^ k) (one-add s)))

pub bit_zero : (m : ℕ) → bit m 0 ≡ m % 2
bit_zero m = ap (λ x. x % 2) (div-one m)

pub bit_of_none : (s : ℕ) → bit 0 s ≡ 0
bit_of_none s = ap (λ x. x % 2) (zero-div (2 ^ s))

-- a mask below 2 ^ n has no bit from n up
pub bit_past : (n m s : ℕ) → m < 2 ^ n → n ≤ s → bit m s ≡ 0
bit_past n m s h k = ap (λ x. x % 2) (div-eq_of_lt (lt_of_lt_of_le h (pow_mono k)))

pub bit-bit_and : (a b s : ℕ) → bit (bit_and a b) s ≡ min (bit a s) (bit b s)
bit-bit_and a b s = let x = a / 2 ^ s in let y = b / 2 ^ s in omega (arith, and_shr a b s, and_step x y)

pub bit-bit_or : (a b s : ℕ) → bit (bit_or a b) s ≡ max (bit a s) (bit b s)
bit-bit_or a b s = let x = a / 2 ^ s in let y = b / 2 ^ s in omega (arith, or_shr a b s, or_step x y)

pub bit-bit_xor : (a b s : ℕ) → bit (bit_xor a b) s ≡ (bit a s + bit b s) % 2
bit-bit_xor a b s = let x = a / 2 ^ s in let y = b / 2 ^ s in omega (arith, xor_shr a b s, xor_add_and x y)

-- what stands above bit n leaves the bits below it alone
pub bit_low : (c n a s : ℕ) → s < n → bit (c * 2 ^ n + a) s ≡ bit a s
bit_low c zero a s h = absurd (omega arith)
bit_low c (suc n) a zero h =
    let p = pow-suc 2 n in
    let even : c * 2 ^ suc n ≡ 2 * (c * 2 ^ n) = ap (λ x. c * x) p ∙ omega arith in
    bit_zero (c * 2 ^ suc n + a) ∙ omega (arith, even) ∙ sym (bit_zero a)
bit_low c (suc n) a (suc s) h =
    let p = pow-suc 2 n in
    let even : c * 2 ^ suc n ≡ 2 * (c * 2 ^ n) = ap (λ x. c * x) p ∙ omega arith in
    let half : (c * 2 ^ suc n + a) / 2 ≡ c * 2 ^ n + a / 2 = omega (arith, even) in
    bit_suc (c * 2 ^ suc n + a) s ∙ ap (λ x. bit x s) half ∙ bit_low c n (a / 2) s (omega arith) ∙ sym (bit_suc a s)

-- the bit on top
pub bit_top : (c n a : ℕ) → c < 2 → a < 2 ^ n → bit (c * 2 ^ n + a) n ≡ c
bit_top c n a small h = ap (λ x. x % 2) (shr_high c n a h) ∙ omega arith

-- masks with the same bits are equal
pub same_bits : (n a b : ℕ) → a < 2 ^ n → b < 2 ^ n → ((s : ℕ) → bit a s ≡ bit b s) → a ≡ b
same_bits zero a b ha hb same = omega arith
same_bits (suc n) a b ha hb same =
    let p = pow-suc 2 n in
    let ih = same_bits n (a / 2) (b / 2) (omega arith) (omega arith) (λ s. sym (bit_suc a s) ∙ same (suc s) ∙ bit_suc b s) in
    omega (arith, ih, bit_zero a, bit_zero b, same 0)

pub below_own_power : (m : ℕ) → m < 2 ^ m
below_own_power zero = omega arith
below_own_power (suc m) = omega (arith, pow-suc 2 m, below_own_power m)

-- a mask that has no bit from n up is below 2 ^ n
pub below_power : (n m : ℕ) → ((s : ℕ) → n ≤ s → bit m s ≡ 0) → m < 2 ^ n
below_power zero m none =
    let z = same_bits m m 0 (below_own_power m) (pow_pos m) (λ s. none s (omega arith) ∙ sym (bit_of_none s)) in
    omega arith
below_power (suc n) m none =
    let ih = below_power n (m / 2) (λ s h. sym (bit_suc m s) ∙ none (suc s) (omega arith)) in
    omega (arith, pow-suc 2 n, ih)

-- the bits that are set are as many as the ones of the number
pub ones_zero : ones 0 ≡ 0
ones_zero = omega (arith, ones-le 0 0 (omega arith))
