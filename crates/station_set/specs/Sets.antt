-- Sets of stations as masks: bit s of a mask stands for station s. `ByMember` says what each operation means.
use Rattle.std.specs.Prelude.{◌≡◌, ℕ, zero, suc, ◌-◌, ◌/◌, ◌%◌, ◌^◌, ◌<◌, Bool, true, cond, ◌==◌, bit_and, bit_or, bit_xor, count_ones, nat_lt}

-- whether station s is a member of the set
unfoldable pub has : ℕ → ℕ → Bool
has set s = (set / 2 ^ s % 2) == 1

-- each member of the first set is a member of the second
abbrev pub Inside : ℕ → ℕ → Type 0
Inside a b = (s : ℕ) → has a s ≡ true → has b s ≡ true

-- each member is one of the stations 0 to n - 1; `among` is the test of it
abbrev pub Among : ℕ → ℕ → Type 0
Among n set = (s : ℕ) → has set s ≡ true → s < n

abbrev pub among : ℕ → ℕ → Bool
among n set = nat_lt set (2 ^ n)

-- how many stations are members
abbrev pub members : ℕ → ℕ
members set = count_ones set

-- the stations of either set
abbrev pub union : ℕ → ℕ → ℕ
union a b = bit_or a b

-- the stations of both sets
abbrev pub common : ℕ → ℕ → ℕ
common a b = bit_and a b

-- the set of one station; of none where a mask has no bit for it
abbrev pub single : ℕ → ℕ
single s = cond (nat_lt s 16) (2 ^ s) 0

-- the stations 0 to n - 1, as far as a mask has room
abbrev pub first : ℕ → ℕ
first n = cond (nat_lt n 16) (2 ^ n - 1) 65535

-- those of the stations 0 to n - 1 that the set lacks
abbrev pub missing : ℕ → ℕ → ℕ
missing n set = bit_xor (first n) (common (first n) set)

-- the set with one station more, and with one less
abbrev pub with_station : ℕ → ℕ → ℕ
with_station set s = union set (single s)

abbrev pub without_station : ℕ → ℕ → ℕ
without_station set s = common set (missing 16 (single s))

-- the set of the stations below n that pass a test
unfoldable pub set_of : ℕ → (ℕ → Bool) → ℕ
set_of zero p = 0
set_of (suc n) p = cond (p n) (with_station (set_of n p) n) (set_of n p)
