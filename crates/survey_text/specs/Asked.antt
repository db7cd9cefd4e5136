-- What the program's arguments ask for.
use Rattle.std.specs.Prelude.{◌≡◌, ℕ, ◌^◌, ◌<◌, cond, List, [], ◌∷◌, map, length, Ok, Err, vec_items, string_bytes, codes, Result, String, ◌==◌, slice_index}
use Rattle.std.specs.List.{AllZip}
use Rattle.std.specs.Str.Parse.{IsNumeral, digits_value, without_leading_plus}
use Rattle.std.specs.declared.alloc.Global.{Global}
use Rattle.survey_text.specs.declared.request.Request.{Request}
use Rattle.survey_text.specs.declared.request.Request.TheVariants.{Counting, Sites}
use Rattle.survey_text.specs.declared.request.ArgumentError.{ArgumentError}
use Rattle.survey_text.specs.declared.request.ArgumentError.TheVariants.{Unreadable, NoMemory}

-- the bytes of each argument
abbrev pub words_of : List (String Global) → List (List ℕ)
words_of words = map string_bytes words

-- a word spells a number of 64 bits: decimal digits, and a plus may stand in front
abbrev pub Spells : List ℕ → ℕ → Type 0
Spells word n = IsNumeral 10 (without_leading_plus word) × (digits_value 10 (without_leading_plus word) < 2 ^ 64) × (n ≡ digits_value 10 (without_leading_plus word))

-- each of the words spells its number
abbrev pub SpellAll : List (List ℕ) → List ℕ → Type 0
SpellAll words numbers = AllZip Spells words numbers

-- some word spells no number; want of memory says nothing of them
abbrev pub SpellsNone : List (List ℕ) → ArgumentError → Type 0
SpellsNone words Unreadable = (ns : List ℕ) → SpellAll words ns → ⊥
SpellsNone words NoMemory = Unit {0}

-- `counting N T`, or `sites` and a site for each station
abbrev pub Asks : List (List ℕ) → Request → Type 0
Asks words (Counting n t) = (rest : List (List ℕ)) × (words ≡ codes "counting" ∷ rest) × SpellAll rest (n ∷ t ∷ [])
Asks words (Sites sites) = (rest : List (List ℕ)) × (words ≡ codes "sites" ∷ rest) × (0 < length rest) × SpellAll rest (vec_items sites)

-- the arguments ask for nothing; want of memory says nothing of them
abbrev pub AsksNothing : List (List ℕ) → ArgumentError → Type 0
AsksNothing words Unreadable = (request : Request) → Asks words request → ⊥
AsksNothing words NoMemory = Unit {0}

-- the request of `counting`, by the numbers after it
abbrev pub counting_request : List ℕ → Result Request ArgumentError
counting_request ns = cond (length ns == 2) (Ok (Counting (slice_index ns 0) (slice_index ns 1))) (Err Unreadable)
