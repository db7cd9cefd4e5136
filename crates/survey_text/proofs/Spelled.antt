-- What words spell, as they are read one by one.
use Rattle.std.proofs.Common.{◌≡◌, ℕ, zero, suc, ◌+◌, ◌<◌, ◌≤◌, Bool, true, false, cond, eqb, List, [], ◌∷◌, ◌++◌, length, get_or, take, drop, Ok, Err, vec_items, string_bytes, codes, String, sym, refl, ap, ◌∙◌, subst, arith, MatchResult}
use Rattle.std.specs.declared.alloc.Global.{Global}
use Rattle.std.proofs.lemmas.Bool.{eqb-true, eqb-false}
use Rattle.std.proofs.lemmas.List.{length-map, map_more, get_or-map}
use Rattle.std.proofs.lemmas.Slice.Zip.{AllZip-long}
use Rattle.survey_text.specs.declared.request.Request.{Request}
use Rattle.survey_text.specs.declared.request.Request.TheVariants.{Counting, Sites}
use Rattle.survey_text.specs.declared.request.ArgumentError.TheVariants.{Unreadable}
use Rattle.survey_text.specs.Asked.{words_of, Spells, SpellAll, SpellsNone, Asks, AsksNothing, counting_request}

-- one word more
pub spell_all_push : (words : List (List ℕ)) (ns : List ℕ) (word : List ℕ) (n : ℕ) → SpellAll words ns → Spells word n → SpellAll (words ++ word ∷ []) (ns ++ n ∷ [])
spell_all_push [] [] word n h s = (s, tt)
spell_all_push [] (m ∷ ms) word n h s = absurd h
spell_all_push (v ∷ vs) [] word n h s = absurd h
spell_all_push (v ∷ vs) (m ∷ ms) word n h s = (h.0, spell_all_push vs ms word n h.1 s)

pub spell_more : (words : List (String Global)) (i : ℕ) (x : String Global) (n : ℕ) (ns : List ℕ) → i < length words → x ≡ get_or words i x
    → Spells (string_bytes x) n → SpellAll (words_of (take i words)) ns → SpellAll (words_of (take (i + 1) words)) (ns ++ n ∷ [])
spell_more words i x n ns l e s h =
    rw (map_more string_bytes words i x l, ← e) (spell_all_push (words_of (take i words)) ns (string_bytes x) n h s)

-- each of the words spells a number
pub spell_all_at : (words : List (List ℕ)) (ns : List ℕ) (i : ℕ) → SpellAll words ns → i < length words → (n : ℕ) × Spells (get_or words i []) n
spell_all_at [] ns i h l = absurd (omega arith)
spell_all_at (v ∷ vs) [] i h l = absurd h
spell_all_at (v ∷ vs) (m ∷ ms) zero h l = (m, h.0)
spell_all_at (v ∷ vs) (m ∷ ms) (suc i) h l = spell_all_at vs ms i h.1 (omega arith)

-- the bytes of the word at a place
pub word_at : (words : List (String Global)) (i : ℕ) (x : String Global) → i < length words → x ≡ get_or words i x → get_or (words_of words) i [] ≡ string_bytes x
word_at words i x l e = get_or-map string_bytes words i x [] l ∙ ap string_bytes (sym e)

-- where one spells none, they do not spell numbers
pub spells_none : (words : List (String Global)) (i : ℕ) (x : String Global) → i < length words → x ≡ get_or words i x
    → ((n : ℕ) → Spells (string_bytes x) n → ⊥) → SpellsNone (words_of words) Unreadable
spells_none words i x l e unread ns all =
    let found = spell_all_at (words_of words) ns i all (omega (arith, length-map words string_bytes)) in
    unread found.0 (rw (← word_at words i x l e) found.1)

-- the words, by the first and the rest
pub words_split : (words : List (String Global)) (x : String Global) → 1 ≤ length words → x ≡ get_or words 0 x → words_of words ≡ string_bytes x ∷ words_of (drop 1 words)
words_split [] x l e = absurd (omega arith)
words_split (v ∷ vs) x l e = ap (λ y. string_bytes y ∷ words_of vs) (sym e)

-- too few words ask for nothing
pub few_ask_nothing : (words : List (List ℕ)) → length words < 2 → (request : Request) → Asks words request → ⊥
few_ask_nothing words few (Counting n t) (rest, split, spelled) =
    omega (arith, ap length split, AllZip-long Spells rest (n ∷ t ∷ []) spelled)
few_ask_nothing words few (Sites v) (rest, split, some, spelled) = omega (arith, ap length split, some)

-- nor do words of which one spells no number
pub unreadable_ask_nothing : (first : List ℕ) (rest : List (List ℕ)) → ((ns : List ℕ) → SpellAll rest ns → ⊥) → (request : Request) → Asks (first ∷ rest) request → ⊥
unreadable_ask_nothing first rest none (Counting n t) (others, split, spelled) =
    none (n ∷ t ∷ []) (subst (λ ws. SpellAll ws (n ∷ t ∷ [])) (sym (ap (drop 1) split)) spelled)
unreadable_ask_nothing first rest none (Sites v) (others, split, some, spelled) =
    none (vec_items v) (subst (λ ws. SpellAll ws (vec_items v)) (sym (ap (drop 1) split)) spelled)

-- nor does another first word
pub other_asks_nothing : (first : List ℕ) (rest : List (List ℕ)) → (first ≡ codes "counting" → length rest ≡ 2 → ⊥) → (first ≡ codes "sites" → ⊥)
    → (request : Request) → Asks (first ∷ rest) request → ⊥
other_asks_nothing first rest counting sites (Counting n t) (others, split, spelled) =
    counting (ap (λ ws. get_or ws 0 []) split) (omega (arith, ap length split, AllZip-long Spells others (n ∷ t ∷ []) spelled))
other_asks_nothing first rest counting sites (Sites v) (others, split, some, spelled) = sites (ap (λ ws. get_or ws 0 []) split)

-- numbers that are no request after the first word
pub asks_nothing : (first : List ℕ) (rest : List (List ℕ)) (ns : List ℕ) → SpellAll rest ns → (first ≡ codes "counting" → length ns ≡ 2 → ⊥) → (first ≡ codes "sites" → length ns ≡ 0)
    → (request : Request) → Asks (first ∷ rest) request → ⊥
asks_nothing first rest ns all counting sites (Counting n t) (others, words, spelled) =
    counting (ap (λ ws. get_or ws 0 []) words) (omega (arith, ap length words, AllZip-long Spells rest ns all, AllZip-long Spells others (n ∷ t ∷ []) spelled))
asks_nothing first rest ns all counting sites (Sites v) (others, words, some, spelled) =
    omega (arith, sites (ap (λ ws. get_or ws 0 []) words), ap length words, AllZip-long Spells rest ns all, some)

two_numbers : (ns : List ℕ) → length ns ≡ 2 → ns ≡ get_or ns 0 0 ∷ get_or ns 1 0 ∷ []
two_numbers [] two = absurd (omega arith)
two_numbers (n ∷ []) two = absurd (omega arith)
two_numbers (n ∷ (t ∷ [])) two = refl
two_numbers (n ∷ (t ∷ (k ∷ ks))) two = absurd (omega arith)

pub asks_counting : (first : List ℕ) (rest : List (List ℕ)) (ns : List ℕ) → first ≡ codes "counting" → SpellAll rest ns → length ns ≡ 2
    → Asks (first ∷ rest) (Counting (get_or ns 0 0) (get_or ns 1 0))
asks_counting first rest ns counting all two = (rest, ap (λ word. word ∷ rest) counting, subst (SpellAll rest) (two_numbers ns two) all)

-- what `counting` and its numbers ask for: two numbers, and else nothing
pub counting_asked : (first : List ℕ) (rest : List (List ℕ)) (ns : List ℕ) → first ≡ codes "counting" → SpellAll rest ns
    → MatchResult (counting_request ns) (Asks (first ∷ rest)) (AsksNothing (first ∷ rest))
counting_asked first rest ns counting all = by (eqb (length ns) 2) refl
  where
    not_sites : codes "counting" ≡ codes "sites" → ⊥
    not_sites same = let z : ◌≡◌ {A = ℕ} 99 115 = ap (λ word. get_or word 0 0) same in omega arith

    by : (b : Bool) → eqb (length ns) 2 ≡ b
        → MatchResult (cond b (Ok (Counting (get_or ns 0 0) (get_or ns 1 0))) (Err Unreadable)) (Asks (first ∷ rest)) (AsksNothing (first ∷ rest))
    by true two = asks_counting first rest ns counting all (eqb-true (length ns) 2 two)
    by false more =
        asks_nothing first rest ns all (λ _ two. eqb-false (length ns) 2 more two) (λ sites. absurd (not_sites (sym counting ∙ sites)))
