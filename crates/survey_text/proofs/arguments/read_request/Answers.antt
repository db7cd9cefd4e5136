use Rattle.std.proofs.Common.{◌≡◌, ◌∷◌, drop, vec_items, string_bytes, codes, sym, ap, ◌∙◌, arith}
use Rattle.std.proofs.lemmas.List.{take_rest}
use Rattle.survey_text.specs.Asked.{words_of, SpellAll, counting_request}
use Rattle.survey_text.proofs.Spelled.{words_split, counting_asked}
use Rattle.survey_text.proofs.arguments.read_request.Goals as goal

pub returns-in-counting-default-clause-asked : goal.returns-in-counting-default-clause-asked
returns-in-counting-default-clause-asked c =
    let words = c.args.words.now in
    let x = c.kind-item.result in
    let rest = words_of (drop 1 words) in
    let all : SpellAll rest (vec_items c.in_ok-numbers.numbers) = rw (← take_rest words 1) c.in_ok-numbers.ensures.spelled in
    let split : words_of words ≡ string_bytes x ∷ rest = words_split words x (omega arith) c.kind-item.is in
    let first : string_bytes x ≡ codes "counting" = sym c.as_str.ensures.value ∙ c.in-counting-default.is-counting-0 in
    rw (c.counting_request.ensures ∙ ap counting_request c.as_slice-pair.ensures.value, split) (counting_asked (string_bytes x) rest _ first all)
