use Rattle.std.proofs.Common.{◌<◌, ℕ, length, string_bytes, vec_items, arith}
use Rattle.std.proofs.lemmas.Result.{err_from_is_err_and}
use Rattle.survey_text.specs.Asked.{Spells}
use Rattle.survey_text.proofs.Spelled.{spell_more, spells_none}
use Rattle.survey_text.proofs.arguments.read_numbers.Goals as goal

pub returns-in_err-parse-clause-spelled : goal.returns-in_err-parse-clause-spelled
returns-in_err-parse-clause-spelled c =
    let here : c.loop-word.word-index < length c.args.words.now = omega arith in
    let unread : (n : ℕ) → Spells (string_bytes c.word-item.result) n → ⊥ = λ n s. c.in_err-parse.ensures.value.0 (rw c.as_str.ensures.value (s.0, s.1)) in
    let p = err_from_is_err_and c.from_residual.result c.from_residual.ensures.1 in
    rw (p.1, p.2) (spells_none c.args.words.now c.loop-word.word-index c.word-item.result here c.word-item.is unread)

pub loop-word-preserved : goal.loop-word-preserved
loop-word-preserved c =
    let here : c.loop-word.word-index < length c.args.words.now = omega arith in
    let read = c.in_ok-parse.ensures.value.0 in
    let spelled : Spells (string_bytes c.word-item.result) c.in_ok-parse.field-0 = rw (← c.as_str.ensures.value) (read.0.0, read.0.1, read.1) in
    rw c.in_ok-push.ensures.items
    (spell_more c.args.words.now c.loop-word.word-index c.word-item.result c.in_ok-parse.field-0 (vec_items c.loop-word.numbers) here c.word-item.is spelled c.loop-word.invariant)
