use Rattle.std.proofs.Common.{string_bytes}
use Rattle.std.proofs.lemmas.Result.{IfOk-weaker}
use Rattle.survey_text.specs.Answered.{Answers}
use Rattle.survey_text.proofs.Told.{counting_told, sites_told}
use Rattle.survey_text.proofs.answer_request.Goals as goal

pub returns-in-Counting : goal.returns-in-Counting
returns-in-Counting c =
    IfOk-weaker c.survey_made.result _ (λ text. Answers c.args.request.now (string_bytes text))
    (λ text. counting_told c.args.request.now c.in-Counting.n c.in-Counting.t c.new.result (string_bytes text) c.in-Counting.is c.new.ensures.answer) c.survey_made.ensures

pub returns-in-Sites : goal.returns-in-Sites
returns-in-Sites c =
    IfOk-weaker c.survey_made-in-Sites.result _ (λ text. Answers c.args.request.now (string_bytes text))
    (λ text. sites_told c.args.request.now c.in-Sites.sites c.as_slice.result.now c.new-in-Sites.result (string_bytes text) c.in-Sites.is c.as_slice.ensures.value c.new-in-Sites.ensures.answer)
    c.survey_made-in-Sites.ensures
