use Rattle.std.proofs.Common.{◌≡◌, string_bytes}
use Rattle.std.proofs.lemmas.Result.{IfOk-weaker}
use Rattle.survey_text.specs.Printed.{request_name, survey_text}
use Rattle.survey_text.specs.Answered.{Reports}
use Rattle.survey_text.proofs.survey_made.Goals as goal

pub returns-in_ok-survey-in-Ok : goal.returns-in_ok-survey-in-Ok
returns-in_ok-survey-in-Ok g c =
    let survey = c.in_ok-survey-in-Ok.survey in
    let name = request_name c.args.request.now in
    let q = c.in-Ok.system in
    rw c.in-Ok.is
    (IfOk-weaker c.format.result (λ text. string_bytes text ≡ survey_text name survey)
    (λ text. Reports (g.S.QuorumSystem.families q) name (string_bytes text))
    (λ text e. (survey, c.in_ok-survey-in-Ok.ensures, e)) c.format.ensures.ok)
