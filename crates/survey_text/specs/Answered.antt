-- What the program answers to its arguments.
use Rattle.std.specs.Prelude.{◌≡◌, ℕ, ◌⊎◌, List, length, vec_items, MatchOption, Option}
use Rattle.quorum.specs.declared.unfit.Unfit.{Unfit}
use Rattle.quorum.specs.Laws.{Families}
use Rattle.quorum.specs.CountingSets.{by_count, counting_bar}
use Rattle.quorum.specs.SiteSets.{by_site, sites_bar}
use Rattle.census.specs.declared.Survey.{Survey}
use Rattle.census.specs.Surveyed.{Surveyed}
use Rattle.survey_text.specs.declared.request.Request.{Request}
use Rattle.survey_text.specs.declared.request.Request.TheVariants.{Counting, Sites}
use Rattle.survey_text.specs.Printed.{survey_text, counting_name, sites_name, declined_text, usage}
use Rattle.survey_text.specs.Asked.{Asks}

-- the text tells of a survey of a system with these families
abbrev pub Reports : Families → List ℕ → List ℕ → Type 0
Reports q name text = (survey : Survey) × Surveyed q survey × (text ≡ survey_text name survey)

-- it tells of the system's survey, or of the first reason against its figures
abbrev pub Told : Option Unfit → Families → List ℕ → List ℕ → Type 0
Told bar q name text = MatchOption bar (Reports q name text) (λ reason. text ≡ declined_text reason)

abbrev pub Answers : Request → List ℕ → Type 0
Answers (Counting n t) text = Told (counting_bar n t) (by_count n t) (counting_name n t) text
Answers (Sites sites) text =
    let xs = vec_items sites in
    Told (sites_bar xs) (by_site xs (length xs)) (sites_name xs) text

-- the answer to what the arguments ask, or how to call the program where they ask nothing
abbrev pub Answered : List (List ℕ) → List ℕ → Type 0
Answered words text =
    ((request : Request) × Asks words request × Answers request text)
    ⊎ (((request : Request) → Asks words request → ⊥) × (text ≡ usage))
