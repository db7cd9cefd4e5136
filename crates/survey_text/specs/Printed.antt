-- What the survey program prints.
use Rattle.std.specs.Prelude.{ℕ, zero, suc, cond, List, [], ◌++◌, vec_items, codes, decimal}
use Rattle.std.specs.List.{flat_map}
use Rattle.station_set.specs.Sets.{has}
use Rattle.decline.specs.Numbers.{number_of}
use Rattle.quorum.specs.declared.unfit.Unfit.{Unfit}
use Rattle.quorum.specs.Reasons.{decline_of, why}
use Rattle.census.specs.declared.Survey.{Survey}
use Rattle.survey_text.specs.declared.request.Request.{Request}
use Rattle.survey_text.specs.declared.request.Request.TheVariants.{Counting, Sites}

-- a number with a space before it
abbrev pub spaced : ℕ → List ℕ
spaced n = codes " " ++ decimal n

-- the stations below n that are members, in their order
unfoldable pub members_text : ℕ → ℕ → List ℕ
members_text zero set = []
members_text (suc n) set = members_text n set ++ cond (has set n) (spaced n) []

-- a set in braces, as { 0 2 3 }
abbrev pub set_text : ℕ → List ℕ
set_text set = codes "{" ++ members_text 16 set ++ codes " }"

-- a set on a line of its own
abbrev pub set_line : ℕ → List ℕ
set_line set = set_text set ++ codes "\n"

-- the lines of a survey: the two lists of sets, how many sets there are of each family, and what was surveyed
abbrev pub survey_lines : List ℕ → List ℕ → ℕ → ℕ → List ℕ → List ℕ
survey_lines largest smallest allowed quorums name =
    codes "largest allowed sets:\n" ++ (largest ++ (codes "smallest quorums:\n" ++ (smallest
    ++ (codes "allowed sets: " ++ (decimal allowed ++ (codes "\nquorums: " ++ (decimal quorums
    ++ (codes "\nsurveyed: " ++ (name ++ codes "\n")))))))))

abbrev pub survey_text : List ℕ → Survey → List ℕ
survey_text name survey =
    survey_lines (flat_map set_line (vec_items survey.largest_allowed)) (flat_map set_line (vec_items survey.smallest_quorums))
    survey.allowed_sets survey.quorums name

abbrev pub counting_name : ℕ → ℕ → List ℕ
counting_name n t = codes "counting " ++ (decimal n ++ (codes " " ++ decimal t))

abbrev pub sites_name : List ℕ → List ℕ
sites_name sites = codes "sites" ++ flat_map spaced sites

-- what a request is called: the arguments that ask for it
abbrev pub request_name : Request → List ℕ
request_name (Counting n t) = counting_name n t
request_name (Sites sites) = sites_name (vec_items sites)

-- why a system is declined
abbrev pub declined_text : Unfit → List ℕ
declined_text reason = codes "declined " ++ (decimal (number_of (decline_of reason)) ++ (codes ": " ++ (why reason ++ codes "\n")))

-- how to call the program
abbrev pub usage : List ℕ
usage = codes "usage: survey counting N T    N stations, of which T may be faulty\n       survey sites S0 S1 ..  the site of each station\n"
