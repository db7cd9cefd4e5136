-- The table of examples.
use Rattle.std.specs.Prelude.{true, false, List, [], ◌∷◌, Some, None}
use Rattle.std.specs.List.{AllByRecursion}
use Rattle.examples.specs.Systems.{System, counting, sites}
use Rattle.examples.specs.Rows.{Row, set_of_stations, making, taking_ready, write_dones, reports, Claim}

-- six stations at four sites
abbrev pub six_stations : System
six_stations = sites (0 ∷ 0 ∷ 1 ∷ 1 ∷ 2 ∷ 3 ∷ [])

abbrev pub table : List Row
table =
    set_of_stations (counting 4 1) (0 ∷ 1 ∷ 2 ∷ []) false true
    ∷ set_of_stations (counting 4 1) (0 ∷ 1 ∷ []) false false
    ∷ set_of_stations (counting 4 1) (3 ∷ []) true false
    ∷ making (counting 4 1) None
    ∷ making (counting 3 1) (Some 14)
    ∷ making (counting 1 0) None
    ∷ making six_stations None
    ∷ set_of_stations six_stations (0 ∷ 1 ∷ []) true false
    ∷ set_of_stations six_stations (0 ∷ 2 ∷ []) false false
    ∷ set_of_stations six_stations (2 ∷ 3 ∷ 4 ∷ 5 ∷ []) false true
    ∷ taking_ready (counting 4 1) 1 None
    ∷ taking_ready (counting 4 1) 2 (Some 12)
    ∷ write_dones (counting 4 1) (3 ∷ 3 ∷ 0 ∷ []) None
    ∷ write_dones (counting 4 1) (3 ∷ 0 ∷ 1 ∷ []) (Some 1)
    ∷ reports (counting 4 1) (5 ∷ 0 ∷ 0 ∷ 0 ∷ []) 0 (1 ∷ 2 ∷ 3 ∷ []) true
    ∷ []

-- each row's claim holds
abbrev pub ExamplesHold : Type 0
ExamplesHold = AllByRecursion Claim table
