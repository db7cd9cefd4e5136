-- One proof of the whole table: a test that is computed over its rows, and what passing it says of a row.
use Rattle.std.proofs.Common.{◌≡◌, ℕ, Bool, true, false, not, ◌&&◌, eqb, List, [], ◌∷◌, map, get_or, Some, None, Option, refl, ap, ap₂, is_none}
use lib.Count.{ones, ones_in}
use Rattle.std.specs.Option.{option_map}
use Rattle.std.specs.List.{AllByRecursion}
use Rattle.std.proofs.lemmas.Bool.{and_parts, eqb-true, false≢true}
use Rattle.decline.specs.Numbers.{number_of}
use Rattle.station_set.specs.Below.{all_below, any_below, count_below}
use Rattle.station_set.specs.Sets.{has, set_of, first}
use Rattle.quorum.specs.Reasons.{decline_of}
use Rattle.quorum.specs.SiteSets.{share_site, sites_occurring, sites_bar}
use Rattle.machine.specs.declared.call.Call.TheVariants.{Take, Forge}
use Rattle.machine.specs.Operations.{fresh_reports}
use Rattle.machine.specs.Calls.{answers, is_idle}
use Rattle.examples.specs.Systems.{families_of, bar_of, setting, stations}
use Rattle.examples.specs.Rows.{Row, set_of_stations, making, taking_ready, write_dones, reports, new_bench, forged_ready, declined_with, ended_write, begun, after_dones, Claim}
use Rattle.examples.specs.Table.{table, ExamplesHold}

same : Bool → Bool → Bool
same true b = b
same false b = not b

same_true : (a b : Bool) → same a b ≡ true → a ≡ b
unfolding same
same_true true true e = refl
same_true true false e = absurd (false≢true e)
same_true false true e = absurd (false≢true e)
same_true false false e = refl

same_number : Option ℕ → Option ℕ → Bool
same_number None None = true
same_number None (Some n) = false
same_number (Some m) None = false
same_number (Some m) (Some n) = eqb m n

same_number_true : (a b : Option ℕ) → same_number a b ≡ true → a ≡ b
unfolding same_number
same_number_true None None e = refl
same_number_true None (Some n) e = absurd (false≢true e)
same_number_true (Some m) None e = absurd (false≢true e)
same_number_true (Some m) (Some n) e = ap Some (eqb-true m n e)

same_numbers : List (Option ℕ) → List (Option ℕ) → Bool
same_numbers [] [] = true
same_numbers [] (n ∷ ns) = false
same_numbers (m ∷ ms) [] = false
same_numbers (m ∷ ms) (n ∷ ns) = same_number m n && same_numbers ms ns

same_numbers_true : (a b : List (Option ℕ)) → same_numbers a b ≡ true → a ≡ b
unfolding same_numbers
same_numbers_true [] [] e = refl
same_numbers_true [] (n ∷ ns) e = absurd (false≢true e)
same_numbers_true (m ∷ ms) [] e = absurd (false≢true e)
same_numbers_true (m ∷ ms) (n ∷ ns) e =
    let w = and_parts (same_number m n) (same_numbers ms ns) e in ap₂ ◌∷◌ (same_number_true m n w.0) (same_numbers_true ms ns w.1)

-- whether a row's claim holds
passes : Row → Bool
passes (set_of_stations system members allowed quorum) =
    same ((families_of system).allowed (stations members)) allowed && same ((families_of system).quorum (stations members)) quorum
passes (making system number) = same_number (option_map (λ reason. number_of (decline_of reason)) (bar_of system)) number
passes (taking_ready system x number) =
    same_numbers (map declined_with (answers (setting system) (new_bench system) (Forge (forged_ready x) ∷ Take 0 ∷ []))) (None ∷ number ∷ [])
passes (write_dones system from number) =
    let last = after_dones (setting system) (begun system) from in
    same_number (ended_write last.answer) number && same (is_idle (last.state.station 0).stage) (not (is_none number))
passes (reports system reported number fresh quorum) =
    eqb (fresh_reports (families_of system).stations number (first (families_of system).stations) (λ k. get_or reported k 0)) (stations fresh)
    && same ((families_of system).quorum (stations fresh)) quorum

claimed : (row : Row) → passes row ≡ true → Claim row
unfolding passes
claimed (set_of_stations system members allowed quorum) e = let w = and_parts _ _ e in (same_true _ _ w.0, same_true _ _ w.1)
claimed (making system number) e = same_number_true _ _ e
claimed (taking_ready system x number) e = same_numbers_true _ _ e
claimed (write_dones system from number) e = let w = and_parts _ _ e in (same_number_true _ _ w.0, same_true _ _ w.1)
claimed (reports system reported number fresh quorum) e = let w = and_parts _ _ e in (eqb-true _ _ w.0, same_true _ _ w.1)

all_pass : List Row → Bool
all_pass [] = true
all_pass (row ∷ rows) = passes row && all_pass rows

all_claimed : (rows : List Row) → all_pass rows ≡ true → AllByRecursion Claim rows
unfolding all_pass
all_claimed [] e = tt
all_claimed (row ∷ rows) e = let w = and_parts (passes row) (all_pass rows) e in (claimed row w.0, all_claimed rows w.1)

-- the test, computed
table_passes : all_pass table ≡ true
unfolding all_pass passes same same_number same_numbers has set_of ones ones_in all_below any_below count_below share_site sites_occurring sites_bar
table_passes = refl

pub examples_hold : ExamplesHold
examples_hold = all_claimed table table_passes
