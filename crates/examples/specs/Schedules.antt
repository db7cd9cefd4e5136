-- The schedules, worked out by hand from the rules, and what it means that they hold.
use Rattle.std.specs.Prelude.{◌≡◌, List, [], ◌∷◌}
use Rattle.std.specs.List.{AllByRecursion}
use Rattle.examples.specs.Lines.{Line, played}
use Rattle.examples.specs.Operations.{alone, written_and_read, held_catch_up, order_of_sends, overlapping_reads, other_register_taken, noted, votes_ahead, old_messages, owner_behind}
use Rattle.examples.specs.Faults.{two_values, late_reply, repeated_votes, forged_report, faulty_receiver, one_site_lies}
use Rattle.examples.specs.Refusals.{closed_bench, opening_limits, lent_tables, other_size, begins_declined, numbers_used_up, forges_declined, withdraws_declined, full_pool, one_place_more}

abbrev pub schedules : List (List Line)
schedules =
    alone
    ∷ written_and_read
    ∷ held_catch_up
    ∷ order_of_sends
    ∷ overlapping_reads
    ∷ other_register_taken
    ∷ noted
    ∷ votes_ahead
    ∷ old_messages
    ∷ owner_behind
    ∷ two_values
    ∷ late_reply
    ∷ repeated_votes
    ∷ forged_report
    ∷ faulty_receiver
    ∷ one_site_lies
    ∷ closed_bench
    ∷ opening_limits
    ∷ lent_tables
    ∷ other_size
    ∷ begins_declined
    ∷ numbers_used_up
    ∷ forges_declined
    ∷ withdraws_declined
    ∷ full_pool
    ∷ one_place_more
    ∷ []

-- each schedule is what the machine writes when it plays it
abbrev pub SchedulesHold : Type 0
SchedulesHold = AllByRecursion (λ lines. played lines ≡ lines) schedules
