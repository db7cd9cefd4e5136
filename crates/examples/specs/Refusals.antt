-- Schedules of declined calls: which number answers, and that the first that fits does.
use Rattle.std.specs.Prelude.{ℕ, List, [], ◌∷◌}
use Rattle.machine.specs.declared.message.Message.{Message}
use Rattle.machine.specs.declared.message.Message.TheVariants.{Init, Echo, Ready, WriteDone, Read, State as StateOf, CatchUp, CatchUpDone}
use Rattle.machine.specs.declared.call.Call.TheVariants.{Open, BeginWrite, BeginRead, Take, Forge, Withdraw, Count}
use Rattle.machine.specs.Calls.{Lengths}
use Rattle.examples.specs.Systems.{counting}
use Rattle.examples.specs.Lines.{Said, done, write_ended, read_ended, counted, declined, Line, hands, lends, calls, takes, delivers, closed, waiting, fields}
use Rattle.examples.specs.Beginnings.{opening, opens, forges}

-- Every call but open is declined on a closed bench.
abbrev pub closed_bench : List Line
closed_bench =
    hands (counting 4 1)
    ∷ closed
    ∷ calls (BeginWrite 0 7) (declined 1)
    ∷ calls (BeginRead 0 0) (declined 1)
    ∷ calls (Take 0) (declined 1)
    ∷ calls (Forge (fields (Init 3 0 1 7))) (declined 1)
    ∷ calls (Withdraw 0) (declined 1)
    ∷ calls Count (declined 1)
    ∷ closed
    ∷ []

-- Open looks at the limits first and then at the faulty set. Stations 4 and 15 are none of the four.
abbrev pub opening_limits : List Line
opening_limits =
    hands (counting 4 1)
    ∷ calls (Open (opening (3 ∷ []) 0 100)) (declined 3)
    ∷ calls (Open (opening (3 ∷ []) 1000000000000 100)) (declined 3)
    ∷ calls (Open (opening (3 ∷ []) 9 12)) (declined 3)
    ∷ calls (Open (opening (3 ∷ []) 9 4001)) (declined 3)
    ∷ calls (Open (opening (2 ∷ 3 ∷ []) 9 12)) (declined 3)
    ∷ calls (Open (opening (2 ∷ 3 ∷ []) 9 13)) (declined 4)
    ∷ calls (Open (opening (4 ∷ []) 9 13)) (declined 4)
    ∷ calls (Open (opening (15 ∷ []) 9 13)) (declined 4)
    ∷ closed
    ∷ calls Count (declined 1)
    ∷ calls (Open (opening (3 ∷ []) 999999999999 4000)) done
    ∷ calls Count (counted 0 0)
    ∷ calls (Open (opening (3 ∷ []) 9 100)) (declined 2)
    ∷ calls (Open (opening (2 ∷ 3 ∷ []) 0 0)) (declined 2)
    ∷ []

-- lent tables by their lengths
abbrev pub tables : (messages votes held stations copies reads reports : ℕ) → Lengths
tables messages votes held stations copies reads reports =
    record { messages = messages; votes = votes; held = held; stations = stations; copies = copies; reads = reads; reports = reports }

-- Four stations and a pool of 13 need these tables: each one element too short, and then just long enough. No bench has 0 or 11 stations, whatever is lent.
abbrev pub lent_tables : List Line
lent_tables =
    hands (counting 4 1)
    ∷ lends (tables 12 128 64 4 16 16 16)
    ∷ calls (Open (opening [] 9 13)) (declined 3)
    ∷ lends (tables 13 127 64 4 16 16 16)
    ∷ calls (Open (opening [] 9 13)) (declined 3)
    ∷ lends (tables 13 128 63 4 16 16 16)
    ∷ calls (Open (opening [] 9 13)) (declined 3)
    ∷ lends (tables 13 128 64 3 16 16 16)
    ∷ calls (Open (opening [] 9 13)) (declined 3)
    ∷ lends (tables 13 128 64 4 15 16 16)
    ∷ calls (Open (opening [] 9 13)) (declined 3)
    ∷ lends (tables 13 128 64 4 16 15 16)
    ∷ calls (Open (opening [] 9 13)) (declined 3)
    ∷ lends (tables 13 128 64 4 16 16 15)
    ∷ calls (Open (opening [] 9 13)) (declined 3)
    ∷ lends (tables 4000 4000 4000 4000 4000 4000 4000)
    ∷ hands (counting 0 0)
    ∷ calls (Open (opening [] 9 100)) (declined 3)
    ∷ hands (counting 11 0)
    ∷ calls (Open (opening [] 9 100)) (declined 3)
    ∷ closed
    ∷ hands (counting 4 1)
    ∷ lends (tables 13 128 64 4 16 16 16)
    ∷ calls (Open (opening [] 9 13)) done
    ∷ waiting []
    ∷ []

-- A take wants a system of the bench's size, and asks for it before it looks for the message. The other calls are
-- handed no system.
abbrev pub other_size : List Line
other_size =
    hands (counting 4 1)
    ∷ opens (3 ∷ [])
    ∷ calls (BeginWrite 0 7) done
    ∷ hands (counting 5 1)
    ∷ takes (Init 0 0 1 7) (declined 5)
    ∷ calls (Take 4) (declined 5)
    ∷ calls (BeginRead 1 0) done
    ∷ hands (counting 4 1)
    ∷ calls (Take 8) (declined 11)
    ∷ takes (Init 0 0 1 7) done
    ∷ []

-- Begin: no such station or register, then a faulty station, then one that is not idle.
abbrev pub begins_declined : List Line
begins_declined =
    hands (counting 4 1)
    ∷ opens (3 ∷ [])
    ∷ calls (BeginWrite 4 7) (declined 6)
    ∷ calls (BeginWrite 3 7) (declined 7)
    ∷ calls (BeginRead 4 0) (declined 6)
    ∷ calls (BeginRead 0 4) (declined 6)
    ∷ calls (BeginRead 3 4) (declined 6)
    ∷ calls (BeginRead 3 0) (declined 7)
    ∷ calls (BeginWrite 0 7) done
    ∷ calls (BeginWrite 0 8) (declined 9)
    ∷ calls (BeginRead 0 1) (declined 9)
    ∷ calls (BeginRead 0 4) (declined 6)
    ∷ waiting (Init 0 0 1 7 ∷ Init 0 1 1 7 ∷ Init 0 2 1 7 ∷ Init 0 3 1 7 ∷ [])
    ∷ []

-- With the highest number 1 a station writes once, and reads each register once. That it is not idle comes first.
abbrev pub numbers_used_up : List Line
numbers_used_up =
    hands (counting 2 0)
    ∷ calls (Open (opening [] 1 100)) done
    ∷ calls (BeginWrite 0 7) done
    ∷ calls (BeginWrite 0 8) (declined 9)
    ∷ delivers (Init 0 0 1 7 ∷ Init 0 1 1 7 ∷ [])
    ∷ delivers (Echo 0 0 0 1 7 ∷ Echo 1 0 0 1 7 ∷ Echo 0 1 0 1 7 ∷ Echo 1 1 0 1 7 ∷ [])
    ∷ delivers (Ready 0 0 0 1 7 ∷ Ready 1 0 0 1 7 ∷ Ready 0 1 0 1 7 ∷ Ready 1 1 0 1 7 ∷ [])
    ∷ takes (WriteDone 0 0 1) done
    ∷ takes (WriteDone 1 0 1) (write_ended 0 1)
    ∷ calls (BeginWrite 0 8) (declined 10)
    ∷ calls (BeginRead 0 0) done
    ∷ calls (BeginRead 0 0) (declined 9)
    ∷ delivers (Read 0 0 0 1 ∷ Read 0 1 0 1 ∷ StateOf 0 0 0 1 1 ∷ StateOf 1 0 0 1 1 ∷ [])
    ∷ delivers (CatchUp 0 0 0 1 ∷ CatchUp 0 1 0 1 ∷ CatchUpDone 0 0 0 1 ∷ [])
    ∷ takes (CatchUpDone 1 0 0 1) (read_ended 0 0 1 7)
    ∷ calls (BeginRead 0 0) (declined 10)
    ∷ calls (BeginRead 0 1) done
    ∷ []

-- a forge by its fields, with the value 7
abbrev pub spells : (kind sender receiver register number read : ℕ) → Said → Line
spells kind sender receiver register number read answer =
    calls (Forge (record {
      kind = kind;
      sender = sender;
      receiver = receiver;
      register = register;
      number = number;
      read = read;
      value = 7;
    })) answer

abbrev pub one_of_each : List (Message ℕ)
one_of_each =
    Init 3 0 1 7
    ∷ Echo 3 1 1 9 7
    ∷ Ready 3 0 1 1 7
    ∷ WriteDone 3 0 1
    ∷ Read 3 0 1 9
    ∷ StateOf 3 0 1 1 0
    ∷ CatchUp 3 0 1 0
    ∷ CatchUpDone 3 0 1 0
    ∷ []

-- Forge: no such station or used register, then a correct sender, then an unknown kind or a number outside its range.
-- INIT and WRITE_DONE use no register, READ no number, and an unknown kind uses none of them. Count tells messages
-- between correct stations apart from these.
abbrev pub forges_declined : List Line
forges_declined =
    hands (counting 4 1)
    ∷ opens (3 ∷ [])
    ∷ spells 300 4 0 0 1 1 (declined 6)
    ∷ spells 300 3 4 0 1 1 (declined 6)
    ∷ spells 300 0 1 9 1 1 (declined 7)
    ∷ spells 300 3 0 9 1 1 (declined 8)
    ∷ spells 0 3 0 0 1 1 (declined 8)
    ∷ spells 9 3 0 0 1 1 (declined 8)
    ∷ spells 1 3 0 99 0 1 (declined 8)
    ∷ spells 1 3 0 99 1 0 done
    ∷ spells 2 0 1 4 0 0 (declined 6)
    ∷ spells 2 0 1 1 0 0 (declined 7)
    ∷ spells 2 3 1 1 0 1 (declined 8)
    ∷ spells 2 3 1 1 10 1 (declined 8)
    ∷ spells 2 3 1 1 9 0 done
    ∷ spells 3 3 0 4 1 0 (declined 6)
    ∷ spells 3 3 0 1 0 1 (declined 8)
    ∷ spells 3 3 0 1 1 0 done
    ∷ spells 4 3 0 99 0 1 (declined 8)
    ∷ spells 4 3 0 99 1 0 done
    ∷ spells 5 3 0 4 1 1 (declined 6)
    ∷ spells 5 3 0 1 1 0 (declined 8)
    ∷ spells 5 3 0 1 99 9 done
    ∷ spells 6 3 0 4 0 1 (declined 6)
    ∷ spells 6 3 0 1 0 0 (declined 8)
    ∷ spells 6 3 0 1 10 1 (declined 8)
    ∷ spells 6 3 0 1 0 1 done
    ∷ spells 7 3 0 4 0 0 (declined 6)
    ∷ spells 7 3 0 1 10 0 (declined 8)
    ∷ spells 7 3 0 1 0 99 done
    ∷ spells 8 3 0 4 0 0 (declined 6)
    ∷ spells 8 3 0 1 10 0 (declined 8)
    ∷ spells 8 3 0 1 0 99 done
    ∷ waiting one_of_each
    ∷ calls Count (counted 8 0)
    ∷ []

-- Withdraw: no message at that place, then a correct sender, also where the receiver is faulty. Those behind move up.
abbrev pub withdraws_declined : List Line
withdraws_declined =
    hands (counting 4 1)
    ∷ opens (3 ∷ [])
    ∷ calls (Withdraw 0) (declined 11)
    ∷ forges (Read 3 0 1 1)
    ∷ calls (BeginRead 0 1) done
    ∷ forges (Read 3 1 1 1)
    ∷ calls (Withdraw 1) (declined 7)
    ∷ calls (Withdraw 4) (declined 7)
    ∷ calls (Withdraw 6) (declined 11)
    ∷ calls (Withdraw 0) done
    ∷ calls (Withdraw 5) (declined 11)
    ∷ calls (Withdraw 4) done
    ∷ waiting (Read 0 0 1 1 ∷ Read 0 1 1 1 ∷ Read 0 2 1 1 ∷ Read 0 3 1 1 ∷ [])
    ∷ []

-- A pool of 13 places, 3 · 4 + 1. One waiting message makes it too full for a begin, a forge, and a take by a correct
-- receiver: the places are counted before the message leaves. A take by a faulty receiver needs no place. That a
-- message is ahead comes first. Count does not look at places.
abbrev pub full_pool : List Line
full_pool =
    hands (counting 4 1)
    ∷ calls (Open (opening (3 ∷ []) 9 13)) done
    ∷ forges (Ready 3 3 0 9 7)
    ∷ calls (BeginWrite 0 7) (declined 13)
    ∷ calls (BeginRead 0 0) (declined 13)
    ∷ calls (Forge (fields (Read 3 0 0 1))) (declined 13)
    ∷ calls (Forge (fields (Read 3 3 0 1))) (declined 13)
    ∷ takes (Ready 3 3 0 9 7) done
    ∷ forges (Ready 3 0 0 1 7)
    ∷ takes (Ready 3 0 0 1 7) (declined 13)
    ∷ calls (Withdraw 0) done
    ∷ forges (Ready 3 0 0 2 7)
    ∷ takes (Ready 3 0 0 2 7) (declined 12)
    ∷ calls (Withdraw 0) done
    ∷ calls (BeginWrite 0 7) done
    ∷ takes (Init 0 0 1 7) (declined 13)
    ∷ calls (BeginRead 0 0) (declined 9)
    ∷ calls Count (counted 4 3)
    ∷ takes (Init 0 3 1 7) done
    ∷ waiting (Init 0 0 1 7 ∷ Init 0 1 1 7 ∷ Init 0 2 1 7 ∷ [])
    ∷ []

-- With one place more, one message can be taken.
abbrev pub one_place_more : List Line
one_place_more =
    hands (counting 4 1)
    ∷ calls (Open (opening (3 ∷ []) 9 14)) done
    ∷ forges (Ready 3 0 0 1 7)
    ∷ takes (Ready 3 0 0 1 7) done
    ∷ waiting []
    ∷ []
