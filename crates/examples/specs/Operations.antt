-- Schedules of writes and reads.
use Rattle.std.specs.Prelude.{List, [], ◌∷◌, ◌++◌, map}
use Rattle.machine.specs.declared.message.Message.TheVariants.{Init, Echo, Ready, WriteDone, Read, State as StateOf, CatchUp, CatchUpDone}
use Rattle.machine.specs.declared.station.Stage.TheVariants.{Idle, Writing, Querying, Catching}
use Rattle.machine.specs.declared.call.Call.TheVariants.{BeginWrite, BeginRead, Count}
use Rattle.examples.specs.Systems.{counting, stations}
use Rattle.examples.specs.Lines.{done, write_ended, read_ended, counted, declined, Line, hands, calls, takes, delivers, waiting, joined, copy, stage, held}
use Rattle.examples.specs.Beginnings.{opens, forges, three, four, inits, echoes_to, readies_to}

-- Alone, a station writes 7 and reads it.
abbrev pub alone : List Line
alone =
    hands (counting 1 0)
    ∷ opens []
    ∷ calls (BeginWrite 0 7) done
    ∷ takes (Init 0 0 1 7) done
    ∷ takes (Echo 0 0 0 1 7) done
    ∷ takes (Ready 0 0 0 1 7) done
    ∷ copy 0 0 7 1
    ∷ stage 0 (Writing 1 0)
    ∷ takes (WriteDone 0 0 1) (write_ended 0 1)
    ∷ stage 0 Idle
    ∷ calls (BeginRead 0 0) done
    ∷ takes (Read 0 0 0 1) done
    ∷ takes (StateOf 0 0 0 1 1) done
    ∷ stage 0 (Catching 0 1 7 0)
    ∷ takes (CatchUp 0 0 0 1) done
    ∷ takes (CatchUpDone 0 0 0 1) (read_ended 0 0 1 7)
    ∷ waiting []
    ∷ []

-- Three of four stations carry a write through while the fourth says nothing, and one of them reads it.
-- What is left waits for the fourth.
abbrev pub written_and_read : List Line
written_and_read =
    hands (counting 4 1)
    ∷ opens (3 ∷ [])
    ∷ calls (BeginWrite 0 8) done
    ∷ delivers (inits 0 1 8)
    ∷ joined (map (λ i. Echo 2 i 0 1 8) four)
    ∷ delivers (echoes_to 0 0 1 8)
    ∷ joined (map (λ i. Ready 0 i 0 1 8) four)
    ∷ delivers (echoes_to 1 0 1 8)
    ∷ delivers (echoes_to 2 0 1 8)
    ∷ delivers (readies_to 0 0 1 8)
    ∷ joined (WriteDone 0 0 1 ∷ [])
    ∷ delivers (readies_to 1 0 1 8)
    ∷ delivers (readies_to 2 0 1 8)
    ∷ copy 0 0 8 1
    ∷ copy 1 0 8 1
    ∷ copy 2 0 8 1
    ∷ delivers (WriteDone 0 0 1 ∷ WriteDone 1 0 1 ∷ [])
    ∷ takes (WriteDone 2 0 1) (write_ended 0 1)
    ∷ calls (BeginRead 1 0) done
    ∷ delivers (map (λ i. Read 1 i 0 1) three)
    ∷ delivers (map (λ k. StateOf k 1 0 1 1) three)
    ∷ delivers (map (λ i. CatchUp 1 i 0 1) three)
    ∷ delivers (CatchUpDone 0 1 0 1 ∷ CatchUpDone 1 1 0 1 ∷ [])
    ∷ takes (CatchUpDone 2 1 0 1) (read_ended 1 0 1 8)
    ∷ waiting (Init 0 3 1 8 ∷ echoes_to 3 0 1 8 ++ readies_to 3 0 1 8 ++ Read 1 3 0 1 ∷ CatchUp 1 3 0 1 ∷ [])
    ∷ []

-- A reader that is further than station 2 asks it to catch up. The question is held, and answered when station 2 takes
-- that number; until then the read stays open. Of two numbers held for one station and register the larger stays, and it
-- waits for just that number.
abbrev pub held_catch_up : List Line
held_catch_up =
    hands (counting 4 1)
    ∷ opens (3 ∷ [])
    ∷ calls (BeginWrite 0 8) done
    ∷ delivers (inits 0 1 8)
    ∷ delivers (echoes_to 0 0 1 8)
    ∷ delivers (echoes_to 1 0 1 8)
    ∷ delivers (echoes_to 2 0 1 8)
    ∷ delivers (readies_to 0 0 1 8)
    ∷ delivers (readies_to 1 0 1 8)
    ∷ copy 1 0 8 1
    ∷ copy 2 0 5 0
    ∷ calls (BeginRead 1 0) done
    ∷ delivers (Read 1 0 0 1 ∷ Read 1 1 0 1 ∷ [])
    ∷ forges (StateOf 3 1 0 1 0)
    ∷ delivers (StateOf 0 1 0 1 1 ∷ StateOf 1 1 0 1 1 ∷ StateOf 3 1 0 1 0 ∷ [])
    ∷ stage 1 (Catching 0 1 8 0)
    ∷ delivers (map (λ i. CatchUp 1 i 0 1) three)
    ∷ held 2 1 0 1
    ∷ delivers (CatchUpDone 0 1 0 1 ∷ CatchUpDone 1 1 0 1 ∷ [])
    ∷ stage 1 (Catching 0 1 8 (stations (0 ∷ 1 ∷ [])))
    ∷ forges (CatchUp 3 2 0 2)
    ∷ forges (CatchUp 3 2 0 1)
    ∷ forges (CatchUp 3 2 1 1)
    ∷ delivers (CatchUp 3 2 0 2 ∷ CatchUp 3 2 0 1 ∷ CatchUp 3 2 1 1 ∷ [])
    ∷ held 2 3 0 2
    ∷ held 2 3 1 1
    ∷ delivers (readies_to 2 0 1 8)
    ∷ copy 2 0 8 1
    ∷ joined (WriteDone 2 0 1 ∷ CatchUpDone 2 1 0 1 ∷ [])
    ∷ held 2 1 0 0
    ∷ held 2 3 0 2
    ∷ held 2 3 1 1
    ∷ takes (CatchUpDone 2 1 0 1) (read_ended 1 0 1 8)
    ∷ []

-- What one take sends, and in which order: to the owner, then to those held from station 0 on, whoever asked first,
-- and last, since station 2 is querying and its new number makes the reports fresh, to all.
abbrev pub order_of_sends : List Line
order_of_sends =
    hands (counting 4 1)
    ∷ opens (3 ∷ [])
    ∷ calls (BeginWrite 0 8) done
    ∷ delivers (inits 0 1 8)
    ∷ delivers (echoes_to 0 0 1 8)
    ∷ delivers (echoes_to 1 0 1 8)
    ∷ delivers (echoes_to 2 0 1 8)
    ∷ delivers (readies_to 0 0 1 8)
    ∷ delivers (readies_to 1 0 1 8)
    ∷ calls (BeginRead 1 0) done
    ∷ delivers (Read 1 0 0 1 ∷ Read 1 1 0 1 ∷ [])
    ∷ forges (StateOf 3 1 0 1 0)
    ∷ delivers (StateOf 0 1 0 1 1 ∷ StateOf 1 1 0 1 1 ∷ StateOf 3 1 0 1 0 ∷ [])
    ∷ forges (CatchUp 3 2 0 1)
    ∷ delivers (CatchUp 3 2 0 1 ∷ CatchUp 1 2 0 1 ∷ [])
    ∷ calls (BeginRead 2 0) done
    ∷ delivers (Read 2 0 0 1 ∷ Read 2 1 0 1 ∷ [])
    ∷ forges (StateOf 3 2 0 1 0)
    ∷ delivers (StateOf 0 2 0 1 1 ∷ StateOf 1 2 0 1 1 ∷ StateOf 3 2 0 1 0 ∷ [])
    ∷ stage 2 (Querying 0 1 (stations (0 ∷ 1 ∷ 3 ∷ [])))
    ∷ delivers (readies_to 2 0 1 8)
    ∷ stage 2 (Catching 0 1 8 0)
    ∷ joined (WriteDone 2 0 1 ∷ CatchUpDone 2 1 0 1 ∷ CatchUpDone 2 3 0 1 ∷ map (λ i. CatchUp 2 i 0 1) four)
    ∷ []

-- Station 1 alone has taken the open write, and reads it. Its reports are fresh, but the read does not end: stations 0
-- and 2 hold its question. Meanwhile station 2 reads the opening value, which is in order, since the two reads overlap.
-- When station 0 has taken the write the first read ends, and from then on no read can return the opening value.
abbrev pub overlapping_reads : List Line
overlapping_reads =
    hands (counting 4 1)
    ∷ opens (3 ∷ [])
    ∷ calls (BeginWrite 0 8) done
    ∷ delivers (inits 0 1 8)
    ∷ delivers (echoes_to 0 0 1 8)
    ∷ delivers (echoes_to 1 0 1 8)
    ∷ delivers (echoes_to 2 0 1 8)
    ∷ delivers (readies_to 1 0 1 8)
    ∷ calls (BeginRead 1 0) done
    ∷ delivers (map (λ i. Read 1 i 0 1) three)
    ∷ delivers (StateOf 0 1 0 1 0 ∷ StateOf 1 1 0 1 1 ∷ StateOf 2 1 0 1 0 ∷ [])
    ∷ stage 1 (Catching 0 1 8 0)
    ∷ delivers (map (λ i. CatchUp 1 i 0 1) three)
    ∷ forges (CatchUpDone 3 1 0 1)
    ∷ delivers (CatchUpDone 1 1 0 1 ∷ CatchUpDone 3 1 0 1 ∷ [])
    ∷ stage 1 (Catching 0 1 8 (stations (1 ∷ 3 ∷ [])))
    ∷ calls (BeginRead 2 0) done
    ∷ delivers (Read 2 0 0 1 ∷ Read 2 2 0 1 ∷ [])
    ∷ forges (StateOf 3 2 0 1 0)
    ∷ delivers (StateOf 0 2 0 1 0 ∷ StateOf 2 2 0 1 0 ∷ StateOf 3 2 0 1 0 ∷ [])
    ∷ delivers (CatchUp 2 0 0 0 ∷ CatchUp 2 2 0 0 ∷ [])
    ∷ forges (CatchUpDone 3 2 0 0)
    ∷ delivers (CatchUpDone 0 2 0 0 ∷ CatchUpDone 2 2 0 0 ∷ [])
    ∷ takes (CatchUpDone 3 2 0 0) (read_ended 2 0 0 5)
    ∷ delivers (readies_to 0 0 1 8)
    ∷ held 0 1 0 0
    ∷ held 2 1 0 1
    ∷ takes (CatchUpDone 0 1 0 1) (read_ended 1 0 1 8)
    ∷ calls (BeginRead 2 0) done
    ∷ delivers (Read 2 0 0 2 ∷ Read 2 2 0 2 ∷ [])
    ∷ forges (StateOf 3 2 0 2 0)
    ∷ delivers (StateOf 0 2 0 2 1 ∷ StateOf 2 2 0 2 0 ∷ StateOf 3 2 0 2 0 ∷ [])
    ∷ stage 2 (Querying 0 2 (stations (0 ∷ 2 ∷ 3 ∷ [])))
    ∷ []

-- The freshness test is about the register that was asked for: that station 2 takes a write of register 0 does not
-- bring its question about register 1 on.
abbrev pub other_register_taken : List Line
other_register_taken =
    hands (counting 4 1)
    ∷ opens (3 ∷ [])
    ∷ calls (BeginRead 2 1) done
    ∷ delivers (Read 2 0 1 1 ∷ Read 2 1 1 1 ∷ [])
    ∷ forges (StateOf 3 2 1 1 1)
    ∷ delivers (StateOf 0 2 1 1 0 ∷ StateOf 1 2 1 1 0 ∷ StateOf 3 2 1 1 1 ∷ [])
    ∷ calls (BeginWrite 0 8) done
    ∷ delivers (inits 0 1 8)
    ∷ delivers (echoes_to 0 0 1 8)
    ∷ delivers (echoes_to 1 0 1 8)
    ∷ delivers (echoes_to 2 0 1 8)
    ∷ delivers (readies_to 2 0 1 8)
    ∷ copy 2 0 8 1
    ∷ stage 2 (Querying 1 1 (stations (0 ∷ 1 ∷ 3 ∷ [])))
    ∷ joined (WriteDone 2 0 1 ∷ [])
    ∷ []

-- A read returns what it noted: station 2 takes a write while it is catching, and still returns number 0.
abbrev pub noted : List Line
noted =
    hands (counting 4 1)
    ∷ opens (3 ∷ [])
    ∷ calls (BeginRead 2 0) done
    ∷ delivers (map (λ i. Read 2 i 0 1) three)
    ∷ delivers (map (λ k. StateOf k 2 0 1 0) three)
    ∷ stage 2 (Catching 0 0 5 0)
    ∷ calls (BeginWrite 0 8) done
    ∷ delivers (inits 0 1 8)
    ∷ delivers (echoes_to 0 0 1 8)
    ∷ delivers (echoes_to 1 0 1 8)
    ∷ delivers (echoes_to 2 0 1 8)
    ∷ delivers (readies_to 2 0 1 8)
    ∷ copy 2 0 8 1
    ∷ delivers (map (λ i. CatchUp 2 i 0 0) three)
    ∷ delivers (CatchUpDone 0 2 0 0 ∷ CatchUpDone 1 2 0 0 ∷ [])
    ∷ takes (CatchUpDone 2 2 0 0) (read_ended 2 0 0 5)
    ∷ []

-- The owner's second write finds station 2 behind: what is about it has to wait there until the first is taken, and
-- count does not count it. A late WRITE_DONE of the first write has no effect on the second.
abbrev pub votes_ahead : List Line
votes_ahead =
    hands (counting 4 1)
    ∷ opens (3 ∷ [])
    ∷ calls (BeginWrite 0 8) done
    ∷ delivers (inits 0 1 8)
    ∷ delivers (echoes_to 0 0 1 8)
    ∷ delivers (echoes_to 1 0 1 8)
    ∷ delivers (echoes_to 2 0 1 8)
    ∷ delivers (readies_to 0 0 1 8)
    ∷ delivers (readies_to 1 0 1 8)
    ∷ forges (WriteDone 3 0 1)
    ∷ delivers (WriteDone 0 0 1 ∷ WriteDone 1 0 1 ∷ [])
    ∷ takes (WriteDone 3 0 1) (write_ended 0 1)
    ∷ calls (BeginWrite 0 9) done
    ∷ calls Count (counted 14 5)
    ∷ takes (Init 0 2 2 9) (declined 12)
    ∷ takes (Init 0 0 2 9) done
    ∷ takes (Echo 0 2 0 2 9) (declined 12)
    ∷ forges (Ready 3 2 0 2 9)
    ∷ takes (Ready 3 2 0 2 9) (declined 12)
    ∷ calls Count (counted 18 6)
    ∷ delivers (readies_to 2 0 1 8)
    ∷ copy 2 0 8 1
    ∷ delivers (Init 0 2 2 9 ∷ Echo 0 2 0 2 9 ∷ Ready 3 2 0 2 9 ∷ [])
    ∷ joined (WriteDone 2 0 1 ∷ map (λ i. Echo 2 i 0 2 9) four)
    ∷ takes (WriteDone 2 0 1) done
    ∷ stage 0 (Writing 2 0)
    ∷ []

-- Station 2 takes the write by READY votes alone. What comes late has no effect: not the INIT, and not the votes, which
-- are not counted for the next number.
abbrev pub old_messages : List Line
old_messages =
    hands (counting 4 1)
    ∷ opens (3 ∷ [])
    ∷ calls (BeginWrite 0 8) done
    ∷ delivers (Init 0 0 1 8 ∷ Init 0 1 1 8 ∷ [])
    ∷ forges (Echo 3 0 0 1 8)
    ∷ forges (Echo 3 1 0 1 8)
    ∷ delivers (Echo 0 0 0 1 8 ∷ Echo 1 0 0 1 8 ∷ Echo 3 0 0 1 8 ∷ [])
    ∷ delivers (Echo 0 1 0 1 8 ∷ Echo 1 1 0 1 8 ∷ Echo 3 1 0 1 8 ∷ [])
    ∷ forges (Ready 3 2 0 1 8)
    ∷ delivers (Ready 0 2 0 1 8 ∷ Ready 1 2 0 1 8 ∷ [])
    ∷ joined (map (λ i. Ready 2 i 0 1 8) four)
    ∷ takes (Ready 3 2 0 1 8) done
    ∷ copy 2 0 8 1
    ∷ joined (map (λ i. Ready 2 i 0 1 8) four ++ WriteDone 2 0 1 ∷ [])
    ∷ forges (Echo 3 2 0 1 8)
    ∷ forges (Ready 3 2 0 1 8)
    ∷ delivers (Init 0 2 1 8 ∷ Echo 0 2 0 1 8 ∷ Echo 1 2 0 1 8 ∷ Echo 3 2 0 1 8 ∷ [])
    ∷ delivers (Ready 2 2 0 1 8 ∷ Ready 3 2 0 1 8 ∷ [])
    ∷ joined (Ready 2 0 0 1 8 ∷ Ready 2 1 0 1 8 ∷ Ready 2 3 0 1 8 ∷ WriteDone 2 0 1 ∷ [])
    ∷ copy 2 0 8 1
    ∷ []

-- A write may end while the owner's own copy is behind: its next INIT has to wait at the owner itself.
abbrev pub owner_behind : List Line
owner_behind =
    hands (counting 4 1)
    ∷ opens (3 ∷ [])
    ∷ calls (BeginWrite 0 8) done
    ∷ delivers (inits 0 1 8)
    ∷ delivers (echoes_to 0 0 1 8)
    ∷ delivers (echoes_to 1 0 1 8)
    ∷ delivers (echoes_to 2 0 1 8)
    ∷ delivers (readies_to 1 0 1 8)
    ∷ delivers (readies_to 2 0 1 8)
    ∷ forges (WriteDone 3 0 1)
    ∷ delivers (WriteDone 1 0 1 ∷ WriteDone 2 0 1 ∷ [])
    ∷ takes (WriteDone 3 0 1) (write_ended 0 1)
    ∷ copy 0 0 5 0
    ∷ calls (BeginWrite 0 9) done
    ∷ takes (Init 0 0 2 9) (declined 12)
    ∷ delivers (readies_to 0 0 1 8)
    ∷ takes (Init 0 0 2 9) done
    ∷ []
