-- Schedules in which faulty stations do their worst.
use Rattle.std.specs.Prelude.{List, [], ◌∷◌, map}
use Rattle.machine.specs.declared.message.Message.TheVariants.{Init, Echo, Ready, WriteDone, Read, State as StateOf, CatchUp, CatchUpDone}
use Rattle.machine.specs.declared.station.Stage.TheVariants.{Writing, Querying, Catching}
use Rattle.machine.specs.declared.call.Call.TheVariants.{BeginWrite, BeginRead}
use Rattle.examples.specs.Systems.{counting, sites, stations}
use Rattle.examples.specs.Lines.{done, write_ended, read_ended, Line, hands, calls, takes, delivers, waiting, joined, copy, stage}
use Rattle.examples.specs.Beginnings.{opens, forges, three, four, inits, echoes_to, readies_to}

-- Station 3 tells stations 0 and 2 that it writes 6, and station 1 that it writes 7, and votes as each likes to hear.
-- Its second ECHO vote at station 1 and its second READY vote at station 2 do not count. All take 6, and 7 has no
-- effect any more.
abbrev pub two_values : List Line
two_values =
    hands (counting 4 1)
    ∷ opens (3 ∷ [])
    ∷ forges (Init 3 0 1 6)
    ∷ forges (Init 3 1 1 7)
    ∷ forges (Init 3 2 1 6)
    ∷ delivers (Init 3 0 1 6 ∷ Init 3 1 1 7 ∷ Init 3 2 1 6 ∷ [])
    ∷ forges (Echo 3 0 3 1 6)
    ∷ forges (Echo 3 1 3 1 7)
    ∷ forges (Echo 3 1 3 1 6)
    ∷ forges (Echo 3 2 3 1 7)
    ∷ delivers (Echo 0 0 3 1 6 ∷ Echo 2 0 3 1 6 ∷ Echo 3 0 3 1 6 ∷ [])
    ∷ joined (map (λ i. Ready 0 i 3 1 6) four)
    ∷ delivers (Echo 3 1 3 1 7 ∷ Echo 1 1 3 1 7 ∷ Echo 0 1 3 1 6 ∷ Echo 2 1 3 1 6 ∷ Echo 3 1 3 1 6 ∷ [])
    ∷ delivers (Echo 0 2 3 1 6 ∷ Echo 2 2 3 1 6 ∷ Echo 3 2 3 1 7 ∷ Echo 1 2 3 1 7 ∷ [])
    ∷ joined (map (λ i. Ready 0 i 3 1 6) four)
    ∷ forges (Ready 3 1 3 1 6)
    ∷ delivers (Ready 0 1 3 1 6 ∷ Ready 3 1 3 1 6 ∷ [])
    ∷ joined (map (λ i. Ready 1 i 3 1 6) four)
    ∷ forges (Ready 3 2 3 1 7)
    ∷ forges (Ready 3 2 3 1 6)
    ∷ delivers (Ready 3 2 3 1 7 ∷ Ready 0 2 3 1 6 ∷ Ready 3 2 3 1 6 ∷ [])
    ∷ joined (map (λ i. Ready 1 i 3 1 6) four)
    ∷ takes (Ready 1 2 3 1 6) done
    ∷ joined (map (λ i. Ready 2 i 3 1 6) four)
    ∷ takes (Ready 2 2 3 1 6) done
    ∷ copy 2 3 6 1
    ∷ takes (Ready 1 1 3 1 6) done
    ∷ copy 1 3 6 1
    ∷ delivers (Ready 0 0 3 1 6 ∷ Ready 1 0 3 1 6 ∷ [])
    ∷ copy 0 3 5 0
    ∷ takes (Ready 2 0 3 1 6) done
    ∷ copy 0 3 6 1
    ∷ forges (Ready 3 0 3 1 7)
    ∷ delivers (Echo 1 0 3 1 7 ∷ Ready 3 0 3 1 7 ∷ [])
    ∷ joined (WriteDone 2 3 1 ∷ WriteDone 1 3 1 ∷ WriteDone 0 3 1 ∷ [])
    ∷ copy 0 3 6 1
    ∷ []

-- Station 0 has read register 1. Station 2 completes a write of its register, of which station 0 has not heard, and
-- station 0 reads register 2. A late reply to its first question, with the same read number, does not count for the
-- second, and neither does one with another read number: else it would return the opening value.
abbrev pub late_reply : List Line
late_reply =
    hands (counting 4 1)
    ∷ opens (3 ∷ [])
    ∷ calls (BeginRead 0 1) done
    ∷ delivers (map (λ i. Read 0 i 1 1) three)
    ∷ forges (StateOf 3 0 1 1 0)
    ∷ delivers (StateOf 0 0 1 1 0 ∷ StateOf 2 0 1 1 0 ∷ StateOf 3 0 1 1 0 ∷ [])
    ∷ delivers (map (λ i. CatchUp 0 i 1 0) three)
    ∷ delivers (CatchUpDone 0 0 1 0 ∷ CatchUpDone 1 0 1 0 ∷ [])
    ∷ takes (CatchUpDone 2 0 1 0) (read_ended 0 1 0 5)
    ∷ calls (BeginWrite 2 8) done
    ∷ delivers (inits 2 1 8)
    ∷ delivers (echoes_to 0 2 1 8)
    ∷ delivers (echoes_to 1 2 1 8)
    ∷ delivers (echoes_to 2 2 1 8)
    ∷ delivers (readies_to 1 2 1 8)
    ∷ delivers (readies_to 2 2 1 8)
    ∷ forges (WriteDone 3 2 1)
    ∷ delivers (WriteDone 1 2 1 ∷ WriteDone 2 2 1 ∷ [])
    ∷ takes (WriteDone 3 2 1) (write_ended 2 1)
    ∷ calls (BeginRead 0 2) done
    ∷ forges (StateOf 3 0 2 2 0)
    ∷ takes (StateOf 3 0 2 2 0) done
    ∷ stage 0 (Querying 2 1 0)
    ∷ takes (Read 0 0 2 1) done
    ∷ forges (StateOf 3 0 2 1 0)
    ∷ delivers (StateOf 0 0 2 1 0 ∷ StateOf 3 0 2 1 0 ∷ [])
    ∷ takes (StateOf 1 0 1 1 0) done
    ∷ stage 0 (Querying 2 1 (stations (0 ∷ 3 ∷ [])))
    ∷ delivers (Read 0 1 2 1 ∷ StateOf 1 0 2 1 1 ∷ [])
    ∷ stage 0 (Querying 2 1 (stations (0 ∷ 1 ∷ 3 ∷ [])))
    ∷ delivers (readies_to 0 2 1 8)
    ∷ stage 0 (Catching 2 1 8 0)
    ∷ []

-- Only first votes count, of each kind of vote for itself. ECHO and READY are sent once: a second INIT gets no ECHO, and
-- a further vote no READY.
abbrev pub repeated_votes : List Line
repeated_votes =
    hands (counting 4 1)
    ∷ opens (3 ∷ [])
    ∷ forges (Ready 3 0 1 1 6)
    ∷ forges (Ready 3 0 1 1 6)
    ∷ forges (Ready 3 0 1 1 7)
    ∷ delivers (Ready 3 0 1 1 6 ∷ Ready 3 0 1 1 6 ∷ Ready 3 0 1 1 7 ∷ [])
    ∷ waiting []
    ∷ calls (BeginWrite 1 6) done
    ∷ delivers (Init 1 1 1 6 ∷ Init 1 2 1 6 ∷ [])
    ∷ delivers (Echo 1 0 1 1 6 ∷ Echo 2 0 1 1 6 ∷ [])
    ∷ forges (Echo 3 0 1 1 6)
    ∷ takes (Echo 3 0 1 1 6) done
    ∷ joined (map (λ i. Ready 0 i 1 1 6) four)
    ∷ delivers (Init 1 0 1 6 ∷ Echo 0 0 1 1 6 ∷ [])
    ∷ joined (Ready 0 3 1 1 6 ∷ Echo 0 1 1 1 6 ∷ Echo 0 2 1 1 6 ∷ Echo 0 3 1 1 6 ∷ [])
    ∷ forges (Init 3 0 1 6)
    ∷ forges (Init 3 0 1 7)
    ∷ delivers (Init 3 0 1 6 ∷ Init 3 0 1 7 ∷ [])
    ∷ joined (Echo 0 3 1 1 6 ∷ map (λ i. Echo 0 i 3 1 6) four)
    ∷ []

-- Station 3 reports a number that nobody wrote, and then another: only its first report is kept, and the reader goes
-- on by the reports of the others. Its answer to the catch-up counts once, and not for another register or number.
abbrev pub forged_report : List Line
forged_report =
    hands (counting 4 1)
    ∷ opens (3 ∷ [])
    ∷ calls (BeginRead 0 1) done
    ∷ delivers (map (λ i. Read 0 i 1 1) three)
    ∷ forges (StateOf 3 0 1 1 5)
    ∷ forges (StateOf 3 0 1 1 0)
    ∷ delivers (StateOf 3 0 1 1 5 ∷ StateOf 0 0 1 1 0 ∷ StateOf 1 0 1 1 0 ∷ StateOf 3 0 1 1 0 ∷ [])
    ∷ stage 0 (Querying 1 1 (stations (0 ∷ 1 ∷ 3 ∷ [])))
    ∷ takes (StateOf 2 0 1 1 0) done
    ∷ stage 0 (Catching 1 0 5 0)
    ∷ joined (map (λ i. CatchUp 0 i 1 0) four)
    ∷ forges (CatchUpDone 3 0 2 0)
    ∷ forges (CatchUpDone 3 0 1 5)
    ∷ delivers (CatchUpDone 3 0 2 0 ∷ CatchUpDone 3 0 1 5 ∷ [])
    ∷ stage 0 (Catching 1 0 5 0)
    ∷ forges (CatchUpDone 3 0 1 0)
    ∷ forges (CatchUpDone 3 0 1 0)
    ∷ delivers (CatchUp 0 0 1 0 ∷ CatchUpDone 3 0 1 0 ∷ CatchUpDone 3 0 1 0 ∷ CatchUpDone 0 0 1 0 ∷ [])
    ∷ stage 0 (Catching 1 0 5 (stations (0 ∷ 3 ∷ [])))
    ∷ takes (CatchUp 0 1 1 0) done
    ∷ takes (CatchUpDone 1 0 1 0) (read_ended 0 1 0 5)
    ∷ []

-- A faulty receiver only removes a message, whatever it is, and also one that is ahead.
abbrev pub faulty_receiver : List Line
faulty_receiver =
    hands (counting 4 1)
    ∷ opens (3 ∷ [])
    ∷ calls (BeginWrite 0 7) done
    ∷ takes (Init 0 3 1 7) done
    ∷ forges (Ready 3 3 0 9 7)
    ∷ forges (Read 3 3 0 1)
    ∷ forges (CatchUp 3 3 0 4)
    ∷ delivers (Ready 3 3 0 9 7 ∷ Read 3 3 0 1 ∷ CatchUp 3 3 0 4 ∷ [])
    ∷ waiting (Init 0 0 1 7 ∷ Init 0 1 1 7 ∷ Init 0 2 1 7 ∷ [])
    ∷ []

-- Six stations at four sites, both of site 0 faulty. Two votes of one site bring nobody along, and with station 4 they
-- do; four votes that lack one site alone are enough.
abbrev pub one_site_lies : List Line
one_site_lies =
    hands (sites (0 ∷ 0 ∷ 1 ∷ 1 ∷ 2 ∷ 3 ∷ []))
    ∷ opens (0 ∷ 1 ∷ [])
    ∷ calls (BeginWrite 2 8) done
    ∷ delivers (Init 2 4 1 8 ∷ Init 2 5 1 8 ∷ [])
    ∷ forges (Echo 0 4 2 1 8)
    ∷ forges (Echo 1 4 2 1 8)
    ∷ delivers (Echo 0 4 2 1 8 ∷ Echo 1 4 2 1 8 ∷ Echo 4 4 2 1 8 ∷ [])
    ∷ joined (Echo 5 5 2 1 8 ∷ [])
    ∷ takes (Echo 5 4 2 1 8) done
    ∷ joined (map (λ i. Ready 4 i 2 1 8) (0 ∷ 1 ∷ 2 ∷ 3 ∷ 4 ∷ 5 ∷ []))
    ∷ forges (Ready 0 3 2 1 8)
    ∷ forges (Ready 1 3 2 1 8)
    ∷ delivers (Ready 0 3 2 1 8 ∷ Ready 1 3 2 1 8 ∷ [])
    ∷ joined (Ready 4 5 2 1 8 ∷ [])
    ∷ takes (Ready 4 3 2 1 8) done
    ∷ joined (map (λ i. Ready 3 i 2 1 8) (0 ∷ 1 ∷ 2 ∷ 3 ∷ 4 ∷ 5 ∷ []))
    ∷ forges (WriteDone 0 2 1)
    ∷ forges (WriteDone 1 2 1)
    ∷ delivers (WriteDone 0 2 1 ∷ WriteDone 1 2 1 ∷ [])
    ∷ stage 2 (Writing 1 (stations (0 ∷ 1 ∷ [])))
    ∷ []
