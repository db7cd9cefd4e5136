-- What many schedules have in common.
use Rattle.std.specs.Prelude.{ℕ, List, [], ◌∷◌, map}
use Rattle.machine.specs.declared.message.Message.{Message}
use Rattle.machine.specs.declared.message.Message.TheVariants.{Init, Echo, Ready}
use Rattle.machine.specs.declared.call.Opening.{Opening}
use Rattle.machine.specs.declared.call.Call.TheVariants.{Open, Forge}
use Rattle.examples.specs.Systems.{stations}
use Rattle.examples.specs.Lines.{done, Line, calls, fields}

-- an opening with the opening value 5
abbrev pub opening : (faulty : List ℕ) (highest places : ℕ) → Opening ℕ
opening faulty highest places = record { faulty = stations faulty; highest = highest; places = places; value = 5 }

-- open with these faulty stations, the highest number 9, and a pool of 100 places
abbrev pub opens : List ℕ → Line
opens faulty = calls (Open (opening faulty 9 100)) done

-- a faulty station sends this message
abbrev pub forges : Message ℕ → Line
forges m = calls (Forge (fields m)) done

-- the correct stations of a bench of four whose station 3 is faulty, and all of them
abbrev pub three : List ℕ
three = 0 ∷ 1 ∷ 2 ∷ []

abbrev pub four : List ℕ
four = 0 ∷ 1 ∷ 2 ∷ 3 ∷ []

-- what the three send to one another for write x of register j, with the value v: the owner's INITs, and the ECHO and
-- READY votes to station i
abbrev pub inits : (j x v : ℕ) → List (Message ℕ)
inits j x v = map (λ i. Init j i x v) three

abbrev pub echoes_to : (i j x v : ℕ) → List (Message ℕ)
echoes_to i j x v = map (λ k. Echo k i j x v) three

abbrev pub readies_to : (i j x v : ℕ) → List (Message ℕ)
readies_to i j x v = map (λ k. Ready k i j x v) three
