-- Schedules in lines, and how the machine's definitions play them.
use Rattle.std.specs.Prelude.{ℕ, suc, ◌-◌, Bool, cond, ◌&&◌, List, [], ◌∷◌, length, drop, Some, None, ◌==◌, Ok, Err, Result}
use Rattle.decline.specs.declared.Decline.{Decline}
use Rattle.decline.specs.Numbers.{number_of}
use Rattle.machine.specs.declared.message.Message.{Message}
use Rattle.machine.specs.declared.station.Stage.{Stage}
use Rattle.machine.specs.declared.call.Forgery.{Forgery}
use Rattle.machine.specs.declared.call.Call.{Call}
use Rattle.machine.specs.declared.call.Call.TheVariants.{Take}
use Rattle.machine.specs.declared.call.Answer.{Answer}
use Rattle.machine.specs.declared.call.Answer.TheVariants.{Done, WriteEnded, ReadEnded, Counted}
use Rattle.machine.specs.State.{Setting, State, number}
use Rattle.machine.specs.Calls.{Lengths, Bench, spelled, call_on}
use Rattle.machine.specs.Runs.{is_done}
use Rattle.examples.specs.Systems.{System, setting, counting}

-- what a call says; a decline by its number
pub data Said : Type 0 where
  done : Said
  write_ended : (station number : ℕ) → Said
  read_ended : (station register number value : ℕ) → Said
  counted : (waiting takeable : ℕ) → Said
  declined : (number : ℕ) → Said

abbrev pub said : Result (Answer ℕ) Decline → Said
said (Ok Done) = done
said (Ok (WriteEnded i x)) = write_ended i x
said (Ok (ReadEnded i j x v)) = read_ended i j x v
said (Ok (Counted waiting takeable)) = counted waiting takeable
said (Err reason) = declined (number_of reason)

-- A schedule is a list of lines, played from a closed bench on.
pub data Line : Type 0 where
  -- from here on this system is handed in, or these tables are lent
  hands : System → Line
  lends : Lengths → Line
  -- a call, and what it says
  calls : Call ℕ → Said → Line
  -- the take of the first waiting message that is the same as this one, and what it says
  takes : Message ℕ → Said → Line
  -- such takes one after the other, each of which says done
  delivers : List (Message ℕ) → Line
  -- looks at the bench: it is closed; these messages wait, in this order; these joined last
  closed : Line
  waiting : List (Message ℕ) → Line
  joined : List (Message ℕ) → Line
  -- station i's copy of register j has this value and this number; i is at this stage; i holds this number for k about j
  copy : (i j value number : ℕ) → Line
  stage : (i : ℕ) → Stage ℕ → Line
  held : (i k j number : ℕ) → Line

-- a message with all its fields; the opening value of all schedules is 5
abbrev pub fields : Message ℕ → Forgery ℕ
fields m = spelled 5 m

abbrev pub same_fields : Forgery ℕ → Forgery ℕ → Bool
same_fields f g =
    (f.kind == g.kind)
    && (f.sender == g.sender
    && (f.receiver == g.receiver
    && (f.register == g.register && (f.number == g.number && (f.read == g.read && f.value == g.value)))))

-- the place of the first message that is the same; past the last where none is
abbrev pub place_of : Message ℕ → List (Message ℕ) → ℕ
place_of m [] = 0
place_of m (other ∷ others) = cond (same_fields (fields m) (fields other)) 0 (suc (place_of m others))

abbrev pub place_in : Message ℕ → Bench ℕ → ℕ
place_in m None = 0
place_in m (Some s) = place_of m s.pool

-- the last so many of a list
abbrev pub last : {A : Type 0} → ℕ → List A → List A
last count list = drop (length list - count) list

abbrev pub look : Bench ℕ → (State ℕ → Line) → Line
look None see = closed
look (Some s) see = see s

-- a bench after takes, and the messages up to the first whose take does not say done
pub record Delivery : Type 0 where
  pub bench : Bench ℕ
  pub messages : List (Message ℕ)

abbrev pub deliver : Lengths → Setting ℕ → Bench ℕ → List (Message ℕ) → Delivery
deliver t c b [] = record { bench = b; messages = [] }
deliver t c b (m ∷ rest) =
    let reply = call_on c t b (Take (place_in m b)) in
    let later = deliver t c reply.bench rest in
    record { bench = later.bench; messages = cond (is_done (Some reply.answer)) (m ∷ later.messages) [] }

-- the lines as the machine writes them: what calls say and what looks show is what its definitions give
abbrev pub play : Lengths → Setting ℕ → Bench ℕ → List Line → List Line
play t c b [] = []
play t c b (hands system ∷ rest) = hands system ∷ play t (setting system) b rest
play t c b (lends tables ∷ rest) = lends tables ∷ play tables c b rest
play t c b (calls call answer ∷ rest) =
    let reply = call_on c t b call in calls call (said reply.answer) ∷ play t c reply.bench rest
play t c b (takes m answer ∷ rest) =
    let reply = call_on c t b (Take (place_in m b)) in takes m (said reply.answer) ∷ play t c reply.bench rest
play t c b (delivers messages ∷ rest) =
    let delivery = deliver t c b messages in delivers delivery.messages ∷ play t c delivery.bench rest
play t c b (closed ∷ rest) = look b (λ s. waiting s.pool) ∷ play t c b rest
play t c b (waiting messages ∷ rest) = look b (λ s. waiting s.pool) ∷ play t c b rest
play t c b (joined messages ∷ rest) = look b (λ s. joined (last (length messages) s.pool)) ∷ play t c b rest
play t c b (copy i j value x ∷ rest) = look b (λ s. copy i j (s.cell i j).copy.value (number s i j)) ∷ play t c b rest
play t c b (stage i at ∷ rest) = look b (λ s. stage i (s.station i).stage) ∷ play t c b rest
play t c b (held i k j x ∷ rest) = look b (λ s. held i k j (s.held i k j)) ∷ play t c b rest

-- tables that suffice for every bench
abbrev pub ample : Lengths
ample = record { messages = 4000; votes = 2000; held = 1000; stations = 10; copies = 100; reads = 100; reports = 100 }

abbrev pub played : List Line → List Line
played lines = play ample (setting (counting 0 0)) None lines
