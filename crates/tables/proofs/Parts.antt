-- One table of the bench changes, and the others stay.
use Rattle.std.proofs.Common.{◌≡◌, ℕ, ◌*◌, ◌≤◌, List, [], Option, refl, sym, subst, arith}
use Rattle.std.specs.Borrow.{MutBor}
use Rattle.std.specs.List.{All}
use Rattle.std.proofs.lemmas.List.Elements.{All-nil}
use Rattle.slices.specs.Lent.{SamePast}
use Rattle.slices.proofs.Lent.{past_none}
use Rattle.pool.specs.declared.Pool.{Pool}
use Rattle.pool.specs.Pool.{in_order}
use Rattle.machine.specs.declared.figures.Figures.{Figures}
use Rattle.machine.specs.declared.message.Message.{Message}
use Rattle.machine.specs.declared.station.Station.{Station}
use Rattle.machine.specs.declared.station.RegisterCopy.{RegisterCopy}
use Rattle.machine.specs.State.{State}
use Rattle.machine.specs.Calls.{Names}
use Rattle.tables.specs.declared.lent.Tables.{Tables}
use Rattle.tables.specs.View.{view, Room, Sound, SameLent, Becomes}

module _ {V : Type 0} (f : Figures V) (t : Tables V) where
  abbrev n : ℕ
  n = f.stations

  room_kept : {u : Tables V} → SameLent f t u → Room f t → Room f u
  room_kept lent room =
      record {
        few = room.few;
        numbers = room.numbers;
        places = room.places;
        slots = omega (arith, lent.messages.length, room.slots);
        votes = omega (arith, lent.votes.length, room.votes);
        held = omega (arith, lent.held.length, room.held);
        stations = omega (arith, lent.stations.length, room.stations);
        copies = omega (arith, lent.copies.length, room.copies);
        reads = omega (arith, lent.reads.length, room.reads);
        reports = omega (arith, lent.reports.length, room.reports);
      }

  -- where no message waits
  pub fresh_becomes : (u : Tables V) {s : State V} → Room f t → SameLent f t u → u.pool.waiting ≡ 0 → in_order u.pool ≡ [] → view f u ≡ s → Becomes f t u s
  fresh_becomes u room lent waiting none shows =
      record {
        shows = shows;
        sound = record { room = room_kept lent room; waiting = omega (arith, waiting); named = subst (All (Names n)) (sym none) (All-nil (Names n)) };
        lent = lent;
      }

  -- tables that stay as long as they were have room as before
  module _ (sound : Sound f t) (s : State V) where
    becomes : (u : Tables V) → SameLent f t u → u.pool.waiting ≤ f.places → All (Names n) (in_order u.pool) → view f u ≡ s → Becomes f t u s
    becomes u lent waiting named shows =
        record {
          shows = shows;
          sound =
              record {
                room = room_kept lent sound.room;
                waiting = waiting;
                named = named;
              };
          lent = lent;
        }

    pub pool_becomes : (p : Pool (Message V)) → SamePast f.places t.pool.slots p.slots → p.waiting ≤ f.places → All (Names n) (in_order p) → view f (record t { pool = p }) ≡ s
        → Becomes f t (record t { pool = p }) s
    pool_becomes p past waiting named shows =
        becomes (record t { pool = p })
        (record { messages = past; votes = past_none _ t.votes; held = past_none _ t.held; stations = past_none _ t.stations; copies = past_none _ t.copies; reads = past_none _ t.reads; reports = past_none _ t.reports })
        waiting named shows

    pub votes_become : (w : MutBor (List (Option V))) → SamePast (2 * n * n * n) t.votes w → view f (record t { votes = w }) ≡ s → Becomes f t (record t { votes = w }) s
    votes_become w past shows =
        becomes (record t { votes = w })
        (record { messages = past_none _ t.pool.slots; votes = past; held = past_none _ t.held; stations = past_none _ t.stations; copies = past_none _ t.copies; reads = past_none _ t.reads; reports = past_none _ t.reports })
        sound.waiting sound.named shows

    pub held_become : (w : MutBor (List ℕ)) → SamePast (n * n * n) t.held w → view f (record t { held = w }) ≡ s → Becomes f t (record t { held = w }) s
    held_become w past shows =
        becomes (record t { held = w })
        (record { messages = past_none _ t.pool.slots; votes = past_none _ t.votes; held = past; stations = past_none _ t.stations; copies = past_none _ t.copies; reads = past_none _ t.reads; reports = past_none _ t.reports })
        sound.waiting sound.named shows

    pub stations_become : (w : MutBor (List (Station V))) → SamePast n t.stations w → view f (record t { stations = w }) ≡ s → Becomes f t (record t { stations = w }) s
    stations_become w past shows =
        becomes (record t { stations = w })
        (record { messages = past_none _ t.pool.slots; votes = past_none _ t.votes; held = past_none _ t.held; stations = past; copies = past_none _ t.copies; reads = past_none _ t.reads; reports = past_none _ t.reports })
        sound.waiting sound.named shows

    pub copies_become : (w : MutBor (List (RegisterCopy V))) → SamePast (n * n) t.copies w → view f (record t { copies = w }) ≡ s → Becomes f t (record t { copies = w }) s
    copies_become w past shows =
        becomes (record t { copies = w })
        (record { messages = past_none _ t.pool.slots; votes = past_none _ t.votes; held = past_none _ t.held; stations = past_none _ t.stations; copies = past; reads = past_none _ t.reads; reports = past_none _ t.reports })
        sound.waiting sound.named shows

    pub reads_become : (w : MutBor (List ℕ)) → SamePast (n * n) t.reads w → view f (record t { reads = w }) ≡ s → Becomes f t (record t { reads = w }) s
    reads_become w past shows =
        becomes (record t { reads = w })
        (record { messages = past_none _ t.pool.slots; votes = past_none _ t.votes; held = past_none _ t.held; stations = past_none _ t.stations; copies = past_none _ t.copies; reads = past; reports = past_none _ t.reports })
        sound.waiting sound.named shows

    pub reports_become : (w : MutBor (List ℕ)) → SamePast (n * n) t.reports w → view f (record t { reports = w }) ≡ s → Becomes f t (record t { reports = w }) s
    reports_become w past shows =
        becomes (record t { reports = w })
        (record { messages = past_none _ t.pool.slots; votes = past_none _ t.votes; held = past_none _ t.held; stations = past_none _ t.stations; copies = past_none _ t.copies; reads = past_none _ t.reads; reports = past })
        sound.waiting sound.named shows
