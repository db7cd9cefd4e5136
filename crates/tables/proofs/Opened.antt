-- Tables that hold what opening writes show the state of a bench that has just been opened.
use Rattle.std.proofs.Common.{◌≡◌, ℕ, ◌*◌, ◌≤◌, List, [], ◌∷◌, None, Option, ap, ap₂, ◌∙◌, arith}
use Rattle.std.proofs.Math.Path.{fun_ext}
use Rattle.slices.specs.Lent.{Filled}
use Rattle.grid.specs.Grid.{shown, line, pairs, triples, halves}
use Rattle.grid.proofs.Entries.{entries, shown_clear}
use Rattle.machine.specs.declared.figures.Figures.{Figures}
use Rattle.machine.specs.declared.message.Message.{Message}
use Rattle.machine.specs.declared.station.Station.{Station}
use Rattle.machine.specs.declared.station.RegisterCopy.{RegisterCopy}
use Rattle.machine.specs.State.{State, fresh_cell}
use Rattle.machine.specs.Calls.{first_station, at_opening}
use Rattle.tables.specs.View.{first_copy, cells}

clear : {X : Type 0} (d : X) (h n : ℕ) (xs ys : List X) (m : ℕ) → Filled 0 m d xs ys → (i : ℕ) (is : List ℕ) → entries n h is ≤ m → shown d h n ys i is ≡ d
clear d h n xs ys m filled i is room = shown_clear d h n ys i is (λ k l. filled.inside k d (omega arith) (omega (arith, l, room)))

module _ {V : Type 0} (f : Figures V) (copies copies' : List (RegisterCopy V)) (votes votes' : List (Option V)) (stations stations' : List (Station V))
    (reads reads' reports reports' held held' : List ℕ)
    (of_copies : Filled 0 (f.stations * f.stations) (first_copy f.opening) copies copies') (of_votes : Filled 0 (2 * f.stations * f.stations * f.stations) None votes votes')
    (of_stations : Filled 0 f.stations (first_station f.opening) stations stations') (of_reads : Filled 0 (f.stations * f.stations) 0 reads reads')
    (of_reports : Filled 0 (f.stations * f.stations) 0 reports reports') (of_held : Filled 0 (f.stations * f.stations * f.stations) 0 held held') where
  abbrev n : ℕ
  n = f.stations

  abbrev d : RegisterCopy V
  d = first_copy f.opening

  no_vote : (half i j : ℕ) → halves None n votes' half i j ≡ (λ _. None)
  no_vote half i j = fun_ext (λ k. clear None 2 n votes votes' _ of_votes half (i ∷ j ∷ k ∷ []) (omega arith))

  first_cells : cells f copies' votes' ≡ (λ _ _. fresh_cell f.opening 0)
  first_cells =
      fun_ext (λ i. fun_ext (λ j.
      ap (λ (c : RegisterCopy V). record { copy = c; echoes = halves None n votes' 0 i j; readies = halves None n votes' 1 i j })
      (clear d n n copies copies' _ of_copies i (j ∷ []) (omega arith))
      ∙ ap₂ (λ (x y : ℕ → Option V). record { copy = d; echoes = x; readies = y }) (no_vote 0 i j) (no_vote 1 i j)))

  numbers : (xs ys : List ℕ) → Filled 0 (n * n) 0 xs ys → pairs 0 n ys ≡ (λ _ _. 0)
  numbers xs ys filled = fun_ext (λ i. fun_ext (λ j. clear 0 n n xs ys _ filled i (j ∷ []) (omega arith)))

  pub shows_opening : (pool : List (Message V)) → pool ≡ []
      → ◌≡◌ {A = State V}
      (record {
        figures = f;
        cell = cells f copies' votes';
        station = line (first_station f.opening) n stations';
        reads = pairs 0 n reads';
        reports = pairs 0 n reports';
        held = triples 0 n held';
        pool = pool;
      })
      (at_opening f)
  shows_opening pool none =
      let s = at_opening f in
      ap (λ part. record { figures = f; cell = part; station = line (first_station f.opening) n stations'; reads = pairs 0 n reads'; reports = pairs 0 n reports'; held = triples 0 n held'; pool = pool }) first_cells
      ∙ ap (λ part. record s { station = part; reads = pairs 0 n reads'; reports = pairs 0 n reports'; held = triples 0 n held'; pool = pool })
      (fun_ext (λ i. clear (first_station f.opening) n n stations stations' _ of_stations i [] (omega arith)))
      ∙ ap₂ (λ x y. record s { reads = x; reports = y; held = triples 0 n held'; pool = pool }) (numbers reads reads' of_reads) (numbers reports reports' of_reports)
      ∙ ap₂ (λ x y. record s { held = x; pool = y })
      (fun_ext (λ i. fun_ext (λ j. fun_ext (λ k. clear 0 n n held held' _ of_held i (j ∷ k ∷ []) (omega arith))))) none
