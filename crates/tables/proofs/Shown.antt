-- What the tables show after a write: the table's entry, and with it one part of the state, becomes another.
use Rattle.std.proofs.Common.{◌≡◌, ℕ, ◌+◌, ◌*◌, ◌<◌, ◌≤◌, Bool, true, false, cond, ◌&&◌, eqb, List, length, get_or, set, Some, None, Option, refl, sym, ap, ap₂, ◌∙◌, arith}
use Rattle.std.proofs.Math.Path.{fun_ext}
use Rattle.std.proofs.lemmas.Bool.{and_parts, and_from, eqb-true, eq-eqb}
use Rattle.std.proofs.lemmas.Bool.Decides.{nat_tests}
use Rattle.slices.specs.Lent.{Filled}
use Rattle.grid.specs.Grid.{row_index, line, pairs, triples}
use Rattle.grid.proofs.Entries.{line-set, pairs-set, triples-set, halves-set, halves-fill, halves_is}
use Rattle.machine.specs.declared.figures.Figures.{Figures}
use Rattle.machine.specs.declared.station.Stage.{Stage}
use Rattle.machine.specs.declared.station.Station.{Station}
use Rattle.machine.specs.declared.station.RegisterCopy.{RegisterCopy}
use Rattle.machine.specs.State.{Cell, put, put_pair, put_triple}
use Rattle.tables.specs.declared.lent.VoteKind.{VoteKind}
use Rattle.tables.specs.declared.lent.VoteKind.TheVariants.{Echo, Ready}
use Rattle.tables.specs.View.{first_copy, half, votes_shown, cells, votes_of}
use Rattle.tables.specs.Changes.{no_votes, vote}

-- a table that is another but for one entry
put_pair_by : {A : Type 0} (F G : ℕ → ℕ → A) (i j : ℕ) (x : A) → ((a b : ℕ) → (eqb a i && eqb b j) ≡ false → F a b ≡ G a b) → F i j ≡ x → F ≡ put_pair i j x G
put_pair_by F G i j x away here = fun_ext (λ a. fun_ext (λ b. entry a b (eqb a i && eqb b j) refl))
  where
    entry : (a b : ℕ) (t : Bool) → (eqb a i && eqb b j) ≡ t → F a b ≡ cond t x (G a b)
    entry a b true e =
        let r = and_parts (eqb a i) (eqb b j) e in
        ap₂ F (eqb-true a i r.0) (eqb-true b j r.1) ∙ here
    entry a b false e = away a b e

module _ {V : Type 0} (f : Figures V) where
  abbrev n : ℕ
  n = f.stations

  abbrev d : RegisterCopy V
  d = first_copy f.opening

  pub cells-copy : (copies : List (RegisterCopy V)) (votes : List (Option V)) (i j : ℕ) (copy : RegisterCopy V) → n * n ≤ length copies → i < n → j < n
      → cells f (set copies (row_index n i j) copy) votes
      ≡ put_pair i j (record { copy = copy; echoes = votes_shown n votes Echo i j; readies = votes_shown n votes Ready i j }) (cells f copies votes)
  cells-copy copies votes i j copy room p q =
      put_pair_by (cells f (set copies (row_index n i j) copy) votes) (cells f copies votes) i j _
      (λ a b e. ap (λ (k : RegisterCopy V). record { copy = k; echoes = votes_shown n votes Echo a b; readies = votes_shown n votes Ready a b }) (pairs-set d n copies i j copy room p q a b ∙ ap (λ t. cond t copy (pairs d n copies a b)) e))
      (ap (λ (k : RegisterCopy V). record { copy = k; echoes = votes_shown n votes Echo i j; readies = votes_shown n votes Ready i j })
      (pairs-set d n copies i j copy room p q i j ∙ ap (λ t. cond t copy (pairs d n copies i j)) (and_from (eqb i i) (eqb j j) (eq-eqb i i refl) (eq-eqb j j refl))))

  -- votes that are others but for those of one cell
  votes_by : (copies : List (RegisterCopy V)) (us vs : List (Option V)) (i j : ℕ) (c : Cell V)
      → ((kind : VoteKind) (a b k : ℕ) → (eqb a i && eqb b j) ≡ false → votes_shown n us kind a b k ≡ votes_shown n vs kind a b k)
      → cells f copies us i j ≡ c → cells f copies us ≡ put_pair i j c (cells f copies vs)
  votes_by copies us vs i j c away here =
      put_pair_by (cells f copies us) (cells f copies vs) i j c
      (λ a b e.
      ap₂ (λ (x y : ℕ → Option V). record { copy = pairs d n copies a b; echoes = x; readies = y })
      (fun_ext (λ k. away Echo a b k e)) (fun_ext (λ k. away Ready a b k e)))
      here

  pub cells-vote : (copies : List (RegisterCopy V)) (votes : List (Option V)) (kind : VoteKind) (i j k : ℕ) (v : V) → 2 * n * n * n ≤ length votes → i < n → j < n → k < n
      → cells f copies (set votes (row_index n (row_index n (half kind) i) j * n + k) (Some v)) ≡ put_pair i j (vote kind k v (cells f copies votes i j)) (cells f copies votes)
  cells-vote copies votes Echo i j k v room p q r =
      votes_by copies (set votes (row_index n (row_index n 0 i) j * n + k) (Some v)) votes i j _
      (λ kind a b m e. halves-set None n votes 0 i j k (Some v) room (omega arith) p q r (half kind) a b m ∙ other kind a b m e)
      (ap₂ (λ (x y : ℕ → Option V). record { copy = pairs d n copies i j; echoes = x; readies = y })
      (fun_ext (λ m. halves-set None n votes 0 i j k (Some v) room (omega arith) p q r 0 i j m ∙ same m))
      (fun_ext (λ m. halves-set None n votes 0 i j k (Some v) room (omega arith) p q r 1 i j m)))
    where
      other : (kind : VoteKind) (a b m : ℕ) → (eqb a i && eqb b j) ≡ false
          → cond (eqb (half kind) 0 && (eqb a i && (eqb b j && eqb m k))) (Some v) (votes_shown n votes kind a b m) ≡ votes_shown n votes kind a b m
      other kind a b m e = grind (arith, nat_tests)

      same : (m : ℕ) → cond (eqb i i && (eqb j j && eqb m k)) (Some v) (votes_shown n votes Echo i j m) ≡ put k (Some v) (votes_shown n votes Echo i j) m
      same m = grind (arith, nat_tests)
  cells-vote copies votes Ready i j k v room p q r =
      votes_by copies (set votes (row_index n (row_index n 1 i) j * n + k) (Some v)) votes i j _
      (λ kind a b m e. halves-set None n votes 1 i j k (Some v) room (omega arith) p q r (half kind) a b m ∙ other kind a b m e)
      (ap₂ (λ (x y : ℕ → Option V). record { copy = pairs d n copies i j; echoes = x; readies = y })
      (fun_ext (λ m. halves-set None n votes 1 i j k (Some v) room (omega arith) p q r 0 i j m))
      (fun_ext (λ m. halves-set None n votes 1 i j k (Some v) room (omega arith) p q r 1 i j m ∙ same m)))
    where
      other : (kind : VoteKind) (a b m : ℕ) → (eqb a i && eqb b j) ≡ false
          → cond (eqb (half kind) 1 && (eqb a i && (eqb b j && eqb m k))) (Some v) (votes_shown n votes kind a b m) ≡ votes_shown n votes kind a b m
      other kind a b m e = grind (arith, nat_tests)

      same : (m : ℕ) → cond (eqb i i && (eqb j j && eqb m k)) (Some v) (votes_shown n votes Ready i j m) ≡ put k (Some v) (votes_shown n votes Ready i j) m
      same m = grind (arith, nat_tests)

-- the votes of a kind in one cell are gone
pub cells-clear : {V : Type 0} (f : Figures V) (copies : List (RegisterCopy V)) (us vs : List (Option V)) (kind : VoteKind) (i j : ℕ)
    → Filled (row_index f.stations (row_index f.stations (half kind) i) j * f.stations) f.stations None vs us → i < f.stations → j < f.stations
    → cells f copies us ≡ put_pair i j (no_votes kind (cells f copies vs i j)) (cells f copies vs)
cells-clear {V} f copies us vs kind i j filled p q =
    votes_by f copies us vs i j _ (λ g a b k e. shown kind filled g a b k ∙ away kind g a b k e) (here kind filled)
  where
    shown : (kind : VoteKind) → Filled (row_index f.stations (row_index f.stations (half kind) i) j * f.stations) f.stations None vs us → (g : VoteKind) (a b k : ℕ)
        → votes_shown f.stations us g a b k ≡ cond (eqb (half g) (half kind) && (eqb a i && eqb b j)) None (votes_shown f.stations vs g a b k)
    shown Echo filled g a b k = halves-fill None f.stations vs us 0 i j filled (omega arith) p q (half g) a b k
    shown Ready filled g a b k = halves-fill None f.stations vs us 1 i j filled (omega arith) p q (half g) a b k

    away : (kind g : VoteKind) (a b k : ℕ) → (eqb a i && eqb b j) ≡ false
        → cond (eqb (half g) (half kind) && (eqb a i && eqb b j)) None (votes_shown f.stations vs g a b k) ≡ votes_shown f.stations vs g a b k
    away kind g a b k e = grind (arith, nat_tests)

    same : (k : ℕ) (o : Option V) → cond (true && (eqb i i && eqb j j)) None o ≡ None
    same k o = grind (arith, nat_tests)

    cell : (ℕ → Option V) → (ℕ → Option V) → Cell V
    cell x y = record { copy = pairs (first_copy f.opening) f.stations copies i j; echoes = x; readies = y }

    here : (kind : VoteKind) → Filled (row_index f.stations (row_index f.stations (half kind) i) j * f.stations) f.stations None vs us → cells f copies us i j ≡ no_votes kind (cells f copies vs i j)
    here Echo filled = ap₂ cell (fun_ext (λ k. shown Echo filled Echo i j k ∙ same k _)) (fun_ext (λ k. shown Echo filled Ready i j k))
    here Ready filled = ap₂ cell (fun_ext (λ k. shown Ready filled Echo i j k)) (fun_ext (λ k. shown Ready filled Ready i j k ∙ same k _))

-- a table by one, two or three stations, after a write
pub line-put : {X : Type 0} (d : X) (n : ℕ) (xs : List X) (i : ℕ) (x : X) → n ≤ length xs → i < n → line d n (set xs i x) ≡ put i x (line d n xs)
line-put d n xs i x room p = fun_ext (λ a. line-set d n xs i x room p a)

pub pairs-put : {X : Type 0} (d : X) (n : ℕ) (xs : List X) (i j : ℕ) (x : X) → n * n ≤ length xs → i < n → j < n
    → pairs d n (set xs (row_index n i j) x) ≡ put_pair i j x (pairs d n xs)
pairs-put d n xs i j x room p q = fun_ext (λ a. fun_ext (λ b. pairs-set d n xs i j x room p q a b))

pub triples-put : {X : Type 0} (d : X) (n : ℕ) (xs : List X) (i j k : ℕ) (x : X) → n * n * n ≤ length xs → i < n → j < n → k < n
    → triples d n (set xs (row_index n (row_index n i j) k) x) ≡ put_triple i j k x (triples d n xs)
triples-put d n xs i j k x room p q r = fun_ext (λ a. fun_ext (λ b. fun_ext (λ c. triples-set d n xs i j k x room p q r a b c)))

-- a station's stage, or the number of its last write, becomes another
pub put_stage : {V : Type 0} (F : ℕ → Station V) (i : ℕ) (stage : Stage V)
    → put i (record { opening = (F i).opening; written = (F i).written; stage = stage }) F
    ≡ (λ a. record { opening = (F a).opening; written = (F a).written; stage = put i stage (λ b. (F b).stage) a })
put_stage {V} F i stage = fun_ext (λ a. at a (eqb a i) refl)
  where
    at : (a : ℕ) (t : Bool) → eqb a i ≡ t
        → ◌≡◌ {A = Station V} (cond t (record { opening = (F i).opening; written = (F i).written; stage = stage }) (F a)) (record { opening = (F a).opening; written = (F a).written; stage = cond t stage (F a).stage })
    at a true e = ap (λ b. record { opening = (F b).opening; written = (F b).written; stage = stage }) (sym (eqb-true a i e))
    at a false e = refl

pub put_written : {V : Type 0} (F : ℕ → Station V) (i x : ℕ)
    → put i (record { opening = (F i).opening; written = x; stage = (F i).stage }) F
    ≡ (λ a. record { opening = (F a).opening; written = put i x (λ b. (F b).written) a; stage = (F a).stage })
put_written {V} F i x = fun_ext (λ a. at a (eqb a i) refl)
  where
    at : (a : ℕ) (t : Bool) → eqb a i ≡ t
        → ◌≡◌ {A = Station V} (cond t (record { opening = (F i).opening; written = x; stage = (F i).stage }) (F a)) (record { opening = (F a).opening; written = cond t x (F a).written; stage = (F a).stage })
    at a true e = ap (λ b. record { opening = (F b).opening; written = x; stage = (F b).stage }) (sym (eqb-true a i e))
    at a false e = refl

-- the votes of a kind at station i for register j are a row of the table
pub row-votes : {V : Type 0} (f : Figures V) (copies : List (RegisterCopy V)) (votes : List (Option V)) (kind : VoteKind) (i j k : ℕ) → i < f.stations → j < f.stations → k < f.stations
    → votes_of kind (cells f copies votes i j) k ≡ get_or votes (row_index f.stations (row_index f.stations (half kind) i) j * f.stations + k) None
row-votes f copies votes Echo i j k p q r = halves_is None f.stations votes 0 i j k (omega arith) p q r
row-votes f copies votes Ready i j k p q r = halves_is None f.stations votes 1 i j k (omega arith) p q r
