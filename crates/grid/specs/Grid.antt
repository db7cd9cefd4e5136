-- What a flat slice shows as a table of stations: row after row, with one entry for every index past the stations.
use Rattle.std.specs.Prelude.{ℕ, ◌+◌, ◌*◌, Bool, true, cond, ◌&&◌, List, [], ◌∷◌, nat_lt, slice_index_or}

-- column j of row i, where a row has n columns
abbrev pub row_index : ℕ → ℕ → ℕ → ℕ
row_index n i j = i * n + j

-- the entry of one row and then column after column, each of n
abbrev pub entry : ℕ → ℕ → List ℕ → ℕ
entry n i [] = i
entry n i (j ∷ columns) = entry n (row_index n i j) columns

abbrev pub each_below : ℕ → List ℕ → Bool
each_below n [] = true
each_below n (j ∷ columns) = nat_lt j n && each_below n columns

-- what a slice shows at a row and columns: d where there is no such row or column
abbrev pub shown : {X : Type 0} → X → ℕ → ℕ → List X → ℕ → List ℕ → X
shown d h n xs i columns = cond (nat_lt i h && each_below n columns) (slice_index_or xs (entry n i columns) d) d

-- tables by one station, by two, and by three; and the votes, two tables by three one after the other
abbrev pub line : {X : Type 0} → X → ℕ → List X → ℕ → X
line d n xs i = shown d n n xs i []

abbrev pub pairs : {X : Type 0} → X → ℕ → List X → ℕ → ℕ → X
pairs d n xs i j = shown d n n xs i (j ∷ [])

abbrev pub triples : {X : Type 0} → X → ℕ → List X → ℕ → ℕ → ℕ → X
triples d n xs i j k = shown d n n xs i (j ∷ k ∷ [])

abbrev pub halves : {X : Type 0} → X → ℕ → List X → ℕ → ℕ → ℕ → ℕ → X
halves d n xs half i j k = shown d 2 n xs half (i ∷ j ∷ k ∷ [])
