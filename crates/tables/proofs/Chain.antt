-- One change of the tables after another.
use Rattle.std.proofs.Common.{◌≡◌, ℕ, None, ap, ◌∙◌, arith}
use Rattle.std.proofs.Math.Path.{fun_ext}
use Rattle.std.proofs.lemmas.Bool.Decides.{nat_tests}
use Rattle.slices.proofs.Lent.{past_then}
use Rattle.machine.specs.declared.figures.Figures.{Figures}
use Rattle.machine.specs.declared.station.RegisterCopy.{RegisterCopy}
use Rattle.machine.specs.State.{Cell, State, put_pair, with_cell}
use Rattle.tables.specs.declared.lent.Tables.{Tables}
use Rattle.tables.specs.declared.lent.VoteKind.TheVariants.{Echo, Ready}
use Rattle.tables.specs.View.{view, SameLent, Becomes}
use Rattle.tables.specs.Changes.{no_votes, with_no_votes, with_copy}

module _ {V : Type 0} (f : Figures V) where
  lent_then : (a b c : Tables V) → SameLent f a b → SameLent f b c → SameLent f a c
  lent_then a b c p q =
      record {
        messages = past_then _ _ _ _ _ (omega arith) p.messages q.messages;
        votes = past_then _ _ _ _ _ (omega arith) p.votes q.votes;
        held = past_then _ _ _ _ _ (omega arith) p.held q.held;
        stations = past_then _ _ _ _ _ (omega arith) p.stations q.stations;
        copies = past_then _ _ _ _ _ (omega arith) p.copies q.copies;
        reads = past_then _ _ _ _ _ (omega arith) p.reads q.reads;
        reports = past_then _ _ _ _ _ (omega arith) p.reports q.reports;
      }

  -- what the second change does to the state that the first one left
  pub and_then : (a b c : Tables V) (s : State V) (change : State V → State V) → Becomes f a b s → Becomes f b c (change (view f b)) → Becomes f a c (change s)
  and_then a b c s change p q = record { shows = q.shows ∙ ap change p.shows; sound = q.sound; lent = lent_then a b c p.lent q.lent }

  pub becomes_same : (a b : Tables V) (s t : State V) → s ≡ t → Becomes f a b s → Becomes f a b t
  becomes_same a b s t e p = record { shows = p.shows ∙ e; sound = p.sound; lent = p.lent }

-- of two writes to one entry the later stays
pub put_pair_twice : {A : Type 0} (i j : ℕ) (x y : A) (g : ℕ → ℕ → A) → put_pair i j x (put_pair i j y g) ≡ put_pair i j x g
put_pair_twice i j x y g = fun_ext (λ a. fun_ext (λ b. grind (arith, nat_tests)))

pub put_pair_here : {A : Type 0} (i j : ℕ) (x : A) (g : ℕ → ℕ → A) → put_pair i j x g i j ≡ x
put_pair_here i j x g = grind (arith, nat_tests)

-- the votes of both kinds are cleared, and then the copy is new
pub cell_renewed : {V : Type 0} (i j : ℕ) (copy : RegisterCopy V) (s : State V)
    → with_copy i j copy (with_no_votes Ready i j (with_no_votes Echo i j s)) ≡ with_cell i j (record { copy = copy; echoes = λ _. None; readies = λ _. None }) s
cell_renewed {V} i j copy s =
    let first = put_pair i j (no_votes Echo (s.cell i j)) s.cell in
    let second = put_pair i j (no_votes Ready (first i j)) first in
    let renew : Cell V → Cell V = λ c. record { copy = copy; echoes = c.echoes; readies = c.readies } in
    let cleared : second i j ≡ no_votes Ready (no_votes Echo (s.cell i j)) =
    put_pair_here i j (no_votes Ready (first i j)) first ∙ ap (no_votes Ready) (put_pair_here i j (no_votes Echo (s.cell i j)) s.cell) in
    ap (λ cell. record s { cell = cell })
    (ap (λ c. put_pair i j (renew c) second) cleared ∙ put_pair_twice i j _ _ first ∙ put_pair_twice i j _ _ s.cell)
