-- A loop that lists, by rising masks, the sets of which P holds.
use Rattle.std.proofs.Common.{◌≡◌, ℕ, ◌+◌, ◌<◌, List, [], ◌∷◌, ◌++◌, length, subst, ⊎_elim, arith}
use Rattle.std.proofs.lemmas.Bool.{cases_eq}
use Rattle.std.proofs.lemmas.List.Elements.{All-push, All-weaker, Contains-push, Contains-append_left}
use Rattle.std.proofs.lemmas.List.Quantifiers.{all_pairs_push}
use Rattle.census.specs.Outermost.{Exactly}

module _ (P : ℕ → Type 0) where
  abbrev pub Below : ℕ → ℕ → Type 0
  Below k set = (set < k) × P set

  pub listed_none : (sets : List ℕ) → length sets ≡ 0 → Exactly (Below 0) sets
  listed_none sets none = record { rising = λ i j d l h. absurd (omega arith); sound = λ i d h. absurd (omega arith); complete = λ set w. absurd (omega (arith, w.0)) }

  below_more : (k set : ℕ) → Below k set → Below (k + 1) set
  below_more k set w = (omega (arith, w.0), w.1)

  pub listed_no : (k : ℕ) (sets : List ℕ) → (P k → ⊥) → Exactly (Below k) sets → Exactly (Below (k + 1)) sets
  listed_no k sets fails l =
      record {
        rising = l.rising;
        sound = All-weaker (Below k) _ (below_more k) sets l.sound;
        complete = λ set w. ⊎_elim (λ e. absurd (fails (subst P e w.1))) (λ ne. l.complete set (omega (arith, w.0), w.1)) (cases_eq set k);
      }

  pub listed_yes : (k : ℕ) (sets : List ℕ) → P k → Exactly (Below k) sets → Exactly (Below (k + 1)) (sets ++ k ∷ [])
  listed_yes k sets p l =
      record {
        rising = all_pairs_push (λ a b. a < b) sets k l.rising (λ i d h. (l.sound i d h).0);
        sound = All-push (Below (k + 1)) sets k (All-weaker (Below k) _ (below_more k) sets l.sound) (omega arith, p);
        complete = λ set w. ⊎_elim (λ e. rw e (Contains-push sets k)) (λ ne. Contains-append_left sets (k ∷ []) set (l.complete set (omega (arith, w.0), w.1))) (cases_eq set k);
      }

  pub listed_all : (k : ℕ) (sets : List ℕ) → ((set : ℕ) → P set → set < k) → Exactly (Below k) sets → Exactly P sets
  listed_all k sets bound l = record { rising = l.rising; sound = All-weaker (Below k) P (λ set w. w.1) sets l.sound; complete = λ set p. l.complete set (bound set p, p) }
