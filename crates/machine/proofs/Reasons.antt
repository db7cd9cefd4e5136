-- What holds where no reason speaks against a call.
use Rattle.std.proofs.Common.{◌≡◌, ℕ, ◌<◌, Bool, true, false, cond, eqb, List, [], ◌∷◌, Some, None, Option, refl, ap, ◌∙◌, subst, ⊎_elim, arith}
use Rattle.std.specs.List.{All, slice_get}
use Rattle.std.proofs.lemmas.Bool.{both_ways, cond_both, and_parts, eqb-true, ltb-true, not-false, and_cases}
use Rattle.std.proofs.lemmas.List.Elements.{All-nil, All-cons}
use Rattle.decline.specs.declared.Decline.{Decline}
use Rattle.machine.specs.declared.message.Message.{Message}
use Rattle.machine.specs.declared.call.Forgery.{Forgery}
use Rattle.machine.specs.State.{State}
use Rattle.machine.specs.Calls.{Names, first_that_fits, forge_reasons, forge_decline, uses_register, forged}
use Rattle.machine.proofs.Tables.{all_nth}

-- where no reason fits, each is false
pub none_fits : (l : List (Bool × Decline)) → first_that_fits l ≡ None → All (λ reason. reason.0 ≡ false) l
none_fits [] e = All-nil (λ reason. reason.0 ≡ false)
none_fits (reason ∷ l) e =
    let w = pass reason.0 (first_that_fits l) reason.1 e in All-cons (λ reason. reason.0 ≡ false) reason l w.0 (none_fits l w.1)
  where
    pass : (t : Bool) (o : Option Decline) (d : Decline) → cond t (Some d) o ≡ None → (t ≡ false) × (o ≡ None)
    pass true o d e = absurd (let z : ◌≡◌ {A = ℕ} 0 1 = cc in omega arith)
    pass false o d e = (refl, e)

-- the reason at a place is false
pub unfit : (l : List (Bool × Decline)) → first_that_fits l ≡ None → (p : ℕ) (reason : Bool × Decline) → slice_get l p ≡ Some reason → reason.0 ≡ false
unfit l e p reason at = all_nth (λ reason. reason.0 ≡ false) l p reason (none_fits l e) at

-- a forged message names what its fields name
data NamesIf {V : Type 0} (n : ℕ) : Option (Message V) → Type 0 where
  no_message : NamesIf n None
  message : (m : Message V) → Names n m → NamesIf n (Some m)

forged_if : {V : Type 0} (n highest : ℕ) (f : Forgery V) → f.sender < n → f.receiver < n → (uses_register f.kind ≡ true → f.register < n) → NamesIf n (forged highest f)
forged_if n highest f ls lr lj =
    cond_both (eqb f.kind 1) _ _ (NamesIf n) (λ _. cond_both _ _ None (NamesIf n) (λ _. message _ (ls, lr)) (λ _. no_message)) (λ _.
    cond_both (eqb f.kind 2) _ _ (NamesIf n) (λ e. cond_both _ _ None (NamesIf n) (λ _. message _ (ls, lr, lj (used 2 e refl))) (λ _. no_message)) (λ _.
    cond_both (eqb f.kind 3) _ _ (NamesIf n) (λ e. cond_both _ _ None (NamesIf n) (λ _. message _ (ls, lr, lj (used 3 e refl))) (λ _. no_message)) (λ _.
    cond_both (eqb f.kind 4) _ _ (NamesIf n) (λ _. cond_both _ _ None (NamesIf n) (λ _. message _ (ls, lr)) (λ _. no_message)) (λ _.
    cond_both (eqb f.kind 5) _ _ (NamesIf n) (λ e. cond_both _ _ None (NamesIf n) (λ _. message _ (ls, lr, lj (used 5 e refl))) (λ _. no_message)) (λ _.
    cond_both (eqb f.kind 6) _ _ (NamesIf n) (λ e. cond_both _ _ None (NamesIf n) (λ _. message _ (ls, lr, lj (used 6 e refl))) (λ _. no_message)) (λ _.
    cond_both (eqb f.kind 7) _ _ (NamesIf n) (λ e. cond_both _ _ None (NamesIf n) (λ _. message _ (ls, lr, lj (used 7 e refl))) (λ _. no_message)) (λ _.
    cond_both (eqb f.kind 8) _ _ (NamesIf n) (λ e. cond_both _ _ None (NamesIf n) (λ _. message _ (ls, lr, lj (used 8 e refl))) (λ _. no_message)) (λ _. no_message))))))))
  where
    used : (kind : ℕ) → eqb f.kind kind ≡ true → uses_register kind ≡ true → uses_register f.kind ≡ true
    used kind e u = ap uses_register (eqb-true f.kind kind e) ∙ u

forge_names : {V : Type 0} (n : ℕ) (o : Option (Message V)) (m : Message V) → NamesIf n o → o ≡ Some m → Names n m
forge_names n None m no_message e = absurd (grind arith)
forge_names n (Some k) m (message _ a) e = let q : k ≡ m = cc in subst (Names n) q a

pub forged_names : {V : Type 0} (s : State V) (f : Forgery V) (m : Message V) → forged s.figures.highest f ≡ Some m → forge_decline s f (Some m) ≡ None → Names s.figures.stations m
forged_names s f m e d =
    let n = s.figures.stations in
    let none = unfit (forge_reasons s f (Some m)) d in
    let w = and_parts _ _ (not-false _ (none 0 _ refl)) in
    forge_names n (forged s.figures.highest f) m
    (forged_if n s.figures.highest f (ltb-true _ _ w.0) (ltb-true _ _ w.1)
    (λ u. ⊎_elim (λ no. absurd (both_ways _ no u)) (λ no. ltb-true _ _ (not-false _ no)) (and_cases _ _ (none 1 _ refl)))) e
