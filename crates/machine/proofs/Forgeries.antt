-- What a forge makes of the fields that it is given.
use Rattle.std.proofs.Common.{◌≡◌, ℕ, Bool, true, cond, ◌&&◌, eqb, Some, None, Option, sym, refl, ap, ◌∙◌, subst, arith}
use Rattle.std.proofs.lemmas.Bool.{cond_both, cond-true, eqb-true}
use Rattle.machine.specs.declared.message.Message.{Message}
use Rattle.machine.specs.declared.message.Message.TheVariants.{Init, Echo, Ready, WriteDone, Read, State as StateOf, CatchUp, CatchUpDone}
use Rattle.machine.specs.declared.call.Forgery.{Forgery}
use Rattle.machine.specs.Calls.{within, uses_register, uses_number, uses_read, uses_value, forged, normalized, spelled, in_range, Forges}

module _ {V : Type 0} (highest : ℕ) (o : V) where
  data Spells (f : Forgery V) : Option (Message V) → Type 0 where
    nothing : Spells f None
    spells : (m : Message V) → spelled o m ≡ normalized o f → in_range highest m ≡ true → Spells f (Some m)

  -- the fields, normalized for a kind
  as_kind : Forgery V → ℕ → Forgery V
  as_kind f kind =
      record {
        kind = kind;
        sender = f.sender;
        receiver = f.receiver;
        register = cond (uses_register kind) f.register 0;
        number = cond (uses_number kind) f.number 0;
        read = cond (uses_read kind) f.read 0;
        value = cond (uses_value kind) f.value o;
      }

  of_kind : (f : Forgery V) (kind : ℕ) (test : Bool) (m : Message V) → spelled o m ≡ as_kind f kind → (test ≡ true → in_range highest m ≡ true) → eqb f.kind kind ≡ true
      → Spells f (cond test (Some m) None)
  unfolding as_kind
  of_kind f kind test m same range e =
      cond_both test (Some m) None (Spells f) (λ t. spells m (same ∙ ap (as_kind f) (sym (eqb-true f.kind kind e))) (range t)) (λ _. nothing)

  all_kinds : (f : Forgery V) → Spells f (forged highest f)
  unfolding as_kind
  all_kinds f =
      cond_both (eqb f.kind 1) _ _ (Spells f) (of_kind f 1 _ (Init f.sender f.receiver f.number f.value) refl (λ t. t)) (λ _.
      cond_both (eqb f.kind 2) _ _ (Spells f) (of_kind f 2 _ (Echo f.sender f.receiver f.register f.number f.value) refl (λ t. t)) (λ _.
      cond_both (eqb f.kind 3) _ _ (Spells f) (of_kind f 3 _ (Ready f.sender f.receiver f.register f.number f.value) refl (λ t. t)) (λ _.
      cond_both (eqb f.kind 4) _ _ (Spells f) (of_kind f 4 _ (WriteDone f.sender f.receiver f.number) refl (λ t. t)) (λ _.
      cond_both (eqb f.kind 5) _ _ (Spells f) (of_kind f 5 _ (Read f.sender f.receiver f.register f.read) refl (λ t. t)) (λ _.
      cond_both (eqb f.kind 6) _ _ (Spells f) (of_kind f 6 _ (StateOf f.sender f.receiver f.register f.read f.number) refl (λ t. t)) (λ _.
      cond_both (eqb f.kind 7) _ _ (Spells f) (of_kind f 7 _ (CatchUp f.sender f.receiver f.register f.number) refl (λ t. t)) (λ _.
      cond_both (eqb f.kind 8) _ _ (Spells f) (of_kind f 8 _ (CatchUpDone f.sender f.receiver f.register f.number) refl (λ t. t)) (λ _. nothing))))))))

  given : (f : Forgery V) (u : Option (Message V)) (m : Message V) → Spells f u → u ≡ Some m → (spelled o m ≡ normalized o f) × (in_range highest m ≡ true)
  given f None m nothing e = absurd (grind arith)
  given f (Some k) m (spells _ same range) e =
      let q : k ≡ m = cc in (subst (λ z. spelled o z ≡ normalized o f) q same, subst (λ z. in_range highest z ≡ true) q range)

  every : (m : Message V) → in_range highest m ≡ true → forged highest (spelled o m) ≡ Some m
  every (Init k i x v) e = cond-true (within 1 highest x) (Some (Init k i x v)) None e
  every (Echo k i j x v) e = cond-true (within 1 highest x) (Some (Echo k i j x v)) None e
  every (Ready k i j x v) e = cond-true (within 1 highest x) (Some (Ready k i j x v)) None e
  every (WriteDone k i x) e = cond-true (within 1 highest x) (Some (WriteDone k i x)) None e
  every (Read k i j r) e = cond-true (within 1 highest r) (Some (Read k i j r)) None e
  every (StateOf k i j r x) e = cond-true (within 1 highest r && within 0 highest x) (Some (StateOf k i j r x)) None e
  every (CatchUp k i j x) e = cond-true (within 0 highest x) (Some (CatchUp k i j x)) None e
  every (CatchUpDone k i j x) e = cond-true (within 0 highest x) (Some (CatchUpDone k i j x)) None e

  pub forges : Forges highest o
  forges = record { as_given = λ f m e. given f (forged highest f) m (all_kinds f) e; all = every }
