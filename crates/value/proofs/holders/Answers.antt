use Rattle.std.proofs.Common.{rules, tests, ◌≡◌, ℕ, Bool, ◌&&◌, get_or, Some, None, Option, Decides, ap, ◌∙◌, arith}
use Rattle.std.proofs.lemmas.List.{get_or_past}
use Rattle.std.proofs.lemmas.Bool.{lt-ltb, false≢true}
use Rattle.std.proofs.lemmas.Bool.Decides.{Decides-at, Decides-like}
use Rattle.station_set.specs.Sets.{has}
use Rattle.station_set.proofs.Members.{has-set_of, set_of_rest}
use Rattle.value.specs.Holders.{keeps, holders_of}
use Rattle.value.proofs.holders.Goals as goal

-- with an exact comparison, what is kept is v exactly where the test says so
keeps-exactly : {V : Type 0} (equal : V → V → Bool) → ((a b : V) → Decides (equal a b) (a ≡ b)) → (v : V) (kept : Option V) → Decides (keeps equal v kept) (kept ≡ Some v)
keeps-exactly equal exact v None = ((λ e. absurd (false≢true e)), (λ e. let z : ◌≡◌ {A = ℕ} 0 1 = cc in absurd (omega arith)))
keeps-exactly equal exact v (Some w) = Decides-like (equal w v) (λ e. ap Some e) (λ e. cc) (exact w v)

pub returns : goal.returns
returns g c =
    let equal = g.V.Value.equal in
    let row = c.args.row.now in
    let v = c.args.v in
    let test : ℕ → Bool = λ s. keeps equal v (get_or row s None) in
    let whole : c.set_of.result ≡ holders_of equal v row =
    c.set_of.ensures test (λ s b l p. search (rules, tests))
    ∙ set_of_rest c.min.result 16 test (omega (arith, c.min.ensures)) (omega arith) (λ s past room. ap (keeps equal v) (get_or_past row s None (omega (arith, c.min.ensures)))) in
    record {
      value = whole;
      members = λ s l.
          Decides-at _ _ (ap (λ m. has m s) whole ∙ has-set_of 16 test s (omega arith) ∙ ap (λ t. t && test s) (lt-ltb s 16 l))
          (keeps-exactly equal g.met.V.Value.exact v (get_or row s None));
    }
