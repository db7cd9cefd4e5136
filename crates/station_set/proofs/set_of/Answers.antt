use Rattle.std.proofs.Common.{◌≡◌, cond, ap, sym, ◌∙◌, arith}
use Rattle.station_set.specs.Sets.{with_station, set_of}
use Rattle.station_set.proofs.Members.{set_of_none, set_of_more}
use Rattle.station_set.proofs.set_of.Goals as goal
use Rattle.station_set.proofs.set_of.Goals.{then-passes, else-passes}

pub loop-s-init : goal.loop-s-init
loop-s-init g c = (c.requires.callable, λ test each. set_of_none test)

pub loop-s-preserved : goal.loop-s-preserved
loop-s-preserved g c =
    let s = c.loop-s.s in (
      c.requires.callable,
      λ test each.
          let sofar : c.loop-s.set ≡ set_of s test = c.loop-s.invariant.1 test (λ u b l. each u b (omega (arith, l))) in
          let here : c.passes.result ≡ test s = each s c.passes.result (omega arith) c.passes.ensures in
          elim c.if-passes.branch [
            | then-passes w ↦
                w.set-is ∙ w.insert-set.ensures ∙ ap (λ m. with_station m s) sofar
                ∙ ap (λ b. cond b (with_station (set_of s test) s) (set_of s test)) (sym w.if-passes.true ∙ here) ∙ set_of_more s test
            | else-passes w ↦
                w.set-is ∙ sofar
                ∙ ap (λ b. cond b (with_station (set_of s test) s) (set_of s test)) (sym w.if-passes.false ∙ here) ∙ set_of_more s test
          ],
    )
