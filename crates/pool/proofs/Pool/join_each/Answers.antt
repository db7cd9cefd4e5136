use Rattle.std.proofs.Common.{◌∷◌, ◌++◌, [], map, ap, ap₂, ◌∙◌, sym, arith, append_assoc}
use Rattle.std.specs.List.{range_with_len}
use Rattle.std.proofs.lemmas.List.FromFn.{map-range_with_len_more}
use Rattle.slices.proofs.Lent.{past_then}
use Rattle.pool.specs.Pool.{in_order}
use Rattle.pool.proofs.Pool.join_each.Goals as goal

pub loop-k-preserved : goal.loop-k-preserved
loop-k-preserved g c =
    let so_far = c.loop-k.invariant in
    let k = c.loop-k.k in (
      so_far.0,
      omega (arith, so_far.1, c.join.ensures.waiting),
      past_then _ _ _ _ _ (omega (arith, c.join.ensures.waiting)) so_far.2 c.join.ensures.past,
      λ table each.
          let last = each k c.message.result (omega arith) c.message.ensures in
          c.join.ensures.order
          ∙ ap₂ (λ a m. a ++ m ∷ []) (so_far.3 table (λ u m l. each u m (omega (arith, l)))) last
          ∙ append_assoc (in_order c.args.self.now) (map table (range_with_len 0 k)) (table k ∷ [])
          ∙ ap (λ l. in_order c.args.self.now ++ l) (sym (map-range_with_len_more table 0 k k (omega arith))),
    )
