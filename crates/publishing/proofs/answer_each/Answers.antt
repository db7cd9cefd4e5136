use Rattle.std.proofs.Common.{◌≡◌, ap, ◌∙◌, arith}
use Rattle.tables.specs.View.{view}
use Rattle.tables.proofs.Chain.{and_then, becomes_same}
use Rattle.publishing.specs.Answering.{answer_one}
use Rattle.publishing.proofs.Answered.{answer_first, answer_more, answered_all}
use Rattle.publishing.proofs.answer_each.Goals as goal

pub loop-k-preserved : goal.loop-k-preserved
loop-k-preserved g c =
    let f = c.args.figures.now in
    let t = c.args.tables.now in
    let k = c.loop-k.k in
    let i = c.args.i in
    let j = c.args.j in
    let x = c.args.number in (
      becomes_same f t _ _ _ (answer_more i j x k (view f t)) (and_then f t _ _ (answer_first k i j x (view f t)) (answer_one i j x k) c.loop-k.invariant.0 c.answer_one.ensures.shows),
      omega (arith, c.loop-k.invariant.1, c.answer_one.ensures.sent),
    )

pub returns-clause-shows : goal.returns-clause-shows
returns-clause-shows g c =
    let f = c.args.figures.now in
    let t = c.args.tables.now in
    let k = c.loop-k.k in
    let all : k ≡ f.stations = omega (arith, c.loop-k-test.false, c.loop-k.auto.k-end) in
    becomes_same f t _ _ _
    (ap (λ m. answer_first m c.args.i c.args.j c.args.number (view f t)) all ∙ answered_all c.args.i c.args.j c.args.number f t) c.loop-k.invariant.0
