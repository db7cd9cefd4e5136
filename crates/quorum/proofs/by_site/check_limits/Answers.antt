use Rattle.std.proofs.Common.{length, sym, ◌∙◌, arith}
use Rattle.std.proofs.lemmas.Bool.{eqb-true, eqb-false}
use Rattle.quorum.proofs.SiteLists.{bar_of_none, bar_of_many, bar_of_unknown, bar_of_few, no_bar}
use Rattle.quorum.proofs.by_site.check_limits.Goals as goal

pub returns-then-is_empty-clause-answer : goal.returns-then-is_empty-clause-answer
returns-then-is_empty-clause-answer c = bar_of_none c.args.sites.now (eqb-true (length c.args.sites.now) 0 (sym c.if-is_empty.ensures))

pub returns-then-sites-gt-MOST_STATIONS-clause-answer : goal.returns-then-sites-gt-MOST_STATIONS-clause-answer
returns-then-sites-gt-MOST_STATIONS-clause-answer c = bar_of_many c.args.sites.now (omega arith)

pub returns-in-Some-clause-answer : goal.returns-in-Some-clause-answer
returns-in-Some-clause-answer c =
    bar_of_unknown c.args.sites.now c.in-Some.site (eqb-false (length c.args.sites.now) 0 (sym c.if-is_empty.ensures)) (omega arith)
    (sym c.first_unknown.ensures.first ∙ c.in-Some.is)

pub returns-then-count_sites-lt-FEWEST_SITES-clause-answer : goal.returns-then-count_sites-lt-FEWEST_SITES-clause-answer
returns-then-count_sites-lt-FEWEST_SITES-clause-answer c =
    bar_of_few c.args.sites.now (eqb-false (length c.args.sites.now) 0 (sym c.if-is_empty.ensures)) (omega arith)
    (sym c.first_unknown.ensures.first ∙ c.in_default.is) (omega arith)

pub returns-clause-answer : goal.returns-clause-answer
returns-clause-answer c = (
  no_bar c.args.sites.now (eqb-false (length c.args.sites.now) 0 (sym c.if-is_empty.ensures)) (omega arith)
      (sym c.first_unknown.ensures.first ∙ c.in_default.is) (omega arith),
  tt,
)
