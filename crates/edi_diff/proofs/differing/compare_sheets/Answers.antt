use Rattle.edi_compare.proofs.Headline.{plan_under}
use Rattle.edi_diff.proofs.differing.compare_sheets.Goals as goal

pub changes_with_text-requires-clause-first_agrees : goal.changes_with_text-requires-clause-first_agrees
changes_with_text-requires-clause-first_agrees c =
    let h = c.requires.first in (plan_under c.args.schema.now h.0 c.args.first.now.accepted c.keeps.ensures h.1 h.2).agrees

pub changes_with_text-requires-clause-second_agrees : goal.changes_with_text-requires-clause-second_agrees
changes_with_text-requires-clause-second_agrees c =
    let h = c.requires.second in (plan_under c.args.schema.now h.0 c.args.second.now.accepted c.keeps.ensures h.1 h.2).agrees

pub returns : goal.returns
returns c = record {
  holds = c.in_ok-unchanged.ensures.holds;
  total = c.in_ok-unchanged.ensures.total;
  partners = c.in_ok-unchanged.ensures.partners;
  faces = c.in_ok-unchanged.ensures.faces;
  links = c.in_ok-unchanged.ensures.links;
  is_text = c.in_ok-became.ensures.0;
  by_became = c.in_ok-became.ensures.1;
  same = (λ t. c.in_ok-unchanged.ensures.total.0 (c.in_ok-same.ensures.0 t), λ same. c.in_ok-same.ensures.1 (c.in_ok-unchanged.ensures.total.1 same));
}
