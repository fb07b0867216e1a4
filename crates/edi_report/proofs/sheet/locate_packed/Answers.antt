use Rattle.edi_report.proofs.sheet.locate_packed.Goals as goal

pub returns-clause-packed : goal.returns-clause-packed
returns-clause-packed c = record {
  accepted = c.in_ok-accepted.ensures.accepted;
  plan = c.in_ok-accepted.ensures.plan;
  classes = c.in_ok-accepted.ensures.classes;
  sites = c.in_ok-accepted.ensures.other;
}
