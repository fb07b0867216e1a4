use Rattle.std.proofs.Common.{◌∙◌, ap, length}
use Rattle.edi_report.specs.Lines.{added_count}
use Rattle.edi_report.specs.Reports.{Report}
use Rattle.edi_report.proofs.Reported.{added_counted}
use Rattle.edi_report.proofs.report.Reporter.added_count.Goals as goal

pub returns : goal.returns
returns c =
    c.unmarked_count.ensures ∙ (added_counted c.self.inside.became.now (length c.self.inside.second.now.accepted.list) c.self.inside.reached.now c.self.invariant.1
    ∙ ap (λ (r : Report). added_count r) c.self.view_is)
