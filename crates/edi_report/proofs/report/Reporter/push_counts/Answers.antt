use Rattle.edi_report.proofs.Reported.{counts_joined}
use Rattle.edi_report.proofs.report.Reporter.push_counts.Goals as goal

pub returns : goal.returns
returns c =
    counts_joined c.args.self.now c.args.text.now.items c.push_counted.new.text.items c.push_counted-2.new.text.items c.push_counted-3.new.text.items
    c.gone_count.result c.added_count.result c.changed_count.result c.gone_count.ensures c.added_count.ensures c.changed_count.ensures
    c.in_ok-push_counted.ensures c.in_ok-push_counted-2.ensures c.in_ok-push_counted-3.ensures
