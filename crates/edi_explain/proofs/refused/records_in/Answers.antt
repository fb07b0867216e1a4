use Rattle.std.proofs.Common.{◌∙◌, ap}
use Rattle.edi_line.specs.ZoneData.{entries}
use Rattle.edi_line.specs.Zones.{groups_of}
use Rattle.edi_explain.specs.inner.Found.{group_numbered}
use Rattle.edi_explain.proofs.Numbered.{numbered_back}
use Rattle.edi_explain.proofs.refused.records_in.Goals as goal

pub returns : goal.returns
returns c = record {
  here = c.record_at.ensures ∙ ap (group_numbered (groups_of (entries c.args.zones.now))) (numbered_back c.args.number c.checked_sub.result c.checked_sub.ensures);
  earlier_one = c.record_at-2.ensures;
}
