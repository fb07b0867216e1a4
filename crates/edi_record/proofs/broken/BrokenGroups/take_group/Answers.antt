use Rattle.std.proofs.Common.{◌∙◌, ap, arith}
use Rattle.edi_line.specs.ZoneData.{entries}
use Rattle.edi_line.specs.inner.AllBroken.{with_broken}
use Rattle.edi_record.specs.inner.RecordRules.{record_tests}
use Rattle.edi_record.proofs.RecordsBroken.{one_held}
use Rattle.edi_record.proofs.broken.BrokenGroups.take_group.Goals as goal

pub returns : goal.returns
returns c = λ groups held.
    let was = c.args.self.now in
    one_held groups (entries was.zones.items) was (record { place = c.saturating_add-self.result; list = c.push_broken.new.list; zones = was.zones }) (λ few. omega (arith, c.saturating_add-self.ensures))
    (c.in_ok-push_broken.ensures ∙ ap (λ zs. with_broken was.list.items c.saturating_add-self.result (record_tests (entries zs))) c.deref.ensures.value) held
