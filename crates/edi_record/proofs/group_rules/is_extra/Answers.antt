use Rattle.std.proofs.Common.{sym}
use Rattle.edi_line.specs.ZoneData.{entry}
use Rattle.edi_record.proofs.GroupRules.{no_extra}
use Rattle.edi_record.proofs.group_rules.is_extra.Goals as goal

pub returns-in_default : goal.returns-in_default
returns-in_default c = sym (no_extra c.args.kind c.args.is_open (entry c.args.zone.now) c.role_of.result c.role_of.ensures c.in_default.not-Unknown c.in_default.not-AttributeSet)
