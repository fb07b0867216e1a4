use Rattle.std.proofs.lemmas.Result.{err_from_is_err_and}
use Rattle.edi_line.specs.ZoneData.{entries}
use Rattle.edi_line.specs.Zones.{groups_of}
use Rattle.edi_record.proofs.RulesSaid.{refusal_said, records_unbroken}
use Rattle.edi_record.proofs.StatesSaid.{all_said}
use Rattle.edi_record.proofs.reading.records.Goals as goal

pub invariant_of-result : goal.invariant_of-result
invariant_of-result c = record { few = c.in_ok-list.ensures.few; shape = c.in_ok-list.ensures.shape }

pub returns-in_err-list-clause-least : goal.returns-in_err-list-clause-least
returns-in_err-list-clause-least c =
    let p = err_from_is_err_and c.from_residual.result c.from_residual.ensures.1 in
    rw (p.1, p.2) (refusal_said (entries c.args.zones.now) c.in_err-list.field-0.0 c.in_err-list.ensures.least)

pub returns-clause-states : goal.returns-clause-states
returns-clause-states c = record {
  cse = c.in_ok-charset_of.ensures;
  records = all_said (groups_of (entries c.args.zones.now)) c.in_ok-list.list c.in_ok-list.ensures.states;
}

pub returns-clause-sound : goal.returns-clause-sound
returns-clause-sound c = records_unbroken (entries c.args.zones.now) c.in_ok-list.ensures.sound
