-- What a record opens with.
use Rattle.std.specs.Prelude.{ℕ}
use Rattle.edi_plan.specs.Plans.{record_at}
use Rattle.edi_rank.specs.Labelling.{number_of, turned_at}
use Rattle.edi_rank.specs.Same.{class_after}
use Rattle.edi_schema.specs.Classes.{partner_of}
use Rattle.edi_write.specs.declared.openings.Opening.{Opening}
use Rattle.edi_write.specs.inner.LabelledPlans.{LabelledPlanData}

-- the type, the number and the class of the record at a place
abbrev pub opening_of : LabelledPlanData → ℕ → Opening
opening_of l place = record {
  place = place;
  kind = (record_at l.plan place).kind;
  number = number_of l.labels place;
  class = class_after (partner_of l.classes) (turned_at l.labels.turned) (record_at l.plan place);
}
