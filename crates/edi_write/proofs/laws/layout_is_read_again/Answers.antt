use Rattle.edi_write.proofs.WrittenPrinted.{layout_sound, layout_references, layout_plan}
use Rattle.edi_write.proofs.laws.layout_is_read_again.Goals as goal

pub returns-clause-sound : goal.returns-clause-sound
returns-clause-sound c = layout_sound

pub returns-clause-references : goal.returns-clause-references
returns-clause-references c = layout_references

pub returns-clause-plan : goal.returns-clause-plan
returns-clause-plan c = layout_plan
