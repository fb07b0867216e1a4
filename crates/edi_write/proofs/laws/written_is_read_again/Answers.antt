use Rattle.edi_write.proofs.WrittenRecords.{written_layout, written_named, written_plan}
use Rattle.edi_write.proofs.WrittenReferences.{written_references}
use Rattle.edi_write.proofs.laws.written_is_read_again.Goals as goal

pub returns-clause-layout : goal.returns-clause-layout
returns-clause-layout c = written_layout

pub returns-clause-named : goal.returns-clause-named
returns-clause-named c = written_named

pub returns-clause-plan : goal.returns-clause-plan
returns-clause-plan c = written_plan

pub returns-clause-references : goal.returns-clause-references
returns-clause-references c = written_references
