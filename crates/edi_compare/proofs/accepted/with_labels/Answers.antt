use Rattle.edi_line.specs.FileBytes.{file_bytes}
use Rattle.edi_compare.specs.Faults.{of_record}
use Rattle.edi_compare.specs.Refused.{IsRefusal}
use Rattle.edi_compare.proofs.Phases.{all_held}
use Rattle.edi_compare.proofs.Refusals.{err_kept, rank_fault}
use Rattle.edi_compare.proofs.accepted.with_labels.Goals as goal

pub returns-in_err-labels-clause-refusal : goal.returns-in_err-labels-clause-refusal
returns-in_err-labels-clause-refusal g c =
    let s = c.args.schema.now in let b = (file_bytes c.args.bytes) in let f = c.in_err-labels.field-0.0 in
    err_kept _ (of_record f) (IsRefusal s b) c.from_residual-in_err-labels.ensures.1
    (rank_fault s b c.in_ok-sound.ensures.held c.in_ok-sound.sound c.in_ok-sound.ensures.plan f c.in_err-labels.ensures.least)

pub returns-clause-accepted : goal.returns-clause-accepted
returns-clause-accepted g c =
    all_held c.args.schema.now (file_bytes c.args.bytes) c.in_ok-sound.ensures.held c.in_ok-sound.sound c.in_ok-sound.ensures.plan c.in_ok-labels.ensures.distinct
