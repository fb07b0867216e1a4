use Rattle.edi_line.specs.FileBytes.{file_bytes}
use Rattle.edi_compare.specs.Faults.{of_record}
use Rattle.edi_compare.specs.Refused.{IsRefusal}
use Rattle.edi_compare.proofs.Phases.{all_held}
use Rattle.edi_compare.proofs.Refusals.{err_kept, rank_fault}
use Rattle.edi_compare.proofs.accepted.accept_with.Goals as goal

pub returns-in_err-tell_objects_apart-clause-refusal : goal.returns-in_err-tell_objects_apart-clause-refusal
returns-in_err-tell_objects_apart-clause-refusal g c =
    let s = c.args.schema.now in let b = (file_bytes c.args.bytes) in let f = c.in_err-tell_objects_apart.field-0.0 in
    err_kept _ (of_record f) (IsRefusal s b) c.from_residual-in_err-tell_objects_apart.ensures.1
    (rank_fault s b c.in_ok-sound.ensures.held c.in_ok-sound.sound c.in_ok-sound.ensures.plan f c.in_err-tell_objects_apart.ensures.least)

pub returns-clause-accepted : goal.returns-clause-accepted
returns-clause-accepted g c =
    all_held c.args.schema.now (file_bytes c.args.bytes) c.in_ok-sound.ensures.held c.in_ok-sound.sound c.in_ok-sound.ensures.plan c.in_ok-tell_objects_apart.ensures.distinct

pub returns-clause-held : goal.returns-clause-held
returns-clause-held g c =
    let s = c.args.schema.now in let b = (file_bytes c.args.bytes) in (
      b,
      c.keeps.ensures.short,
      all_held s b c.in_ok-sound.ensures.held c.in_ok-sound.sound c.in_ok-sound.ensures.plan c.in_ok-tell_objects_apart.ensures.distinct,
      c.in_ok-sound.ensures.plan,
    )
