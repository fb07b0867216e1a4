-- The status of a fault that was told.
use Rattle.std.proofs.Common.{ℕ, List, inl, inr, subst, sym}
use Rattle.edi_compare.specs.declared.fault.RunFault.{RunFault}
use Rattle.edi_files.specs.Reasons.{Why}
use Rattle.edi_answers.specs.Effects.{Stream}
use Rattle.edi_answers.specs.Hashes.{TellsFault}
use Rattle.edi_answers.specs.Statuses.{IsSheetStatus}
use Rattle.edi_answers.proofs.Refusals.{fault_status}

pub told_status : (why : Why) (err : Stream) (e : RunFault) (path : List ℕ) (s : ℕ) → TellsFault why err e path s → IsSheetStatus s
told_status why err e path s (inl h) = subst IsSheetStatus (sym h.0) (inr (fault_status e))
told_status why err e path s (inr h) = inr (inr (inr h.0))
