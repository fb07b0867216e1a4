-- What was told of an input that isn't what is read there.
use Rattle.std.proofs.Common.{ℕ, List, inl, inr}
use Rattle.edi_answers.specs.Effects.{Effects, Stream}
use Rattle.edi_changes.specs.Lacking.{Lacks, MatchLack, TellsLack}
use Rattle.edi_changes.specs.declared.lacking.Lack.{Lack}
use Rattle.edi_changes.specs.declared.lacking.Lack.TheVariants.{Unread, Other}

pub lack_told : (IsNone : List ℕ → Type 0) (words : List ℕ) (run : Effects) (err : Stream) (path : List ℕ) (lack : Lack) (s : ℕ)
    → MatchLack IsNone run.inputs path lack → TellsLack words run.why err path lack s → Lacks IsNone words run err path s
lack_told IsNone words run err path (Unread e) s is told = inl (e, is, told)
lack_told IsNone words run err path Other s is told = inr (is, told)
