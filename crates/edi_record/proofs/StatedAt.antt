-- The record at a place.
use Rattle.std.proofs.Common.{◌≡◌, ℕ, zero, suc, ◌<◌, List, [], ◌∷◌, length, Some, slice_get, refl, arith}
use Rattle.edi_record.specs.Shapes.{stated_at}
use Rattle.edi_record.specs.declared.record.Record.{Record}

pub stated_there : (list : List Record) (k : ℕ) → k < length list → slice_get list k ≡ Some (stated_at list k)
stated_there [] k less = absurd (omega (arith, less))
stated_there (r ∷ rs) zero less = refl
stated_there (r ∷ rs) (suc k) less = stated_there rs k (omega (arith, less))
