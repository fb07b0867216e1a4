-- What is written on a face that has a label.
use Rattle.std.proofs.Common.{◌≡◌, ◌≤◌, ℕ, Bool, true, List, [], ◌∷◌, length, arith, sym, ◌∙◌, refl}
use Rattle.edi_record.specs.declared.record.Point.{Point}
use Rattle.edi_plan.specs.declared.extent.Extent.{Extent}
use Rattle.edi_picture.specs.Labels.{has_label, label_amid, label_element, label_text, points_round}
use Rattle.edi_picture.specs.Sheets.{DrawnSheet, label_at}

pub written : (f : Extent) (top : ℕ) (sheet : DrawnSheet) (k : ℕ) (points : List Point) (label : List ℕ) (shown : Bool) → shown ≡ has_label sheet k → shown ≡ true
    → points ≡ points_round sheet.plan k → label ≡ label_at sheet k → label_amid f top points label ≡ label_text f top sheet k
written f top sheet k points label shown is holds same called = rw (same, called, sym is ∙ holds) refl

-- where there is a point
pub amid_some : (f : Extent) (top : ℕ) (points : List Point) (label : List ℕ) → 1 ≤ length points → label_amid f top points label ≡ label_element f top points label
amid_some f top [] label some = absurd (omega (arith, some))
amid_some f top (q ∷ points) label some = refl
