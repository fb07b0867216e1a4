-- Classes of objects that were put in order.
use Rattle.std.specs.Prelude.{◌≡◌, ℕ, List}
use Rattle.edi_report.specs.Reports.{Report}
use Rattle.edi_objects.specs.Counts.{changed_classes, class_count, class_counts_line, gone_classes, new_classes}
use Rattle.edi_objects.specs.Names.{Naming}

-- each class is as often in the one list as in the other
abbrev pub AreCountsOf : List ℕ → List ℕ → Type 0
AreCountsOf classes sorted = (class : ℕ) → class_count class sorted ≡ class_count class classes

-- the classes of the objects that are gone, new and changed, in any order
pub record AreToldClasses (n : Naming) (r : Report) (gone new changed : List ℕ) : Type 0 where
  pub all_gone : AreCountsOf (gone_classes r) gone
  pub all_new : AreCountsOf (new_classes r) new
  pub all_changed : AreCountsOf (changed_classes n r) changed

-- the line of a class, by the classes of the objects that are told
abbrev pub told_total : Naming → List ℕ → List ℕ → List ℕ → ℕ → List ℕ
told_total n gone new changed class =
    class_counts_line n class (class_count class gone) (class_count class new) (class_count class changed)
