-- Laws of the text of objects.
use Rattle.std.specs.Prelude.{◌≡◌, ◌↔◌, ℕ, true, [], Some}
use Rattle.edi_record.specs.declared.record.Kind.TheVariants.{Fea}
use Rattle.edi_plan.specs.Plans.{IsPlace, record_at}
use Rattle.edi_report.specs.Reports.{Report}
use Rattle.edi_objects.specs.Differing.{arrives, became_of, is_differing}
use Rattle.edi_objects.specs.Names.{Naming}
use Rattle.edi_objects.specs.Objects.{first_object}
use Rattle.edi_objects.specs.Telling.{HidesNothing, IsLinkOf, IsSoundReport, IsToldByFirst, IsToldBySecond, IsUntouched}

-- the text hides nothing
abbrev pub NothingIsHidden : Type 0
NothingIsHidden = (n : Naming) (r : Report) → IsSoundReport r → HidesNothing n r

-- a link of the first sheet that differs is told by each object that it names and that is or became one of the second
abbrev pub EachObjectTellsItsLinks : Type 0
EachObjectTellsItsLinks = (n : Naming) (r : Report) (link object target : ℕ)
    → IsLinkOf r.first.accepted object link → (record_at r.first.accepted object).kind ≡ Fea
    → IsPlace r.first.accepted object → became_of r object ≡ Some target → is_differing r link ≡ true
    → IsToldByFirst n r link object

-- and one of the second that is new, or got other ends, by each that it names and that is one of the first or was one
abbrev pub EachObjectTellsItsNewLinks : Type 0
EachObjectTellsItsNewLinks = (n : Naming) (r : Report) (link object source : ℕ) → IsSoundReport r
    → IsLinkOf r.second.accepted object link → (record_at r.second.accepted object).kind ≡ Fea
    → became_of r source ≡ Some object → arrives r link ≡ true → IsToldBySecond n r link object

-- an object has no line exactly if nothing differs of it, nor of what its links reach
abbrev pub SilentIfUntouched : Type 0
SilentIfUntouched = (n : Naming) (r : Report) (i : ℕ) → IsSoundReport r → IsPlace r.first.accepted i
    → (record_at r.first.accepted i).kind ≡ Fea
    → (first_object n r i ≡ []) ↔ ((j : ℕ) × (became_of r i ≡ Some j) × IsUntouched r i j)
