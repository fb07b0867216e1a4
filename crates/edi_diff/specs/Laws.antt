-- Laws of what differs.
use Rattle.std.specs.Prelude.{◌≡◌, ◌≢◌, ◌↔◌, ◌++◌, ℕ, true, false, List, [], codes, slice_index}
use Rattle.edi_record.specs.declared.record.Kind.TheVariants.{Fea}
use Rattle.edi_schema.specs.Classes.{Classes}
use Rattle.edi_plan.specs.Plans.{PlanData, IsPlace, record_at}
use Rattle.edi_rank.specs.Labelling.{turned_at}
use Rattle.edi_rank.specs.Same.{CarriesRecord, Same}
use Rattle.edi_compare.specs.Rules.{IsAccepted}
use Rattle.edi_matching.specs.Differences.{IsReached}
use Rattle.edi_matching.specs.Matchings.{GoesTo, targets_of}
use Rattle.edi_matching.specs.declared.matching.Matching.{Matching}
use Rattle.edi_report.specs.Lines.{totals_line}
use Rattle.edi_report.specs.Reports.{Report}
use Rattle.edi_objects.specs.Accounts.{account_text}
use Rattle.edi_objects.specs.Counts.{class_totals}
use Rattle.edi_objects.specs.Differing.{bounds_type, is_differing}
use Rattle.edi_objects.specs.Names.{Naming}
use Rattle.edi_objects.specs.Objects.{first_object}
use Rattle.edi_objects.specs.Telling.{HidesNothing, IsLinkOf}
use Rattle.edi_diff.specs.Differences.{IsDifference, report_by}
use Rattle.edi_diff.specs.declared.differing.Difference.{Difference}
use Rattle.edi_diff.specs.declared.form.TextForm.{TextForm}

-- what the text of a difference is made from
abbrev pub report_in : (s : Classes) (a b : List ℕ) (form : TextForm) (found : Difference)
    → IsDifference s a b form found → Report
report_in s a b form found d = report_by d.first d.second d.unchanged d.is_text.became d.is_text.parts

-- the text of objects hides nothing of what differs between two accepted sheets, whichever attributes name objects
abbrev pub TextHidesNothing : Type 0
TextHidesNothing = (n : Naming) (s : Classes) (a b : List ℕ) (form : TextForm) (found : Difference) → IsAccepted s a
    → IsAccepted s b → (d : IsDifference s a b form found) → HidesNothing n (report_in s a b form found d)

-- the record at the place i goes to one of q, and with its ends, where they went, it is that one
pub record GoesUnchanged (s : Classes) (p q : PlanData) (became : Matching) (i : ℕ) : Type 0 where
  pub target : ℕ
  pub goes : GoesTo became.to i target
  pub carried : CarriesRecord s (slice_index (targets_of became.to)) (turned_at became.turned) i (record_at p i)
      (record_at q target)

-- a record of the first sheet that doesn't differ is carried by what became of the records
abbrev pub RestIsCarried : Type 0
RestIsCarried = (s : Classes) (a b : List ℕ) (form : TextForm) (found : Difference) (d : IsDifference s a b form found)
    (i : ℕ) → IsPlace d.first.accepted i → is_differing (report_in s a b form found d) i ≡ false
    → GoesUnchanged s d.first.accepted d.second.accepted d.is_text.became i

-- A node, an arc or a face of p is carried with what bounds it: it, the links that bound it, and what these name; and
-- each link that bounds the one of q onto which it is carried is one that a link of p became.
pub record IsCarriedWithBounds (s : Classes) (p q : PlanData) (became : Matching) (k : ℕ) : Type 0 where
  pub itself : GoesUnchanged s p q became k
  pub bounds : (link : ℕ) → IsLinkOf p k link → bounds_type (record_at p link).role (record_at p k).kind ≡ true
      → GoesUnchanged s p q became link
  pub bounding : (link other : ℕ) → IsLinkOf p k link → bounds_type (record_at p link).role (record_at p k).kind ≡ true
      → IsLinkOf p other link → GoesUnchanged s p q became other
  pub new_bounds : (link : ℕ) → IsLinkOf q itself.target link
      → bounds_type (record_at q link).role (record_at q itself.target).kind ≡ true → IsReached became.to link

-- An object of p is carried with all that its links reach: it, the links that name it, and what these name beside
-- objects, with what bounds that; and each link that names the one of q onto which it is carried is one that a link of
-- p became.
pub record IsCarriedWithLinks (s : Classes) (p q : PlanData) (became : Matching) (i : ℕ) : Type 0 where
  pub itself : GoesUnchanged s p q became i
  pub links : (link : ℕ) → IsLinkOf p i link → GoesUnchanged s p q became link
  pub joined : (link other : ℕ) → IsLinkOf p i link → IsLinkOf p other link → (record_at p other).kind ≢ Fea
      → IsCarriedWithBounds s p q became other
  pub new_links : (link : ℕ) → IsLinkOf q itself.target link → IsReached became.to link

-- an object of the first sheet of which the text of objects has no line, whichever attributes name objects, is carried
-- with all that its links reach
abbrev pub SilentObjectsAreCarried : Type 0
SilentObjectsAreCarried = (n : Naming) (s : Classes) (a b : List ℕ) (form : TextForm) (found : Difference)
    → IsAccepted s a → IsAccepted s b → (d : IsDifference s a b form found) (i : ℕ) → IsPlace d.first.accepted i
    → (record_at d.first.accepted i).kind ≡ Fea → first_object n (report_in s a b form found d) i ≡ []
    → IsCarriedWithLinks s d.first.accepted d.second.accepted d.is_text.became i

-- the text of objects is the counts alone: neither a record nor the character sets differ by it
abbrev pub TellsOfNone : Naming → Report → Type 0
TellsOfNone n r = account_text n r ≡ class_totals n r ++ codes "records: " ++ totals_line r

-- it is that exactly if the plans are the same, whichever attributes name objects
abbrev pub SilentExactlyIfSame : Type 0
SilentExactlyIfSame = (n : Naming) (s : Classes) (a b : List ℕ) (form : TextForm) (found : Difference)
    → IsAccepted s a → IsAccepted s b → (d : IsDifference s a b form found)
    → TellsOfNone n (report_in s a b form found d) ↔ Same s d.first.accepted d.second.accepted
