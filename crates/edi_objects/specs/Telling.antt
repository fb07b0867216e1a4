-- How the text tells of the records that the text of records lists.
use Rattle.std.specs.Prelude.{◌≡◌, ◌≢◌, ◌⊎◌, ◌<◌, ℕ, true, false, List, [], ◌∷◌, ◌++◌, Some, None, IsPermutation, length, slice_index_or}
use Rattle.edi_line.specs.Bytes.{line_feed}
use Rattle.edi_record.specs.declared.record.Kind.{Kind}
use Rattle.edi_record.specs.declared.record.Kind.TheVariants.{Pno, Par, Pfe, Fea, Lnk}
use Rattle.edi_plan.specs.Plans.{PlanData, IsPlace, record_at}
use Rattle.edi_plan.specs.Sides.{targets}
use Rattle.edi_plan.specs.Whole.{IsWholePlan}
use Rattle.edi_plan.specs.declared.record.PlanRecord.{PlanRecord}
use Rattle.edi_report.specs.Lines.{first_line, second_line, some_differ}
use Rattle.edi_report.specs.Reports.{Report, parts_at}
use Rattle.edi_report.specs.declared.parts.DifferingParts.{DifferingParts}
use Rattle.edi_objects.specs.Accounts.{account_text, first_bare_link, second_bare_link}
use Rattle.edi_objects.specs.Differing.{arrives, became_of, is_differing, same_of}
use Rattle.edi_objects.specs.Elements.{first_element, second_element}
use Rattle.edi_objects.specs.Names.{Naming}
use Rattle.edi_objects.specs.Objects.{differing_link, first_object, has_other_outline, object_lines, second_link, second_object}

-- ---- lines

-- the last of these bytes, or the one before them where there are none
abbrev pub last_byte : ℕ → List ℕ → ℕ
last_byte before [] = before
last_byte before (b ∷ bytes) = last_byte b bytes

-- nothing, or what ends in a line feed
abbrev pub AreWholeLines : List ℕ → Type 0
AreWholeLines text = last_byte line_feed text ≡ line_feed

-- these are lines of the text: some, whole ones, and from the beginning of a line on
pub record AreLinesOf (text lines : List ℕ) : Type 0 where
  pub there : lines ≢ []
  pub whole : AreWholeLines lines
  pub before : List ℕ
  pub begins : AreWholeLines before
  pub behind : List ℕ
  pub is : text ≡ before ++ lines ++ behind

-- ---- what links name, and what a report says

-- the link names the record at this place
pub record IsLinkOf (p : PlanData) (place link : ℕ) : Type 0 where
  pub there : IsPlace p link
  pub kind : (record_at p link).kind ≡ Lnk
  pub at : ℕ
  pub within : at < length (targets (record_at p link))
  pub names : slice_index_or (targets (record_at p link)) at 0 ≡ place

-- What is said of the parts of a record and of the one that it became: the attributes differ only where they are
-- others, and points or ends don't that neither has.
pub record AreSoundParts (a b : PlanRecord) (parts : DifferingParts) : Type 0 where
  pub attributes : parts.attributes ≡ true → ¬ (IsPermutation a.attributes b.attributes)
  pub points : a.points ≡ [] → b.points ≡ [] → parts.points ≡ false
  pub ends : a.ends ≡ [] → b.ends ≡ [] → parts.ends ≡ false

-- two plans, and for the records of the first those of the second, of their types, that they are or became
pub record IsSoundReport (r : Report) : Type 0 where
  pub first_whole : IsWholePlan r.first.accepted
  pub second_whole : IsWholePlan r.second.accepted
  pub all_became : length r.became ≡ length r.first.accepted.list
  pub within : (i j : ℕ) → became_of r i ≡ Some j → IsPlace r.second.accepted j
  pub types : (i j : ℕ) → became_of r i ≡ Some j
      → (record_at r.second.accepted j).kind ≡ (record_at r.first.accepted i).kind
  pub parts : (i j : ℕ) → same_of r i ≡ None → became_of r i ≡ Some j
      → AreSoundParts (record_at r.first.accepted i) (record_at r.second.accepted j) (parts_at r.parts i)

-- ---- a record's own lines

-- what the text says of a record of the first sheet itself, by its type
abbrev pub first_account_by : Kind → Naming → Report → ℕ → List ℕ
first_account_by Pno n r i = first_element n r i
first_account_by Par n r i = first_element n r i
first_account_by Pfe n r i = first_element n r i
first_account_by Fea n r i = first_object n r i
first_account_by Lnk n r i = first_bare_link n r i

abbrev pub first_account : Naming → Report → ℕ → List ℕ
first_account n r i = first_account_by (record_at r.first.accepted i).kind n r i

-- and of one of the second
abbrev pub second_account_by : Kind → Naming → Report → ℕ → List ℕ
second_account_by Pno n r j = second_element n r j
second_account_by Par n r j = second_element n r j
second_account_by Pfe n r j = second_element n r j
second_account_by Fea n r j = second_object n r j
second_account_by Lnk n r j = second_bare_link n r j

abbrev pub second_account : Naming → Report → ℕ → List ℕ
second_account n r j = second_account_by (record_at r.second.accepted j).kind n r j

-- the text has lines of the record itself
abbrev pub FirstHasLines : Naming → Report → ℕ → Type 0
FirstHasLines n r i = AreLinesOf (account_text n r) (first_account n r i)

abbrev pub SecondHasLines : Naming → Report → ℕ → Type 0
SecondHasLines n r j = AreLinesOf (account_text n r) (second_account n r j)

-- ---- how a record is told

-- Among the lines of an object that a link of the first sheet names there is one of the link: that it is gone, or how
-- it differs.
pub record IsToldByFirst (n : Naming) (r : Report) (link object : ℕ) : Type 0 where
  pub names : IsLinkOf r.first.accepted object link
  pub is_object : (record_at r.first.accepted object).kind ≡ Fea
  pub target : ℕ
  pub went : became_of r object ≡ Some target
  pub among : AreLinesOf (object_lines n r object target)
      (differing_link n r object link (became_of r link) (parts_at r.parts link))
  pub stands : FirstHasLines n r object

-- Among the lines of an object that is or became one which a link of the second sheet names there is one of the link:
-- that it is new.
pub record IsToldBySecond (n : Naming) (r : Report) (link object : ℕ) : Type 0 where
  pub names : IsLinkOf r.second.accepted object link
  pub is_object : (record_at r.second.accepted object).kind ≡ Fea
  pub source : ℕ
  pub went : became_of r source ≡ Some object
  pub among : AreLinesOf (object_lines n r source object) (second_link n r object link)
  pub stands : FirstHasLines n r source

-- a link of the first sheet names a record that has lines of its own: an object that is gone, or a node, an arc or a
-- face
pub record StandsWithFirst (n : Naming) (r : Report) (link other : ℕ) : Type 0 where
  pub names : IsLinkOf r.first.accepted other link
  pub gone : (record_at r.first.accepted other).kind ≡ Fea → became_of r other ≡ None
  pub stands : FirstHasLines n r other

-- a link of the second sheet names a record that has lines of its own: it is new
pub record StandsWithSecond (n : Naming) (r : Report) (link other : ℕ) : Type 0 where
  pub names : IsLinkOf r.second.accepted other link
  pub stands : SecondHasLines n r other

-- The text tells of a record of the first sheet: by lines of its own; of a link also by a line of an object that it
-- names; and a link that joins a record with lines of its own stands with these.
pub data FirstIsTold (n : Naming) (r : Report) (i : ℕ) : Type 0 where
  by_lines : FirstHasLines n r i → FirstIsTold n r i
  by_object : (object : ℕ) → IsToldByFirst n r i object → FirstIsTold n r i
  by_joined : (other : ℕ) → StandsWithFirst n r i other → FirstIsTold n r i

-- the same of a record of the second sheet
pub data SecondIsTold (n : Naming) (r : Report) (j : ℕ) : Type 0 where
  new_by_lines : SecondHasLines n r j → SecondIsTold n r j
  new_by_object : (object : ℕ) → IsToldBySecond n r j object → SecondIsTold n r j
  new_by_joined : (other : ℕ) → StandsWithSecond n r j other → SecondIsTold n r j

-- Of a record that became another no part of its own differs: only records that links join with it do, and of it the
-- text says nothing on purpose.
pub record DiffersByLinksAlone (r : Report) (i : ℕ) : Type 0 where
  pub not_same : same_of r i ≡ None
  pub target : ℕ
  pub went : became_of r i ≡ Some target
  pub no_part : some_differ (parts_at r.parts i) ≡ false

-- Nothing differs of an object of the first sheet that is or became one of the second, nor of what its links reach: no
-- part of its own, no link that names it in the one sheet or the other, and no outline of what such a link names.
pub record IsUntouched (r : Report) (i j : ℕ) : Type 0 where
  pub itself : is_differing r i ≡ false
  pub links : (link : ℕ) → IsLinkOf r.first.accepted i link → is_differing r link ≡ false
  pub outlines : (link other : ℕ) → IsLinkOf r.first.accepted i link → IsLinkOf r.first.accepted other link
      → has_other_outline r other ≡ false
  pub new_links : (link : ℕ) → IsLinkOf r.second.accepted j link → arrives r link ≡ false

-- Each record that the text of records lists is told, but one of which only linked records differ; and nothing differs
-- of an object that has no line, nor of what its links reach.
pub record HidesNothing (n : Naming) (r : Report) : Type 0 where
  pub first : (i : ℕ) → IsPlace r.first.accepted i → first_line r i ≢ []
      → FirstIsTold n r i ⊎ DiffersByLinksAlone r i
  pub second : (j : ℕ) → IsPlace r.second.accepted j → second_line r j ≢ [] → SecondIsTold n r j
  pub objects : (i : ℕ) → IsPlace r.first.accepted i → (record_at r.first.accepted i).kind ≡ Fea
      → first_object n r i ≡ [] → (j : ℕ) × (became_of r i ≡ Some j) × IsUntouched r i j
