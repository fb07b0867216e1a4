-- What the callers promise.
use Rattle.std.specs.Prelude.{◌≡◌, ℕ, ◌≤◌, ◌==◌, ◌&&◌, Bool, false, List, [], ◌∷◌, length, map, position, replicate, take, Option, bytes_eq, codes, option_map}
use Rattle.std.specs.Io.KnownBytes.{Appends}
use Rattle.edi_record.specs.declared.record.Value.{Value}
use Rattle.edi_record.specs.declared.record.Value.TheVariants.{Number, Bytes}
use Rattle.edi_schema.specs.Classes.{Classes}
use Rattle.edi_schema.specs.Roles.{KindCodes}
use Rattle.edi_plan.specs.Plans.{PlanData, same_kind}
use Rattle.edi_plan.specs.declared.record.PlanAttribute.{PlanAttribute}
use Rattle.edi_rank.specs.Labelling.{AreLabels, Labelling, number_of}
use Rattle.edi_write.specs.declared.writing.Written.{Written}
use Rattle.edi_compare.specs.Headline.{IsFormOf}
use Rattle.edi_compare.specs.PlanOfFile.{IsPlanOfFile}
use Rattle.edi_compare.specs.Pairings.{PairingCarries}
use Rattle.edi_compare.specs.declared.fault.Fault.{Fault}
use Rattle.edi_compare.specs.declared.pairing.Pairing.{Pairing}
use Rattle.edi_pairing.specs.NamedSheets.{IsNamedSheet}
use Rattle.edi_pairing.specs.declared.names.RecordName.{RecordName}
use Rattle.edi_pairing.specs.declared.sheets.NamedSheet.{NamedSheet}
use Rattle.edi_picture.specs.Pictures.{IsPicture}
use Rattle.edi_picture.specs.Sheets.{DrawnSheet}
use Rattle.edi_picture.specs.declared.mark.Mark.TheVariants.{Plain}
use Rattle.uses.specs.declared.sheets.Unwritten.{Unwritten}
use Rattle.uses.specs.declared.sheets.Unwritten.TheVariants.{Refused, Failed}

-- this of the refusal, or that of what was written
abbrev pub MatchUnwritten : (Fault → Type 0) → (Written → Type 0) → Unwritten → Type 0
MatchUnwritten P Q (Refused fault) = P fault
MatchUnwritten P Q (Failed written) = Q written

-- a writer got the canonical file of the sheet
abbrev pub GetsForm : Classes → List ℕ → Option (List ℕ) → Option (List ℕ) → Type 0
GetsForm s sheet old new = (c : List ℕ) × IsFormOf s sheet c × Appends old new c

-- a writer got the first bytes of the canonical file of the sheet, this many
abbrev pub GetsFirst : Classes → List ℕ → ℕ → Option (List ℕ) → Option (List ℕ) → Type 0
GetsFirst s sheet count old new =
    (c : List ℕ) × IsFormOf s sheet c × (count ≤ length c) × Appends old new (take count c)

-- the pairing carries the plan of the one sheet onto that of the other
abbrev pub SomePairing : Classes → List ℕ → List ℕ → Pairing → Type 0
SomePairing s a b pairing = (p q : PlanData) × IsPlanOfFile s a p × IsPlanOfFile s b q × PairingCarries s p q pairing

-- the four kinds by the identifiers of their classes
abbrev pub own_kinds : KindCodes
own_kinds =
    record { initial = codes "INI_id"; final_node = codes "FIN_id"; left = codes "GCH_id"; right = codes "DRT_id" }

-- a value is this text
abbrev pub is_text : List ℕ → Value → Bool
is_text text (Number n) = false
is_text text (Bytes bytes) = bytes_eq bytes text

-- an attribute is of this class and has this text
abbrev pub has_text : ℕ → List ℕ → PlanAttribute → Bool
has_text class text a = a.atp == class && is_text text a.value

-- two names of records are one
abbrev pub same_name : RecordName → RecordName → Bool
same_name a b = same_kind a.kind b.kind && bytes_eq a.rid b.rid

-- The number that labels of the plan of the sheet give the record of this name, if the sheet has one.
abbrev pub IsNumberOfName : Classes → List ℕ → RecordName → Option ℕ → Type 0
IsNumberOfName s b name number = (sheet : NamedSheet) × (labels : Labelling) × IsNamedSheet s b sheet
    × AreLabels s sheet.accepted labels × (number ≡ option_map (number_of labels) (position (same_name name) sheet.names))

-- a sheet as it is drawn without marks: each record with its identifier, no face tinted, and nothing written on faces
abbrev pub unmarked_sheet : List ℕ → NamedSheet → DrawnSheet
unmarked_sheet name sheet = record {
  plan = sheet.accepted;
  name = name;
  identifiers = map (λ n. n.rid) sheet.names;
  marks = replicate (length sheet.accepted.list) Plain;
  tints = [];
  labels = [];
}

-- the picture of the sheet of a file of this name, without marks
abbrev pub IsDrawnAlone : Classes → List ℕ → List ℕ → List ℕ → Type 0
IsDrawnAlone s name b picture =
    (sheet : NamedSheet) × IsNamedSheet s b sheet × IsPicture s (unmarked_sheet name sheet ∷ []) picture
