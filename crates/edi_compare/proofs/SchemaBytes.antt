-- The names of a schema that is read of bytes are bytes.
use Rattle.std.proofs.Common.{◌≡◌, ℕ, Bool, true, false, List, [], ◌∷◌, Some, codes, refl, sym, ap, ◌∙◌, subst}
use Rattle.std.specs.List.{AllByRecursion, AllZip}
use Rattle.std.proofs.lemmas.List.Elements.{recursion_from_All, All-from_recursion}
use Rattle.std.proofs.lemmas.List.Sorted.{All-permutation}
use Rattle.std.proofs.lemmas.Option.{same_Some, none-some}
use Rattle.edi_line.specs.Bytes.{IsBytes}
use Rattle.edi_line.specs.ZoneData.{ZoneData, first, has_code}
use Rattle.edi_line.specs.Zones.{groups_of}
use Rattle.edi_line.proofs.Said.{file_said}
use Rattle.edi_line.proofs.ZonesFound.{zones_of}
use Rattle.edi_line.proofs.ZonesSaid.{zones_read}
use Rattle.edi_record.specs.Records.{values}
use Rattle.edi_record.specs.declared.name.Name.{Name}
use Rattle.edi_schema.specs.Classes.{Classes}
use Rattle.edi_schema.specs.Roles.{KindCodes}
use Rattle.edi_schema.specs.SchemaOf.{IsGroupsOf, StatesClass, Words}
use Rattle.edi_schema.specs.SchemaRefusal.{IsGoodSchema}
use Rattle.edi_schema.specs.declared.class.Class.{Class}
use Rattle.edi_compare.specs.Sameness.{HasByteNames}
use Rattle.edi_compare.proofs.ReadBytes.{zone_values}
use Rattle.edi_compare.proofs.SheetBytes.{AreOfBytes, IsByteName, groups_bytes}

named_bytes : (code : List ℕ) (group : List ZoneData) → AreOfBytes group → (text : List ℕ) → first (values code group) ≡ Some text → IsBytes text
named_bytes code [] bytes text e = absurd (none-some text e)
named_bytes code (z ∷ zs) bytes text e = go (has_code code z) refl e (named_bytes code zs bytes.1 text)
  where
    go : (b : Bool) → has_code code z ≡ b → first (values code (z ∷ zs)) ≡ Some text → (first (values code zs) ≡ Some text → IsBytes text) → IsBytes text
    go true h f more = let g : Some z.value ≡ Some text = rw h at f in subst IsBytes (same_Some z.value text g) bytes.0
    go false h f more = more (rw h at f)

groups_of_bytes : (b : List ℕ) (groups : List (List ZoneData)) → IsBytes b → IsGroupsOf b groups → AllByRecursion AreOfBytes groups
groups_of_bytes b groups bytes file =
    subst (AllByRecursion AreOfBytes) (ap groups_of (sym (zones_read b file.0 file.2).is) ∙ (file_said file.0 file.1 groups file.3).1) (groups_bytes (zones_of b) (zone_values b bytes))

names_stated : (kinds : KindCodes) (words : Words) (groups : List (List ZoneData)) (stated : Classes) → AllZip (StatesClass kinds words) groups stated → AllByRecursion AreOfBytes groups → HasByteNames stated
names_stated kinds words [] [] all bytes = tt
names_stated kinds words [] (e ∷ es) all bytes = absurd all
names_stated kinds words (g ∷ gs) [] all bytes = absurd all
names_stated kinds words (g ∷ gs) (e ∷ es) all bytes = (
  (named_bytes (codes "RTY") g bytes.0 e.0.rty all.0.named.rty, named_bytes (codes "RID") g bytes.0 e.0.rid all.0.named.rid),
  names_stated kinds words gs es all.1 bytes.1,
)

pub names_read : (kinds : KindCodes) (scd dic : List ℕ) (s : Classes) → IsBytes scd → IsGoodSchema scd dic kinds s → HasByteNames s
names_read kinds scd dic s bytes good =
    let is = good.is in
    recursion_from_All (λ (e : Name × Class). IsByteName e.0) s (All-permutation (λ (e : Name × Class). IsByteName e.0) is.stated s is.same
    (All-from_recursion (λ (e : Name × Class). IsByteName e.0) is.stated (names_stated kinds is.words good.classes is.stated is.each_class (groups_of_bytes scd good.classes bytes good.records.0))))
