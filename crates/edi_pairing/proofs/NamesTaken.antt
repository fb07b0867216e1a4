-- The names that are taken of a file's zones are those of its records.
use Rattle.std.proofs.Common.{◌≡◌, ◌<◌, ◌^◌, ℕ, List, [], ◌∷◌, ◌++◌, map, length, option_and_then, unwrap_or, codes, true, refl, sym, ap, ◌∙◌, subst}
use Rattle.std.specs.List.{AllZip}
use Rattle.edi_line.specs.ZoneData.{ZoneData, first}
use Rattle.edi_line.specs.Groups.{IsOneRecord}
use Rattle.edi_line.specs.Zones.{begins_group, groups_of}
use Rattle.edi_line.proofs.ZonesSaid.{zones_of_one}
use Rattle.edi_record.specs.Observers.{SawAll}
use Rattle.edi_record.specs.Records.{States}
use Rattle.edi_record.specs.declared.record.Kind.{Kind}
use Rattle.edi_record.specs.declared.record.Kind.TheVariants.{Pno}
use Rattle.edi_record.specs.declared.record.Record.{Record}
use Rattle.edi_record.specs.Titles.{IsTitleOf, TitleData}
use Rattle.edi_record.specs.inner.RecordRules.{kind_in, kind_named}
use Rattle.edi_record.proofs.GroupCuts.{value_here}
use Rattle.edi_record.proofs.KindCodes.{kind_again}
use Rattle.edi_schema.specs.Classes.{Classes}
use Rattle.edi_plan.specs.Plans.{PlanData}
use Rattle.edi_compare.specs.PlanOfFile.{IsPlanOfFile}
use Rattle.edi_compare.specs.Rules.{IsAccepted, LinesHold, RecordsHold}
use Rattle.edi_compare.specs.Rules.Breaks.{of_lines, of_records}
use Rattle.edi_pairing.specs.Names.{AreNames, AreNamesOf, names_of}
use Rattle.edi_pairing.specs.inner.Taken.{HasTaken, taken_kind, taken_name, taken_rid, titled_name}
use Rattle.edi_pairing.specs.declared.names.RecordName.{RecordName}
use Rattle.edi_pairing.specs.declared.taken.TakenNames.{TakenNames}
use Rattle.edi_compare.proofs.Phases.{sheet_whole}
use Rattle.edi_pairing.proofs.NameLemmas.{names_sound}

pushed : (groups : List (List ZoneData)) (group : List ZoneData) → map taken_name (groups ++ group ∷ []) ≡ map taken_name groups ++ taken_name group ∷ []
pushed [] group = refl
pushed (g ∷ groups) group = ap (λ names. taken_name g ∷ names) (pushed groups group)

abbrev name_of : Kind → List ℕ → RecordName
name_of kind rid = record { kind = kind; rid = rid }

named : (kind other : Kind) (rid text : List ℕ) → kind ≡ other → rid ≡ text → name_of kind rid ≡ name_of other text
named kind other rid text h k i = name_of (h i) (k i)

-- the type that a record states is that of its first zone
titled : (group : List ZoneData) (title : TitleData) → IsOneRecord group → IsTitleOf group title → titled_name title ≡ taken_name group
titled group title one is =
    let same : one.head ∷ one.rest ≡ is.head ∷ is.rest = sym one.joined ∙ is.is in
    let leads : begins_group is.head ≡ true = ap begins_group (sym (ap (first_or is.head) same)) ∙ one.leads in
    let kind : kind_named title.rty ≡ kind_in group =
    ap kind_named is.rty ∙ sym (ap (λ vs. option_and_then kind_named (first vs)) (value_here (codes "RTY") is.head is.rest is.head.value leads refl)) ∙ sym (ap kind_in is.is) in
    named (unwrap_or (kind_named title.rty) Pno) (taken_kind group) (unwrap_or title.rid []) (taken_rid group) (ap (λ k. unwrap_or k Pno) kind) (ap (λ r. unwrap_or r []) is.rid)
  where
    first_or : ZoneData → List ZoneData → ZoneData
    first_or d [] = d
    first_or d (x ∷ xs) = x

-- a record's name behind those of the records before it
pub taken_push : (names : List RecordName) (groups : List (List ZoneData)) (group : List ZoneData) (title : TitleData) (name : RecordName)
    → names ≡ map taken_name groups → IsOneRecord group → IsTitleOf group title → name ≡ titled_name title → names ++ name ∷ [] ≡ map taken_name (groups ++ group ∷ [])
taken_push names groups group title name held one is h =
    ap (λ list. list ++ name ∷ []) held ∙ (ap (λ n. map taken_name groups ++ n ∷ []) (h ∙ titled group title one is) ∙ sym (pushed groups group))

kind_is : (group : List ZoneData) (r : Record) → States group r → taken_kind group ≡ r.kind
kind_is group r h = ap (λ codes. unwrap_or (option_and_then kind_named (first codes)) Pno) h.type ∙ ap (λ kind. unwrap_or kind Pno) (kind_again r.kind)

rid_is : (group : List ZoneData) (r : Record) → States group r → taken_rid group ≡ r.rid
rid_is group r h = ap (λ rids. unwrap_or (first rids) []) h.rid

name_is : (group : List ZoneData) (r : Record) → States group r → taken_name group ≡ record { kind = r.kind; rid = r.rid }
name_is group r h i = record { kind = kind_is group r h i; rid = rid_is group r h i }

all_are : (groups : List (List ZoneData)) (list : List Record) → AllZip States groups list → map taken_name groups ≡ names_of list
all_are [] [] h = refl
all_are [] (r ∷ list) h = absurd h
all_are (g ∷ groups) [] h = absurd h
all_are (g ∷ groups) (r ∷ list) h = ap (λ name. name ∷ map taken_name groups) (name_is g r h.0) ∙ ap (λ names. record { kind = r.kind; rid = r.rid } ∷ names) (all_are groups list h.1)

module _ (s : Classes) (b : List ℕ) (p : PlanData) (taken : TakenNames) (plan : IsPlanOfFile s b p) (all : SawAll b (HasTaken taken)) where
  taken_are : taken.list.items ≡ names_of plan.0.list
  taken_are = all.2.names ∙ (ap (map taken_name) (ap groups_of (zones_of_one b all.0 plan.1.0 all.1 plan.1.1)) ∙ all_are (groups_of plan.1.0) plan.0.list plan.1.2.records)

  pub names_taken : AreNamesOf b taken.list.items
  names_taken = (plan.0, plan.1, taken_are)

  module _ (accepted : IsAccepted s b) (short : length b < 2 ^ 64) where
    lines_hold : LinesHold s b
    lines_hold rule at h = accepted rule at (of_lines h)

    records_hold : RecordsHold s b
    records_hold = (lines_hold, λ zones are rule at h. accepted rule at (of_records zones lines_hold are h))

    pub names_keep : AreNames taken.list.items
    names_keep =
        let whole = sheet_whole s b records_hold plan.0 plan.1 in
        subst AreNames (sym taken_are) (names_sound s b plan.0 plan.1 records_hold accepted short whole.few)
