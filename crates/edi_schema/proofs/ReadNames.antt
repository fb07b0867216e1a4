-- The names of the classes that records state are on one line, and their identifiers have no semicolon.
use Rattle.std.proofs.Common.{◌≡◌, ℕ, suc, ◌-◌, Bool, true, false, not, ◌||◌, true≢false, List, [], ◌∷◌, Some, slice_get, codes, refl, sym, ap, ◌∙◌, subst, arith}
use Rattle.std.specs.List.{AllByRecursion, AllZip, list_any}
use Rattle.std.proofs.lemmas.Bool.{and_parts, not-true}
use Rattle.std.proofs.lemmas.List.Elements.{recursion_from_All, All-from_recursion}
use Rattle.std.proofs.lemmas.List.Sorted.{All-permutation}
use Rattle.std.proofs.lemmas.Option.{same_Some, none-some}
use Rattle.edi_line.specs.ZoneData.{ZoneData, first, has_code}
use Rattle.edi_line.specs.LineRules.{BreaksLineRule}
use Rattle.edi_line.specs.Printing.{IsOneLine}
use Rattle.edi_line.specs.Refusal.{IsUnbroken}
use Rattle.edi_line.specs.Zones.{groups_of}
use Rattle.edi_line.proofs.Said.{file_said}
use Rattle.edi_line.proofs.ZonesSaid.{zones_read}
use Rattle.edi_record.specs.RecordRules.{is_identifier, just_one}
use Rattle.edi_record.specs.Records.{values}
use Rattle.edi_record.specs.Texts.{is_semicolon, HasNoSemicolon}
use Rattle.edi_record.specs.declared.name.Name.{Name}
use Rattle.edi_record.proofs.ReadZones.{AreGroupZones, groups_readable}
use Rattle.edi_schema.specs.Classes.{Classes, IsReadName}
use Rattle.edi_schema.specs.Roles.{KindCodes}
use Rattle.edi_schema.specs.SchemaOf.{IsGroupsOf, IsNamed, StatesClass, IsSchemaOf}
use Rattle.edi_schema.specs.SchemaRules.{EntriesHold}
use Rattle.edi_schema.specs.SchemaRules.BreaksEntry.{lacks_identifier}
use Rattle.edi_schema.specs.declared.class.Class.{Class}
use Rattle.edi_schema.specs.declared.fault.Source.TheVariants.{Scd}

-- ---- values of zones

value_line : (code : List ℕ) (group : List ZoneData) → AreGroupZones group → (text : List ℕ) → first (values code group) ≡ Some text → IsOneLine text
value_line code [] lines text e = absurd (none-some text e)
value_line code (z ∷ zs) lines text e = go (has_code code z) refl e (value_line code zs lines.1 text)
  where
    go : (b : Bool) → has_code code z ≡ b → first (values code (z ∷ zs)) ≡ Some text → (first (values code zs) ≡ Some text → IsOneLine text) → IsOneLine text
    go true h f more = let g : Some z.value ≡ Some text = rw h at f in subst IsOneLine (same_Some z.value text g) lines.0.printable.one_line
    go false h f more = more (rw h at f)

pub whole_text : (text : List ℕ) → list_any is_semicolon text ≡ false → HasNoSemicolon text
whole_text text none = All-from_recursion (λ c. is_semicolon c ≡ false) text (each text none)
  where
    each : (text : List ℕ) → list_any is_semicolon text ≡ false → AllByRecursion (λ c. is_semicolon c ≡ false) text
    each [] h = tt
    each (c ∷ cs) h = go (is_semicolon c) refl h (each cs)
      where
        go : (b : Bool) → is_semicolon c ≡ b → (b || list_any is_semicolon cs) ≡ false → (list_any is_semicolon cs ≡ false → AllByRecursion (λ c. is_semicolon c ≡ false) cs) → AllByRecursion (λ c. is_semicolon c ≡ false) (c ∷ cs)
        go true e f more = absurd (true≢false f)
        go false e f more = (e, more f)

identifier_whole : (text : List ℕ) → is_identifier text ≡ true → HasNoSemicolon text
identifier_whole text h = whole_text text (not-true _ (and_parts _ _ (and_parts _ _ h).1).1)

the_one : (test : List ℕ → Bool) (texts : List (List ℕ)) (text : List ℕ) → just_one test texts ≡ true → first texts ≡ Some text → test text ≡ true
the_one test [] text h e = absurd (none-some text e)
the_one test (x ∷ []) text h e = subst (λ t. test t ≡ true) (same_Some x text e) h
the_one test (x ∷ y ∷ xs) text h e = absurd (true≢false (sym h))

-- ---- the classes that files state

pub group_lines : (b : List ℕ) (groups : List (List ZoneData)) → IsGroupsOf b groups → IsUnbroken (BreaksLineRule b) → AllByRecursion AreGroupZones groups
group_lines b groups file sound = subst (AllByRecursion AreGroupZones) (ap groups_of (sym (zones_read b file.0 file.2).is) ∙ (file_said file.0 file.1 groups file.3).1) (groups_readable b sound)

module _ (classes entries : List (List ZoneData)) (rules : EntriesHold classes entries) where
  has_identifier : (k : ℕ) (group : List ZoneData) → slice_get classes k ≡ Some group → just_one is_identifier (values (codes "RID") group) ≡ true
  has_identifier k group e = go (just_one is_identifier (values (codes "RID") group)) refl
    where
      there : slice_get classes (suc k - 1) ≡ Some group
      there = let z : k ≡ suc k - 1 = omega arith in subst (λ j. slice_get classes j ≡ Some group) z e

      go : (b : Bool) → just_one is_identifier (values (codes "RID") group) ≡ b → b ≡ true
      go true h = refl
      go false h = absurd (rules Scd 601 (suc k) (lacks_identifier refl (group, (omega arith, there), ap not h)))

  pub all_readable : (kinds : KindCodes) (s : Classes) → IsSchemaOf classes entries kinds s → AllByRecursion AreGroupZones classes → AllByRecursion (λ (e : Name × Class). IsReadName e.0) s
  all_readable kinds s is lines =
      recursion_from_All (λ (e : Name × Class). IsReadName e.0) s (All-permutation (λ (e : Name × Class). IsReadName e.0) is.stated s is.same
      (All-from_recursion (λ (e : Name × Class). IsReadName e.0) is.stated (names classes is.stated is.each_class lines has_identifier)))
    where
      read_name : (group : List ZoneData) (name : Name) → AreGroupZones group → just_one is_identifier (values (codes "RID") group) ≡ true → IsNamed group name → IsReadName name
      read_name group name lines one named = (
        value_line (codes "RTY") group lines name.rty named.rty,
        value_line (codes "RID") group lines name.rid named.rid,
        identifier_whole name.rid (the_one is_identifier (values (codes "RID") group) name.rid one named.rid),
      )

      names : (groups : List (List ZoneData)) (stated : Classes) → AllZip (StatesClass kinds is.words) groups stated → AllByRecursion AreGroupZones groups
          → ((k : ℕ) (group : List ZoneData) → slice_get groups k ≡ Some group → just_one is_identifier (values (codes "RID") group) ≡ true) → AllByRecursion (λ (e : Name × Class). IsReadName e.0) stated
      names [] [] all lines one = tt
      names [] (e ∷ es) all lines one = absurd all
      names (g ∷ gs) [] all lines one = absurd all
      names (g ∷ gs) (e ∷ es) all lines one = (read_name g e.0 lines.0 (one 0 g refl) all.0.named, names gs es all.1 lines.1 (λ k h f. one (suc k) h f))
