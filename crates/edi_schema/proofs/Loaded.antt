-- The schema of two files, and its refusal, from the steps over what is read of them.
use Rattle.std.proofs.Common.{◌≡◌, ℕ, ◌≤◌, List, length, map, Result, Ok, Err, IfOk, IfErr, OnOk, sym, ap, ◌∙◌, subst, arith}
use Rattle.std.specs.List.{AllByRecursion}
use Rattle.std.proofs.lemmas.List.{length-map}
use Rattle.edi_line.specs.ZoneData.{ZoneData as Zone, entries}
use Rattle.edi_line.specs.declared.zone.Zone.{Zone as ZoneOf}
use Rattle.edi_schema.specs.declared.definition.Definition.{Definition}
use Rattle.edi_schema.specs.declared.draft.ClassDraft.{ClassDraft}
use Rattle.edi_line.specs.LineRules.{IsZonesOf, BreaksLineRule}
use Rattle.edi_line.specs.Zones.{HasShape, IsFileOf, groups_of}
use Rattle.edi_line.specs.Refusal.{IsUnbroken}
use Rattle.edi_line.proofs.Said.{file_said}
use Rattle.edi_schema.specs.Roles.{KindCodes}
use Rattle.edi_record.specs.declared.name.Name.{Name}
use Rattle.edi_schema.specs.declared.class.Class.{Class}
use Rattle.edi_schema.specs.Classes.{Classes, IsLetter, IsReadName}
use Rattle.edi_schema.specs.inner.Drafts.{Said, definition_said, said_in, drafted}
use Rattle.edi_schema.specs.SchemaOf.{IsGroupsOf}
use Rattle.edi_schema.specs.SchemaRefusal.{IsGoodSchema, IsSchemaRefusal}
use Rattle.edi_schema.specs.inner.Steps.{IfEntry, IfKinds, AreStated, AreMatched, AreUnmatched, StopsAt}
use Rattle.edi_schema.specs.declared.fault.SchemaFault.{SchemaFault}
use Rattle.edi_schema.specs.declared.fault.SchemaFault.TheVariants.{Memory, Line, Entry, Kinds}
use Rattle.edi_record.proofs.FewGroups.{few_groups}
use Rattle.edi_schema.proofs.Led.{groups_led}
use Rattle.edi_schema.proofs.Letters.{all_letters}
use Rattle.edi_schema.proofs.ReadNames.{group_lines, all_readable}
use Rattle.edi_schema.proofs.Made.{schema_made, kinds_hold, kinds_break}
use Rattle.edi_schema.proofs.StepsHold.{first_entry, entries_hold}
use Rattle.edi_schema.proofs.Stopping.{few_classes}

-- the zones of a file that breaks no rule of lines
pub record IsRead (b : List ℕ) (zones : List Zone) : Type 0 where
  pub is : IsZonesOf b zones
  pub shape : HasShape zones
  pub sound : IsUnbroken (BreaksLineRule b)

pub is_read : (b : List ℕ) (borrowed zones : List ZoneOf) → borrowed ≡ zones → IsZonesOf b (entries zones) → HasShape (entries zones) → IsUnbroken (BreaksLineRule b) → IsRead b (entries borrowed)
is_read b borrowed zones same is shape sound = subst (λ zs. IsRead b (entries zs)) (sym same) (record { is = is; shape = shape; sound = sound })

pub all_said : (ds items : List Definition) (ss : List Said) → ds ≡ items → map definition_said items ≡ ss → map definition_said ds ≡ ss
all_said ds items ss same are = ap (map definition_said) same ∙ are

pub few_drafts : (ds items : List ClassDraft) (n : ℕ) → ds ≡ items → length (map drafted items) ≤ n → length ds ≤ n
few_drafts ds items n same few = omega (arith, ap length same, length-map items drafted, few)

pub stated_borrowed : (cs ws : List Said) (kinds : KindCodes) (ds items : List ClassDraft) → ds ≡ items → AreStated cs ws kinds (map drafted items) → AreStated cs ws kinds (map drafted ds)
stated_borrowed cs ws kinds ds items same are = subst (λ xs. AreStated cs ws kinds (map drafted xs)) (sym same) are

pub ok_good : {S E : Type 0} (r : Result S E) (x : S) (M : Type 0) (G : S → Type 0) → IfOk r (λ s. s ≡ x) → OnOk r M → (M → G x) → IfOk r G
ok_good (Ok s) x M G is m to = subst G (sym is) (to m)
ok_good (Err e) x M G is m to = tt

pub err_refused : {S E : Type 0} (r : Result S E) (P Q : E → Type 0) → IfErr r P → ((e : E) → P e → Q e) → IfErr r Q
err_refused (Ok s) P Q h to = tt
err_refused (Err e) P Q h to = to e h

groups_are : (b : List ℕ) (zones : List Zone) → IsRead b zones → IsGroupsOf b (groups_of zones)
groups_are b zones h =
    (zones, h.shape.0, h.is, subst (IsFileOf zones h.shape.0) (sym (file_said zones h.shape.0 h.shape.1 h.shape.2).1) h.shape.2)

module _ (scd dic : List ℕ) (kinds : KindCodes) (czs wzs : List Zone) (c : IsRead scd czs) (w : IsRead dic wzs)
    (cs ws : List Said) (cs_are : cs ≡ map said_in (groups_of czs)) (ws_are : ws ≡ map said_in (groups_of wzs)) where
  stated_there : (s : Classes) → AreStated cs ws kinds s → AreStated (map said_in (groups_of czs)) (map said_in (groups_of wzs)) kinds s
  stated_there s are = subst (λ x. AreStated (map said_in (groups_of czs)) x kinds s) ws_are (subst (λ x. AreStated x ws kinds s) cs_are are)

  pub few_loaded : (s : Classes) → AreStated cs ws kinds s → length s ≤ 9999999
  few_loaded s are =
      let few = few_groups scd czs c.is c.sound in
      let count : length cs ≡ length (groups_of czs) = ap length cs_are ∙ length-map (groups_of czs) said_in in
      few_classes kinds ws cs s (omega (arith, few, count)) are

  pub letters_loaded : (s : Classes) → AreStated cs ws kinds s → AllByRecursion (λ (e : Name × Class). IsLetter e.1.letter) s
  letters_loaded s are =
      all_letters (groups_of czs) (groups_of wzs) kinds s (schema_made (groups_of czs) (groups_of wzs) (groups_led czs) (groups_led wzs) kinds s (stated_there s are))

  pub readable_loaded : (s : Classes) → AreStated cs ws kinds s → AllByRecursion (λ (e : Name × Class). IsReadName e.0) s
  readable_loaded s are =
      let there = stated_there s are in
      all_readable (groups_of czs) (groups_of wzs) (entries_hold (groups_of czs) (groups_of wzs) (groups_led czs) (groups_led wzs) kinds s there) kinds s
      (schema_made (groups_of czs) (groups_of wzs) (groups_led czs) (groups_led wzs) kinds s there) (group_lines scd (groups_of czs) (groups_are scd czs c) c.sound)

  pub stop_refused : (fault : SchemaFault) → IfEntry (StopsAt cs ws kinds) fault → IsSchemaRefusal scd dic kinds fault
  stop_refused (Memory e) h = tt
  stop_refused (Line file rule at) h = absurd h
  stop_refused (Entry file rule at) h = (
    (c.sound, w.sound),
    (
      groups_of czs,
      groups_of wzs,
      (groups_are scd czs c, groups_are dic wzs w),
      first_entry (groups_of czs) (groups_of wzs) (groups_led czs) (groups_led wzs) kinds file rule at
          (subst (λ x. StopsAt (map said_in (groups_of czs)) x kinds file rule at) ws_are (subst (λ x. StopsAt x ws kinds file rule at) cs_are h)),
    ),
  )
  stop_refused Kinds h = absurd h

  pub kinds_refused : (s : Classes) (fault : SchemaFault) → AreStated cs ws kinds s → IfKinds (AreUnmatched s) fault → IsSchemaRefusal scd dic kinds fault
  kinds_refused s (Memory e) are h = tt
  kinds_refused s (Line file rule at) are h = absurd h
  kinds_refused s (Entry file rule at) are h = absurd h
  kinds_refused s Kinds are h =
      let there = stated_there s are in (
        (c.sound, w.sound),
        (
          groups_of czs,
          groups_of wzs,
          (groups_are scd czs c, groups_are dic wzs w),
          entries_hold (groups_of czs) (groups_of wzs) (groups_led czs) (groups_led wzs) kinds s there,
          kinds_break (groups_of czs) (groups_of wzs) (groups_led czs) (groups_led wzs) kinds s there h,
        ),
      )

  pub good_loaded : (s : Classes) → AreStated cs ws kinds s → AreMatched s → IsGoodSchema scd dic kinds s
  good_loaded s are matched =
      let there = stated_there s are in
      record {
        lines = (c.sound, w.sound);
        classes = groups_of czs;
        entries = groups_of wzs;
        records = (groups_are scd czs c, groups_are dic wzs w);
        rules = entries_hold (groups_of czs) (groups_of wzs) (groups_led czs) (groups_led wzs) kinds s there;
        kinds_hold = kinds_hold (groups_of czs) (groups_of wzs) (groups_led czs) (groups_led wzs) kinds s there matched;
        is = schema_made (groups_of czs) (groups_of wzs) (groups_led czs) (groups_led wzs) kinds s there;
      }
