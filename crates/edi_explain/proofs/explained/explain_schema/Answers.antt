use Rattle.std.proofs.Common.{◌≡◌, ◌++◌, List, [], ℕ, ap, append-nil, ◌∙◌, refl, subst, sym}
use Rattle.std.proofs.lemmas.Result.{IfOk-weaker}
use Rattle.edi_line.specs.ZoneData.{ZoneData}
use Rattle.edi_line.specs.LineRules.{BreaksLineRule, IsZonesOf}
use Rattle.edi_line.specs.Refusal.{IsLeastBroken, IsUnbroken}
use Rattle.edi_line.specs.Zones.{groups_of}
use Rattle.edi_line.proofs.Said.{file_said}
use Rattle.edi_line.proofs.ZonesSaid.{zones_of_one}
use Rattle.edi_schema.specs.Roles.{KindCodes}
use Rattle.edi_schema.specs.declared.fault.SchemaFault.TheVariants.{Line, Kinds}
use Rattle.edi_schema.specs.SchemaRefusal.{IsSchemaRefusal}
use Rattle.edi_schema.specs.SchemaRules.{BreaksKinds}
use Rattle.edi_schema.specs.declared.fault.Source.{Source}
use Rattle.edi_schema.specs.declared.fault.Source.TheVariants.{Scd, Dic}
use Rattle.edi_explain.specs.Explained.{ExplainsLine, of_source}
use Rattle.edi_explain.specs.KindClasses.{codes_of}
use Rattle.edi_explain.specs.Lines.{lines_of_sites, sentence_of}
use Rattle.edi_explain.specs.Refusals.{IsRowRefusedAt}
use Rattle.edi_explain.specs.ZoneLines.{ExplainsZone}
use Rattle.edi_explain.proofs.Sources.{lines_of}
use Rattle.edi_explain.proofs.explained.explain_schema.Goals as goal

least_of : (file : Source) (scd dic : List ℕ) (kinds : KindCodes) (rule at : ℕ) → IsSchemaRefusal scd dic kinds (Line file rule at) → IsLeastBroken (BreaksLineRule (of_source file scd dic)) rule at
least_of Scd scd dic kinds rule at h = h
least_of Dic scd dic kinds rule at h = h.1

pub explain_line-requires : goal.explain_line-requires
explain_line-requires c =
    let scd = c.args.scd.now.bytes.now in
    let dic = c.args.dic.now.bytes.now in
    let refusal = subst (IsSchemaRefusal scd dic (codes_of c.args.codes.now)) c.in-Line.is c.requires in
    subst (λ (b : List ℕ). IsLeastBroken (BreaksLineRule b) c.in-Line.rule c.in-Line.at) (sym c.file_of-broken.ensures.bytes) (least_of c.in-Line.file scd dic (codes_of c.args.codes.now) c.in-Line.rule c.in-Line.at refusal)

pub returns-in-Line : goal.returns-in-Line
returns-in-Line c = rw c.in-Line.is (IfOk-weaker c.explain_line.result _ _ (λ lines said. (
  lines.items,
  [],
  subst (λ (b : List ℕ). ExplainsLine b (of_source c.in-Line.file c.args.scd.now.name.now c.args.dic.now.name.now) c.in-Line.rule c.in-Line.at lines.items) c.file_of-broken.ensures.bytes
      (subst (λ (n : List ℕ). ExplainsLine c.file_of-broken.result.bytes.now n c.in-Line.rule c.in-Line.at lines.items) c.file_of-broken.ensures.name said),
  refl,
  sym (append-nil lines.items),
)) c.explain_line.ensures)

pub explain_row-requires : goal.explain_row-requires
explain_row-requires c =
    let scd = c.args.scd.now.bytes.now in
    let dic = c.args.dic.now.bytes.now in
    let refusal = subst (IsSchemaRefusal scd dic (codes_of c.args.codes.now)) c.in-Entry.is c.requires in
    subst (λ (b : List ℕ). IsUnbroken (BreaksLineRule b)) (sym c.file_of-refused.ensures.bytes) (lines_of c.in-Entry.file scd dic refusal.0)

pub returns-in-Entry : goal.returns-in-Entry
returns-in-Entry c =
    let name = of_source c.in-Entry.file c.args.scd.now.name.now c.args.dic.now.name.now in
    let rule = c.in-Entry.rule in
    let at = c.in-Entry.at in
    rw c.in-Entry.is (IfOk-weaker c.explain_row.result _ _ (λ lines h. (
      lines_of_sites name h.1 (sentence_of h.0) rule,
      h.2,
      (h.0, h.1, h.3, subst (λ (b : List ℕ). IsRowRefusedAt b rule at h.1) c.file_of-refused.ensures.bytes h.4, refl),
      subst (λ (b : List ℕ). ExplainsZone b name rule at h.2) c.file_of-refused.ensures.bytes
          (subst (λ (n : List ℕ). ExplainsZone c.file_of-refused.result.bytes.now n rule at h.2) c.file_of-refused.ensures.name h.5),
      h.6 ∙ ap (λ (n : List ℕ). lines_of_sites n h.1 (sentence_of h.0) rule ++ h.2) c.file_of-refused.ensures.name,
    )) c.explain_row.ensures)

-- the records of the file of classes break the rule, whichever zones it has
broken_in : (scd dic : List ℕ) (kinds : KindCodes) → IsSchemaRefusal scd dic kinds Kinds → (zones : List ZoneData) → IsZonesOf scd zones → BreaksKinds (groups_of zones) [] kinds
broken_in scd dic kinds refusal zones is =
    let h = refusal.1 in
    let file = h.2.0 in
    let groups : h.0 ≡ groups_of zones = sym (file_said file.0 file.1 h.0 file.3).1 ∙ ap groups_of (zones_of_one scd file.0 zones file.2 is) in
    subst (λ (gs : List (List ZoneData)). BreaksKinds gs [] kinds) groups h.4

pub explain_kinds-requires : goal.explain_kinds-requires
explain_kinds-requires c =
    let scd = c.args.scd.now.bytes.now in
    let dic = c.args.dic.now.bytes.now in
    let kinds = codes_of c.args.codes.now in
    let refusal = subst (IsSchemaRefusal scd dic kinds) c.in-Kinds.is c.requires in
    record { lines = refusal.0.0; broken = broken_in scd dic kinds refusal }

pub returns-in-Kinds : goal.returns-in-Kinds
returns-in-Kinds c = rw c.in-Kinds.is (IfOk-weaker c.explain_kinds.result _ _ (λ lines said. (lines.items, [], said, refl, sym (append-nil lines.items))) c.explain_kinds.ensures)
