-- What the text of a schema decides: every answer, and nothing but answers.
use Rattle.std.specs.Prelude.{◌≡◌, ◌↔◌, ℕ, List, true, false, Some, None, codes}
use Rattle.edi_line.specs.Bytes.{IsBytes}
use Rattle.edi_record.specs.declared.name.Name.{Name}
use Rattle.edi_record.specs.declared.record.Kind.TheVariants.{Pno, Pfe}
use Rattle.edi_schema.specs.Classes.{Classes, IsSchema, is_number_named, role_named}
use Rattle.edi_schema.specs.Roles.{KindCodes, is_plain}
use Rattle.edi_schema.specs.SchemaRefusal.{IsGoodSchema}
use Rattle.edi_schema.specs.declared.role.Role.{Role}
use Rattle.edi_schema.specs.declared.role.Role.TheVariants.{Initial, Final, Plain}
use Rattle.edi_plan.specs.Joined.{beside}
use Rattle.edi_write.specs.Written.{IsPrintableName}
use Rattle.edi_compare.specs.Refused.{IsRefusal}
use Rattle.edi_compare.specs.Rules.{IsAccepted}
pub use Rattle.edi_compare.specs.Sameness.{HasByteNames}
use Rattle.edi_compare.specs.declared.fault.Fault.TheVariants.{Entry}
use Rattle.edi_schema_text.specs.SchemaText.{text_of_schema}
use Rattle.edi_schema_meaning.specs.Answers.{AnswerAlike}
use Rattle.edi_schema_meaning.specs.Probes.{join_records, loop_records, node_records, probe, start_records, value_records}

-- two schemas with one text answer alike
abbrev pub OneTextOneAnswer : Type 0
OneTextOneAnswer = (s t : Classes) → IsSchema s → IsSchema t → text_of_schema s ≡ text_of_schema t → AnswerAlike s t

-- what a schema answers to the small sheets of a name
pub record AnswersProbes (s : Classes) (name : Name) : Type 0 where
  -- one node: accepted if the class is there, and else refused by 302
  pub known : (role : Role) → role_named s name ≡ Some role → IsAccepted s (probe (node_records name))
  pub unknown : role_named s name ≡ None → IsRefusal s (probe (node_records name)) (Entry 302 1)
  -- a link with one node at both ends: refused by 306 if the class has a kind, and not if it has none
  pub of_a_kind : (role : Role) → role_named s name ≡ Some role → is_plain role ≡ false
      → IsRefusal s (probe (loop_records name)) (Entry 306 1)
  pub of_no_kind : role_named s name ≡ Some Plain → ¬ (IsRefusal s (probe (loop_records name)) (Entry 306 1))
  -- a link from an arc to a node: refused by 306 if the kind is of faces, and not if it is of nodes
  pub of_faces : (role : Role) → role_named s name ≡ Some role → beside role ≡ Pfe
      → IsRefusal s (probe (join_records name)) (Entry 306 1)
  pub of_nodes : (role : Role) → role_named s name ≡ Some role → beside role ≡ Pno
      → ¬ (IsRefusal s (probe (join_records name)) (Entry 306 1))
  -- the same with the node at the arc's first point alone: refused by 402 if the kind is that of final nodes, and not
  -- if it is that of initial ones
  pub of_ends : role_named s name ≡ Some Final → IsRefusal s (probe (start_records name)) (Entry 402 1)
  pub of_starts : role_named s name ≡ Some Initial → ¬ (IsRefusal s (probe (start_records name)) (Entry 402 1))
  -- two nodes with an attribute of `01` and of `1`: refused by 403 if its values are numbers, and not if they are bytes
  pub of_numbers : name.rty ≡ codes "ATT" → is_number_named s name ≡ Some true
      → IsRefusal s (probe (value_records name)) (Entry 403 2)
  pub of_bytes : name.rty ≡ codes "ATT" → is_number_named s name ≡ Some false
      → ¬ (IsRefusal s (probe (value_records name)) (Entry 403 2))

abbrev pub ProbesAreAnswered : Type 0
ProbesAreAnswered = (s : Classes) (name : Name) → IsPrintableName name → AnswersProbes s name

-- two schemas that answer alike have one text
abbrev pub OneAnswerOneText : Type 0
OneAnswerOneText =
    (s t : Classes) → IsSchema s → IsSchema t → HasByteNames s → AnswerAlike s t → text_of_schema s ≡ text_of_schema t

-- of schemas that are read of files, two have one text exactly if they answer alike
abbrev pub TextsDecideAnswers : Type 0
TextsDecideAnswers =
    (scd dic scd' dic' : List ℕ) (kinds kinds' : KindCodes) (s t : Classes) → IsBytes scd → IsGoodSchema scd dic kinds s
    → IsGoodSchema scd' dic' kinds' t → (text_of_schema s ≡ text_of_schema t) ↔ AnswerAlike s t
