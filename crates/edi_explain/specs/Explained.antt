-- What is said of a refusal, of a plan and of a rule.
use Rattle.std.specs.Prelude.{◌≡◌, ◌↔◌, ◌++◌, ℕ, Bool, IsTrue, List, [], ◌∷◌, Option, Some, None, codes, decimal, count_by, flat_map, true}
use Rattle.edi_line.specs.Bytes.{line_feed}
use Rattle.edi_line.specs.Number.{plain_text}
use Rattle.edi_record.specs.declared.record.Kind.{Kind}
use Rattle.edi_record.specs.declared.record.Kind.TheVariants.{Pno, Par, Pfe, Fea, Lnk}
use Rattle.edi_plan.specs.Plans.{PlanData, same_kind}
use Rattle.edi_schema.specs.Classes.{Classes}
use Rattle.edi_schema.specs.Roles.{KindCodes}
use Rattle.edi_schema.specs.declared.fault.Source.{Source}
use Rattle.edi_schema.specs.declared.fault.Source.TheVariants.{Scd, Dic}
use Rattle.edi_schema.specs.declared.fault.SchemaFault.{SchemaFault}
use Rattle.edi_schema.specs.declared.fault.SchemaFault.TheVariants as schema
use Rattle.edi_compare.specs.declared.fault.Fault.{Fault}
use Rattle.edi_compare.specs.declared.fault.Fault.TheVariants.{Memory, Line, Entry}
use Rattle.edi_plan.specs.Extents.{IsExtentIfAny, points_of}
use Rattle.edi_explain.specs.Cuts.{ShowsCut, cut_hint}
use Rattle.edi_explain.specs.EndNodes.{ExplainsEndNode}
use Rattle.edi_explain.specs.Lengths.{CountsCharacters, length_hint}
use Rattle.edi_explain.specs.KindLines.{ExplainsKinds}
use Rattle.edi_explain.specs.Lines.{lines_of_line, lines_of_sites, sentence_of}
use Rattle.edi_explain.specs.Barring.{IsBarredBy}
use Rattle.edi_plan.specs.EarlierLinks.{IsLeastIfAny}
use Rattle.edi_explain.specs.Refusals.{IsRefusedAt, IsRowRefusedAt}
use Rattle.edi_explain.specs.Rules.{is_among, rules}
use Rattle.edi_explain.specs.Texts.{IsRuleText, RuleWords, SaysRule, rule_texts}
use Rattle.edi_explain.specs.ZoneLines.{ExplainsZone, ExplainsZoneOfSheet}
use Rattle.edi_plan.specs.declared.extent.Extent.{Extent}
use Rattle.edi_plan.specs.declared.extent.Span.{Span}
use Rattle.edi_explain.specs.declared.refused.RefusalSites.{RefusalSites}
use Rattle.edi_explain.specs.declared.text.RuleText.{RuleText}
use Rattle.edi_shown.specs.Shown.{shown_bytes}

-- The lines that explain the refusal of the file b by a rule of lines: the broken line with the sentence of the
-- rule, the earlier line that bars it, a hint where 103 is broken since the stated length counts characters, and
-- one where the file was cut.
abbrev pub ExplainsLine : List ℕ → List ℕ → ℕ → ℕ → List ℕ → Type 0
ExplainsLine b name rule at lines = (text : Option RuleText) × (earlier : Option ℕ) × (counts cut : Bool)
    × IsRuleText rule text
    × IsLeastIfAny (IsBarredBy b rule at) earlier × (IsTrue counts ↔ ((rule ≡ 103) × CountsCharacters b at))
    × (IsTrue cut ↔ ShowsCut b rule at)
    × (lines ≡ (lines_of_line name at earlier (sentence_of text) rule ++ length_hint name counts)
    ++ cut_hint name cut)

-- Of the refusal of the sheet b, whose file has this name, the lines of the broken line; or the record with the
-- sentence of its rule, and then the earlier record that the rule speaks of.
abbrev pub ExplainsPlace : Classes → List ℕ → List ℕ → Fault → List ℕ → Type 0
ExplainsPlace s b name (Memory e) lines = ⊥
ExplainsPlace s b name (Line rule at) lines = ExplainsLine b name rule at lines
ExplainsPlace s b name (Entry rule at) lines = (text : Option RuleText) × (sites : RefusalSites)
    × IsRuleText rule text × IsRefusedAt s b rule at sites
    × (lines ≡ lines_of_sites name sites (sentence_of text) rule)

-- and, of a record, the zone with which it breaks the rule
abbrev pub ExplainsZoneOf : Classes → List ℕ → List ℕ → Fault → List ℕ → Type 0
ExplainsZoneOf s b name (Memory e) lines = lines ≡ []
ExplainsZoneOf s b name (Line rule at) lines = lines ≡ []
ExplainsZoneOf s b name (Entry rule at) lines = ExplainsZoneOfSheet s b name rule at lines

-- and, of an arc, the node that the rule speaks of
abbrev pub ExplainsEndNodeOf : Classes → List ℕ → List ℕ → Fault → List ℕ → Type 0
ExplainsEndNodeOf s b name (Memory e) lines = lines ≡ []
ExplainsEndNodeOf s b name (Line rule at) lines = lines ≡ []
ExplainsEndNodeOf s b name (Entry rule at) lines = ExplainsEndNode s b name rule at lines

-- The lines that explain the refusal of the sheet b, whose file has this name: the place, then the zone, then the node.
abbrev pub ExplainsSheet : Classes → List ℕ → List ℕ → Fault → List ℕ → Type 0
ExplainsSheet s b name f lines = (place zone node : List ℕ) × ExplainsPlace s b name f place
    × ExplainsZoneOf s b name f zone × ExplainsEndNodeOf s b name f node × (lines ≡ (place ++ zone) ++ node)

-- the one of two that belongs to a file of a schema
abbrev pub of_source : Source → List ℕ → List ℕ → List ℕ
of_source Scd scd dic = scd
of_source Dic scd dic = dic

-- the same of the refusal of two files of a schema under these codes, whose names are given; 604 is of classes of the
-- first file
abbrev pub ExplainsSchemaPlace : KindCodes → List ℕ → List ℕ → List ℕ → List ℕ → SchemaFault → List ℕ → Type 0
ExplainsSchemaPlace kinds scd dic scd_name dic_name (schema.Memory e) lines = ⊥
ExplainsSchemaPlace kinds scd dic scd_name dic_name (schema.Line file rule at) lines =
    ExplainsLine (of_source file scd dic) (of_source file scd_name dic_name) rule at lines
ExplainsSchemaPlace kinds scd dic scd_name dic_name (schema.Entry file rule at) lines = (text : Option RuleText)
    × (sites : RefusalSites) × IsRuleText rule text × IsRowRefusedAt (of_source file scd dic) rule at sites
    × (lines ≡ lines_of_sites (of_source file scd_name dic_name) sites (sentence_of text) rule)
ExplainsSchemaPlace kinds scd dic scd_name dic_name schema.Kinds lines = ExplainsKinds kinds scd scd_name lines

-- and, of a record, the zone with which it breaks the rule
abbrev pub ExplainsSchemaZone : List ℕ → List ℕ → List ℕ → List ℕ → SchemaFault → List ℕ → Type 0
ExplainsSchemaZone scd dic scd_name dic_name (schema.Memory e) lines = lines ≡ []
ExplainsSchemaZone scd dic scd_name dic_name (schema.Line file rule at) lines = lines ≡ []
ExplainsSchemaZone scd dic scd_name dic_name (schema.Entry file rule at) lines =
    ExplainsZone (of_source file scd dic) (of_source file scd_name dic_name) rule at lines
ExplainsSchemaZone scd dic scd_name dic_name schema.Kinds lines = lines ≡ []

-- the place, and then the zone
abbrev pub ExplainsSchema : KindCodes → List ℕ → List ℕ → List ℕ → List ℕ → SchemaFault → List ℕ → Type 0
ExplainsSchema kinds scd dic scd_name dic_name f lines = (place zone : List ℕ)
    × ExplainsSchemaPlace kinds scd dic scd_name dic_name f place
    × ExplainsSchemaZone scd dic scd_name dic_name f zone × (lines ≡ place ++ zone)

-- a sentence behind words, as a line
abbrev pub worded_line : List ℕ → List ℕ → List ℕ
worded_line words sentence = words ++ sentence ++ line_feed ∷ []

-- how many records of a type a plan has, behind a word
abbrev pub count_line : PlanData → List ℕ → Kind → List ℕ
count_line p word kind = word ++ codes ": " ++ decimal (count_by (λ r. same_kind kind r.kind) p.list) ++ line_feed ∷ []

abbrev pub count_lines : PlanData → List ℕ
count_lines p = count_line p (codes "nodes") Pno ++ count_line p (codes "arcs") Par ++ count_line p (codes "faces") Pfe
    ++ count_line p (codes "objects") Fea ++ count_line p (codes "links") Lnk

-- the least and the greatest of some coordinates, behind a word
abbrev pub span_line : List ℕ → Span → List ℕ
span_line word span =
    word ++ codes ": " ++ plain_text span.least ++ codes " to " ++ plain_text span.greatest ++ line_feed ∷ []

abbrev pub extent_lines : Option Extent → List ℕ
extent_lines (Some extent) = span_line (codes "x") extent.x ++ span_line (codes "y") extent.y
extent_lines None = []

-- the character set, or that there is none
abbrev pub charset_line : Option (List ℕ) → List ℕ
charset_line (Some charset) = worded_line (codes "character set: ") (shown_bytes charset)
charset_line None = worded_line (codes "character set: ") (codes "none")

-- The lines on an accepted sheet: its records by type, its extent where it has points, and its character set.
abbrev pub DescribesPlan : PlanData → List ℕ → Type 0
DescribesPlan p lines =
    (extent : Option Extent) × IsExtentIfAny (points_of p) extent
    × (lines ≡ count_lines p ++ extent_lines extent ++ charset_line p.cse)

-- the reason of a rule, what usually breaks it, and what to do
abbrev pub reason_lines : RuleText → List ℕ
reason_lines text =
    worded_line (codes "Why: ") text.reason.now ++ worded_line (codes "Usual cause: ") text.cause.now
    ++ worded_line (codes "What to do: ") text.remedy.now

-- the page on a rule: its number and its sentence, and those lines
abbrev pub rule_page : RuleText → List ℕ
rule_page text = decimal text.rule ++ worded_line (codes ": ") text.sentence.now ++ reason_lines text

-- a rule in the list of all: its number and its sentence, as a line
abbrev pub rule_line : RuleWords → List ℕ
rule_line w = decimal w.rule ++ worded_line (codes ": ") w.sentence

-- all rules, in the order of their numbers
abbrev pub rule_lines : List ℕ
rule_lines = flat_map rule_line rule_texts

-- a word is the number of a rule, as it is usually written
abbrev pub IsRuleWord : List ℕ → ℕ → Type 0
IsRuleWord word rule = (word ≡ decimal rule) × (is_among rules rule ≡ true)

-- the word is the number of a rule, and this is the text of that rule
abbrev pub IsTextOfWord : List ℕ → RuleText → Type 0
IsTextOfWord word text = IsRuleWord word text.rule × SaysRule text.rule (Some text)
