-- The forms in which what differs is told.
use Rattle.std.specs.Prelude.{◌==◌, ℕ, List, ⊤}
use Rattle.std.specs.List.{slice_split}
use Rattle.edi_schema.specs.Classes.{Classes}
use Rattle.edi_json.specs.Texts.{ReadsAs, differences_json}
use Rattle.edi_json.specs.Values.{difference_values}
use Rattle.edi_objects.specs.Accounts.{account_text}
use Rattle.edi_objects.specs.Names.{Naming, usual_naming}
use Rattle.edi_report.specs.Lines.{brief_text, report_text}
use Rattle.edi_report.specs.Reports.{Report}
use Rattle.edi_diff.specs.declared.form.TextForm.{TextForm}
use Rattle.edi_diff.specs.declared.form.TextForm.TheVariants.{Objects, ObjectsNamedBy, Records, Brief, Json}

-- the byte that parts identifiers, `,`
abbrev pub identifier_break : ℕ
identifier_break = 44

-- the identifiers in a text, which commas part
abbrev pub identifiers_in : List ℕ → List (List ℕ)
identifiers_in text = slice_split (λ x. x == identifier_break) text

-- a schema, with the identifiers of the classes of attributes that name objects
abbrev pub naming_by : Classes → List (List ℕ) → Naming
naming_by s identifiers = record { classes = s; identifiers = identifiers }

-- Object by object, each called by the attributes that people know or by those of given classes; record by record; how
-- many records differ; or record by record as lines of JSON.
abbrev pub text_of_form : Classes → TextForm → Report → List ℕ
text_of_form s Objects r = account_text (usual_naming s) r
text_of_form s (ObjectsNamedBy given) r = account_text (naming_by s (identifiers_in given.now)) r
text_of_form s Records r = report_text r
text_of_form s Brief r = brief_text r
text_of_form s Json r = differences_json r

-- of a text that is JSON, that a reader finds in its lines the values that tell what differs
abbrev pub IsReadByForm : TextForm → Report → List ℕ → Type 0
IsReadByForm Objects r text = ⊤
IsReadByForm (ObjectsNamedBy given) r text = ⊤
IsReadByForm Records r text = ⊤
IsReadByForm Brief r text = ⊤
IsReadByForm Json r text = ReadsAs text (difference_values r)
