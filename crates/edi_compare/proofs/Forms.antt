-- The layout of an accepted sheet is canonical and states the plan of the sheet.
use Rattle.std.proofs.Common.{◌≡◌, ◌∙◌, sym, ap, subst, refl, ℕ, ◌<◌, ◌≤◌, ◌^◌, List, ◌++◌, map, length, take, arith}
use Rattle.std.proofs.lemmas.List.Elements.{All-append, All-take}
use Rattle.edi_line.specs.Refusal.{IsUnbroken}
use Rattle.edi_record.specs.RecordLayout.{settled_record}
use Rattle.edi_record.specs.RecordLayout as records
use Rattle.edi_record.specs.Sound.{IsSoundFile}
use Rattle.edi_record.specs.declared.record.Record.{Record}
use Rattle.edi_record.specs.Records.{SheetData}
use Rattle.edi_record.proofs.Printable.{sheet_printable}
use Rattle.edi_record.proofs.ReadRecords.{sheet_read}
use Rattle.edi_record.proofs.SheetStated.{sheet_stated}
use Rattle.edi_record.proofs.Sound.{sheet_sound}
use Rattle.edi_schema.specs.Classes.{Classes, IsSchema}
use Rattle.edi_plan.specs.Joined.{IsJoined}
use Rattle.edi_plan.specs.Plans.{PlanData}
use Rattle.edi_topo.specs.TopologyRules.{BreaksTopologyRule}
use Rattle.edi_rank.specs.EqualObjects.{BreaksObjectRule}
use Rattle.edi_rank.specs.Arranged.{new_place, arranged}
use Rattle.edi_rank.specs.Labelling.{Labelling, AreLabels, turned_at}
use Rattle.edi_rank.specs.Laws.{IsPlanUnder}
use Rattle.edi_rank.specs.Same.{Same}
use Rattle.edi_rank.proofs.ArrangedRises.{arranged_in_order}
use Rattle.edi_rank.proofs.ArrangedUnder.{under_arranged}
use Rattle.edi_rank.proofs.Arranging.{carries_arranged}
use Rattle.edi_rank.proofs.Preserved.{topology_preserved, joins_kept}
use Rattle.edi_rank.proofs.ObjectsPreserved.{objects_preserved}
use Rattle.edi_write.specs.Layout.{layout}
use Rattle.edi_write.specs.Written.{letters, written_records, CanBePrinted, HasAttributeClasses}
use Rattle.edi_write.proofs.KindNames.{kinds_printable}
use Rattle.edi_write.proofs.WrittenPrinted.{letters_printable, written_printable, attribute_classes}
use Rattle.edi_write.proofs.WrittenRecords.{written_layout, written_plan, written_count}
use Rattle.edi_write.proofs.WrittenReferences.{written_references}
use Rattle.edi_compare.specs.Canonical.{IsCanonical}
use Rattle.edi_compare.specs.Headline.{IsFormOf}
use Rattle.edi_line.specs.Bytes.{IsBytes}
use Rattle.edi_compare.specs.inner.Forms.{HasForm, IsPlanForm}
use Rattle.edi_compare.specs.HeldPlans.{IsHeldPlan}
use Rattle.edi_compare.specs.PlanOfFile.{IsSheetOf, IsPlanOfFile, StateSame}
use Rattle.edi_compare.specs.Rules.{ReferencesHold, IsAccepted}
use Rattle.edi_compare.specs.declared.canonical.Form.{Form}
use Rattle.edi_compare.proofs.Headline.{plan_under, plan_joined, records_hold, references_hold, topology_hold, objects_hold, decide}
use Rattle.edi_compare.proofs.Phases.{records_held, references_held, topology_held, all_held}
use Rattle.edi_compare.proofs.Reading.{reading_is_one}

-- The layout of the plan of an accepted sheet, whose records are numbered and put in order by their labels.
pub record IsLayoutOf (s : Classes) (b c : List ℕ) : Type 0 where
  pub plan : PlanData
  pub labels : Labelling
  pub accepted : IsAccepted s b
  pub states : IsPlanOfFile s b plan
  pub are_labels : AreLabels s plan labels
  pub laid_out : c ≡ layout s (arranged s labels plan)

-- ---- the file of the records that are written of a plan

module _ (s : Classes) (q : PlanData) (keeps : IsSchema s) (under : IsPlanUnder s q) (can : CanBePrinted q.cse (written_records s q)) where
  abbrev written : List Record
  written = written_records s q

  abbrev file : List ℕ
  file = records.records_layout (letters s) q.cse written

  few : length written ≤ 9999999
  few = let f = under.whole.few in omega (arith, f, written_count s q)

  sound : IsSoundFile (letters s) q.cse written
  sound = sheet_sound (letters s) q.cse written (letters_printable s keeps) can.set can.records can.lines can.rules few

  abbrev sheet : SheetData
  sheet = record {
    cse = q.cse;
    list = map (settled_record (letters s)) written;
  }

  states_sheet : IsSheetOf file sheet
  states_sheet =
      let printable = sheet_printable (letters s) q.cse written (letters_printable s keeps) can.set can.records can.lines in
      let again = sheet_stated (letters s) q.cse written sound.are_zones.readings sound.zones printable can.records sound.are_zones.say sound.are_zones.zones_in in
      (sound.zones, sound.are_zones, record { cse = sym again.0; records = again.1 })

  states_plan : IsPlanOfFile s file q
  states_plan = (sheet, states_sheet, written_plan s q sheet keeps under.whole under.agrees refl refl)

  holds_references : IsJoined q → HasAttributeClasses s q → ReferencesHold s file
  holds_references joined types =
      references_held s file (records_held s file sound.lines sound.zones sound.are_zones sound.records) sheet states_sheet
      (written_references s q keeps under.whole under.agrees joined types)

  accepts : IsJoined q → HasAttributeClasses s q → IsUnbroken (BreaksTopologyRule q) → IsUnbroken (BreaksObjectRule q) → IsAccepted s file
  accepts joined types topology objects = all_held s file (topology_held s file (holds_references joined types) q states_plan topology) q states_plan objects

-- ---- the layout of a sheet

module _ (s : Classes) (b c : List ℕ) (f : IsLayoutOf s b c) (keeps : IsSchema s) (short : length b < 2 ^ 64) where
  abbrev p : PlanData
  p = f.plan

  abbrev q : PlanData
  q = arranged s f.labels p

  under : IsPlanUnder s p
  under = plan_under s b p keeps f.accepted f.states

  pub under' : IsPlanUnder s q
  under' = under_arranged s p f.labels under f.are_labels

  joined : IsJoined p
  joined = plan_joined s b p f.accepted f.states

  pub same : Same s p q
  same = (new_place f.labels p, turned_at f.labels.turned, carries_arranged s p f.labels f.are_labels)

  topology : IsUnbroken (BreaksTopologyRule p)
  topology = topology_hold s b f.accepted p f.states

  pub printable : CanBePrinted q.cse (written_records s q)
  printable =
      let held = records_hold s b f.accepted in
      let read = sheet_read b f.states.1.0 f.states.0 short f.states.1.1 held.0 f.states.1.2 (held.1 f.states.1.0 f.states.1.1) in
      written_printable s f.states.0 p q (kinds_printable s keeps) read f.states.2 same under'.whole

  types : HasAttributeClasses s q
  types = attribute_classes s f.states.0 p q (references_hold s b f.accepted f.states.0 f.states.1) f.states.2 same

  laid_out : file s q keeps under' printable ≡ c
  laid_out = sym (f.laid_out ∙ written_layout s q keeps under'.whole under'.agrees)

  states_form : IsPlanOfFile s c q
  states_form = subst (λ x. IsPlanOfFile s x q) laid_out (states_plan s q keeps under' printable)

  form_accepted : IsAccepted s c
  form_accepted =
      subst (IsAccepted s) laid_out (accepts s q keeps under' printable (joins_kept s p q under under' same joined) types (topology_preserved s p q under under' same topology)
      (objects_preserved s p q under under' joined same (objects_hold s b f.accepted p f.states)))

  canonical : IsBytes c → IsCanonical s c
  canonical bytes = record {
    plan = q;
    bytes = bytes;
    accepted = form_accepted;
    states = states_form;
    laid_out = f.laid_out;
    in_order = arranged_in_order s p f.labels f.are_labels under.whole topology;
  }

  states_same : StateSame s b c
  states_same = (p, q, f.states, states_form, same)

-- and it states the plan that the labels make
states_arranged : (s : Classes) (b c : List ℕ) (f : IsLayoutOf s b c) → IsSchema s → length b < 2 ^ 64 → IsPlanOfFile s c (arranged s f.labels f.plan)
states_arranged s b c f keeps short = states_form s b c f keeps short

-- the layout of an accepted sheet is its canonical file
pub canonical_file : (s : Classes) (b c : List ℕ) → IsSchema s → length b < 2 ^ 64 → IsBytes c → IsLayoutOf s b c → IsFormOf s b c
canonical_file s b c keeps short bytes f =
    let form = canonical s b c f keeps short bytes in
    let same = states_same s b c f keeps short in
    record { accepted = f.accepted; canonical = form; same = same; only = decide reading_is_one s keeps b c f.accepted form same }

-- the layout of an accepted plan is its canonical file
pub plan_form : (s : Classes) (p : PlanData) (l : Labelling) (c : List ℕ) → IsSchema s → IsBytes c → IsHeldPlan s p → AreLabels s p l → c ≡ layout s (arranged s l p) → IsPlanForm s p l c
plan_form s p l c keeps bytes held labels laid_out = record {
  accepted = (held.0, held.2, held.3);
  labels = labels;
  canonical = canonical s held.0 c layout_of keeps held.1 bytes;
  arranged_plan = states_arranged s held.0 c layout_of keeps held.1;
}
  where
    layout_of : IsLayoutOf s held.0 c
    layout_of = record { plan = p; labels = l; accepted = held.2; states = held.3; are_labels = labels; laid_out = laid_out }

-- which may be given as a front of another file and the rest, each read on its own
pub form_behind : (s : Classes) (p : PlanData) (l : Labelling) (c rest shown seen seen' : List ℕ) (front : ℕ) → IsSchema s → shown ≡ c → seen ≡ c → seen' ≡ rest → IsBytes seen → IsBytes seen' → IsHeldPlan s p
    → AreLabels s p l → take front shown ++ rest ≡ layout s (arranged s l p) → IsPlanForm s p l (take front c ++ rest)
form_behind s p l c rest shown seen seen' front keeps e f g bytes bytes' held labels laid_out =
    plan_form s p l (take front c ++ rest) keeps
    (All-append (λ c. c < 256) (take front c) rest (All-take (λ c. c < 256) front c (subst IsBytes f bytes)) (subst IsBytes g bytes')) held labels
    (ap (λ (x : List ℕ). take front x ++ rest) (sym e) ∙ laid_out)

-- and what is stored of the sheet is its form
pub has_form : (s : Classes) (b : List ℕ) (form : Form) → IsSchema s → length b < 2 ^ 64 → IsBytes form.file.items → IsAccepted s b → IsPlanOfFile s b form.labelled.sound
    → AreLabels s form.labelled.sound form.labelled.labels → form.file.items ≡ layout s (arranged s form.labelled.labels form.labelled.sound) → HasForm s b form
has_form s b form keeps short bytes accepted states labels laid_out = record {
  file = canonical_file s b form.file.items keeps short bytes layout_of;
  plan = states;
  plan_form = plan_form s form.labelled.sound form.labelled.labels form.file.items keeps bytes (b, short, accepted, states) labels laid_out;
}
  where
    layout_of : IsLayoutOf s b form.file.items
    layout_of = record { plan = form.labelled.sound; labels = form.labelled.labels; accepted = accepted; states = states; are_labels = labels; laid_out = laid_out }
