-- An accepted sheet states a plan, and has a form.
use Rattle.std.proofs.Common.{ℕ, ◌<◌, ◌^◌, List, length, refl}
use Rattle.edi_line.specs.Bytes.{IsBytes}
use Rattle.edi_line.proofs.ZonesThere.{file_has_zones}
use Rattle.edi_record.proofs.SheetsThere.{sheet_there}
use Rattle.edi_schema.specs.Classes.{Classes, IsSchema}
use Rattle.edi_plan.specs.Plans.{PlanData}
use Rattle.edi_plan.proofs.PlansThere.{plan_there}
use Rattle.edi_rank.specs.Arranged.{arranged}
use Rattle.edi_rank.specs.Labelling.{Labelling, AreLabels}
use Rattle.edi_rank.proofs.LabelsThere.{labels, are_labels}
use Rattle.edi_write.specs.Layout.{layout}
use Rattle.edi_compare.specs.Headline.{IsFormOf}
use Rattle.edi_compare.specs.PlanOfFile.{IsSheetOf, IsPlanOfFile}
use Rattle.edi_compare.specs.Rules.{IsAccepted}
use Rattle.edi_compare.specs.Sameness.{HasByteNames}
use Rattle.edi_compare.proofs.Forms.{IsLayoutOf, canonical_file, same, under', printable}
use Rattle.edi_compare.proofs.Headline.{plan_under, plan_joined, records_hold, references_hold, topology_hold, objects_hold}
use Rattle.edi_compare.proofs.SheetBytes.{sheet_bytes}
use Rattle.edi_compare.proofs.WrittenBytes.{layout_bytes}

pub accepted_plan : (s : Classes) (b : List ℕ) → IsAccepted s b → (p : PlanData) × IsPlanOfFile s b p
accepted_plan s b accepted =
    let held = records_hold s b accepted in
    let zones = file_has_zones b held.0 in
    let sheet = sheet_there zones.0 (held.1 zones.0 zones.1) in
    let states : IsSheetOf b sheet.0 = (zones.0, zones.1, sheet.1) in
    let plan = plan_there s sheet.0 (references_hold s b accepted sheet.0 states) in
    (plan.0, (sheet.0, states, plan.1))

module _ (s : Classes) (keeps : IsSchema s) (names : HasByteNames s) (b : List ℕ) (bytes : IsBytes b) (short : length b < 2 ^ 64) (accepted : IsAccepted s b) where
  module _ (p : PlanData) (states : IsPlanOfFile s b p) (l : Labelling) (are : AreLabels s p l) where
    abbrev laid : IsLayoutOf s b (layout s (arranged s l p))
    laid = record { plan = p; labels = l; accepted = accepted; states = states; are_labels = are; laid_out = refl }

    laid_bytes : IsBytes (layout s (arranged s l p))
    laid_bytes =
        let c = layout s (arranged s l p) in
        let sheet = states.1 in
        let whole = under' s b c laid keeps short in
        layout_bytes s states.0 p (arranged s l p) (sheet_bytes b sheet.0 states.0 bytes sheet.1 sheet.2) states.2 (same s b c laid keeps short) names keeps whole.whole whole.agrees (printable s b c laid keeps short)

    form_of_labels : (c : List ℕ) × IsFormOf s b c
    form_of_labels = (layout s (arranged s l p), canonical_file s b (layout s (arranged s l p)) keeps short laid_bytes laid)

  form_of_plan : (p : PlanData) → IsPlanOfFile s b p → (c : List ℕ) × IsFormOf s b c
  form_of_plan p states =
      let under = plan_under s b p keeps accepted states in
      let joined = plan_joined s b p accepted states in
      let topology = topology_hold s b accepted p states in
      let objects = objects_hold s b accepted p states in
      form_of_labels p states (labels s p under.whole joined topology objects) (are_labels s p under.whole joined topology objects)

  pub form_there : (c : List ℕ) × IsFormOf s b c
  form_there = let plan = accepted_plan s b accepted in form_of_plan plan.0 plan.1
