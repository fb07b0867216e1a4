-- A pairing that carries one plan onto another pairs the records of their sheets.
use Rattle.std.proofs.Common.{◌≡◌, ℕ, ◌<◌, List, length, get_or, sym, ap, ◌∙◌, arith}
use Rattle.std.proofs.lemmas.List.{length-map}
use Rattle.edi_schema.specs.Classes.{Classes}
use Rattle.edi_plan.specs.Plans.{PlanData, blank, record_at}
use Rattle.edi_plan.specs.PlanOf.{StatesPlanRecord}
use Rattle.edi_plan.proofs.Built.{zip_back, zip_length}
use Rattle.edi_compare.specs.Pairings.{PairingCarries}
use Rattle.edi_compare.specs.PlanOfFile.{IsPlanOfFile}
use Rattle.edi_compare.specs.declared.pairing.Pairing.{Pairing}
use Rattle.edi_compare.proofs.Reading.{reading_is_one}
use Rattle.edi_pairing.specs.Names.{AreNamesOf, name_at, names_of}
use Rattle.edi_pairing.specs.PairingText.{IsPairing}
use Rattle.edi_pairing.specs.declared.names.RecordName.{RecordName}
use Rattle.edi_pairing.proofs.NameLemmas.{record_there, kind_there}

module _ (s : Classes) (b : List ℕ) (names : List RecordName) (p : PlanData) (are : AreNamesOf b names) (plan : IsPlanOfFile s b p) where
  one_sheet : names ≡ names_of plan.0.list
  one_sheet = are.2 ∙ ap names_of (reading_is_one.sheets b are.0 plan.0 are.1 plan.1).1

  pub names_long : length names ≡ length p.list
  names_long = ap length one_sheet ∙ (length-map plan.0.list (λ r. record { kind = r.kind; rid = r.rid }) ∙ zip_length (StatesPlanRecord s plan.0.list) plan.0.list p.list plan.2.each)

  kinds_same : (k : ℕ) → k < length p.list → (name_at names k).kind ≡ (record_at p k).kind
  kinds_same k less =
      let long = zip_length (StatesPlanRecord s plan.0.list) plan.0.list p.list plan.2.each in
      let r = record_there plan.0.list k (omega (arith, long, less)) in
      let stated = (zip_back (StatesPlanRecord s plan.0.list) plan.0.list p.list plan.2.each k r.0 blank r.1).1 in
      ap (λ ns. (name_at ns k).kind) one_sheet ∙ (kind_there plan.0.list k r.0 r.1 ∙ sym stated.kind)

pub carried_pairs : (s : Classes) (a b : List ℕ) (names others : List RecordName) (p q : PlanData) (pairing : Pairing) → AreNamesOf a names → AreNamesOf b others → IsPlanOfFile s a p → IsPlanOfFile s b q
    → PairingCarries s p q pairing → IsPairing names others pairing
carried_pairs s a b names others p q pairing are are' plan plan' h =
    let long = names_long s a names p are plan in
    let long' = names_long s b others q are' plan' in
    record {
      all_paired = h.all_paired ∙ sym long;
      all_directed = h.all_directed ∙ sym long;
      pairs = record {
        within = λ k less. let there = h.carries.places.within k (omega (arith, long, less)) in omega (arith, long', there);
        typed = λ k less.
            let here : k < length p.list = omega (arith, long, less) in
            kinds_same s b others q are' plan' (get_or pairing.to k 0) (h.carries.places.within k here) ∙ ((h.carries.each k here).kind ∙ sym (kinds_same s a names p are plan k here));
      };
    }
