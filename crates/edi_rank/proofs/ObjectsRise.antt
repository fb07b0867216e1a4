-- The objects rise by their numbers.
use Rattle.std.proofs.Common.{◌≡◌, ℕ, false, List, length, get_or, sym, ap, ap₂, ◌∙◌, arith, Less}
use Rattle.edi_record.specs.declared.record.Kind.TheVariants.{Fea}
use Rattle.edi_schema.specs.Classes.{Classes, partner_of}
use Rattle.edi_plan.specs.Joined.{IsJoined}
use Rattle.edi_plan.specs.Places.{places_of, member_of}
use Rattle.edi_record.specs.Records.{is_link}
use Rattle.edi_plan.specs.Plans.{PlanData, IsPlace, record_at, is_object}
use Rattle.edi_plan.specs.Whole.{IsWholePlan}
use Rattle.edi_plan.specs.declared.record.PlanRecord.{PlanRecord}
use Rattle.edi_rank.specs.InOrder.{Both}
use Rattle.edi_rank.specs.Keys.{object_key, object_key_cmp}
use Rattle.edi_rank.specs.Labelling.{Labelling, number_of, turned_at, turned_by}
use Rattle.edi_rank.specs.inner.Pieces.{IsObjectRanking}
use Rattle.edi_rank.proofs.LabelsMade.{KindLabels, member_there}
use Rattle.edi_rank.proofs.ObjectsTurned.{object_stays}
use Rattle.edi_rank.proofs.Orders.{object_key_total}
use Rattle.edi_rank.proofs.Rankings.{keys_rise}
use Rattle.edi_rank.proofs.TurnedRecords.{record_turned, turned_place}

module _ (s : Classes) (p : PlanData) (whole : IsWholePlan p) (joined : IsJoined p) (l : Labelling) (ranks order below_objects : List ℕ)
    (same : (k : ℕ) → IsPlace p k → is_link (record_at p k).kind ≡ false → is_object (record_at p k).kind ≡ false → number_of l k ≡ get_or below_objects k 0)
    (of : KindLabels p Fea ranks order) (numbers : (k : ℕ) → IsPlace p k → (record_at p k).kind ≡ Fea → number_of l k ≡ get_or ranks (member_of p k) 0)
    (ranking : IsObjectRanking (record { plan = p; numbers = below_objects }) ranks) where
  there : (k : ℕ) → IsPlace (turned_by s l p) k → IsPlace p k
  there k h = turned_place (partner_of s) (turned_at l.turned) p k h

  is_there : (k : ℕ) (h : IsPlace (turned_by s l p) k) → (record_at (turned_by s l p) k).kind ≡ Fea → (record_at p k).kind ≡ Fea
  is_there k h is = sym (ap (λ (r : PlanRecord). r.kind) (record_turned (partner_of s) (turned_at l.turned) p k (there k h))) ∙ is

  stays : (k : ℕ) → IsPlace p k → (record_at p k).kind ≡ Fea → object_key (turned_by s l p) (number_of l) k ≡ object_key p (λ j. get_or below_objects j 0) (get_or (places_of Fea p) (member_of p k) 0)
  stays k h is = object_stays s p whole joined l (number_of l) (λ j. get_or below_objects j 0) same k is h ∙ ap (object_key p (λ j. get_or below_objects j 0)) (sym (member_there p Fea ranks order of k h is).1)

  pub objects_rise : (i k : ℕ) → Both (turned_by s l p) (number_of l) Fea i k → object_key_cmp (object_key (turned_by s l p) (number_of l) i) (object_key (turned_by s l p) (number_of l) k) ≡ Less
  objects_rise i k both =
      let h = there i both.first in
      let g = there k both.second in
      let first = is_there i both.first both.first_kind in
      let second = is_there k both.second both.second_kind in
      ap₂ object_key_cmp (stays i h first) (stays k g second)
      ∙ keys_rise object_key_cmp object_key_total (λ m. object_key p (λ j. get_or below_objects j 0) (get_or (places_of Fea p) m 0)) (length (places_of Fea p)) ranks ranking (member_of p i) (member_of p k)
      (member_there p Fea ranks order of i h first).0 (member_there p Fea ranks order of k g second).0 (omega (arith, both.lesser, numbers i h first, numbers k g second))
