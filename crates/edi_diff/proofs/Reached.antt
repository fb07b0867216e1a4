-- What the links of an object without a line reach is carried.
use Rattle.std.proofs.Common.{◌≡◌, ◌≢◌, ◌∙◌, ◌&&◌, ◌||◌, ℕ, Bool, true, false, Option, Some, ap, length, lt-ltb, not, refl, subst, sym, true≢false}
use Rattle.std.specs.List.{list_any, range_with_len}
use Rattle.std.proofs.lemmas.Bool.{false_from_ne_true, or_parts}
use Rattle.edi_record.specs.declared.record.Kind.{Kind}
use Rattle.edi_record.specs.declared.record.Kind.TheVariants.{Pno, Par, Pfe, Fea, Lnk}
use Rattle.edi_plan.specs.Plans.{PlanData, IsPlace, is_object, record_at}
use Rattle.edi_plan.specs.Sides.{targets}
use Rattle.edi_matching.specs.Differences.{IsReached}
use Rattle.edi_report.specs.Lines.{is_reached, went_to}
use Rattle.edi_report.specs.Reports.{Report}
use Rattle.edi_objects.specs.Differing.{arrives, became_of, bounds_anew, bounds_type, is_differing, moved_to, outline_differs}
use Rattle.edi_objects.specs.LinksOf.{links_of}
use Rattle.edi_objects.specs.Objects.{has_other_outline, outline_there}
use Rattle.edi_objects.specs.Telling.{IsLinkOf, IsSoundReport, IsUntouched}
use Rattle.edi_objects.proofs.AttributeLists.{one_of_all}
use Rattle.edi_objects.proofs.LinkEntries.{each_link}
use Rattle.edi_objects.proofs.NothingHidden.{named_place, none_any, silent}
use Rattle.edi_diff.specs.Laws.{GoesUnchanged, IsCarriedWithBounds, SilentObjectsAreCarried, report_in}
use Rattle.edi_diff.proofs.Carried.{difference_sound, rest_carried}
use Rattle.edi_diff.proofs.Outcomes.{reached_goes}

object_kind : (kind : Kind) → is_object kind ≡ true → kind ≡ Fea
object_kind Pno e = absurd (true≢false (sym e))
object_kind Par e = absurd (true≢false (sym e))
object_kind Pfe e = absurd (true≢false (sym e))
object_kind Fea e = refl
object_kind Lnk e = absurd (true≢false (sym e))

-- ---- where an outline does not differ

module _ (test : ℕ → Bool) (p : PlanData) (k : ℕ) (none : outline_differs test p k ≡ false) where
  halves : (test k ≡ false) × (list_any (bounds_anew test p k) (links_of p k) ≡ false)
  halves = or_parts (test k) (list_any (bounds_anew test p k) (links_of p k)) none

  pub outline_itself : test k ≡ false
  outline_itself = halves.0

  bound : (link : ℕ) → IsLinkOf p k link → bounds_type (record_at p link).role (record_at p k).kind ≡ true → (test link || list_any test (targets (record_at p link))) ≡ false
  bound link names bounds =
      let one = each_link p k (λ (x : ℕ). bounds_anew test p k x ≡ false) (none_any (bounds_anew test p k) (links_of p k) halves.1) link names in
      sym (ap (λ (b : Bool). b && (test link || list_any test (targets (record_at p link)))) bounds) ∙ one

  pub outline_link : (link : ℕ) → IsLinkOf p k link → bounds_type (record_at p link).role (record_at p k).kind ≡ true → test link ≡ false
  outline_link link names bounds = (or_parts (test link) (list_any test (targets (record_at p link))) (bound link names bounds)).0

  pub outline_other : (link other : ℕ) → IsLinkOf p k link → bounds_type (record_at p link).role (record_at p k).kind ≡ true → IsLinkOf p other link → test other ≡ false
  outline_other link other names bounds its =
      let all = none_any test (targets (record_at p link)) (or_parts (test link) (list_any test (targets (record_at p link))) (bound link names bounds)).1 in
      subst (λ (x : ℕ). test x ≡ false) its.names (one_of_all (λ (x : ℕ). test x ≡ false) (targets (record_at p link)) all its.at 0 its.within)

-- ---- what does not arrive

stays : (r : Report) (j : ℕ) → IsPlace r.second.accepted j → arrives r j ≡ false → is_reached r.became j ≡ true
stays r j place none = reached (is_reached r.became j) (or_parts (not (is_reached r.became j)) moved
    (sym (ap (λ (b : Bool). b && (not (is_reached r.became j) || moved)) (lt-ltb j (length r.second.accepted.list) place)) ∙ none)).0
  where
    moved : Bool
    moved = list_any (λ (i : ℕ). went_to j (moved_to r i)) (range_with_len 0 (length r.became))

    reached : (b : Bool) → not b ≡ false → b ≡ true
    reached true e = refl
    reached false e = absurd (true≢false e)

-- ---- what is no object, and has no other outline

module _ (r : Report) (k : ℕ) (other : (record_at r.first.accepted k).kind ≢ Fea) (none : has_other_outline r k ≡ false) where
  both : (outline_differs (is_differing r) r.first.accepted k ≡ false) × (outline_there r (became_of r k) ≡ false)
  unfolding has_other_outline
  both =
      let here = outline_differs (is_differing r) r.first.accepted k in
      let there = outline_there r (became_of r k) in
      let lone = false_from_ne_true (is_object (record_at r.first.accepted k).kind) (λ e. other (object_kind (record_at r.first.accepted k).kind e)) in
      or_parts here there (sym (ap (λ (b : Bool). not b && (here || there)) lone) ∙ none)

  pub outline_here : outline_differs (is_differing r) r.first.accepted k ≡ false
  outline_here = both.0

  pub outline_beyond : (j : ℕ) → became_of r k ≡ Some j → outline_differs (arrives r) r.second.accepted j ≡ false
  outline_beyond j went = sym (ap (outline_there r) went) ∙ both.1

pub silent_carried : SilentObjectsAreCarried
silent_carried n s a b form found accepted accepted' d i place is none = record { itself = itself; links = links; joined = joined; new_links = new_links }
  where
    r : Report
    r = report_in s a b form found d

    sound : IsSoundReport r
    sound = difference_sound s a b form found accepted accepted' d

    rests : (j : ℕ) × (became_of r i ≡ Some j) × IsUntouched r i j
    rests = silent n r sound i place is none

    carried : (k : ℕ) → IsPlace d.first.accepted k → is_differing r k ≡ false → GoesUnchanged s d.first.accepted d.second.accepted d.is_text.became k
    carried k there e = rest_carried s a b form found d k there e

    reached : (j : ℕ) → IsPlace d.second.accepted j → arrives r j ≡ false → IsReached d.is_text.became.to j
    reached j there e = reached_goes d.is_text.became.to j (stays r j there e)

    one_target : (o : Option ℕ) (x y : ℕ) → o ≡ Some x → o ≡ Some y → y ≡ x
    one_target o x y e f = let z = sym e ∙ f in cc

    itself : GoesUnchanged s d.first.accepted d.second.accepted d.is_text.became i
    itself = carried i place rests.2.itself

    links : (link : ℕ) → IsLinkOf d.first.accepted i link → GoesUnchanged s d.first.accepted d.second.accepted d.is_text.became link
    links link names = carried link names.there (rests.2.links link names)

    new_links : (link : ℕ) → IsLinkOf d.second.accepted itself.target link → IsReached d.is_text.became.to link
    new_links link names = reached link names.there (rests.2.new_links link
        (subst (λ (j : ℕ). IsLinkOf d.second.accepted j link) (one_target (became_of r i) rests.0 itself.target rests.1 itself.goes) names))

    joined : (link other : ℕ) → IsLinkOf d.first.accepted i link → IsLinkOf d.first.accepted other link → (record_at d.first.accepted other).kind ≢ Fea
        → IsCarriedWithBounds s d.first.accepted d.second.accepted d.is_text.became other
    joined link other names its unlike = record {
      itself = self;
      bounds = λ bound of bounds. carried bound of.there (outline_link (is_differing r) d.first.accepted other here bound of bounds);
      bounding = λ bound end of bounds ends. carried end (named_place d.first.accepted sound.first_whole end bound ends) (outline_other (is_differing r) d.first.accepted other here bound end of bounds ends);
      new_bounds = λ bound of bounds. reached bound of.there (outline_link (arrives r) d.second.accepted self.target (outline_beyond r other unlike quiet self.target self.goes) bound of bounds);
    }
      where
        quiet : has_other_outline r other ≡ false
        quiet = rests.2.outlines link other names its

        here : outline_differs (is_differing r) d.first.accepted other ≡ false
        here = outline_here r other unlike quiet

        self : GoesUnchanged s d.first.accepted d.second.accepted d.is_text.became other
        self = carried other (named_place d.first.accepted sound.first_whole other link its) (outline_itself (is_differing r) d.first.accepted other here)
