-- Two plans with one canonical file are carried one onto the other, and two with different files aren't.
use Rattle.std.proofs.Common.{◌≡◌, ℕ, List, sym, ap, ◌∙◌, subst}
use Rattle.std.specs.List.{slice_get}
use Rattle.edi_line.specs.inner.Lines.{lines_in}
use Rattle.edi_line.proofs.Cut.{lines_unique}
use Rattle.edi_schema.specs.Classes.{Classes, IsSchema}
use Rattle.edi_plan.specs.Plans.{PlanData}
use Rattle.edi_rank.specs.Arranged.{arranged, new_place}
use Rattle.edi_rank.specs.Labelling.{Labelling, turned_at}
use Rattle.edi_rank.specs.Laws.{IsPlanUnder}
use Rattle.edi_rank.specs.Same.{Same as IsSame}
use Rattle.edi_rank.proofs.ArrangedUnder.{under_arranged}
use Rattle.edi_rank.proofs.Arranging.{carries_arranged}
use Rattle.edi_rank.proofs.SameLaws.{same_sym, same_trans}
use Rattle.edi_compare.specs.inner.Forms.{HasFirst, IsPlanForm}
use Rattle.edi_compare.specs.Counterparts.{HasCounterparts, PairsByNumber}
use Rattle.edi_compare.specs.PlanOfFile.{IsPlanOfFile}
use Rattle.edi_compare.specs.Verdicts.{IsFileOfPlan, IsPlanVerdict, IsVerdict, IsFirstDifference}
use Rattle.edi_compare.specs.declared.comparing.FirstForm.{FirstForm}
use Rattle.edi_compare.specs.declared.pairing.Pairing.{Pairing}
use Rattle.edi_compare.specs.declared.pairing.Verdict.{Verdict}
use Rattle.edi_compare.specs.declared.pairing.Verdict.TheVariants.{Same, Different}
use Rattle.edi_compare.proofs.Headline.{one_plan, plan_under, unique}
use Rattle.edi_compare.proofs.Pairs.{has_counterparts, pairing_carries}
use Rattle.edi_compare.proofs.Phases.{one_plan as one_plan_of}
use Rattle.edi_compare.proofs.Reading.{reading_is_one}

not_equal : (c d : List ℕ) (line : ℕ) → IsFirstDifference c d line → c ≡ d → ⊥
not_equal c d line first e = first.differ (ap (λ lines. slice_get lines first.place) (lines_unique c first.lines first.is_lines ∙ (ap lines_in e ∙ sym (lines_unique d first.others first.is_others))))

-- what is known of the form of a plan

module _ (s : Classes) (keeps : IsSchema s) (p : PlanData) (l : Labelling) (c : List ℕ) (form : IsPlanForm s p l c) where
  form_under : IsPlanUnder s p
  form_under = plan_under s form.accepted.0 p keeps form.accepted.1 form.accepted.2

  form_arranged : IsPlanUnder s (arranged s l p)
  form_arranged = under_arranged s p l form_under form.labels

  form_same : IsSame s p (arranged s l p)
  form_same = (new_place l p, turned_at l.turned, carries_arranged s p l form.labels)

  form_file : IsFileOfPlan s p c
  form_file = (form.canonical, (arranged s l p, form.arranged_plan, form_same))

module _ (s : Classes) (keeps : IsSchema s) (p q : PlanData) (f : FirstForm) (m : Labelling) (d : List ℕ) (untouched : HasFirst s p f) (other : IsPlanForm s q m d) where
  abbrev l : Labelling
  l = untouched.labels

  abbrev c : List ℕ
  c = f.file.items

  abbrev form : IsPlanForm s p l c
  form = untouched.plan_form

  under : IsPlanUnder s p
  under = form_under s keeps p l c form

  under' : IsPlanUnder s q
  under' = form_under s keeps q m d other

  arranged_same : IsSame s p q → IsSame s (arranged s l p) (arranged s m q)
  arranged_same same =
      let made = form_arranged s keeps p l c form in
      let made' = form_arranged s keeps q m d other in
      same_trans s (arranged s l p) p (arranged s m q) made under made' (same_sym s p (arranged s l p) under made (form_same s keeps p l c form))
      (same_trans s p q (arranged s m q) under under' made' same (form_same s keeps q m d other))

  same_files : IsSame s p q → c ≡ d
  same_files same =
      let both = arranged_same same in
      unique reading_is_one s keeps c d (arranged s l p) (arranged s m q) both.0 both.1 form.canonical other.canonical form.arranged_plan other.arranged_plan both.2

  pub different : (line : ℕ) → IsFirstDifference c d line → IsPlanVerdict s p q (Different line)
  different line first = (
    λ same. not_equal c d line first (same_files same),
    (c, d, form_file s keeps p l c form, form_file s keeps q m d other, first),
  )

  module _ (equal : c ≡ d) where
    one_arranged : arranged s l p ≡ arranged s m q
    one_arranged =
        one_plan reading_is_one s keeps d (arranged s l p) (arranged s m q)
        (subst (λ x. IsPlanOfFile s x (arranged s l p)) equal form.arranged_plan) other.arranged_plan

    pub counts : HasCounterparts f.records m
    counts = has_counterparts s p q l m form.labels other.labels one_arranged f.records untouched.records

    pub paired_same : (pairing : Pairing) → PairsByNumber f.records m pairing → IsPlanVerdict s p q (Same pairing)
    paired_same pairing by = pairing_carries s p q l m form.labels other.labels one_arranged f.records untouched.records pairing by under under'

-- the verdict on the plans of two files is that on the files

module _ (s : Classes) (a b : List ℕ) (p q : PlanData) (states : IsPlanOfFile s a p) (states' : IsPlanOfFile s b q) where
  one_same : (r t : PlanData) → IsPlanOfFile s a r → IsPlanOfFile s b t → IsSame s r t → IsSame s p q
  one_same r t h g same = subst (λ x. IsSame s p x) (one_plan_of s b t q g states') (subst (λ x. IsSame s x t) (one_plan_of s a r p h states) same)

  pub verdict_on_files : (verdict : Verdict) → IsPlanVerdict s p q verdict → IsVerdict s a b verdict
  verdict_on_files (Same pairing) carries = (p, q, states, states', carries)
  verdict_on_files (Different line) h =
      let first = h.1.2 in
      let second = h.1.3 in (
        λ same. h.0 (one_same same.0 same.1 same.2 same.3 same.4),
        (h.1.0, h.1.1, first.0, second.0, (p, first.1.0, states, first.1.1, first.1.2), (q, second.1.0, states', second.1.1, second.1.2), h.1.4),
      )
