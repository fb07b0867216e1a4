-- Which records are coloured.
use Rattle.std.proofs.Common.{◌≡◌, ◌↔◌, ℕ, Bool, true, false, List, [], Option, Some, None, get_or, refl, sym, ap, ◌∙◌, if◌then◌else◌, codes}
use Rattle.std.proofs.lemmas.Bool.{false_from_ne_true}
use Rattle.edi_matching.specs.Matchings.{GoesTo, IsMatched}
use Rattle.edi_matching.specs.declared.matching.Matching.{Matching}
use Rattle.edi_report.specs.Lines.{is_reached, line_by, lone_line}
use Rattle.edi_report.specs.Reports.{Report}
use Rattle.edi_report.specs.declared.sheet.LocatedSheet.{LocatedSheet}
use Rattle.edi_diff.specs.Changes.{AreChanges}
use Rattle.edi_diff.proofs.Outcomes.{goes_reached, reached_goes}
use Rattle.edi_plan.specs.Plans.{PlanData}
use Rattle.edi_picture.specs.declared.mark.Mark.TheVariants.{Plain, OnlySecond, After, Hidden}
use Rattle.edi_drawing.specs.Laws.{FirstGreyIfUnlisted, SecondAloneIfListed, SecondChangedIfBecame, report_of}
use Rattle.edi_drawing.specs.Marked.{mark_by}

grey_by : (r : Report) (i : ℕ) (k b : Option ℕ) → (mark_by k b ≡ Plain) ↔ (line_by r i k b ≡ [])
grey_by r i (Some k) b = (λ e. refl, λ e. refl)
grey_by r i None (Some j) = (λ e. absurd cc, λ e. absurd cc)
grey_by r i None None = (λ e. absurd cc, λ e. absurd cc)

pub grey : FirstGreyIfUnlisted
grey first second unchanged became parts i = grey_by (report_of first second unchanged became parts) i (get_or unchanged.to i None) (get_or became.to i None)

-- what is kept is among what became
kept_reached : (p q : PlanData) (unchanged became : Matching) (j : ℕ) → AreChanges p q unchanged became → is_reached unchanged.to j ≡ true → is_reached became.to j ≡ true
kept_reached p q unchanged became j are h = let w = reached_goes unchanged.to j h in goes_reached became.to w.0 j (are.keeps w.0 j w.1)

alone_by : (line : List ℕ) → ¬ (line ≡ []) → (a b : Bool) → (a ≡ true → b ≡ true)
    → ((if a then Hidden else if b then After else OnlySecond) ≡ OnlySecond) ↔ ¬ ((if b then [] else line) ≡ [])
alone_by line some true true within = (λ e. absurd cc, λ none. absurd (none refl))
alone_by line some true false within = absurd (let e = within refl in cc)
alone_by line some false true within = (λ e. absurd cc, λ none. absurd (none refl))
alone_by line some false false within = (λ e. some, λ none. refl)

lone_said : (sheet : LocatedSheet) (j : ℕ) → ¬ (lone_line (codes "+ ") sheet j ≡ [])
lone_said sheet j e = cc

pub alone : SecondAloneIfListed
alone first second unchanged became parts j are =
    alone_by (lone_line (codes "+ ") second j) (lone_said second j) (is_reached unchanged.to j) (is_reached became.to j) (kept_reached first.accepted second.accepted unchanged became j are)

changed_said : (a b : Bool) → (if a then Hidden else if b then After else OnlySecond) ≡ After → (a ≡ false) × (b ≡ true)
changed_said true b e = absurd cc
changed_said false true e = (refl, refl)
changed_said false false e = absurd cc

changed_from : (a b : Bool) → a ≡ false → b ≡ true → (if a then Hidden else if b then After else OnlySecond) ≡ After
changed_from a b e f = rw (e, f) refl

pub changed : SecondChangedIfBecame
changed first second unchanged became j are = (onto, back)
  where
    onto : (if is_reached unchanged.to j then Hidden else if is_reached became.to j then After else OnlySecond) ≡ After → (i : ℕ) × (¬ (IsMatched unchanged.to i)) × GoesTo became.to i j
    onto e =
        let parts = changed_said (is_reached unchanged.to j) (is_reached became.to j) e in
        let w = reached_goes became.to j parts.1 in
        (w.0, (λ m. free parts.0 w.0 w.1 m), w.1)
      where
        free : is_reached unchanged.to j ≡ false → (i : ℕ) → GoesTo became.to i j → IsMatched unchanged.to i → ⊥
        free unreached i goes m =
            let other = are.keeps i m.0 m.1 in
            let same : m.0 ≡ j = one_place m.0 j (sym other ∙ goes) in
            let there = goes_reached unchanged.to i j (m.1 ∙ ap Some same) in
            cc
          where
            one_place : (x y : ℕ) → Some x ≡ Some y → x ≡ y
            one_place x y e = cc

    back : (i : ℕ) × (¬ (IsMatched unchanged.to i)) × GoesTo became.to i j → (if is_reached unchanged.to j then Hidden else if is_reached became.to j then After else OnlySecond) ≡ After
    back w = changed_from (is_reached unchanged.to j) (is_reached became.to j) (false_from_ne_true (is_reached unchanged.to j) (λ h. taken (reached_goes unchanged.to j h))) (goes_reached became.to w.0 j w.2)
      where
        taken : (k : ℕ) × GoesTo unchanged.to k j → ⊥
        taken t =
            let same : w.0 ≡ t.0 = are.apart w.0 t.0 j w.2 (are.keeps t.0 j t.1) in
            w.1 (j, ap (λ n. get_or unchanged.to n None) same ∙ t.1)
