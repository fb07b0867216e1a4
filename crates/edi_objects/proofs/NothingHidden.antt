-- The text of objects tells what that of records lists.
use Rattle.std.proofs.Common.{◌≡◌, ◌≢◌, ◌∙◌, ◌<◌, ◌≤◌, ◌+◌, ◌-◌, ◌⊎◌, ◌++◌, ◌&&◌, ◌||◌, ℕ, zero, suc, Bool, true, false, List, [], ◌∷◌, Option, Some, None, ap, ap₂, arith, codes, drop, eqb-true, get_or, if◌then◌else◌, inl, inr, IsPermutation, length, length-drop, length-take, lt-ltb, ltb-true, not, refl, subst, sym, take, true≢false}
use Rattle.std.specs.List.{AllByRecursion, flat_map, list_any, range_with_len}
use Rattle.std.proofs.lemmas.Bool.{and_from, and_parts, cases_Bool, cases_lt, false_from_ne_true, or_cases, or_from, or_parts}
use Rattle.std.proofs.lemmas.List.{get_or-drop, get_or-take, nil_from_length}
use Rattle.edi_line.specs.Bytes.{line_feed}
use Rattle.edi_line.proofs.EachElement.{each_from_places}
use Rattle.edi_record.specs.Records.{is_link}
use Rattle.edi_record.specs.Shapes.{may_have_ends, may_have_points}
use Rattle.edi_record.specs.declared.record.Kind.{Kind}
use Rattle.edi_record.specs.declared.record.Kind.TheVariants.{Pno, Par, Pfe, Fea, Lnk}
use Rattle.edi_plan.specs.Plans.{PlanData, IsPlace, is_object, record_at}
use Rattle.edi_plan.specs.Sides.{targets}
use Rattle.edi_plan.specs.Whole.{IsWholePlan}
use Rattle.edi_plan.specs.declared.record.PlanEnd.{PlanEnd}
use Rattle.edi_plan.specs.declared.record.PlanRecord.{PlanRecord}
use Rattle.edi_report.specs.Lines.{first_line, is_reached, line_by, lone_line, second_line, some_differ, went_to}
use Rattle.edi_report.specs.Reports.{Report, parts_at}
use Rattle.edi_report.specs.declared.parts.DifferingParts.{DifferingParts}
use Rattle.edi_objects.specs.Accounts.{is_told_beside}
use Rattle.edi_objects.specs.Differing.{arrives, became_of, differs_by, is_differing, moved_by, moved_to, same_of}
use Rattle.edi_objects.specs.Elements.{most_named, others_text}
use Rattle.edi_objects.specs.LinksOf.{links_of}
use Rattle.edi_objects.specs.Names.{Naming, shown_class}
use Rattle.edi_objects.specs.Objects.{attributes_change, class_change, differing_link, extras_change, first_link, first_object, further_line, has_further_outline, has_other_outline, object_block, object_by, object_lines, outline_line, outline_lines, outline_name, outline_text, own_changes, own_lines, second_link}
use Rattle.edi_objects.specs.Telling.{AreSoundParts, DiffersByLinksAlone, FirstHasLines, FirstIsTold, HidesNothing, IsLinkOf, IsSoundReport, IsToldBySecond, IsUntouched, SecondHasLines, SecondIsTold, by_joined, by_lines, by_object, new_by_joined, new_by_lines, new_by_object}
use Rattle.edi_objects.proofs.AttributeLists.{all_mapped, one_of_all}
use Rattle.edi_objects.proofs.AttributesTold.{unsaid_same}
use Rattle.edi_objects.proofs.NamedBehind.{all_dropped}
use Rattle.edi_objects.proofs.LinkEntries.{all_links, each_link}
use Rattle.edi_objects.proofs.TextLines.{both_none, if_said, none_each, none_from}
use Rattle.edi_objects.proofs.ToldLines.{bare_said, block_said, differing_said, element_said, first_stands, lone_said, new_bare_said, new_said, object_said, second_link_said, second_stands, told_by_first, told_by_second}

-- ---- records

no_points : (p : PlanData) → IsWholePlan p → (k : ℕ) → IsPlace p k → (record_at p k).kind ≡ Fea → (record_at p k).points ≡ []
no_points p whole k there is = nil_from_length _ (eqb-true (length (record_at p k).points) 0 (ap (λ (kind : Kind). may_have_points kind (length (record_at p k).points)) (sym is) ∙ whole.points k there))

-- a record that is no link names none
no_ends : (p : PlanData) → IsWholePlan p → (k : ℕ) → IsPlace p k → (kind : Kind) → (record_at p k).kind ≡ kind → is_link kind ≡ false → (record_at p k).ends ≡ []
no_ends p whole k there kind is none = nil_from_length _ (go kind none (ap (λ (x : Kind). may_have_ends x (length (record_at p k).ends)) (sym is) ∙ whole.ends k there))
  where
    go : (x : Kind) → is_link x ≡ false → may_have_ends x (length (record_at p k).ends) ≡ true → length (record_at p k).ends ≡ 0
    go Pno e h = eqb-true (length (record_at p k).ends) 0 h
    go Par e h = eqb-true (length (record_at p k).ends) 0 h
    go Pfe e h = eqb-true (length (record_at p k).ends) 0 h
    go Fea e h = eqb-true (length (record_at p k).ends) 0 h
    go Lnk e h = absurd (true≢false e)

-- what a link names is a record, and no link
pub named_place : (p : PlanData) → IsWholePlan p → (place link : ℕ) → IsLinkOf p place link → IsPlace p place
named_place p whole place link is = subst (IsPlace p) is.names
    (one_of_all (IsPlace p) (targets (record_at p link)) (all_mapped (λ (e : PlanEnd). e.target) (IsPlace p) (record_at p link).ends (whole.there link is.there)) is.at 0 is.within)

named_no_link : (p : PlanData) → IsWholePlan p → (place link : ℕ) → IsLinkOf p place link → is_link (record_at p place).kind ≡ false
named_no_link p whole place link is = subst NoLink is.names
    (one_of_all NoLink (targets (record_at p link)) (all_mapped (λ (e : PlanEnd). e.target) NoLink (record_at p link).ends (whole.no_link link is.there)) is.at 0 is.within)
  where
    NoLink : ℕ → Type 0
    NoLink = λ (t : ℕ). is_link (record_at p t).kind ≡ false

-- one of which a test holds
any_at : (test : ℕ → Bool) (xs : List ℕ) → list_any test xs ≡ true → (k : ℕ) × (k < length xs) × (test (get_or xs k 0) ≡ true)
any_at test [] e = absurd (true≢false (sym e))
any_at test (x ∷ xs) e = go (or_cases (test x) (list_any test xs) e) (any_at test xs)
  where
    go : (test x ≡ true) ⊎ (list_any test xs ≡ true) → (list_any test xs ≡ true → (k : ℕ) × (k < length xs) × (test (get_or xs k 0) ≡ true))
        → (k : ℕ) × (k < length (x ∷ xs)) × (test (get_or (x ∷ xs) k 0) ≡ true)
    go (inl h) more = (zero, omega arith, h)
    go (inr h) more = let w = more h in (suc w.0, omega (arith, w.1), w.2)

pub none_any : (test : ℕ → Bool) (xs : List ℕ) → list_any test xs ≡ false → AllByRecursion (λ (x : ℕ). test x ≡ false) xs
none_any test [] e = tt
none_any test (x ∷ xs) e = let halves = or_parts (test x) (list_any test xs) e in (halves.0, none_any test xs halves.1)

pub any_none : (test : ℕ → Bool) (xs : List ℕ) → AllByRecursion (λ (x : ℕ). test x ≡ false) xs → list_any test xs ≡ false
any_none test [] all = refl
any_none test (x ∷ xs) all = or_from (test x) (list_any test xs) all.0 (any_none test xs all.1)

-- ---- what became of a record

went_where : (j : ℕ) (went : Option ℕ) → went_to j went ≡ true → went ≡ Some j
went_where j None e = absurd (true≢false (sym e))
went_where j (Some k) e = ap Some (eqb-true k j e)

reached_from : (became : List (Option ℕ)) (j : ℕ) → is_reached became j ≡ true → (i : ℕ) × (get_or became i None ≡ Some j)
reached_from [] j e = absurd (true≢false (sym e))
reached_from (x ∷ became) j e = go (or_cases (went_to j x) (is_reached became j) e) (reached_from became j)
  where
    go : (went_to j x ≡ true) ⊎ (is_reached became j ≡ true) → (is_reached became j ≡ true → (i : ℕ) × (get_or became i None ≡ Some j)) → (i : ℕ) × (get_or (x ∷ became) i None ≡ Some j)
    go (inl h) more = (zero, went_where j x h)
    go (inr h) more = let w = more h in (suc w.0, w.1)

differs_none : (same became : Option ℕ) (parts : DifferingParts) → differs_by same became parts ≡ true → same ≡ None
differs_none (Some k) became parts e = absurd (true≢false (sym e))
differs_none None became parts e = refl

differs_parts : (same : Option ℕ) (j : ℕ) (parts : DifferingParts) → differs_by same (Some j) parts ≡ true → some_differ parts ≡ true
differs_parts (Some k) j parts e = absurd (true≢false (sym e))
differs_parts None j parts e = e

-- a record that moved had other ends
moved_same : (same became : Option ℕ) (parts : DifferingParts) (j : ℕ) → moved_by same became parts ≡ Some j → same ≡ None
moved_same (Some k) became parts j e = absurd cc
moved_same None became parts j e = refl

moved_ends : (same became : Option ℕ) (parts : DifferingParts) (j : ℕ) → moved_by same became parts ≡ Some j → (parts.ends ≡ true) × (became ≡ Some j)
moved_ends (Some k) became parts j e = absurd cc
moved_ends None became parts j e = go parts.ends refl e
  where
    go : (b : Bool) → parts.ends ≡ b → (if b then became else None) ≡ Some j → (parts.ends ≡ true) × (became ≡ Some j)
    go true is h = (is, h)
    go false is h = absurd cc

within_list : {X : Type 0} (xs : List (Option X)) (i : ℕ) (x : X) → get_or xs i None ≡ Some x → i < length xs
within_list [] i x e = absurd cc
within_list (y ∷ ys) zero x e = omega arith
within_list (y ∷ ys) (suc i) x e = let less = within_list ys i x e in omega (arith, less)

-- ---- an object's own parts

class_unsaid : (n : Naming) (said : Bool) (a b : PlanRecord) → class_change n said a b ≡ [] → said ≡ false
unfolding class_change
class_unsaid n true a b e = absurd cc
class_unsaid n false a b e = refl

attributes_unsaid : (n : Naming) (said : Bool) (a b : PlanRecord) → (said ≡ true → ¬ (IsPermutation a.attributes b.attributes)) → attributes_change n said a b ≡ [] → said ≡ false
unfolding attributes_change
attributes_unsaid n true a b others e = absurd (others refl (unsaid_same n.classes a.attributes b.attributes e))
attributes_unsaid n false a b others e = refl

extras_unsaid : (said : Bool) → extras_change said ≡ [] → said ≡ false
unfolding extras_change
extras_unsaid true e = absurd cc
extras_unsaid false e = refl

-- where an object's own lines are none, no part of it differs
none_differ : (n : Naming) (parts : DifferingParts) (a b : PlanRecord) → AreSoundParts a b parts → a.points ≡ [] → b.points ≡ [] → a.ends ≡ [] → b.ends ≡ []
    → own_changes n parts a b ≡ [] → some_differ parts ≡ false
none_differ n parts a b sound p q e f none =
    let halves = both_none (class_change n parts.class a b ++ attributes_change n parts.attributes a b) (extras_change parts.extras) none in
    let first = both_none (class_change n parts.class a b) (attributes_change n parts.attributes a b) halves.0 in
    or_from parts.class _ (class_unsaid n parts.class a b first.0)
    (or_from parts.attributes _ (attributes_unsaid n parts.attributes a b sound.attributes first.1)
    (or_from parts.extras _ (extras_unsaid parts.extras halves.1) (or_from parts.points parts.ends (sound.points p q) (sound.ends e f))))

-- and where no part differs there are no lines
class_silent : (n : Naming) (said : Bool) (a b : PlanRecord) → said ≡ false → class_change n said a b ≡ []
unfolding class_change
class_silent n true a b e = absurd (true≢false e)
class_silent n false a b e = refl

attributes_silent : (n : Naming) (said : Bool) (a b : PlanRecord) → said ≡ false → attributes_change n said a b ≡ []
unfolding attributes_change
attributes_silent n true a b e = absurd (true≢false e)
attributes_silent n false a b e = refl

extras_silent : (said : Bool) → said ≡ false → extras_change said ≡ []
unfolding extras_change
extras_silent true e = absurd (true≢false e)
extras_silent false e = refl

own_silent : (n : Naming) (parts : DifferingParts) (a b : PlanRecord) → some_differ parts ≡ false → own_changes n parts a b ≡ []
own_silent n parts a b none =
    let class = or_parts parts.class (parts.attributes || (parts.extras || (parts.points || parts.ends))) none in
    let attributes = or_parts parts.attributes (parts.extras || (parts.points || parts.ends)) class.1 in
    let extras = or_parts parts.extras (parts.points || parts.ends) attributes.1 in
    ap₂ (λ (xs ys : List ℕ). xs ++ ys)
    (ap₂ (λ (xs ys : List ℕ). xs ++ ys) (class_silent n parts.class a b class.0) (attributes_silent n parts.attributes a b attributes.0)) (extras_silent parts.extras extras.0)

module _ (n : Naming) (r : Report) (sound : IsSoundReport r) where
  abbrev here : PlanData
  here = r.first.accepted

  abbrev there : PlanData
  there = r.second.accepted

  differs_here : (i : ℕ) → is_differing r i ≡ true → IsPlace here i × (differs_by (same_of r i) (became_of r i) (parts_at r.parts i) ≡ true)
  differs_here i e = let halves = and_parts _ (differs_by (same_of r i) (became_of r i) (parts_at r.parts i)) e in (ltb-true i (length here.list) halves.0, halves.1)

  differs_from : (i : ℕ) → IsPlace here i → differs_by (same_of r i) (became_of r i) (parts_at r.parts i) ≡ true → is_differing r i ≡ true
  differs_from i place e = and_from _ (differs_by (same_of r i) (became_of r i) (parts_at r.parts i)) (lt-ltb i (length here.list) place) e

  -- ---- objects

  -- an object of which a part of its own differs has lines
  own_none : (i j : ℕ) → IsPlace here i → (record_at here i).kind ≡ Fea → same_of r i ≡ None → became_of r i ≡ Some j → own_lines n r i j (same_of r i) ≡ [] → some_differ (parts_at r.parts i) ≡ false
  own_none i j place is same went none =
      let place' = sound.within i j went in
      let is' : (record_at there j).kind ≡ Fea = sound.types i j went ∙ is in
      none_differ n (parts_at r.parts i) (record_at here i) (record_at there j) (sound.parts i j same went)
      (no_points here sound.first_whole i place is) (no_points there sound.second_whole j place' is')
      (no_ends here sound.first_whole i place Fea is refl) (no_ends there sound.second_whole j place' Fea is' refl)
      (sym (ap (own_lines n r i j) same) ∙ none)

  lines_none : (i j : ℕ) → object_lines n r i j ≡ [] → (own_lines n r i j (same_of r i) ≡ []) × (flat_map (first_link n r i) (links_of here i) ≡ []) × (flat_map (second_link n r j) (links_of there j) ≡ [])
  lines_none i j none =
      let halves = both_none (own_lines n r i j (same_of r i) ++ flat_map (first_link n r i) (links_of here i)) (flat_map (second_link n r j) (links_of there j)) none in
      let first = both_none (own_lines n r i j (same_of r i)) (flat_map (first_link n r i) (links_of here i)) halves.0 in
      (first.0, first.1, halves.1)

  object_differs : (i : ℕ) → IsPlace here i → (record_at here i).kind ≡ Fea → is_differing r i ≡ true → (went : Option ℕ) → became_of r i ≡ went → first_object n r i ≢ []
  object_differs i place is e None went none = lone_said n r r.first i (sym (ap (object_by n r i) went) ∙ none)
  object_differs i place is e (Some j) went none =
      object_said n r i j went (λ silent. true≢false (sym (differs_parts (same_of r i) j (parts_at r.parts i) (ap (λ (b : Option ℕ). differs_by (same_of r i) b (parts_at r.parts i)) (sym went) ∙ d.1))
      ∙ own_none i j place is (differs_none (same_of r i) (became_of r i) (parts_at r.parts i) d.1) went (lines_none i j silent).0)) none
    where
      d : IsPlace here i × (differs_by (same_of r i) (became_of r i) (parts_at r.parts i) ≡ true)
      d = differs_here i e

  -- ---- records of the first sheet

  -- a node, an arc or a face that differs has a line
  element_stands : (i : ℕ) → IsPlace here i → (kind : Kind) → (record_at here i).kind ≡ kind → is_object kind ≡ false → is_link kind ≡ false → is_differing r i ≡ true → FirstHasLines n r i
  element_stands i place Pno is unlinked unlinked' e = first_stands n r i place Pno is (element_said n r i (is_differing r i) (became_of r i) e)
  element_stands i place Par is unlinked unlinked' e = first_stands n r i place Par is (element_said n r i (is_differing r i) (became_of r i) e)
  element_stands i place Pfe is unlinked unlinked' e = first_stands n r i place Pfe is (element_said n r i (is_differing r i) (became_of r i) e)
  element_stands i place Fea is unlinked unlinked' e = absurd (true≢false unlinked)
  element_stands i place Lnk is unlinked unlinked' e = absurd (true≢false unlinked')

  -- a link that differs is told by an object that it names
  object_tells : (link object : ℕ) → is_differing r link ≡ true → IsLinkOf here object link → IsPlace here object → (record_at here object).kind ≡ Fea → (went : Option ℕ) → became_of r object ≡ went → FirstIsTold n r link
  object_tells link object e names place is None went =
      by_joined object (record { names = names; gone = λ _. went; stands = first_stands n r object place Fea is (λ none. lone_said n r r.first object (sym (ap (object_by n r object) went) ∙ none)) })
  object_tells link object e names place is (Some target) went = by_object object (told_by_first n r link object target names is place went e)

  joined_tells : (link other : ℕ) → is_differing r link ≡ true → IsLinkOf here other link → IsPlace here other → (kind : Kind) → (record_at here other).kind ≡ kind → is_link kind ≡ false
      → (is_object kind || is_differing r other) ≡ true → FirstIsTold n r link
  joined_tells link other e names place Pno is unlinked test = by_joined other (record { names = names; gone = λ fea. absurd (let z = sym is ∙ fea in cc); stands = element_stands other place Pno is refl refl test })
  joined_tells link other e names place Par is unlinked test = by_joined other (record { names = names; gone = λ fea. absurd (let z = sym is ∙ fea in cc); stands = element_stands other place Par is refl refl test })
  joined_tells link other e names place Pfe is unlinked test = by_joined other (record { names = names; gone = λ fea. absurd (let z = sym is ∙ fea in cc); stands = element_stands other place Pfe is refl refl test })
  joined_tells link other e names place Fea is unlinked test = object_tells link other e names place is (became_of r other) refl
  joined_tells link other e names place Lnk is unlinked test = absurd (true≢false unlinked)

  link_told : (i : ℕ) → IsPlace here i → (record_at here i).kind ≡ Lnk → is_differing r i ≡ true → (beside : Bool) → is_told_beside (is_differing r) here i ≡ beside → FirstIsTold n r i
  link_told i place is e false beside = by_lines (first_stands n r i place Lnk is (bare_said n r i (is_differing r i) (is_told_beside (is_differing r) here i) (became_of r i) e beside))
  link_told i place is e true beside =
      let found = any_at (λ (k : ℕ). is_object (record_at here k).kind || is_differing r k) (targets (record_at here i)) beside in
      let other = get_or (targets (record_at here i)) found.0 0 in
      let names : IsLinkOf here other i = record { there = place; kind = is; at = found.0; within = found.1; names = refl } in
      joined_tells i other e names (named_place here sound.first_whole other i names) (record_at here other).kind refl (named_no_link here sound.first_whole other i names) found.2

  pub differing_told : (i : ℕ) → IsPlace here i → is_differing r i ≡ true → (kind : Kind) → (record_at here i).kind ≡ kind → FirstIsTold n r i
  differing_told i place e Pno is = by_lines (element_stands i place Pno is refl refl e)
  differing_told i place e Par is = by_lines (element_stands i place Par is refl refl e)
  differing_told i place e Pfe is = by_lines (element_stands i place Pfe is refl refl e)
  differing_told i place e Fea is = by_lines (first_stands n r i place Fea is (object_differs i place is e (became_of r i) refl))
  differing_told i place e Lnk is = link_told i place is e (is_told_beside (is_differing r) here i) refl

  listed_told : (i : ℕ) → IsPlace here i → (same went : Option ℕ) → same_of r i ≡ same → became_of r i ≡ went → line_by r i same went ≢ [] → FirstIsTold n r i ⊎ DiffersByLinksAlone r i
  listed_told i place (Some k) went is to listed = absurd (listed refl)
  listed_told i place None None is to listed =
      inl (differing_told i place (differs_from i place (ap₂ (λ (s b : Option ℕ). differs_by s b (parts_at r.parts i)) is to)) (record_at here i).kind refl)
  listed_told i place None (Some j) is to listed = go (cases_Bool (some_differ (parts_at r.parts i)))
    where
      go : (some_differ (parts_at r.parts i) ≡ true) ⊎ (some_differ (parts_at r.parts i) ≡ false) → FirstIsTold n r i ⊎ DiffersByLinksAlone r i
      go (inl e) = inl (differing_told i place (differs_from i place (ap₂ (λ (s b : Option ℕ). differs_by s b (parts_at r.parts i)) is to ∙ e)) (record_at here i).kind refl)
      go (inr e) = inr (record { not_same = is; target = j; went = to; no_part = e })

  pub first_told : (i : ℕ) → IsPlace here i → first_line r i ≢ [] → FirstIsTold n r i ⊎ DiffersByLinksAlone r i
  first_told i place listed = listed_told i place (same_of r i) (became_of r i) refl refl listed

  -- ---- records of the second sheet

  pub source_place : (i j : ℕ) → became_of r i ≡ Some j → IsPlace here i
  source_place i j went = subst (λ (k : ℕ). i < k) sound.all_became (within_list r.became i j went)

  pub new_link_told : (link object source : ℕ) → IsLinkOf there object link → (record_at there object).kind ≡ Fea → became_of r source ≡ Some object → arrives r link ≡ true → IsToldBySecond n r link object
  new_link_told link object source names is went new =
      told_by_second n r link object source names is (source_place source object went) (sym (sound.types source object went) ∙ is) went new

  -- a record that is no link arrives only if it is new
  arrives_new : (k : ℕ) → IsPlace there k → is_link (record_at there k).kind ≡ false → arrives r k ≡ true → is_reached r.became k ≡ false
  arrives_new k place unlinked e =
      go (or_cases (not (is_reached r.became k)) (list_any (λ (i : ℕ). went_to k (moved_to r i)) (range_with_len 0 (length r.became))) (and_parts _ _ e).1)
    where
      unless : (b : Bool) → not b ≡ true → b ≡ false
      unless true h = absurd (true≢false (sym h))
      unless false h = refl

      go : (not (is_reached r.became k) ≡ true) ⊎ (list_any (λ (i : ℕ). went_to k (moved_to r i)) (range_with_len 0 (length r.became)) ≡ true) → is_reached r.became k ≡ false
      go (inl h) = unless (is_reached r.became k) h
      go (inr h) =
          let found = any_at (λ (i : ℕ). went_to k (moved_to r i)) (range_with_len 0 (length r.became)) h in
          let i = get_or (range_with_len 0 (length r.became)) found.0 0 in
          let moved = went_where k (moved_to r i) found.2 in
          let same = moved_same (same_of r i) (became_of r i) (parts_at r.parts i) k moved in
          let m = moved_ends (same_of r i) (became_of r i) (parts_at r.parts i) k moved in
          let none = no_ends here sound.first_whole i (source_place i k m.1) (record_at here i).kind refl (ap is_link (sym (sound.types i k m.1)) ∙ unlinked) in
          let none' = no_ends there sound.second_whole k place (record_at there k).kind refl unlinked in
          absurd (true≢false (sym m.0 ∙ (sound.parts i k same m.1).ends none none'))

  element_new : (j : ℕ) → IsPlace there j → (kind : Kind) → (record_at there j).kind ≡ kind → is_link kind ≡ false → is_reached r.became j ≡ false → SecondHasLines n r j
  element_new j place Pno is unlinked e = second_stands n r j place Pno is (new_said n r r.second j (is_reached r.became j) e)
  element_new j place Par is unlinked e = second_stands n r j place Par is (new_said n r r.second j (is_reached r.became j) e)
  element_new j place Pfe is unlinked e = second_stands n r j place Pfe is (new_said n r r.second j (is_reached r.became j) e)
  element_new j place Fea is unlinked e = second_stands n r j place Fea is (new_said n r r.second j (is_reached r.became j) e)
  element_new j place Lnk is unlinked e = absurd (true≢false unlinked)

  new_tells : (link other : ℕ) → arrives r link ≡ true → IsLinkOf there other link → (reached : Bool) → is_reached r.became other ≡ reached → (record_at there other).kind ≡ Fea → SecondIsTold n r link
  new_tells link other new names false reached is =
      new_by_joined other (record { names = names; stands = element_new other (named_place there sound.second_whole other link names) Fea is refl reached })
  new_tells link other new names true reached is =
      let source = reached_from r.became other reached in
      new_by_object other (new_link_told link other source.0 names is source.1 new)

  new_joined : (link other : ℕ) → arrives r link ≡ true → IsLinkOf there other link → (kind : Kind) → (record_at there other).kind ≡ kind → (is_object kind || arrives r other) ≡ true → SecondIsTold n r link
  new_joined link other new names kind is test = go kind is test
    where
      place : IsPlace there other
      place = named_place there sound.second_whole other link names

      unlinked : is_link (record_at there other).kind ≡ false
      unlinked = named_no_link there sound.second_whole other link names

      alone : arrives r other ≡ true → SecondIsTold n r link
      alone e = new_by_joined other (record { names = names; stands = element_new other place (record_at there other).kind refl unlinked (arrives_new other place unlinked e) })

      go : (x : Kind) → (record_at there other).kind ≡ x → (is_object x || arrives r other) ≡ true → SecondIsTold n r link
      go Pno e h = alone h
      go Par e h = alone h
      go Pfe e h = alone h
      go Fea e h = new_tells link other new names (is_reached r.became other) refl e
      go Lnk e h = alone h

  new_link : (j : ℕ) → IsPlace there j → (record_at there j).kind ≡ Lnk → is_reached r.became j ≡ false → (beside : Bool) → is_told_beside (arrives r) there j ≡ beside → SecondIsTold n r j
  new_link j place is e false beside =
      new_by_lines (second_stands n r j place Lnk is (new_bare_said n r j (is_reached r.became j || is_told_beside (arrives r) there j) (or_from (is_reached r.became j) (is_told_beside (arrives r) there j) e beside)))
  new_link j place is e true beside =
      let found = any_at (λ (k : ℕ). is_object (record_at there k).kind || arrives r k) (targets (record_at there j)) beside in
      let other = get_or (targets (record_at there j)) found.0 0 in
      let names : IsLinkOf there other j = record { there = place; kind = is; at = found.0; within = found.1; names = refl } in
      new_joined j other new names (record_at there other).kind refl found.2
    where
      new : arrives r j ≡ true
      new = ap₂ (λ (a b : Bool). a && (not b || list_any (λ (i : ℕ). went_to j (moved_to r i)) (range_with_len 0 (length r.became)))) (lt-ltb j (length there.list) place) e

  pub new_told : (j : ℕ) → IsPlace there j → is_reached r.became j ≡ false → (kind : Kind) → (record_at there j).kind ≡ kind → SecondIsTold n r j
  new_told j place e Pno is = new_by_lines (element_new j place Pno is refl e)
  new_told j place e Par is = new_by_lines (element_new j place Par is refl e)
  new_told j place e Pfe is = new_by_lines (element_new j place Pfe is refl e)
  new_told j place e Fea is = new_by_lines (element_new j place Fea is refl e)
  new_told j place e Lnk is = new_link j place is e (is_told_beside (arrives r) there j) refl

  pub second_told : (j : ℕ) → IsPlace there j → second_line r j ≢ [] → SecondIsTold n r j
  second_told j place listed = new_told j place (unreached (is_reached r.became j) listed) (record_at there j).kind refl
    where
      unreached : (b : Bool) → (if b then [] else lone_line (codes "+ ") r.second j) ≢ [] → b ≡ false
      unreached true some = absurd (some refl)
      unreached false some = refl

  -- ---- objects without a line

  outline_silent : (k : ℕ) → outline_line n r k ≡ [] → has_other_outline r k ≡ false
  unfolding outline_name
  outline_silent k none = false_from_ne_true (has_other_outline r k) (λ e. if_said (has_other_outline r k) (outline_text n r k) [] e (λ h. cc) none)

  links_silent : (i link : ℕ) → first_link n r i link ≡ [] → is_differing r link ≡ false
  links_silent i link none = false_from_ne_true (is_differing r link) (λ e. if_said (is_differing r link) (differing_link n r i link (became_of r link) (parts_at r.parts link))
      (outline_lines n r link) e (differing_said n r i link (became_of r link) (parts_at r.parts link)) none)

  outlines_silent : (i link : ℕ) → first_link n r i link ≡ [] → outline_lines n r link ≡ []
  outlines_silent i link none =
      sym (ap (λ (b : Bool). if b then differing_link n r i link (became_of r link) (parts_at r.parts link) else outline_lines n r link) (links_silent i link none)) ∙ none

  further_silent : (link : ℕ) → further_line r link ≡ [] → list_any (has_other_outline r) (drop most_named (targets (record_at here link))) ≡ false
  unfolding has_further_outline
  further_silent link none = false_from_ne_true (has_further_outline r link) (λ e. if_said (has_further_outline r link) (codes "    outline of others" ++ line_feed ∷ []) [] e (λ h. cc) none)

  each_silent : (link k : ℕ) → outline_lines n r link ≡ [] → k < length (targets (record_at here link)) → has_other_outline r (get_or (targets (record_at here link)) k 0) ≡ false
  each_silent link k none within = go (cases_lt k most_named)
    where
      halves : (flat_map (outline_line n r) (take most_named (targets (record_at here link))) ≡ []) × (further_line r link ≡ [])
      halves = both_none (flat_map (outline_line n r) (take most_named (targets (record_at here link)))) (further_line r link) none

      go : (k < most_named) ⊎ (most_named ≤ k) → has_other_outline r (get_or (targets (record_at here link)) k 0) ≡ false
      go (inl few) =
          let all = none_each (outline_line n r) (take most_named (targets (record_at here link))) halves.0 in
          let one = one_of_all (λ (x : ℕ). outline_line n r x ≡ []) (take most_named (targets (record_at here link))) all k 0 (omega (arith, few, within, length-take most_named (targets (record_at here link)))) in
          outline_silent (get_or (targets (record_at here link)) k 0) (subst (λ (x : ℕ). outline_line n r x ≡ []) (get_or-take most_named (targets (record_at here link)) k 0 few) one)
      go (inr more) =
          let all = none_any (has_other_outline r) (drop most_named (targets (record_at here link))) (further_silent link halves.1) in
          let one = one_of_all (λ (x : ℕ). has_other_outline r x ≡ false) (drop most_named (targets (record_at here link))) all (k - most_named) 0 (omega (arith, more, within, length-drop most_named (targets (record_at here link)))) in
          let at : most_named + (k - most_named) ≡ k = omega (arith, more) in
          subst (λ (x : ℕ). has_other_outline r x ≡ false) (get_or-drop most_named (targets (record_at here link)) (k - most_named) 0 ∙ ap (λ (m : ℕ). get_or (targets (record_at here link)) m 0) at) one

  untouched : (i j : ℕ) → IsPlace here i → (record_at here i).kind ≡ Fea → became_of r i ≡ Some j → object_lines n r i j ≡ [] → IsUntouched r i j
  untouched i j place is went none = record { itself = itself; links = links; outlines = outlines; new_links = new_links }
    where
      parts : (own_lines n r i j (same_of r i) ≡ []) × (flat_map (first_link n r i) (links_of here i) ≡ []) × (flat_map (second_link n r j) (links_of there j) ≡ [])
      parts = lines_none i j none

      each : AllByRecursion (λ (link : ℕ). first_link n r i link ≡ []) (links_of here i)
      each = none_each (first_link n r i) (links_of here i) parts.1

      itself : is_differing r i ≡ false
      itself = false_from_ne_true (is_differing r i) (λ e. object_differs i place is e (Some j) went (ap (object_by n r i) went ∙ ap (object_block n r i j) none))

      links : (link : ℕ) → IsLinkOf here i link → is_differing r link ≡ false
      links link names = links_silent i link (each_link here i (λ (x : ℕ). first_link n r i x ≡ []) each link names)

      outlines : (link other : ℕ) → IsLinkOf here i link → IsLinkOf here other link → has_other_outline r other ≡ false
      outlines link other names its = subst (λ (x : ℕ). has_other_outline r x ≡ false) its.names
          (each_silent link its.at (outlines_silent i link (each_link here i (λ (x : ℕ). first_link n r i x ≡ []) each link names)) its.within)

      new_links : (link : ℕ) → IsLinkOf there j link → arrives r link ≡ false
      new_links link names = false_from_ne_true (arrives r link)
          (λ e. second_link_said n r j link e (each_link there j (λ (x : ℕ). second_link n r j x ≡ []) (none_each (second_link n r j) (links_of there j) parts.2) link names))

  block_none : (i j : ℕ) → object_block n r i j (object_lines n r i j) ≡ [] → object_lines n r i j ≡ []
  block_none i j none = go (object_lines n r i j) none
    where
      go : (lines : List ℕ) → object_block n r i j lines ≡ [] → lines ≡ []
      go [] e = refl
      go (x ∷ xs) e = absurd (block_said n r i j (x ∷ xs) (λ h. cc) e)

  silent_by : (i : ℕ) → IsPlace here i → (record_at here i).kind ≡ Fea → (went : Option ℕ) → became_of r i ≡ went → object_by n r i went ≡ [] → (j : ℕ) × (became_of r i ≡ Some j) × IsUntouched r i j
  silent_by i place is None went none = absurd (lone_said n r r.first i none)
  silent_by i place is (Some j) went none = (j, went, untouched i j place is went (block_none i j none))

  pub silent : (i : ℕ) → IsPlace here i → (record_at here i).kind ≡ Fea → first_object n r i ≡ [] → (j : ℕ) × (became_of r i ≡ Some j) × IsUntouched r i j
  silent i place is none = silent_by i place is (became_of r i) refl none

  own_quiet : (i j : ℕ) → IsPlace here i → became_of r i ≡ Some j → is_differing r i ≡ false → (same : Option ℕ) → same_of r i ≡ same → own_lines n r i j same ≡ []
  own_quiet i j place went e (Some k) is = refl
  own_quiet i j place went e None is = own_silent n (parts_at r.parts i) (record_at here i) (record_at there j)
      (sym (ap₂ (λ (s b : Option ℕ). differs_by s b (parts_at r.parts i)) is went)
      ∙ (sym (ap (λ (b : Bool). b && differs_by (same_of r i) (became_of r i) (parts_at r.parts i)) (lt-ltb i (length here.list) place)) ∙ e))

  further_none : (link : ℕ) → list_any (has_other_outline r) (drop most_named (targets (record_at here link))) ≡ false → further_line r link ≡ []
  unfolding has_further_outline
  further_none link none = ap (λ (b : Bool). if b then codes "    outline of others" ++ line_feed ∷ [] else []) none

  -- and an object of which nothing differs has no line
  pub untouched_silent : (i : ℕ) → IsPlace here i → (j : ℕ) → became_of r i ≡ Some j → IsUntouched r i j → first_object n r i ≡ []
  untouched_silent i place j went u = ap (object_by n r i) went ∙ ap (object_block n r i j) none
    where
      quiet : (link : ℕ) → IsLinkOf here i link → (k : ℕ) → k < length (targets (record_at here link)) → has_other_outline r (get_or (targets (record_at here link)) k 0) ≡ false
      quiet link names k within = u.outlines link (get_or (targets (record_at here link)) k 0) names (record { there = names.there; kind = names.kind; at = k; within = within; names = refl })

      few_quiet : (link : ℕ) → IsLinkOf here i link → flat_map (outline_line n r) (take most_named (targets (record_at here link))) ≡ []
      few_quiet link names = none_from (outline_line n r) (take most_named (targets (record_at here link)))
          (each_from_places (λ (x : ℕ). outline_line n r x ≡ []) (take most_named (targets (record_at here link))) 0 (λ k h.
          let few : k < most_named = omega (arith, h, length-take most_named (targets (record_at here link))) in
          let within : k < length (targets (record_at here link)) = omega (arith, h, length-take most_named (targets (record_at here link))) in
          ap (λ (b : Bool). if b then outline_text n r (get_or (take most_named (targets (record_at here link))) k 0) else [])
          (ap (has_other_outline r) (get_or-take most_named (targets (record_at here link)) k 0 few) ∙ quiet link names k within)))

      further_quiet : (link : ℕ) → IsLinkOf here i link → further_line r link ≡ []
      further_quiet link names = further_none link
          (any_none (has_other_outline r) (drop most_named (targets (record_at here link)))
          (all_dropped (λ (x : ℕ). has_other_outline r x ≡ false) most_named (targets (record_at here link))
          (each_from_places (λ (x : ℕ). has_other_outline r x ≡ false) (targets (record_at here link)) 0 (quiet link names))))

      link_quiet : (link : ℕ) → IsLinkOf here i link → first_link n r i link ≡ []
      link_quiet link names =
          ap (λ (b : Bool). if b then differing_link n r i link (became_of r link) (parts_at r.parts link) else outline_lines n r link) (u.links link names)
          ∙ ap₂ (λ (xs ys : List ℕ). xs ++ ys) (few_quiet link names) (further_quiet link names)

      new_quiet : (link : ℕ) → IsLinkOf there j link → second_link n r j link ≡ []
      new_quiet link names =
          ap (λ (b : Bool). if b then codes "    + " ++ shown_class n.classes (record_at there link).class ++ codes ":" ++ others_text n r.second (Some j) (record_at there link) ++ line_feed ∷ [] else [])
          (u.new_links link names)

      none : object_lines n r i j ≡ []
      none = ap₂ (λ (xs ys : List ℕ). xs ++ ys) (ap₂ (λ (xs ys : List ℕ). xs ++ ys) (own_quiet i j place went u.itself (same_of r i) refl)
          (none_from (first_link n r i) (links_of here i) (all_links here i (λ (x : ℕ). first_link n r i x ≡ []) link_quiet)))
          (none_from (second_link n r j) (links_of there j) (all_links there j (λ (x : ℕ). second_link n r j x ≡ []) new_quiet))

  pub hides_nothing : HidesNothing n r
  hides_nothing = record { first = first_told; second = second_told; objects = silent }
