-- The layout of an arranged plan: its records kind by kind, with the numbers of the labels.
use Rattle.std.proofs.Common.{◌≡◌, ◌≢◌, ℕ, zero, suc, ◌+◌, ◌-◌, ◌<◌, ◌≤◌, Bool, true, false, cond, ◌&&◌, not, List, [], ◌∷◌, ◌++◌, map, take, length, get_or, count_by, append-nil, append_assoc, refl, sym, ap, ap₂, ◌∙◌, subst, arith, eq-eqb}
use Rattle.std.specs.Prelude.{codes, decimal, flat_map, option_to_list}
use Rattle.std.specs.List.{AllByRecursion, slice_get}
use Rattle.std.proofs.lemmas.Bool.{ne_eqb}
use Rattle.std.proofs.lemmas.Grind.{flat_map-append}
use Rattle.std.proofs.lemmas.List.{length-map, take-map, take-append-le, length-append}
use Rattle.std.proofs.lemmas.List.Elements.{recursion_from_All, All-from_recursion}
use Rattle.std.proofs.lemmas.List.Sorted.{All-permutation, IsPermutation-sym, length_permutation}
use Rattle.std.proofs.lemmas.Option.{get_or_from_slice_get}
use Rattle.edi_line.specs.ZoneData.{ZoneData}
use Rattle.edi_line.specs.Printing.{zone_text, printed, printed_zone}
use Rattle.edi_line.proofs.EachElement.{each_from_found}
use Rattle.edi_record.specs.CanonicalZones.{point_zone, sns_zone, end_text, begin_zone, cse_zone, end_zone}
use Rattle.edi_record.specs.declared.record.Kind.{Kind}
use Rattle.edi_record.specs.declared.record.Kind.TheVariants.{Pno, Par, Pfe, Fea, Lnk}
use Rattle.edi_schema.specs.Classes.{Classes}
use Rattle.edi_schema.specs.Sorted.{sort_by}
use Rattle.edi_schema.proofs.SortedLists.{count_by-cons, IsPermutation-sort_by}
use Rattle.edi_plan.specs.Plans.{PlanData, IsPlace, record_at, kind_rank, same_kind, is_arc}
use Rattle.edi_plan.specs.Whole.{IsWholePlan}
use Rattle.edi_plan.specs.declared.record.PlanRecord.{PlanRecord}
use Rattle.edi_plan.specs.declared.record.PlanEnd.{PlanEnd}
use Rattle.edi_rank.specs.Arranged.{offset, new_place, old_places, arranged, arranged_record, numbered_cmp, ordered_ends}
use Rattle.edi_rank.specs.Keys.{end_cmp, ends_key, numbered}
use Rattle.edi_rank.specs.Labelling.{Labelling, AreLabels, number_of, order_of, turned_at}
use Rattle.edi_rank.specs.Same.{directed, moved}
use Rattle.edi_rank.specs.Turned.{is_forward}
use Rattle.edi_rank.proofs.Arranging.{new_places, placed, record_placed, same_length, numbered_total}
use Rattle.edi_rank.proofs.ArrangedUnder.{directed_long}
use Rattle.edi_rank.proofs.KeysPreserved.{count_by-map}
use Rattle.edi_rank.proofs.Renumbered.{sort-map}
use Rattle.edi_write.specs.Layout.{body_zones, end_zones, head_zones, layout, number_in, record_zones, zones_from}
use Rattle.edi_write.specs.inner.Numbered.{numbered_body, numbered_end_zones, numbered_name, numbered_zones, ordered_tail}

-- ---- counts in lists one behind the other

count_both : {X : Type 0} (test : X → Bool) (xs ys : List X) → count_by test (xs ++ ys) ≡ count_by test xs + count_by test ys
count_both test [] ys = let z : count_by test ys ≡ 0 + count_by test ys = omega arith in z
count_both test (x ∷ xs) ys = let a = count_by-cons test x (xs ++ ys) in let b = count_by-cons test x xs in let c = count_both test xs ys in omega (arith, a, b, c)

take_behind : {X : Type 0} (xs ys : List X) (i j : ℕ) → j ≡ length xs + i → take j (xs ++ ys) ≡ xs ++ take i ys
take_behind [] ys i j e = ap (λ n. take n ys) (let f : j ≡ i = omega (arith, e) in f)
take_behind (x ∷ xs) ys i zero e = absurd (omega (arith, e))
take_behind (x ∷ xs) ys i (suc j) e = ap (λ zs. x ∷ zs) (take_behind xs ys i j (omega (arith, e)))

count_before : {X : Type 0} (test : X → Bool) (xs ys : List X) (j n : ℕ) → j ≤ length xs → count_by test (take j xs) ≡ n → count_by test (take j (xs ++ ys)) ≡ n
count_before test xs ys j n h e = ap (count_by test) (take-append-le j xs ys h) ∙ e

count_behind : {X : Type 0} (test : X → Bool) (xs ys : List X) (i j n : ℕ) → j ≡ length xs + i → count_by test xs ≡ 0 → count_by test (take i ys) ≡ n → count_by test (take j (xs ++ ys)) ≡ n
count_behind test xs ys i j n e none some = ap (count_by test) (take_behind xs ys i j e) ∙ (let both = count_both test xs (take i ys) in omega (arith, both, none, some))

none_both : {X : Type 0} (test : X → Bool) (xs ys : List X) → count_by test xs ≡ 0 → count_by test ys ≡ 0 → count_by test (xs ++ ys) ≡ 0
none_both test xs ys a b = let both = count_both test xs ys in omega (arith, both, a, b)

module _ (s : Classes) (p : PlanData) (l : Labelling) (labels : AreLabels s p l) where
  abbrev kind_at : ℕ → Kind
  kind_at k = (record_at p k).kind

  abbrev is_of : Kind → ℕ → Bool
  is_of kind k = same_kind kind (kind_at k)

  pub places_of_kind : (kind : Kind) → AllByRecursion (IsPlace p) (order_of l kind)
  places_of_kind kind = each_from_found (IsPlace p) (order_of l kind) (λ i k e. (labels.orders kind i k e).0)

  all_in : (kind : Kind) → AllByRecursion (λ k. kind_at k ≡ kind) (order_of l kind)
  all_in kind = each_from_found (λ k. kind_at k ≡ kind) (order_of l kind) (λ i k e. (labels.orders kind i k e).1)

  -- ---- how many records of a kind stand before one of them

  each_counted : (kind : Kind) (i : ℕ) (ks : List ℕ) → i ≤ length ks → AllByRecursion (λ k. kind_at k ≡ kind) ks → count_by (is_of kind) (take i ks) ≡ i
  each_counted kind zero ks h all = refl
  each_counted kind (suc i) [] h all = absurd (omega (arith, h))
  each_counted kind (suc i) (k ∷ ks) h all =
      let here : is_of kind k ≡ true = eq-eqb (kind_rank kind) (kind_rank (kind_at k)) (ap kind_rank (sym all.0)) in
      count_by-cons (is_of kind) k (take i ks) ∙ (ap (λ b. cond b 1 0 + count_by (is_of kind) (take i ks)) here ∙ (let more = each_counted kind i ks (omega (arith, h)) all.1 in omega (arith, more)))

  none_counted : (kind other : Kind) (ks : List ℕ) → kind_rank kind ≢ kind_rank other → AllByRecursion (λ k. kind_at k ≡ other) ks → count_by (is_of kind) ks ≡ 0
  none_counted kind other [] apart all = refl
  none_counted kind other (k ∷ ks) apart all =
      let here : is_of kind k ≡ false = ne_eqb (kind_rank kind) (kind_rank (kind_at k)) (λ e. apart (e ∙ ap kind_rank all.0)) in
      count_by-cons (is_of kind) k ks ∙ (ap (λ b. cond b 1 0 + count_by (is_of kind) ks) here ∙ (let more = none_counted kind other ks apart all.1 in omega (arith, more)))

  own : (kind : Kind) (i : ℕ) → i ≤ length (order_of l kind) → count_by (is_of kind) (take i (order_of l kind)) ≡ i
  own kind i h = each_counted kind i (order_of l kind) h (all_in kind)

  no : (kind other : Kind) → kind_rank kind ≢ kind_rank other → count_by (is_of kind) (order_of l other) ≡ 0
  no kind other apart = none_counted kind other (order_of l other) apart (all_in other)

  abbrev two : List ℕ
  two = l.nodes ++ l.arcs

  abbrev three : List ℕ
  three = two ++ l.faces

  abbrev four : List ℕ
  four = three ++ l.objects

  two_long : length two ≡ offset l Pfe
  two_long = length-append l.nodes l.arcs

  three_long : length three ≡ offset l Fea
  three_long = let a = length-append two l.faces in let b = two_long in omega (arith, a, b)

  four_long : length four ≡ offset l Lnk
  four_long = let a = length-append three l.objects in let b = three_long in omega (arith, a, b)

  counted_before : (kind : Kind) (i : ℕ) → i ≤ length (order_of l kind) → count_by (is_of kind) (take (offset l kind + i) (old_places l)) ≡ i
  counted_before Pno i h =
      count_before (is_of Pno) four l.links (0 + i) i (let a = four_long in omega (arith, h, a)) (count_before (is_of Pno) three l.objects (0 + i) i (let a = three_long in omega (arith, h, a))
      (count_before (is_of Pno) two l.faces (0 + i) i (let a = two_long in omega (arith, h, a)) (count_before (is_of Pno) l.nodes l.arcs (0 + i) i (omega (arith, h))
      (ap (λ j. count_by (is_of Pno) (take j l.nodes)) (let z : 0 + i ≡ i = omega arith in z) ∙ own Pno i h))))
  counted_before Par i h =
      count_before (is_of Par) four l.links (offset l Par + i) i (let a = four_long in omega (arith, h, a)) (count_before (is_of Par) three l.objects (offset l Par + i) i (let a = three_long in omega (arith, h, a))
      (count_before (is_of Par) two l.faces (offset l Par + i) i (let a = two_long in omega (arith, h, a))
      (count_behind (is_of Par) l.nodes l.arcs i (offset l Par + i) i refl (no Par Pno (λ e. omega (arith, e))) (own Par i h))))
  counted_before Pfe i h =
      let none : count_by (is_of Pfe) two ≡ 0 = none_both (is_of Pfe) l.nodes l.arcs (no Pfe Pno (λ e. omega (arith, e))) (no Pfe Par (λ e. omega (arith, e))) in
      count_before (is_of Pfe) four l.links (offset l Pfe + i) i (let a = four_long in omega (arith, h, a)) (count_before (is_of Pfe) three l.objects (offset l Pfe + i) i (let a = three_long in omega (arith, h, a))
      (count_behind (is_of Pfe) two l.faces i (offset l Pfe + i) i (let a = two_long in omega (arith, a)) none (own Pfe i h)))
  counted_before Fea i h =
      let none : count_by (is_of Fea) three ≡ 0 =
      none_both (is_of Fea) two l.faces (none_both (is_of Fea) l.nodes l.arcs (no Fea Pno (λ e. omega (arith, e))) (no Fea Par (λ e. omega (arith, e)))) (no Fea Pfe (λ e. omega (arith, e))) in
      count_before (is_of Fea) four l.links (offset l Fea + i) i (let a = four_long in omega (arith, h, a))
      (count_behind (is_of Fea) three l.objects i (offset l Fea + i) i (let a = three_long in omega (arith, a)) none (own Fea i h))
  counted_before Lnk i h =
      let none : count_by (is_of Lnk) four ≡ 0 =
      none_both (is_of Lnk) three l.objects
      (none_both (is_of Lnk) two l.faces (none_both (is_of Lnk) l.nodes l.arcs (no Lnk Pno (λ e. omega (arith, e))) (no Lnk Par (λ e. omega (arith, e)))) (no Lnk Pfe (λ e. omega (arith, e)))) (no Lnk Fea (λ e. omega (arith, e))) in
      count_behind (is_of Lnk) four l.links i (offset l Lnk + i) i (let a = four_long in omega (arith, a)) none (own Lnk i h)

  abbrev after : PlanData
  after = arranged s l p

  -- the number of a record of the arranged plan is that of its labels
  pub number_arranged : (k : ℕ) → IsPlace p k → number_in s after (new_place l p k) ≡ number_of l k
  number_arranged k h =
      let kind : (record_at after (new_place l p k)).kind ≡ kind_at k = ap (λ (r : PlanRecord). r.kind) (record_placed s p l labels k h) in
      let within = Rattle.std.proofs.lemmas.Option.slice_get_within (order_of l (kind_at k)) (number_of l k - 1) k (labels.to_count k h) in
      let one = labels.from_one k h in
      let count : count_by (λ r. same_kind (kind_at k) r.kind) (take (new_place l p k) after.list) ≡ number_of l k - 1 =
      ap (count_by (λ (r : PlanRecord). same_kind (kind_at k) r.kind)) (take-map (arranged_record s l p) (new_place l p k) (old_places l))
      ∙ (count_by-map (λ (r : PlanRecord). same_kind (kind_at k) r.kind) (arranged_record s l p) (take (new_place l p k) (old_places l)) ∙ counted_before (kind_at k) (number_of l k - 1) (omega (arith, within))) in
      ap (λ kind. count_by (λ (r : PlanRecord). same_kind kind r.kind) (take (new_place l p k) after.list) + 1) kind ∙ (omega (arith, count, one))

  -- the old place of a place of the arranged plan
  old_there : (j : ℕ) → j < length (old_places l) → IsPlace p (get_or (old_places l) j 0) × (number_in s after j ≡ number_of l (get_or (old_places l) j 0))
  old_there j h =
      let from = (new_places s p l labels).onto j (let a = same_length s p l labels in omega (arith, h, a)) in
      let is : get_or (old_places l) j 0 ≡ from.0 = get_or_from_slice_get (old_places l) j from.0 0 (ap (slice_get (old_places l)) (sym from.2) ∙ placed s p l labels from.0 from.1) in (
        subst (IsPlace p) (sym is) from.1,
        ap (number_in s after) (sym from.2) ∙ (number_arranged from.0 from.1 ∙ ap (number_of l) (sym is)),
      )

  -- ---- the ends of a record

  end_same : (e : PlanEnd) → IsPlace p e.target → end_zones s after (moved (new_place l p) e) ≡ numbered_end_zones (numbered p (number_of l) e)
  end_same e h =
      let kind : (record_at after (new_place l p e.target)).kind ≡ kind_at e.target = ap (λ (r : PlanRecord). r.kind) (record_placed s p l labels e.target h) in
      ap₂ (λ kind number. zone_text (codes "FTP") 67 80 (end_text (numbered_name kind number)) ∷ map sns_zone (option_to_list e.sns)) kind (number_arranged e.target h)

  each_end_same : (es : List PlanEnd) → AllByRecursion (λ e. IsPlace p e.target) es
      → flat_map (end_zones s after) (map (moved (new_place l p)) es) ≡ flat_map numbered_end_zones (map (numbered p (number_of l)) es)
  each_end_same [] there = refl
  each_end_same (e ∷ es) there = ap₂ ◌++◌ (end_same e there.0) (each_end_same es there.1)

  ordered_there : (es : List PlanEnd) → AllByRecursion (λ e. IsPlace p e.target) es → AllByRecursion (λ e. IsPlace p e.target) (sort_by (numbered_cmp p (number_of l)) es)
  ordered_there es there = recursion_from_All (λ e. IsPlace p e.target) (sort_by (numbered_cmp p (number_of l)) es) (All-permutation (λ e. IsPlace p e.target) es (sort_by (numbered_cmp p (number_of l)) es)
      (IsPermutation-sym _ _ (IsPermutation-sort_by (numbered_cmp p (number_of l)) (numbered_total p (number_of l)) es)) (All-from_recursion (λ e. IsPlace p e.target) es there))

  ends_same : (es : List PlanEnd) → AllByRecursion (λ e. IsPlace p e.target) es
      → flat_map (end_zones s after) (map (moved (new_place l p)) (ordered_ends p (number_of l) es)) ≡ flat_map numbered_end_zones (ends_key p (number_of l) es)
  ends_same [] there = refl
  ends_same (origin ∷ others) there =
      ap₂ ◌++◌ (end_same origin there.0) (each_end_same (sort_by (numbered_cmp p (number_of l)) others) (ordered_there others there.1)
      ∙ ap (flat_map numbered_end_zones) (sym (sort-map (numbered_cmp p (number_of l)) end_cmp (numbered p (number_of l)) (λ d e. refl) others)))

  ends_long : (es : List PlanEnd) → length (map (moved (new_place l p)) (ordered_ends p (number_of l) es)) ≡ length es
  ends_long [] = refl
  ends_long (origin ∷ others) =
      ap suc (length-map (sort_by (numbered_cmp p (number_of l)) others) (moved (new_place l p)) ∙ sym (length_permutation _ _ (IsPermutation-sort_by (numbered_cmp p (number_of l)) (numbered_total p (number_of l)) others)))

  module _ (whole : IsWholePlan p) where
    -- ---- a record

    body_same : (k : ℕ) → IsPlace p k → (kind : Kind) → kind_at k ≡ kind → body_zones s after kind (arranged_record s l p k) ≡ numbered_body l p k kind
    body_same k h Pno is = ap (λ t. map point_zone (directed t (record_at p k).points)) (labels.turned k h ∙ ap (λ kind. is_arc kind && not (is_forward (record_at p k).points)) is)
    body_same k h Par is = ap (λ n. zone_text (codes "PTC") 83 78 (decimal n) ∷ map point_zone (directed (turned_at l.turned k) (record_at p k).points)) (directed_long (turned_at l.turned k) (record_at p k).points)
    body_same k h Pfe is = refl
    body_same k h Fea is = refl
    body_same k h Lnk is = ap₂ (λ n zs. zone_text (codes "FTC") 83 78 (decimal n) ∷ zs) (ends_long (record_at p k).ends) (ends_same (record_at p k).ends (whole.there k h))

    record_same : (k : ℕ) → IsPlace p k → record_zones s after (number_of l k) (arranged_record s l p k) ≡ numbered_zones s l p k
    record_same k h = ap (λ zs. head_zones s (number_of l k) (arranged_record s l p k) ++ (zs ++ ordered_tail s (record_at p k))) (body_same k h (kind_at k) refl)

    each_same : (place : ℕ) (ks : List ℕ) → ((j : ℕ) → j < length ks → IsPlace p (get_or ks j 0) × (number_in s after (place + j) ≡ number_of l (get_or ks j 0)))
        → zones_from s after place (map (arranged_record s l p) ks) ≡ flat_map (numbered_zones s l p) ks
    each_same place [] at = refl
    each_same place (k ∷ ks) at =
        let first = at 0 (omega arith) in
        let number : number_in s after place ≡ number_of l k = ap (number_in s after) (let z : place ≡ place + 0 = omega arith in z) ∙ first.1 in
        let later : (j : ℕ) → j < length ks → IsPlace p (get_or ks j 0) × (number_in s after ((place + 1) + j) ≡ number_of l (get_or ks j 0)) =
        λ j h. (let next = at (suc j) (omega (arith, h)) in (next.0, ap (number_in s after) (let z : (place + 1) + j ≡ place + suc j = omega arith in z) ∙ next.1)) in
        ap₂ ◌++◌ (ap (λ n. record_zones s after n (arranged_record s l p k)) number ∙ record_same k first.0) (each_same (place + 1) ks later)

    -- the layout of the arranged plan is what is written
    pub laid_out : layout s after ≡ printed (begin_zone ∷ (map cse_zone (option_to_list p.cse) ++ (flat_map (numbered_zones s l p) (old_places l) ++ end_zone ∷ [])))
    unfolding layout
    laid_out = ap (λ zs. printed (begin_zone ∷ (map cse_zone (option_to_list p.cse) ++ (zs ++ end_zone ∷ []))))
        (each_same 0 (old_places l) (λ j h. (let at = old_there j h in (at.0, ap (number_in s after) (let z : 0 + j ≡ j = omega arith in z) ∙ at.1))))

-- the parts that were written one behind the other
pub joined_parts : (begin : List ZoneData) (middle : List ZoneData) (end : ZoneData) (a b c d : List ℕ) → a ≡ [] → b ≡ a ++ printed begin → c ≡ b ++ printed middle → d ≡ c ++ printed_zone end → d ≡ printed (begin ++ (middle ++ end ∷ []))
joined_parts begin middle end a b c d e f g h =
    let left : d ≡ (printed begin ++ printed middle) ++ printed_zone end = h ∙ ap (λ x. x ++ printed_zone end) (g ∙ ap (λ x. x ++ printed middle) (f ∙ ap (λ x. x ++ printed begin) e)) in
    let right : printed (begin ++ (middle ++ end ∷ [])) ≡ printed begin ++ (printed middle ++ printed_zone end) =
    flat_map-append printed_zone begin (middle ++ end ∷ []) ∙ ap (λ x. printed begin ++ x) (flat_map-append printed_zone middle (end ∷ []) ∙ ap (λ x. printed middle ++ x) (append-nil (printed_zone end))) in
    left ∙ (append_assoc (printed begin) (printed middle) (printed_zone end) ∙ sym right)
