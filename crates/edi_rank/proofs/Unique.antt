-- Two plans in order of which one carries onto the other are equal.
use Rattle.std.proofs.Common.{◌≡◌, ◌≢◌, ℕ, zero, suc, pred, ◌<◌, Bool, true, false, cond, List, [], ◌∷◌, map, reverse, length, get_or, filter_map, Option, Some, None, option_map, refl, sym, ap, ap₂, ◌∙◌, subst, arith, ◌⊎◌, inl, inr, IsPermutation, true≢false, Less, is_gt, eqb-true}
use Rattle.std.specs.List.{AllByRecursion}
use Rattle.std.specs.Option.{option_cmp}
use Rattle.std.proofs.lemmas.Bool.{cases_order}
use Rattle.std.proofs.lemmas.List.{reverse-reverse}
use Rattle.edi_line.proofs.EachElement.{each_weaker, each_from_places}
use Rattle.edi_line.proofs.Truths.{less_is}
use Rattle.edi_record.specs.Orders.{points_cmp}
use Rattle.edi_record.specs.Shapes.{may_have_points}
use Rattle.edi_record.specs.declared.record.Kind.{Kind}
use Rattle.edi_record.specs.declared.record.Kind.TheVariants.{Pno, Par, Pfe, Fea, Lnk}
use Rattle.edi_record.specs.declared.record.Point.{Point}
use Rattle.edi_schema.specs.Classes.{Classes, role_of}
use Rattle.edi_schema.specs.Sorted.{NeverFalls}
use Rattle.edi_record.specs.Records.{is_link}
use Rattle.edi_record.proofs.KindCodes.{link_is}
use Rattle.edi_plan.specs.Plans.{PlanData, record_at, blank, kind_rank, is_arc, is_object, first_of, rest_of, others_of}
use Rattle.edi_plan.specs.declared.record.PlanRecord.{PlanRecord}
use Rattle.edi_plan.specs.declared.record.PlanEnd.{PlanEnd}
use Rattle.edi_rank.specs.Same.{moved, has_turned_arc, Carries}
use Rattle.edi_rank.specs.Laws.{IsPlanUnder}
use Rattle.edi_rank.specs.InOrder.{Both, IsInOrder}
use Rattle.edi_plan.specs.Orders.{attribute_cmp}
use Rattle.edi_topo.specs.NodeKeys.{node_key, node_key_cmp}
use Rattle.edi_rank.specs.Keys.{end_cmp, numbered, ends_key, link_key, link_key_cmp, face_key_cmp, least_side, object_key, object_key_cmp}
use Rattle.edi_rank.specs.declared.keys.NumberedEnd.{NumberedEnd}
use Rattle.edi_rank.specs.declared.keys.LinkKey.{LinkKey}
use Rattle.edi_rank.proofs.SameLaws.{none_passes, passes_alike, after_none, role_at}
use Rattle.edi_rank.proofs.Sums.{sum_below-renamed}
use Rattle.edi_schema.proofs.SortedLists.{counts_from_permutation, same_order, sort_by-in_order}
use Rattle.edi_rank.proofs.Gathered.{gathered_equal}
use Rattle.edi_plan.proofs.Orders.{points_total, attribute_total, attribute_exact}
use Rattle.edi_plan.proofs.PlaceLemmas.{one_kind}
use Rattle.edi_topo.proofs.NodeOrders.{node_key_total}
use Rattle.edi_rank.proofs.Orders.{end_total, end_exact, link_key_total, link_key_exact, face_options_total, object_key_total, not_both_less}
use Rattle.edi_rank.proofs.Preserved.{node_key_preserved}
use Rattle.edi_rank.proofs.KeysPreserved.{Kept, kept_from, link_key_preserved, others_kept, face_key_preserved, object_key_preserved, two_hold}

arc_rank : (k : Kind) → is_arc k ≡ true → kind_rank k ≡ 1
arc_rank Pno h = absurd (true≢false (sym h))
arc_rank Par h = refl
arc_rank Pfe h = absurd (true≢false (sym h))
arc_rank Fea h = absurd (true≢false (sym h))
arc_rank Lnk h = absurd (true≢false (sym h))

below_link : (k : Kind) → is_link k ≡ false → kind_rank k < 4
below_link Pno h = omega arith
below_link Par h = omega arith
below_link Pfe h = omega arith
below_link Fea h = omega arith
below_link Lnk h = absurd (true≢false h)

not_link : (k : Kind) → kind_rank k < 4 → is_link k ≡ false
not_link Pno h = refl
not_link Par h = refl
not_link Pfe h = refl
not_link Fea h = refl
not_link Lnk h = absurd (omega arith)

plain_kind : (k : Kind) → k ≢ Lnk → is_link k ≡ false
plain_kind Pno h = refl
plain_kind Par h = refl
plain_kind Pfe h = refl
plain_kind Fea h = refl
plain_kind Lnk h = absurd (h refl)

-- a link has no points

no_points : (k : Kind) (points : List Point) → may_have_points k (length points) ≡ true → is_link k ≡ true → points ≡ []
no_points k [] h g = refl
no_points Pno (x ∷ xs) h g = absurd (true≢false (sym g))
no_points Par (x ∷ xs) h g = absurd (true≢false (sym g))
no_points Pfe (x ∷ xs) h g = absurd (true≢false (sym g))
no_points Fea (x ∷ xs) h g = absurd (true≢false (sym g))
no_points Lnk (x ∷ xs) h g = let e : suc (length xs) ≡ 0 = eqb-true _ _ h in absurd (omega (arith, e))

-- an end and a link, from their keys

end_of : NumberedEnd → PlanEnd
end_of k = record { target = pred k.number; sns = k.sns }

ends_back : (p : PlanData) (xs : List PlanEnd) → map end_of (map (numbered p suc) xs) ≡ xs
unfolding end_of
ends_back p [] = refl
ends_back p (x ∷ xs) = ap (λ ys. x ∷ ys) (ends_back p xs)

key_ends_back : (p : PlanData) (xs : List PlanEnd) → NeverFalls end_cmp (map (numbered p suc) (rest_of xs)) → map end_of (ends_key p suc xs) ≡ xs
unfolding end_of
key_ends_back p [] up = refl
key_ends_back p (x ∷ xs) up = ap (λ ys. x ∷ ys) (ap (map end_of) (sort_by-in_order end_cmp end_total end_exact (map (numbered p suc) xs) up) ∙ ends_back p xs)

-- what role a record of the other plan has is known by its class
link_of : Classes → LinkKey → PlanRecord
link_of s k = record { kind = Lnk; class = k.class; role = role_of s k.class; points = []; attributes = k.attributes; extras = k.extras; ends = map end_of k.ends }

link_back : (s : Classes) (p : PlanData) (e : PlanRecord) → e.kind ≡ Lnk → e.role ≡ role_of s e.class → e.points ≡ [] → NeverFalls attribute_cmp e.attributes → NeverFalls end_cmp (map (numbered p suc) (others_of e)) → link_of s (link_key p suc e) ≡ e
unfolding link_of
link_back s p e kind role points attributes others =
    let x = key_ends_back p e.ends others in
    let t = sort_by-in_order attribute_cmp attribute_total attribute_exact e.attributes attributes in
    λ i. record { kind = sym kind i; class = e.class; role = sym role i; points = sym points i; attributes = t i; extras = e.extras; ends = x i }

-- the links of a list, and their keys

abbrev link_or_none : PlanRecord → Option PlanRecord
link_or_none e = cond (is_link e.kind) (Some e) None

abbrev key_or_none : PlanData → PlanRecord → Option LinkKey
key_or_none p e = cond (is_link e.kind) (Some (link_key p suc e)) None

links_from_keys : (s : Classes) (p : PlanData) (es : List PlanRecord) → AllByRecursion (λ e. is_link e.kind ≡ true → link_of s (link_key p suc e) ≡ e) es → filter_map link_or_none es ≡ map (link_of s) (filter_map (key_or_none p) es)
links_from_keys s p [] all = refl
links_from_keys s p (e ∷ es) all = go (is_link e.kind) refl (links_from_keys s p es all.1)
  where
    go : (b : Bool) → is_link e.kind ≡ b → filter_map link_or_none es ≡ map (link_of s) (filter_map (key_or_none p) es) → filter_map link_or_none (e ∷ es) ≡ map (link_of s) (filter_map (key_or_none p) (e ∷ es))
    go true h more = rw h (ap₂ ◌∷◌ (sym (all.0 h)) more)
    go false h more = rw h more

-- keys of links that never fall, from their places
keys_never_fall : (p : PlanData) (es : List PlanRecord) (d : PlanRecord)
    → ((i k : ℕ) → i < k → k < length es → (get_or es i d).kind ≡ Lnk → (get_or es k d).kind ≡ Lnk → is_gt (link_key_cmp (link_key p suc (get_or es i d)) (link_key p suc (get_or es k d))) ≡ false)
    → NeverFalls link_key_cmp (filter_map (key_or_none p) es)
keys_never_fall p [] d up = tt
keys_never_fall p (e ∷ es) d up =
    go (is_link e.kind) refl (keys_never_fall p es d (λ i k l h. up (suc i) (suc k) (omega arith) (omega arith)))
    (λ link. preserved_keys es (each_from_places (λ f. f.kind ≡ Lnk → is_gt (link_key_cmp (link_key p suc e) (link_key p suc f)) ≡ false) es d (λ i l. up 0 (suc i) (omega arith) (omega arith) link)))
  where
    preserved_keys : (es : List PlanRecord) → AllByRecursion (λ f. f.kind ≡ Lnk → is_gt (link_key_cmp (link_key p suc e) (link_key p suc f)) ≡ false) es
        → AllByRecursion (λ k. is_gt (link_key_cmp (link_key p suc e) k) ≡ false) (filter_map (key_or_none p) es)
    preserved_keys [] all = tt
    preserved_keys (f ∷ fs) all = one (is_link f.kind) refl (preserved_keys fs all.1)
      where
        one : (b : Bool) → is_link f.kind ≡ b → AllByRecursion (λ k. is_gt (link_key_cmp (link_key p suc e) k) ≡ false) (filter_map (key_or_none p) fs)
            → AllByRecursion (λ k. is_gt (link_key_cmp (link_key p suc e) k) ≡ false) (filter_map (key_or_none p) (f ∷ fs))
        one true h more = rw h (all.0 (link_is f.kind h), more)
        one false h more = rw h more

    go : (b : Bool) → is_link e.kind ≡ b → NeverFalls link_key_cmp (filter_map (key_or_none p) es) → (e.kind ≡ Lnk → AllByRecursion (λ k. is_gt (link_key_cmp (link_key p suc e) k) ≡ false) (filter_map (key_or_none p) es))
        → NeverFalls link_key_cmp (filter_map (key_or_none p) (e ∷ es))
    go true h more first = rw h (first (link_is e.kind h), more)
    go false h more first = rw h more

-- two lists with the same links in the same order, and the same other records at the same places
merged : (es fs : List PlanRecord) (d : PlanRecord) → length es ≡ length fs
    → ((i : ℕ) → i < length es → is_link (get_or es i d).kind ≡ false → get_or fs i d ≡ get_or es i d)
    → ((i : ℕ) → i < length es → is_link (get_or es i d).kind ≡ is_link (get_or fs i d).kind)
    → filter_map link_or_none es ≡ filter_map link_or_none fs → es ≡ fs
merged [] [] d long plain alike links = refl
merged [] (f ∷ fs) d long plain alike links = absurd (omega (arith, long))
merged (e ∷ es) [] d long plain alike links = absurd (omega (arith, long))
merged (e ∷ es) (f ∷ fs) d long plain alike links =
    go (is_link e.kind) refl links (merged es fs d (omega (arith, long)) (λ i l. plain (suc i) (omega arith)) (λ i l. alike (suc i) (omega arith)))
  where
    go : (b : Bool) → is_link e.kind ≡ b → filter_map link_or_none (e ∷ es) ≡ filter_map link_or_none (f ∷ fs) → (filter_map link_or_none es ≡ filter_map link_or_none fs → es ≡ fs) → e ∷ es ≡ f ∷ fs
    go true h same more =
        let h' : is_link f.kind ≡ true = sym (alike 0 (omega arith)) ∙ h in
        let both : e ∷ filter_map link_or_none es ≡ f ∷ filter_map link_or_none fs = rw (h, h') at same in
        let tails : filter_map link_or_none es ≡ filter_map link_or_none fs = cc in
        let heads : e ≡ f = cc in
        ap₂ ◌∷◌ heads (more tails)
    go false h same more =
        let h' : is_link f.kind ≡ false = sym (alike 0 (omega arith)) ∙ h in
        let tails : filter_map link_or_none es ≡ filter_map link_or_none fs = rw (h, h') at same in
        ap₂ ◌∷◌ (sym (plain 0 (omega arith) h)) (more tails)

module _ (s : Classes) (p q : PlanData) (up : IsInOrder p) (up' : IsInOrder q) (under : IsPlanUnder s p) (under' : IsPlanUnder s q) (to : ℕ → ℕ) (turned : ℕ → Bool) (c : Carries s to turned p q) where
  abbrev kind_at : ℕ → Kind
  kind_at i = (record_at p i).kind

  -- no arc is reversed: forward points are less than their reverse on both sides

  none_turned : (i : ℕ) → i < length p.list → turned i ≡ false
  none_turned i h = go (turned i) refl
    where
      go : (b : Bool) → turned i ≡ b → b ≡ false
      go false e = refl
      go true e =
          let k = c.each i h in
          let arc = c.arcs i h e in
          let a = (record_at p i).points in
          let turned_points : (record_at q (to i)).points ≡ reverse a = rw e at k.points in
          let forth : points_cmp (record_at q (to i)).points (reverse (record_at q (to i)).points) ≡ Less = less_is _ (up'.forward (to i) (c.places.within i h) (k.kind ∙ arc)) in
          let back : points_cmp (reverse a) a ≡ Less = subst (λ x. points_cmp (reverse a) x ≡ Less) (reverse-reverse a) (subst (λ x. points_cmp x (reverse x) ≡ Less) turned_points forth) in
          absurd (not_both_less points_total a (reverse a) (less_is _ (up.forward i h arc)) back)

  ends_there : (i : ℕ) → i < length p.list → AllByRecursion (λ x. x.target < length p.list) ((record_at p i).ends)
  ends_there i h = under.whole.there i h

  kept : (i : ℕ) → i < length p.list → Kept to (record_at p i) (record_at q (to i))
  kept i h = kept_from s to turned i (record_at p i) (record_at q (to i)) (c.each i h)

  points_kept : (i : ℕ) → i < length p.list → (record_at q (to i)).points ≡ (record_at p i).points
  points_kept i h = (c.each i h).points ∙ rw (none_turned i h)

  class_kept : (i : ℕ) → i < length p.list → (record_at q (to i)).class ≡ (record_at p i).class
  class_kept i h = (c.each i h).class ∙ (rw untouched (after_none s (record_at p i).role (record_at p i).class))
    where
      untouched : has_turned_arc turned (record_at p i) ≡ false
      untouched = passes_alike (λ (x : PlanEnd). x.target < length p.list) (λ x. turned x.target) (λ _. false) (λ x l. none_turned x.target l) (record_at p i).ends (ends_there i h) ∙ none_passes (record_at p i).ends

  role_kept : (i : ℕ) → i < length p.list → (record_at q (to i)).role ≡ (record_at p i).role
  role_kept i h = role_at s q under' (to i) (c.places.within i h) ∙ (ap (role_of s) (class_kept i h) ∙ sym (role_at s p under i h))

  -- what is of a lower type stands before
  lower : (i t : ℕ) → i < length p.list → t < length p.list → kind_rank (kind_at t) < kind_rank (kind_at i) → t < i
  lower i t h l less = go (cases_order t i)
    where
      go : (t ≡ i) ⊎ ((t < i) ⊎ (i < t)) → t < i
      go (inl e) = absurd (omega (arith, ap (λ k. kind_rank (kind_at k)) e))
      go (inr (inl d)) = d
      go (inr (inr d)) = absurd (omega (arith, up.by_type i t d l))

  -- no two records of a type change their order
  no_exchange : (i k : ℕ) → i < k → k < length p.list → is_link (kind_at i) ≡ false → to k ≡ i → i < to i → ((j : ℕ) → j < i → to j ≡ j) → ⊥
  no_exchange i k less h plain e behind fix = go (kind_at i) refl
    where
      here : i < length p.list
      here = omega arith

      kind_there : (record_at q i).kind ≡ kind_at k
      kind_there = ap (λ j. (record_at q j).kind) (sym e) ∙ (kept k h).kind

      alike : kind_at k ≡ kind_at i
      alike = one_kind _ _ (omega (arith, up.by_type i k less h, up'.by_type i (to i) behind (c.places.within i here), ap kind_rank kind_there, ap kind_rank (kept i here).kind))

      lower_kept : (t : ℕ) → t < length p.list → kind_rank (kind_at t) < kind_rank (kind_at i) → suc (to t) ≡ suc t
      lower_kept t l d = ap suc (fix t (lower i t here l d))

      both : (kind : Kind) → kind_at i ≡ kind → Both p suc kind i k
      both kind is = record { first = here; second = h; first_kind = is; second_kind = alike ∙ is; lesser = omega arith }

      both' : (kind : Kind) → kind_at i ≡ kind → Both q suc kind i (to i)
      both' kind is = record { first = omega (arith, c.places.within i here); second = c.places.within i here; first_kind = kind_there ∙ (alike ∙ is); second_kind = (kept i here).kind ∙ is; lesser = omega arith }

      by_points : points_cmp (record_at p i).points (record_at p k).points ≡ Less → points_cmp (record_at q i).points (record_at q (to i)).points ≡ Less → ⊥
      by_points l l' = not_both_less points_total (record_at p i).points (record_at p k).points l
          (subst (λ x. points_cmp x (record_at p i).points ≡ Less) (ap (λ j. (record_at q j).points) (sym e) ∙ points_kept k h) (subst (λ x. points_cmp (record_at q i).points x ≡ Less) (points_kept i here) l'))

      node_kept : (t : ℕ) → t < length p.list → kind_at t ≡ Pno → node_key (record_at q (to t)) ≡ node_key (record_at p t)
      node_kept = node_key_preserved s p q under.whole to turned c

      by_place : kind_at i ≡ Pno → node_key_cmp (node_key (record_at p i)) (node_key (record_at p k)) ≡ Less → node_key_cmp (node_key (record_at q i)) (node_key (record_at q (to i))) ≡ Less → ⊥
      by_place is l l' = not_both_less node_key_total (node_key (record_at p i)) (node_key (record_at p k)) l
          (subst (λ x. node_key_cmp x (node_key (record_at p i)) ≡ Less) (ap (λ j. node_key (record_at q j)) (sym e) ∙ node_kept k h (alike ∙ is)) (subst (λ x. node_key_cmp (node_key (record_at q i)) x ≡ Less) (node_kept i here is) l'))

      go : (kind : Kind) → kind_at i ≡ kind → ⊥
      go Pno is = by_place is (up.rise.nodes i k (both Pno is)) (up'.rise.nodes i (to i) (both' Pno is))
      go Par is = by_points (up.rise.arcs i k (both Par is)) (up'.rise.arcs i (to i) (both' Par is))
      go Pfe is =
          let arcs = λ (t : ℕ) (l : t < length p.list) (a : is_arc (kind_at t) ≡ true). lower_kept t l (omega (arith, arc_rank (kind_at t) a, ap kind_rank is)) in
          let x : least_side q suc (to i) ≡ least_side p suc i = ap first_of (face_key_preserved p q under.whole.there to c.places kept suc suc role_kept arcs i here) in
          let y : least_side q suc i ≡ least_side p suc k = ap (least_side q suc) (sym e) ∙ ap first_of (face_key_preserved p q under.whole.there to c.places kept suc suc role_kept arcs k h) in
          not_both_less face_options_total (least_side p suc i) (least_side p suc k) (up.rise.faces i k (both Pfe is))
          (subst (λ v. option_cmp face_key_cmp v (least_side p suc i) ≡ Less) y (subst (λ v. option_cmp face_key_cmp (least_side q suc i) v ≡ Less) x (up'.rise.faces i (to i) (both' Pfe is))))
      go Fea is =
          let below = λ (t : ℕ) (l : t < length p.list) (d : kind_rank (kind_at t) < 3). lower_kept t l (omega (arith, ap kind_rank is)) in
          let x = object_key_preserved p q under.whole to c.places kept suc suc below i here (ap is_object is) (class_kept i here) (λ j l piece. class_kept j l) in
          let y = ap (object_key q suc) (sym e) ∙ object_key_preserved p q under.whole to c.places kept suc suc below k h (ap is_object (alike ∙ is)) (class_kept k h) (λ j l piece. class_kept j l) in
          not_both_less object_key_total (object_key p suc i) (object_key p suc k) (up.rise.objects i k (both Fea is))
          (subst (λ v. object_key_cmp v (object_key p suc i) ≡ Less) y (subst (λ v. object_key_cmp (object_key q suc i) v ≡ Less) x (up'.rise.objects i (to i) (both' Fea is))))
      go Lnk is = true≢false (sym (ap is_link is) ∙ plain)

  one_fixed : (i : ℕ) → i < length p.list → is_link (kind_at i) ≡ false → ((j : ℕ) → j < i → to j ≡ j) → to i ≡ i
  one_fixed i h plain fix = go (cases_order (to i) i)
    where
      came : i < to i → (k : ℕ) → k < length p.list → to k ≡ i → (k ≡ i) ⊎ ((k < i) ⊎ (i < k)) → to i ≡ i
      came behind k l e (inl d) = ap to (sym d) ∙ e
      came behind k l e (inr (inl d)) = absurd (omega (arith, fix k d))
      came behind k l e (inr (inr d)) = absurd (no_exchange i k d l plain e behind fix)

      go : (to i ≡ i) ⊎ ((to i < i) ⊎ (i < to i)) → to i ≡ i
      go (inl e) = e
      go (inr (inl d)) = c.places.apart (to i) i (omega arith) h (fix (to i) d)
      go (inr (inr d)) =
          let from = c.places.onto i (omega (arith, c.places.within i h)) in
          came d from.0 from.1 from.2 (cases_order from.0 i)

  fixed_below : (n i : ℕ) → i < n → i < length p.list → is_link (kind_at i) ≡ false → to i ≡ i
  fixed_below zero i less h plain = absurd (omega arith)
  fixed_below (suc n) i less h plain = one_fixed i h plain (λ j d. fixed_below n j (omega arith) (omega arith)
      (not_link (kind_at j) (omega (arith, up.by_type j i d h, below_link (kind_at i) plain))))

  -- each record but the links keeps its place
  pub fixed : (i : ℕ) → i < length p.list → is_link (kind_at i) ≡ false → to i ≡ i
  fixed i h plain = fixed_below (suc i) i (omega arith) h plain

  -- and none is turned
  pub links_move : (i : ℕ) → i < length p.list → (turned i ≡ false) × (kind_at i ≢ Lnk → to i ≡ i)
  links_move i h = (none_turned i h, λ other. fixed i h (plain_kind (kind_at i) other))

  -- so the ends of a link stay as they are

  ends_placed : (i : ℕ) → i < length p.list → AllByRecursion (λ x. (x.target < length p.list) × (suc (to x.target) ≡ suc x.target)) ((record_at p i).ends)
  ends_placed i h = each_weaker _ _ (λ x k. (k.0, ap suc (fixed x.target k.0 k.1))) ((record_at p i).ends) (two_hold _ _ _ (ends_there i h) (under.whole.no_link i h))

  ends_same : (i : ℕ) → i < length p.list → (record_at q (to i)).ends ≡ (record_at p i).ends
  ends_same i h = go (record_at p i).ends (record_at q (to i)).ends (ends_placed i h) (kept i h).origin (kept i h).others (up.others i h) (up'.others (to i) (c.places.within i h))
    where
      go : (xs ys : List PlanEnd) → AllByRecursion (λ x. (x.target < length p.list) × (suc (to x.target) ≡ suc x.target)) xs
          → first_of ys ≡ option_map (moved to) (first_of xs) → IsPermutation (map (moved to) (rest_of xs)) (rest_of ys)
          → NeverFalls end_cmp (map (numbered p suc) (rest_of xs)) → NeverFalls end_cmp (map (numbered q suc) (rest_of ys)) → ys ≡ xs
      go [] [] all e same u u' = refl
      go [] (y ∷ ys) all e same u u' = cc
      go (x ∷ xs) [] all e same u u' = cc
      go (x ∷ xs) (y ∷ ys) all e same u u' =
          let first : y ≡ moved to x = cc in
          let place : to x.target ≡ x.target = ap pred all.0.1 in
          let keys : map (numbered q suc) ys ≡ map (numbered p suc) xs =
          sym (sort_by-in_order end_cmp end_total end_exact (map (numbered q suc) ys) u')
          ∙ (others_kept p q under.whole.there to c.places kept suc suc xs ys all.1 same ∙ sort_by-in_order end_cmp end_total end_exact (map (numbered p suc) xs) u) in
          ap₂ ◌∷◌ (first ∙ ap (λ t. record { target = t; sns = x.sns }) place) (sym (ends_back q ys) ∙ (ap (map end_of) keys ∙ ends_back p xs))

  -- each record is the same in both plans, wherever it stands
  entry_same : (i : ℕ) → i < length p.list → record_at q (to i) ≡ record_at p i
  entry_same i h =
      let k = kept i h in
      let x = ends_same i h in
      let t = same_order attribute_cmp attribute_total attribute_exact (record_at q (to i)).attributes (record_at p i).attributes (up'.attributes (to i) (c.places.within i h)) (up.attributes i h)
      (λ test. sym (counts_from_permutation _ _ k.attributes test)) in
      let class = class_kept i h in
      let role = role_kept i h in
      let points = points_kept i h in
      λ j. record { kind = k.kind j; class = class j; role = role j; points = points j; attributes = t j; extras = k.extras j; ends = x j }

  link_keys_same : filter_map (key_or_none p) p.list ≡ filter_map (key_or_none q) q.list
  link_keys_same = same_order link_key_cmp link_key_total link_key_exact _ _
      (keys_never_fall p p.list blank (λ i k l h is is'. up.rise.links i k (record { first = omega arith; second = h; first_kind = is; second_kind = is'; lesser = omega arith })))
      (keys_never_fall q q.list blank (λ i k l h is is'. up'.rise.links i k (record { first = omega arith; second = h; first_kind = is; second_kind = is'; lesser = omega arith })))
      (gathered_equal to p.list q.list blank c.places (key_or_none p) (key_or_none q) (λ i h. sym (rw ((kept i h).kind, link_key_preserved p q under.whole.there to c.places kept suc suc (record_at p i) (record_at q (to i)) (kept i h) (class_kept i h) (ends_placed i h)))))

  links_same : filter_map link_or_none p.list ≡ filter_map link_or_none q.list
  links_same =
      links_from_keys s p p.list (each_from_places _ p.list blank (λ i h link. link_back s p (record_at p i) (link_is _ link) (role_at s p under i h) (no_points _ _ (under.whole.points i h) link) (up.attributes i h) (up.others i h)))
      ∙ (ap (map (link_of s)) link_keys_same
      ∙ sym (links_from_keys s q q.list (each_from_places _ q.list blank (λ i h link. link_back s q (record_at q i) (link_is _ link) (role_at s q under' i h) (no_points _ _ (under'.whole.points i h) link) (up'.attributes i h) (up'.others i h)))))

  same_length : length p.list ≡ length q.list
  same_length = sym (ones (length p.list)) ∙ (sum_below-renamed to _ _ c.places (λ _. 1) (λ _. 1) (λ i h. refl) ∙ ones (length q.list))
    where
      ones : (n : ℕ) → Rattle.edi_topo.specs.Ranking.sum_below n (λ _. 1) ≡ n
      ones zero = refl
      ones (suc n) = omega (arith, ones n)

  links_stay : (i : ℕ) → i < length p.list → is_link (record_at p i).kind ≡ is_link (record_at q i).kind
  links_stay i h = go (is_link (record_at p i).kind) (is_link (record_at q i).kind) refl refl
    where
      go : (a b : Bool) → is_link (record_at p i).kind ≡ a → is_link (record_at q i).kind ≡ b → a ≡ b
      go true true e f = refl
      go false false e f = refl
      go false true e f = sym (sym f ∙ (ap (λ j. is_link (record_at q j).kind) (sym (fixed i h e)) ∙ (ap is_link (kept i h).kind ∙ e)))
      go true false e f =
          let from = c.places.onto i (omega (arith, same_length)) in
          let plain : is_link (kind_at from.0) ≡ false = ap is_link (sym (kept from.0 from.1).kind) ∙ (ap (λ j. is_link (record_at q j).kind) from.2 ∙ f) in
          sym e ∙ (ap (λ j. is_link (kind_at j)) (sym from.2 ∙ fixed from.0 from.1 plain) ∙ plain)

  pub same_entries : p.list ≡ q.list
  same_entries = merged p.list q.list blank same_length
      (λ i h plain. ap (record_at q) (sym (fixed i h plain)) ∙ entry_same i h)
      links_stay links_same

  pub same_plan : p ≡ q
  same_plan = let e = same_entries in let t = sym c.cse in λ i. record { cse = t i; list = e i }
