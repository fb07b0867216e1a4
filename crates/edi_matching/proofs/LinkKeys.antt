-- A link that is carried onto another has its key, where its ends go.
use Rattle.std.proofs.Common.{◌≡◌, ◌≢◌, ℕ, ◌<◌, List, [], ◌∷◌, map, Option, option_map, length, slice_index, get_or, refl, sym, ap, ap₂, ◌∙◌, subst, IsPermutation, All, Equal, Bool, false}
use Rattle.std.specs.List.{AllByRecursion}
use Rattle.std.proofs.lemmas.Cmp.{tied_itself}
use Rattle.std.proofs.lemmas.List.Sorted.{IsPermutation-map}
use Rattle.edi_record.specs.declared.record.Kind.TheVariants.{Lnk}
use Rattle.edi_schema.specs.Classes.{partner_of}
use Rattle.edi_schema.specs.Sorted.{sort_by}
use Rattle.edi_schema.proofs.SortedLists.{counts_from_permutation, sort_by-same}
use Rattle.edi_plan.specs.Orders.{attribute_cmp}
use Rattle.edi_plan.proofs.Orders.{attribute_total, attribute_exact}
use Rattle.edi_plan.specs.Plans.{PlanData, IsPlace, record_at, first_of, rest_of}
use Rattle.edi_plan.specs.declared.record.PlanEnd.{PlanEnd}
use Rattle.edi_plan.specs.declared.record.PlanRecord.{PlanRecord}
use Rattle.edi_rank.specs.Keys.{end_cmp, ends_key, link_key, link_key_cmp, numbered}
use Rattle.edi_rank.specs.declared.keys.LinkKey.{LinkKey}
use Rattle.edi_rank.specs.Labelling.{turned_at}
use Rattle.edi_rank.specs.Same.{CarriesRecord, class_after, moved}
use Rattle.edi_rank.proofs.Orders.{end_total, end_exact, link_key_total}
use Rattle.edi_rank.proofs.SameLaws.{map-map, map_alike}
use Rattle.std.proofs.Common.{IfOk, MatchOption, None, Some, Result, Ok, Err, true≢false}
use Rattle.std.specs.Option.{is_some}
use Rattle.edi_line.proofs.EachElement.{each_weaker}
use Rattle.edi_rank.specs.contracts.keys.LinkKeyOrd.TheImpl.{ghosts as links}
use Rattle.edi_rank.proofs.KeyOrders.{link_order}
use Rattle.edi_matching.specs.Matchings.{IsMatched, MatchingHolds, targets_of}
use Rattle.edi_matching.specs.inner.Links.{IsFreeFor, IsLeftIfAny, IsMissedIfAny, IsMoreReached, ListsFree, matching_so, moved_key}
use Rattle.edi_matching.specs.inner.Proposals.{ProposedMatching}
use Rattle.edi_matching.proofs.Totals.{target_is}

module _ (p q : PlanData) (t : ℕ → ℕ) where
  abbrev pub SameKind : PlanEnd → Type 0
  SameKind x = (record_at q (t x.target)).kind ≡ (record_at p x.target).kind

  end_same : (x : PlanEnd) → SameKind x → numbered q (λ k. k) (moved t x) ≡ numbered p t x
  end_same x h = ap (λ k. record { kind = k; number = t x.target; sns = x.sns }) h

  others_same : (xs ys : List PlanEnd) → AllByRecursion SameKind xs → IsPermutation (map (moved t) xs) ys
      → sort_by end_cmp (map (numbered q (λ k. k)) ys) ≡ sort_by end_cmp (map (numbered p t) xs)
  others_same xs ys all h =
      let e : map (numbered q (λ k. k)) (map (moved t) xs) ≡ map (numbered p t) xs =
      map-map (numbered q (λ k. k)) (moved t) xs ∙ map_alike SameKind (λ x. numbered q (λ k. k) (moved t x)) (numbered p t) end_same xs all in
      sym (sort_by-same end_cmp end_total end_exact (map (numbered p t) xs) (map (numbered q (λ k. k)) ys)
      (counts_from_permutation _ _ (subst (λ zs. IsPermutation zs (map (numbered q (λ k. k)) ys)) e (IsPermutation-map (numbered q (λ k. k)) _ _ h))))

  ends_same : (xs ys : List PlanEnd) → AllByRecursion SameKind xs → first_of ys ≡ option_map (moved t) (first_of xs) → IsPermutation (map (moved t) (rest_of xs)) (rest_of ys)
      → ends_key q (λ k. k) ys ≡ ends_key p t xs
  ends_same [] [] all e h = refl
  ends_same [] (y ∷ ys) all e h = cc
  ends_same (x ∷ xs) [] all e h = cc
  ends_same (x ∷ xs) (y ∷ ys) all e h =
      let same : y ≡ moved t x = cc in
      ap₂ ◌∷◌ (ap (numbered q (λ k. k)) same ∙ end_same x all.0) (others_same xs ys all.1 h)

module _ (m : ProposedMatching) (is : m.targets ≡ targets_of m.to) (holds : MatchingHolds m.classes m.plan m.other (matching_so m m.to)) (i : ℕ) where
  abbrev pub to_there : ℕ → ℕ
  to_there = slice_index m.targets

  same_kind : (x : PlanEnd) → IsMatched m.to x.target → SameKind m.plan m.other to_there x
  same_kind x goes =
      let there : to_there x.target ≡ goes.0 = ap (λ (ts : List ℕ). slice_index ts x.target) is ∙ target_is m.to x.target goes.0 goes.1 in
      ap (λ k. (record_at m.other k).kind) there ∙ (holds.each x.target goes.0 goes.1).kind

  abbrev pub class_there : ℕ
  class_there = class_after (partner_of m.classes) (turned_at m.turned) (record_at m.plan i)

  pub key_carried : (b : PlanRecord) → AllByRecursion (λ e. IsMatched m.to e.target) (record_at m.plan i).ends
      → CarriesRecord m.classes to_there (turned_at m.turned) i (record_at m.plan i) b → link_key m.other (λ k. k) b ≡ moved_key m.plan to_there class_there (record_at m.plan i)
  key_carried b ends c =
      let a = record_at m.plan i in
      let x = ends_same m.plan m.other to_there a.ends b.ends (each_weaker (λ (e : PlanEnd). IsMatched m.to e.target) (SameKind m.plan m.other to_there) same_kind a.ends ends) c.origin c.others in
      let k = sym (sort_by-same attribute_cmp attribute_total attribute_exact a.attributes b.attributes (counts_from_permutation _ _ c.attributes)) in
      λ n. record { class = c.class n; ends = x n; attributes = k n; extras = c.extras n }

  -- so where no free link has its key, it is carried onto none
  pub none_missed : (free marks : List Bool) (pairs : List (LinkKey × ℕ)) → (record_at m.plan i).kind ≡ Lnk → ListsFree m.other free pairs → IsMoreReached free marks
      → (key : LinkKey) → key ≡ moved_key m.plan to_there class_there (record_at m.plan i) → All (λ (pair : LinkKey × ℕ). link_key_cmp pair.0 key ≢ Equal) pairs → (j : ℕ) → ¬ (IsFreeFor m marks i j)
  none_missed free marks pairs link lists more key key_is none j missed =
      let listed = lists j missed.there (missed.carried.kind ∙ link) (more j missed.free) in
      let pair : LinkKey × ℕ = (link_key m.other (λ k. k) (record_at m.other j), j) in
      let same : link_key m.other (λ k. k) (record_at m.other j) ≡ key = key_carried (record_at m.other j) missed.ends missed.carried ∙ sym key_is in
      none listed.0 pair listed.1 (ap (λ (x : LinkKey × ℕ). link_key_cmp x.0 key) listed.2 ∙ (ap (λ k. link_key_cmp k key) same ∙ tied_itself link_key_total key))

-- no member has the key
pub none_with : (pairs : List (LinkKey × ℕ)) (key : LinkKey) (found : Option ℕ) → is_some found ≡ false
    → MatchOption found (All (λ (pair : LinkKey × ℕ). links.cmp pair.0 key ≢ Equal) pairs) (λ member. (k : ℕ) × (k < length pairs)
    × ((d : LinkKey × ℕ) → (links.cmp (get_or pairs k d).0 key ≡ Equal) × ((get_or pairs k d).1 ≡ member)))
    → All (λ (pair : LinkKey × ℕ). link_key_cmp pair.0 key ≢ Equal) pairs
none_with pairs key (Some x) none found = absurd (true≢false none)
none_with pairs key None none found = λ k d h e. found k d h (link_order (get_or pairs k d).0 key ∙ e)

-- what is missed is left, where the link goes nowhere yet
pub left_if_missed : {E : Type 0} (m : ProposedMatching) (marks : List Bool) (to : List (Option ℕ)) (i : ℕ) → is_some (get_or to i None) ≡ false → (found : Result (Option ℕ) E)
    → IfOk found (IsMissedIfAny m marks i) → IfOk found (IsLeftIfAny m marks to i)
left_if_missed m marks to i none (Ok None) missed = λ left. missed
left_if_missed m marks to i none (Ok (Some j)) missed = (none_there (get_or to i None) none, missed)
  where
    none_there : (o : Option ℕ) → is_some o ≡ false → o ≡ None
    none_there None e = refl
    none_there (Some x) e = absurd (true≢false e)
left_if_missed m marks to i none (Err e) missed = tt

-- a link of a plan has its own key
pub key_itself : (q : PlanData) (itself : List ℕ) (r : PlanRecord) → ((k : ℕ) → k < length q.list → slice_index itself k ≡ k) → AllByRecursion (λ e. IsPlace q e.target) r.ends
    → moved_key q (slice_index itself) r.class r ≡ link_key q (λ k. k) r
key_itself q itself r same there = λ i. record { class = r.class; ends = ends r.ends there i; attributes = sort_by attribute_cmp r.attributes; extras = r.extras }
  where
    one : (x : PlanEnd) → IsPlace q x.target → numbered q (slice_index itself) x ≡ numbered q (λ k. k) x
    one x h = ap (λ n. record { kind = (record_at q x.target).kind; number = n; sns = x.sns }) (same x.target h)

    ends : (xs : List PlanEnd) → AllByRecursion (λ e. IsPlace q e.target) xs → ends_key q (slice_index itself) xs ≡ ends_key q (λ k. k) xs
    ends [] all = refl
    ends (x ∷ xs) all = ap₂ ◌∷◌ (one x all.0) (ap (sort_by end_cmp) (map_alike (λ (e : PlanEnd). IsPlace q e.target) (numbered q (slice_index itself)) (numbered q (λ k. k)) one xs all.1))
