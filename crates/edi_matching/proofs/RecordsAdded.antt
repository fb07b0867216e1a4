-- Records of one type that are added to a matching one by one.
use Rattle.std.proofs.Common.{◌≡◌, ℕ, zero, suc, ◌+◌, ◌<◌, ◌≤◌, ◌⊎◌, inl, inr, Bool, true, false, true≢false, List, [], ◌∷◌, map, Option, None, Some, length, slice_index, get_or, set, refl, sym, ap, ◌∙◌, subst, arith, option_map, IsPermutation}
use Rattle.std.specs.List.{AllByRecursion}
use Rattle.std.proofs.lemmas.Bool.{cases_eq, cases_lt}
use Rattle.std.proofs.lemmas.List.{get_or-set_other, get_or-set_same, length-set}
use Rattle.edi_line.proofs.EachElement.{each_weaker}
use Rattle.edi_record.specs.declared.record.Kind.{Kind}
use Rattle.edi_schema.specs.Classes.{Classes}
use Rattle.edi_plan.specs.Plans.{IsPlace, first_of, others_of, record_at, rest_of}
use Rattle.edi_plan.specs.declared.record.PlanEnd.{PlanEnd}
use Rattle.edi_plan.specs.declared.record.PlanRecord.{PlanRecord}
use Rattle.edi_rank.specs.Labelling.{turned_at}
use Rattle.edi_rank.specs.Same.{CarriesRecord, moved}
use Rattle.edi_rank.proofs.SameLaws.{map_alike}
use Rattle.edi_matching.specs.Differences.{IsReached}
use Rattle.edi_matching.specs.Matchings.{GoesTo, IsMatched, MatchingHolds, targets_of}
use Rattle.edi_matching.specs.inner.Links.{AddsOnly, AreReached, IsFreeFor, IsMoreReached, matching_so}
use Rattle.edi_matching.specs.inner.Proposals.{ProposedMatching}
use Rattle.edi_matching.proofs.Totals.{target_is}

-- more records of this type go somewhere than before, and what they go to is marked
pub record AreAdded (kind : Kind) (m : ProposedMatching) (before : List Bool) (to : List (Option ℕ)) (reached : List Bool) : Type 0 where
  pub holds : MatchingHolds m.classes m.plan m.other (matching_so m to)
  pub adds : AddsOnly kind m.plan (matching_so m m.to) (matching_so m to)
  pub long : length reached ≡ length m.other.list
  pub marks : (j : ℕ) → IsPlace m.other j → IsReached to j → get_or reached j true ≡ true
  pub free : (j : ℕ) → get_or reached j true ≡ true → IsPlace m.other j → IsReached to j
  pub more : IsMoreReached before reached

-- a record is carried by all renamings that send its ends to the same records
pub carried_alike : (s : Classes) (f g : ℕ → ℕ) (turned : ℕ → Bool) (i : ℕ) (a b : PlanRecord) → AllByRecursion (λ e. f e.target ≡ g e.target) a.ends
    → CarriesRecord s f turned i a b → CarriesRecord s g turned i a b
carried_alike s f g turned i a b same c = record {
  kind = c.kind;
  attributes = c.attributes;
  extras = c.extras;
  class = c.class;
  points = c.points;
  origin = c.origin ∙ origins a.ends same;
  others = subst (λ xs. IsPermutation xs (others_of b)) (rests a.ends same) c.others;
}
  where
    one : (x : PlanEnd) → f x.target ≡ g x.target → moved f x ≡ moved g x
    one x e = ap (λ t. record { target = t; sns = x.sns }) e

    origins : (xs : List PlanEnd) → AllByRecursion (λ e. f e.target ≡ g e.target) xs → option_map (moved f) (first_of xs) ≡ option_map (moved g) (first_of xs)
    origins [] all = refl
    origins (x ∷ xs) all = ap Some (one x all.0)

    rests : (xs : List PlanEnd) → AllByRecursion (λ e. f e.target ≡ g e.target) xs → map (moved f) (rest_of xs) ≡ map (moved g) (rest_of xs)
    rests [] all = refl
    rests (x ∷ xs) all = map_alike (λ (e : PlanEnd). f e.target ≡ g e.target) (moved f) (moved g) one xs all.1

-- more records go somewhere, and those that went go where they did
pub targets_stay : (before after : List (Option ℕ)) → ((k l : ℕ) → GoesTo before k l → GoesTo after k l) → (k : ℕ) → IsMatched before k
    → slice_index (targets_of before) k ≡ slice_index (targets_of after) k
targets_stay before after keeps k goes = target_is before k goes.0 goes.1 ∙ sym (target_is after k goes.0 (keeps k goes.0 goes.1))

pub carried_later : (s : Classes) (before after : List (Option ℕ)) → ((k l : ℕ) → GoesTo before k l → GoesTo after k l) → (turned : ℕ → Bool) (i : ℕ) (a b : PlanRecord)
    → AllByRecursion (λ e. IsMatched before e.target) a.ends → CarriesRecord s (slice_index (targets_of before)) turned i a b → CarriesRecord s (slice_index (targets_of after)) turned i a b
carried_later s before after keeps turned i a b ends c =
    carried_alike s (slice_index (targets_of before)) (slice_index (targets_of after)) turned i a b
    (each_weaker (λ (e : PlanEnd). IsMatched before e.target) (λ (e : PlanEnd). slice_index (targets_of before) e.target ≡ slice_index (targets_of after) e.target)
    (λ e goes. targets_stay before after keeps e.target goes) a.ends ends) c

pub carried_before : (s : Classes) (before after : List (Option ℕ)) → ((k l : ℕ) → GoesTo before k l → GoesTo after k l) → (turned : ℕ → Bool) (i : ℕ) (a b : PlanRecord)
    → AllByRecursion (λ e. IsMatched before e.target) a.ends → CarriesRecord s (slice_index (targets_of after)) turned i a b → CarriesRecord s (slice_index (targets_of before)) turned i a b
carried_before s before after keeps turned i a b ends c =
    carried_alike s (slice_index (targets_of after)) (slice_index (targets_of before)) turned i a b
    (each_weaker (λ (e : PlanEnd). IsMatched before e.target) (λ (e : PlanEnd). slice_index (targets_of after) e.target ≡ slice_index (targets_of before) e.target)
    (λ e goes. sym (targets_stay before after keeps e.target goes)) a.ends ends) c

pub last_or : (k n : ℕ) → k < n + 1 → (k < n) ⊎ (k ≡ n)
last_or k n h = go (cases_lt k n)
  where
    go : (k < n) ⊎ (n ≤ k) → (k < n) ⊎ (k ≡ n)
    go (inl less) = inl less
    go (inr more) = inr (omega arith)

pub same_default : {X : Type 0} (xs : List X) (i : ℕ) (d e : X) → i < length xs → get_or xs i d ≡ get_or xs i e
same_default [] i d e h = absurd (omega arith)
same_default (x ∷ xs) zero d e h = refl
same_default (x ∷ xs) (suc i) d e h = same_default xs i d e (omega arith)

-- nothing is added yet
pub none_added : (kind : Kind) (m : ProposedMatching) (reached : List Bool) → MatchingHolds m.classes m.plan m.other (matching_so m m.to) → AreReached m.to (length m.other.list) reached
    → AreAdded kind m reached m.to reached
none_added kind m reached holds are = record {
  holds = holds;
  adds = record { long = refl; turned = refl; keeps = λ k j goes. goes; only = λ k matched. inl matched };
  long = are.long;
  marks = λ j there went. same_default reached j true false (subst (λ n. j < n) (sym are.long) there) ∙ are.marked j there went;
  free = λ j e there. are.found j (same_default reached j false true (subst (λ n. j < n) (sym are.long) there) ∙ e);
  more = λ j e. e;
}

-- one record more, which goes to one that isn't marked
module _ (kind : Kind) (m : ProposedMatching) (before : List Bool) (to : List (Option ℕ)) (reached : List Bool) (are : AreAdded kind m before to reached)
    (targets : m.targets ≡ targets_of m.to) (entered : length m.to ≡ length m.plan.list) (i : ℕ) (here : IsPlace m.plan i) (is : (record_at m.plan i).kind ≡ kind)
    (left : get_or to i None ≡ None) (j : ℕ) (missed : IsFreeFor m reached i j) where
  abbrev after : List (Option ℕ)
  after = set to i (Some j)

  abbrev marks : List Bool
  marks = set reached j true

  within_to : i < length to
  within_to = let e = are.adds.long in omega (arith, here, entered, e)

  within_marks : j < length reached
  within_marks = subst (λ n. j < n) (sym are.long) missed.there

  nowhere : (k l : ℕ) → k ≡ i → GoesTo to k l → ⊥
  nowhere k l same goes = let f : get_or to i None ≡ Some l = ap (λ x. get_or to x None) (sym same) ∙ goes in let e : None ≡ Some l = sym left ∙ f in cc

  unreached : (k : ℕ) → GoesTo to k j → ⊥
  unreached k goes = true≢false (sym (are.marks j missed.there (k, goes)) ∙ missed.free)

  pub went_here : GoesTo after i j
  went_here = get_or-set_same to i (Some j) None within_to

  went_before : (k l : ℕ) → GoesTo to k l → GoesTo after k l
  went_before k l goes = get_or-set_other to i k (Some j) None (λ same. nowhere k l same goes) ∙ goes

  went_after : (k l : ℕ) → GoesTo after k l → ((k ≡ i) × (l ≡ j)) ⊎ GoesTo to k l
  went_after k l goes = go (cases_eq k i)
    where
      go : (k ≡ i) ⊎ (k ≡ i → ⊥) → ((k ≡ i) × (l ≡ j)) ⊎ GoesTo to k l
      go (inl same) = let e : Some j ≡ Some l = sym went_here ∙ (ap (λ x. get_or after x None) (sym same) ∙ goes) in inl (same, cc)
      go (inr ne) = inr (sym (get_or-set_other to i k (Some j) None ne) ∙ goes)

  -- its ends went before
  ends_before : AllByRecursion (λ e. IsMatched to e.target) (record_at m.plan i).ends
  ends_before = each_weaker (λ (e : PlanEnd). IsMatched m.to e.target) (λ (e : PlanEnd). IsMatched to e.target) (λ e goes. (goes.0, are.adds.keeps e.target goes.0 goes.1)) (record_at m.plan i).ends missed.ends

  pub matched_after : (k : ℕ) → IsMatched to k → IsMatched after k
  matched_after k goes = (goes.0, went_before k goes.0 goes.1)

  abbrev turned : ℕ → Bool
  turned = turned_at m.turned

  carried_here : CarriesRecord m.classes (slice_index (targets_of after)) turned i (record_at m.plan i) (record_at m.other j)
  carried_here =
      carried_later m.classes m.to after (λ k l goes. went_before k l (are.adds.keeps k l goes)) turned i (record_at m.plan i) (record_at m.other j) missed.ends
      (subst (λ (ts : List ℕ). CarriesRecord m.classes (slice_index ts) turned i (record_at m.plan i) (record_at m.other j)) targets missed.carried)

  ends_after : (k l : ℕ) → ((k ≡ i) × (l ≡ j)) ⊎ GoesTo to k l → AllByRecursion (λ e. IsMatched to e.target) (record_at m.plan k).ends
  ends_after k l (inl a) = subst (λ (x : ℕ). AllByRecursion (λ e. IsMatched to e.target) (record_at m.plan x).ends) (sym a.0) ends_before
  ends_after k l (inr goes) = are.holds.ends k l goes

  each_after : (k l : ℕ) → ((k ≡ i) × (l ≡ j)) ⊎ GoesTo to k l → CarriesRecord m.classes (slice_index (targets_of after)) turned k (record_at m.plan k) (record_at m.other l)
  each_after k l (inl a) =
      subst (λ (x : ℕ). CarriesRecord m.classes (slice_index (targets_of after)) turned x (record_at m.plan x) (record_at m.other l)) (sym a.0)
      (subst (λ (y : ℕ). CarriesRecord m.classes (slice_index (targets_of after)) turned i (record_at m.plan i) (record_at m.other y)) (sym a.1) carried_here)
  each_after k l (inr goes) = carried_later m.classes to after went_before turned k (record_at m.plan k) (record_at m.other l) (are.holds.ends k l goes) (are.holds.each k l goes)

  within_after : (k l : ℕ) → ((k ≡ i) × (l ≡ j)) ⊎ GoesTo to k l → IsPlace m.other l
  within_after k l (inl a) = subst (λ (x : ℕ). IsPlace m.other x) (sym a.1) missed.there
  within_after k l (inr goes) = are.holds.within k l goes

  apart_after : (k n l : ℕ) → ((k ≡ i) × (l ≡ j)) ⊎ GoesTo to k l → ((n ≡ i) × (l ≡ j)) ⊎ GoesTo to n l → k ≡ n
  apart_after k n l (inl a) (inl b) = a.0 ∙ sym b.0
  apart_after k n l (inl a) (inr b) = absurd (unreached n (subst (GoesTo to n) a.1 b))
  apart_after k n l (inr a) (inl b) = absurd (unreached k (subst (GoesTo to k) b.1 a))
  apart_after k n l (inr a) (inr b) = are.holds.apart k n l a b

  holds_after : MatchingHolds m.classes m.plan m.other (matching_so m after)
  holds_after = record {
    all_entered = length-set to i (Some j) ∙ are.holds.all_entered;
    all_directed = are.holds.all_directed;
    within = λ k l goes. within_after k l (went_after k l goes);
    apart = λ k n l a b. apart_after k n l (went_after k l a) (went_after n l b);
    arcs = λ k place e. let w = are.holds.arcs k place e in (matched_after k w.0, w.1);
    ends = λ k l goes. each_weaker (λ (e : PlanEnd). IsMatched to e.target) (λ (e : PlanEnd). IsMatched after e.target) (λ e went. matched_after e.target went) (record_at m.plan k).ends
        (ends_after k l (went_after k l goes));
    each = λ k l goes. each_after k l (went_after k l goes);
  }

  only_after : (k : ℕ) (l : ℕ) → ((k ≡ i) × (l ≡ j)) ⊎ GoesTo to k l → IsMatched m.to k ⊎ ((record_at m.plan k).kind ≡ kind)
  only_after k l (inl a) = inr (ap (λ x. (record_at m.plan x).kind) a.0 ∙ is)
  only_after k l (inr goes) = are.adds.only k (l, goes)

  pub unmarked : (l : ℕ) → get_or marks l true ≡ false → get_or reached l true ≡ false
  unmarked l e = go (cases_eq l j)
    where
      go : (l ≡ j) ⊎ (l ≡ j → ⊥) → get_or reached l true ≡ false
      go (inl same) = absurd (true≢false (sym (ap (λ x. get_or marks x true) same ∙ get_or-set_same reached j true true within_marks) ∙ e))
      go (inr ne) = sym (get_or-set_other reached j l true true ne) ∙ e

  marked_after : (l k : ℕ) → IsPlace m.other l → (l ≡ j) ⊎ (l ≡ j → ⊥) → ((k ≡ i) × (l ≡ j)) ⊎ GoesTo to k l → get_or marks l true ≡ true
  marked_after l k there (inl same) went = ap (λ x. get_or marks x true) same ∙ get_or-set_same reached j true true within_marks
  marked_after l k there (inr ne) (inl a) = absurd (ne a.1)
  marked_after l k there (inr ne) (inr goes) = get_or-set_other reached j l true true ne ∙ are.marks l there (k, goes)

  free_after : (l : ℕ) → get_or marks l true ≡ true → IsPlace m.other l → (l ≡ j) ⊎ (l ≡ j → ⊥) → IsReached after l
  free_after l e there (inl same) = (i, went_here ∙ ap Some (sym same))
  free_after l e there (inr ne) = let w = are.free l (sym (get_or-set_other reached j l true true ne) ∙ e) there in (w.0, went_before w.0 l w.1)

  pub one_added : AreAdded kind m before after marks
  one_added = record {
    holds = holds_after;
    adds = record {
      long = length-set to i (Some j) ∙ are.adds.long;
      turned = refl;
      keeps = λ k l goes. went_before k l (are.adds.keeps k l goes);
      only = λ k matched. only_after k matched.0 (went_after k matched.0 matched.1);
    };
    long = length-set reached j true ∙ are.long;
    marks = λ l there went. marked_after l went.0 there (cases_eq l j) (went_after went.0 l went.1);
    free = λ l e there. free_after l e there (cases_eq l j);
    more = λ l e. are.more l (unmarked l e);
  }
