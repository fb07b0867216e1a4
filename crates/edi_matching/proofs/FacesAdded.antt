-- Faces that are added to a matching, on the sides of matched arcs.
use Rattle.std.proofs.Common.{◌≡◌, ◌≢◌, ℕ, suc, ◌+◌, ◌<◌, ◌≤◌, ◌⊎◌, inl, inr, Bool, true, false, List, [], ◌∷◌, Option, None, Some, Result, Ok, Err, IfOk, length, slice_index, get_or, set, sym, ap, ◌∙◌, subst, arith, refl, eqb-true, if◌then◌else◌}
use Rattle.std.specs.List.{AllByRecursion}
use Rattle.edi_record.specs.Shapes.{may_have_ends}
use Rattle.edi_record.specs.declared.record.Kind.{Kind}
use Rattle.edi_record.specs.declared.record.Kind.TheVariants.{Lnk, Par, Pfe}
use Rattle.edi_schema.specs.Classes.{Classes}
use Rattle.edi_schema.specs.Roles.{exchanged}
use Rattle.edi_schema.specs.declared.role.Role.{Role}
use Rattle.edi_schema.specs.declared.role.Role.TheVariants.{Left, Right}
use Rattle.edi_plan.specs.Joined.{IsJoined, beside}
use Rattle.edi_plan.specs.Places.{places_of}
use Rattle.edi_plan.specs.Plans.{PlanData, IsPlace, record_at}
use Rattle.edi_plan.specs.Sides.{Side}
use Rattle.edi_plan.specs.Whole.{IsWholePlan}
use Rattle.edi_plan.specs.declared.record.PlanEnd.{PlanEnd}
use Rattle.edi_plan.specs.declared.record.PlanRecord.{PlanRecord}
use Rattle.edi_plan.proofs.PlaceLemmas.{has_place}
use Rattle.edi_topo.proofs.ArcEnds.{kind_beside, one_side}
use Rattle.edi_rank.specs.Labelling.{turned_at}
use Rattle.edi_rank.specs.Same.{CarriesRecord}
use Rattle.edi_matching.specs.Differences.{MatchesBeside, MatchesFaces}
use Rattle.edi_matching.specs.Matchings.{GoesTo, IsMatched, MatchingHolds, targets_of}
use Rattle.edi_matching.specs.declared.matching.Matching.{Matching}
use Rattle.edi_matching.specs.inner.Faces.{HasBeside, IsLeftFor}
use Rattle.edi_matching.specs.inner.Links.{AddsOnly, AreReached, IsFreeFor, matching_so}
use Rattle.edi_matching.specs.inner.Proposals.{ProposedMatching}
use Rattle.edi_matching.proofs.RecordsAdded.{AreAdded, carried_alike, last_or, matched_after, none_added, one_added, unmarked, went_here}

-- a face has no ends, so it is carried by all renamings or by none
pub no_ends : (p : PlanData) → IsWholePlan p → (f : ℕ) → IsPlace p f → (record_at p f).kind ≡ Pfe → (record_at p f).ends ≡ []
no_ends p whole f here is = go (record_at p f).ends (subst (λ (k : Kind). may_have_ends k (length (record_at p f).ends) ≡ true) is (whole.ends f here))
  where
    go : (ends : List PlanEnd) → may_have_ends Pfe (length ends) ≡ true → ends ≡ []
    go [] h = refl
    go (e ∷ ends) h = let n : suc (length ends) ≡ 0 = eqb-true _ _ h in absurd (omega (arith, n))

carried_endless : (s : Classes) (f g : ℕ → ℕ) (turned : ℕ → Bool) (i : ℕ) (a b : PlanRecord) → a.ends ≡ [] → CarriesRecord s f turned i a b → CarriesRecord s g turned i a b
carried_endless s f g turned i a b none c = carried_alike s f g turned i a b (subst (AllByRecursion (λ (e : PlanEnd). f e.target ≡ g e.target)) (sym none) tt) c

ends_matched : (to : List (Option ℕ)) (a : PlanRecord) → a.ends ≡ [] → AllByRecursion (λ (e : PlanEnd). IsMatched to e.target) a.ends
ends_matched to a none = subst (AllByRecursion (λ (e : PlanEnd). IsMatched to e.target)) (sym none) tt

pub face_not_arc : Pfe ≢ Par
face_not_arc e = cc

pub link_not_arc : Lnk ≢ Par
link_not_arc e = cc

-- where records of another type alone are added, an arc goes where it went
goes_before : (kind : Kind) → kind ≢ Par → (p : PlanData) (m n : Matching) → AddsOnly kind p m n → (arc j : ℕ) → (record_at p arc).kind ≡ Par → GoesTo n.to arc j → GoesTo m.to arc j
goes_before kind other p m n adds arc j is goes = go (adds.only arc (j, goes))
  where
    go : IsMatched m.to arc ⊎ ((record_at p arc).kind ≡ kind) → GoesTo m.to arc j
    go (inl w) = let e : Some j ≡ Some w.0 = sym goes ∙ adds.keeps arc w.0 w.1 in w.1 ∙ sym e
    go (inr e) = absurd (other (sym e ∙ is))

-- and no face is left out with another that was not
pub faces_stay : (kind : Kind) → kind ≢ Par → (s : Classes) (p q : PlanData) → IsWholePlan p → IsJoined p → (role : Role) → beside role ≡ Pfe → (m n : Matching) → AddsOnly kind p m n
    → MatchesBeside role s p q m → MatchesBeside role s p q n
faces_stay kind other s p q whole joined role side m n adds matched arc f g b missed =
    let none = no_ends p whole f missed.here (kind_beside p joined arc f role b.here ∙ side) in
    matched arc f g
    (record {
      other = b.other;
      goes = goes_before kind other p m n adds arc b.other b.here.is_arc b.goes;
      here = b.here;
      there = subst (λ (ts : List Bool). Side q b.other (if turned_at ts arc then exchanged role else role) g) adds.turned b.there;
    })
    (record {
      here = missed.here;
      there = missed.there;
      left = λ w. missed.left (w.0, adds.keeps f w.0 w.1);
      free = λ w. missed.free (w.0, adds.keeps w.0 g w.1);
      ends = ends_matched m.to (record_at p f) none;
      carried = carried_endless s (slice_index (targets_of n.to)) (slice_index (targets_of m.to)) (turned_at m.turned) f (record_at p f) (record_at q g) none
          (subst (λ (ts : List Bool). CarriesRecord s (slice_index (targets_of n.to)) (turned_at ts) f (record_at p f) (record_at q g)) adds.turned missed.carried);
    })

-- of one role an arc and the one that it goes to have two at most
pub one_beside : (m : ProposedMatching) → IsJoined m.plan → IsJoined m.other → (role : Role) (arc f g k l : ℕ) → HasBeside m role arc f g → HasBeside m role arc k l → (k ≡ f) × (l ≡ g)
one_beside m joined joined' role arc f g k l b d =
    let e : Some d.other ≡ Some b.other = sym d.goes ∙ b.goes in
    let same : d.other ≡ b.other = cc in
    let turned : Role = if turned_at m.turned arc then exchanged role else role in (
      one_side m.plan joined arc k f role d.here b.here,
      one_side m.other joined' b.other l g turned (subst (λ (x : ℕ). Side m.other x turned l) same d.there) b.there,
    )

-- the arcs so far were looked at: none that is left has a free one
pub record AreFacesAdded (role : Role) (m : ProposedMatching) (before : List Bool) (to : List (Option ℕ)) (reached : List Bool) (done : ℕ) : Type 0 where
  pub added : AreAdded Pfe m before to reached
  pub none_left : (n arc f g : ℕ) → n < done → get_or (places_of Par m.plan) n 0 ≡ arc → HasBeside m role arc f g → ¬ (IsMatched to f) → ¬ (IsFreeFor m reached f g)

-- nothing is added yet
pub no_faces : (role : Role) (m : ProposedMatching) (reached : List Bool) → MatchingHolds m.classes m.plan m.other (matching_so m m.to) → AreReached m.to (length m.other.list) reached
    → AreFacesAdded role m reached m.to reached 0
no_faces role m reached holds are = record { added = none_added Pfe m reached holds are; none_left = λ n arc f g h at b left free. absurd (omega (arith, h)) }

-- one arc more
module _ (role : Role) (m : ProposedMatching) (before : List Bool) (to : List (Option ℕ)) (reached : List Bool) (done : ℕ) (are : AreFacesAdded role m before to reached done)
    (i : ℕ) (at : get_or (places_of Par m.plan) done 0 ≡ i) where
  same_arc : (n arc : ℕ) → n ≡ done → get_or (places_of Par m.plan) n 0 ≡ arc → arc ≡ i
  same_arc n arc same there = sym there ∙ (ap (λ x. get_or (places_of Par m.plan) x 0) same ∙ at)

  -- its face stays as it is
  pub no_face : ((f g : ℕ) → HasBeside m role i f g → ¬ (IsMatched to f) → ¬ (IsFreeFor m reached f g)) → AreFacesAdded role m before to reached (done + 1)
  no_face none = record { added = are.added; none_left = λ n arc f g h there b left. go n arc f g (last_or n done h) there b left }
    where
      go : (n arc f g : ℕ) → (n < done) ⊎ (n ≡ done) → get_or (places_of Par m.plan) n 0 ≡ arc → HasBeside m role arc f g → ¬ (IsMatched to f) → ¬ (IsFreeFor m reached f g)
      go n arc f g (inl less) there b left = are.none_left n arc f g less there b left
      go n arc f g (inr same) there b left = none f g (subst (λ (x : ℕ). HasBeside m role x f g) (same_arc n arc same there) b) left

  -- its face goes to a free one
  pub one_face : m.targets ≡ targets_of m.to → length m.to ≡ length m.plan.list → IsJoined m.plan → IsJoined m.other → beside role ≡ Pfe → (f g : ℕ) → IsPlace m.plan f → HasBeside m role i f g
      → IsLeftFor m reached to f g → AreFacesAdded role m before (set to f (Some g)) (set reached g true) (done + 1)
  one_face targets entered joined joined' side f g here b left = record {
    added = one_added Pfe m before to reached are.added targets entered f here kind left.left g left.free;
    none_left = λ n arc k l h there d alone. go n arc k l (last_or n done h) there d alone;
  }
    where
      kind : (record_at m.plan f).kind ≡ Pfe
      kind = kind_beside m.plan joined i f role b.here ∙ side

      went : IsMatched (set to f (Some g)) f
      went = (g, went_here Pfe m before to reached are.added targets entered f here kind left.left g left.free)

      go : (n arc k l : ℕ) → (n < done) ⊎ (n ≡ done) → get_or (places_of Par m.plan) n 0 ≡ arc → HasBeside m role arc k l → ¬ (IsMatched (set to f (Some g)) k) → ¬ (IsFreeFor m (set reached g true) k l)
      go n arc k l (inl less) there d alone free =
          are.none_left n arc k l less there d (λ matched. alone (matched_after Pfe m before to reached are.added targets entered f here kind left.left g left.free k matched))
          (record { there = free.there; free = unmarked Pfe m before to reached are.added targets entered f here kind left.left g left.free l free.free; ends = free.ends; carried = free.carried })
      go n arc k l (inr same) there d alone free =
          let at_arc = subst (λ (x : ℕ). HasBeside m role x k l) (same_arc n arc same there) d in
          alone (subst (IsMatched (set to f (Some g))) (sym (one_beside m joined joined' role i f g k l b at_arc).0) went)

-- all were looked at
pub all_faces : (role : Role) (m : ProposedMatching) (before : List Bool) (to : List (Option ℕ)) (reached : List Bool) (done : ℕ) → AreFacesAdded role m before to reached done → length (places_of Par m.plan) ≤ done
    → IsWholePlan m.plan → IsJoined m.plan → beside role ≡ Pfe → m.targets ≡ targets_of m.to → MatchesBeside role m.classes m.plan m.other (matching_so m to)
all_faces role m before to reached done are all whole joined side targets arc f g b missed =
    let place = has_place Par m.plan arc b.here.arc_there b.here.is_arc in
    let none = no_ends m.plan whole f missed.here (kind_beside m.plan joined arc f role b.here ∙ side) in
    are.none_left place.0 arc f g (let h = place.1 in omega (arith, h, all)) place.2
    (record {
      other = b.other;
      goes = goes_before Pfe face_not_arc m.plan (matching_so m m.to) (matching_so m to) are.added.adds arc b.other b.here.is_arc b.goes;
      here = b.here;
      there = b.there;
    })
    missed.left
    (record {
      there = missed.there;
      free = go (get_or reached g true) refl;
      ends = ends_matched m.to (record_at m.plan f) none;
      carried = carried_endless m.classes (slice_index (targets_of to)) (slice_index m.targets) (turned_at m.turned) f (record_at m.plan f) (record_at m.other g) none missed.carried;
    })
  where
    go : (b : Bool) → get_or reached g true ≡ b → get_or reached g true ≡ false
    go true e = absurd (missed.free (are.added.free g e missed.there))
    go false e = e

-- the one isn't left for the other
pub forced_none : (m : ProposedMatching) (marks : List Bool) (to : List (Option ℕ)) (f g : ℕ) → ¬ (IsLeftFor m marks to f g) → (k l : ℕ) → (k ≡ f) × (l ≡ g) → ¬ (IsMatched to k) → ¬ (IsFreeFor m marks k l)
forced_none m marks to f g none k l same left free =
    none (record {
      left = go (get_or to f None) refl;
      free = subst (λ (x : ℕ). IsFreeFor m marks x g) same.0 (subst (IsFreeFor m marks k) same.1 free);
    })
  where
    go : (o : Option ℕ) → get_or to f None ≡ o → get_or to f None ≡ None
    go None e = e
    go (Some j) e = absurd (left (j, subst (λ (x : ℕ). get_or to x None ≡ Some j) (sym same.0) e))

-- the same of what a function answers

pub both_sides : {E : Type 0} (s : Classes) (p q : PlanData) → IsWholePlan p → IsJoined p → (m : Matching) → MatchesBeside Left s p q m → (r : Result Matching E) → IfOk r (AddsOnly Pfe p m)
    → IfOk r (MatchesBeside Right s p q) → IfOk r (MatchesFaces s p q)
both_sides s p q whole joined m matched (Err e) adds other = tt
both_sides s p q whole joined m matched (Ok n) adds other = record { on_left = faces_stay Pfe face_not_arc s p q whole joined Left refl m n adds matched; on_right = other }

pub faces_kept : {E : Type 0} (s : Classes) (p q : PlanData) → IsWholePlan p → IsJoined p → (m : Matching) → MatchesFaces s p q m → (r : Result Matching E) → IfOk r (AddsOnly Lnk p m)
    → IfOk r (MatchesFaces s p q)
faces_kept s p q whole joined m matched (Err e) adds = tt
faces_kept s p q whole joined m matched (Ok n) adds = record {
  on_left = faces_stay Lnk link_not_arc s p q whole joined Left refl m n adds matched.on_left;
  on_right = faces_stay Lnk link_not_arc s p q whole joined Right refl m n adds matched.on_right;
}

pub matched_kept : {E : Type 0} (kind : Kind) (p : PlanData) (m : Matching) (r : Result Matching E) → IfOk r (AddsOnly kind p m) → IfOk r (λ n. (i : ℕ) → IsMatched m.to i → IsMatched n.to i)
matched_kept kind p m (Err e) adds = tt
matched_kept kind p m (Ok n) adds = λ i w. (w.0, adds.keeps i w.0 w.1)
