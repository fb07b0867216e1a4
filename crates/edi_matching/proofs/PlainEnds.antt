-- The two ends of a plain link, as they are found.
use Rattle.std.proofs.Common.{◌≡◌, ℕ, Bool, false, ◌&&◌, cond, List, [], ◌∷◌, Option, None, Some, refl, sym, ap, ◌∙◌, option_map, IfSome, IsNone, is_none, is_some}
use Rattle.std.specs.Borrow.{Bor}
use Rattle.edi_record.specs.declared.record.Extra.{Extra}
use Rattle.edi_schema.specs.Classes.{Classes, partner_of}
use Rattle.edi_plan.specs.Plans.{PlanData}
use Rattle.edi_plan.specs.declared.record.PlanAttribute.{PlanAttribute}
use Rattle.edi_plan.specs.declared.record.PlanEnd.{PlanEnd}
use Rattle.edi_plan.specs.declared.record.PlanRecord.{PlanRecord}
use Rattle.edi_rank.specs.Keys.{IsPlainLink}
use Rattle.edi_rank.specs.Labelling.{turned_at}
use Rattle.edi_rank.specs.Same.{class_after}
use Rattle.edi_rank.specs.declared.keys.LinkKey.{LinkKey}
use Rattle.edi_rank.specs.declared.keys.NumberedEnd.{NumberedEnd}
use Rattle.edi_matching.specs.inner.Entries.{ends_there, link_key_with, link_there}
use Rattle.edi_rank.specs.inner.PlacedLinks.{is_empty}
use Rattle.edi_matching.specs.inner.PlainLinks.{bare_pair, plain_ends}

none_is_none : {X : Type 0} (x : X) → None ≡ Some x → ⊥
none_is_none x e = cc

pub plain_pair : (r : PlanRecord) (a b : PlanEnd) → IsPlainLink r a b → plain_ends r ≡ Some (a, b)
plain_pair r a b plain =
    ap (λ (xs : List PlanAttribute). cond (is_empty xs && is_empty r.extras) (bare_pair r.ends) None) plain.attributes
    ∙ (ap (λ (xs : List Extra). cond (is_empty xs) (bare_pair r.ends) None) plain.extras
    ∙ (ap bare_pair plain.ends
    ∙ (ap (λ (o : Option (List ℕ)). cond (is_none o && is_none b.sns) (Some (a, b)) None) plain.origin_bare
    ∙ ap (λ (o : Option (List ℕ)). cond (is_none o) (Some (a, b)) None) plain.other_bare)))

-- and back

abbrev HasBareEnds : List PlanEnd → PlanEnd × PlanEnd → Type 0
HasBareEnds ends w = (ends ≡ w.0 ∷ w.1 ∷ []) × (w.0.sns ≡ None) × (w.1.sns ≡ None)

bare_back : (ends : List PlanEnd) (w : PlanEnd × PlanEnd) → bare_pair ends ≡ Some w → HasBareEnds ends w
bare_back [] w e = absurd (none_is_none w e)
bare_back (a ∷ []) w e = absurd (none_is_none w e)
bare_back (a ∷ b ∷ c ∷ ends) w e = absurd (none_is_none w e)
bare_back (a ∷ b ∷ []) w e = go a.sns b.sns refl refl e
  where
    go : (o u : Option (List ℕ)) → a.sns ≡ o → b.sns ≡ u → cond (is_none o && is_none u) (Some (a, b)) None ≡ Some w → HasBareEnds (a ∷ b ∷ []) w
    go None None first second is =
        let same : (a, b) ≡ w = cc in
        (ap (λ (x : PlanEnd × PlanEnd). x.0 ∷ x.1 ∷ []) same, ap (λ (x : PlanEnd × PlanEnd). x.0.sns) (sym same) ∙ first, ap (λ (x : PlanEnd × PlanEnd). x.1.sns) (sym same) ∙ second)
    go None (Some y) first second is = absurd (none_is_none w is)
    go (Some x) u first second is = absurd (none_is_none w is)

bare_rest : (attributes : List PlanAttribute) (extras : List Extra) (found : Option (PlanEnd × PlanEnd)) (w : PlanEnd × PlanEnd) → cond (is_empty attributes && is_empty extras) found None ≡ Some w
    → (attributes ≡ []) × (extras ≡ []) × (found ≡ Some w)
bare_rest [] [] found w e = (refl, refl, e)
bare_rest [] (y ∷ ys) found w e = absurd (none_is_none w e)
bare_rest (x ∷ xs) extras found w e = absurd (none_is_none w e)

plain_back : (r : PlanRecord) (w : PlanEnd × PlanEnd) → plain_ends r ≡ Some w → IsPlainLink r w.0 w.1
plain_back r w e =
    let rest = bare_rest r.attributes r.extras (bare_pair r.ends) w e in
    let bare = bare_back r.ends w rest.2 in
    record { ends = bare.0; origin_bare = bare.1; other_bare = bare.2; attributes = rest.0; extras = rest.1 }

-- what was found is what there is
pub plain_found : (r : PlanRecord) (found : Option (Bor PlanEnd × Bor PlanEnd)) → IfSome found (λ w. IsPlainLink r w.0.now w.1.now)
    → (IsNone found → (origin other : PlanEnd) → ¬ (IsPlainLink r origin other)) → plain_ends r ≡ option_map (λ (w : Bor PlanEnd × Bor PlanEnd). (w.0.now, w.1.now)) found
plain_found r (Some w) some none = plain_pair r w.0.now w.1.now some
plain_found r None some none = go (plain_ends r) refl
  where
    go : (o : Option (PlanEnd × PlanEnd)) → plain_ends r ≡ o → plain_ends r ≡ None
    go None e = e
    go (Some w) e = absurd (none refl w.0 w.1 (plain_back r w e))

-- what a link that isn't plain is sought by

still_none : {X Y : Type 0} (f : X → Y) (o : Option X) → is_some o ≡ false → is_some (option_map f o) ≡ false
still_none f None e = refl
still_none f (Some x) e = e

pub link_known : (s : Classes) (p : PlanData) (to : List (Option ℕ)) (turned : List Bool) (r : PlanRecord) (found : Option (Bor PlanEnd × Bor PlanEnd)) → is_some found ≡ false
    → IfSome found (λ w. IsPlainLink r w.0.now w.1.now) → (IsNone found → (origin other : PlanEnd) → ¬ (IsPlainLink r origin other)) → (ends : List NumberedEnd) → ends_there p to r.ends ≡ Some ends
    → link_there s p to turned r ≡ Some (link_key_with (class_after (partner_of s) (turned_at turned) r) ends r)
link_known s p to turned r found without some none ends goes =
    let key : List NumberedEnd → LinkKey = λ es. link_key_with (class_after (partner_of s) (turned_at turned) r) es r in
    let other : is_some (plain_ends r) ≡ false = ap (λ (o : Option (PlanEnd × PlanEnd)). is_some o) (plain_found r found some none)
    ∙ still_none (λ (w : Bor PlanEnd × Bor PlanEnd). (w.0.now, w.1.now)) found without in
    ap (λ b. cond b None (option_map key (ends_there p to r.ends))) other ∙ ap (option_map key) goes
