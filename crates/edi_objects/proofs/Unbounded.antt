-- Records that nothing bounds.
use Rattle.std.proofs.Common.{◌≡◌, ℕ, Bool, false, ◌&&◌, List, [], ◌∷◌, count_by, refl, ap}
use Rattle.edi_schema.specs.declared.role.Role.{Role}
use Rattle.edi_plan.specs.Plans.{PlanData, record_at}
use Rattle.edi_objects.specs.Bounds.{bounds_count}
use Rattle.edi_objects.specs.Differing.{bounds_type}
use Rattle.edi_objects.specs.LinksOf.{entries_of, index_of}

-- what holds of no element is counted nowhere
none_counted : {X : Type 0} (p : X → Bool) → ((x : X) → p x ≡ false) → (xs : List X) → count_by p xs ≡ 0
none_counted p never [] = refl
none_counted p never (x ∷ xs) = rw (never x) (none_counted p never xs)

-- where no link can bound a record, none that is marked is counted
pub unbounded : (test : ℕ → Bool) (p : PlanData) (place : ℕ) → ((role : Role) → bounds_type role (record_at p place).kind ≡ false) → bounds_count test p place ≡ 0
unbounded test p place never =
    none_counted _ (λ named. ap (λ b. b && test named.1) (never (record_at p named.1).role)) (entries_of (index_of p) place)
