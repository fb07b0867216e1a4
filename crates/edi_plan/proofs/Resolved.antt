-- Attributes and classes, one by one.
use Rattle.std.proofs.Common.{◌≡◌, ℕ, ◌<◌, List, [], ◌∷◌, Option, Some, None, option_map, unwrap_or, refl, ap, ◌∙◌, length}
use Rattle.std.specs.List.{AllZip, slice_get}
use Rattle.std.proofs.lemmas.Option.{slice_get-get_or}
use Rattle.edi_record.specs.declared.name.Name.{Name}
use Rattle.edi_record.specs.declared.record.Attribute.{Attribute}
use Rattle.edi_schema.specs.Classes.{Classes, place_of, role_of, role_named, class_at, class_named}
use Rattle.edi_schema.specs.declared.class.Class.{Class}
use Rattle.edi_schema.specs.declared.role.Role.TheVariants.{Plain}
use Rattle.edi_plan.specs.inner.Resolving.{Resolves}
use Rattle.edi_plan.specs.PlanOf.{StatesPlanAttribute}
use Rattle.edi_plan.specs.declared.record.PlanAttribute.{PlanAttribute}
use Rattle.edi_plan.proofs.Built.{named_at}

pub zip_states : (s : Classes) (xs : List Attribute) (ys : List PlanAttribute) → AllZip (Resolves s) xs ys → AllZip (StatesPlanAttribute s) xs ys
zip_states s [] [] all = tt
zip_states s [] (b ∷ bs) all = absurd all
zip_states s (a ∷ rest) [] all = absurd all
zip_states s (a ∷ rest) (b ∷ bs) all = (all.0.states, zip_states s rest bs all.1)

pub role_there : (s : Classes) (name : Name) (k : ℕ) → place_of s name ≡ Some k → role_named s name ≡ Some (role_of s k)
role_there s name k e = ap (option_map (λ (c : Class). c.role)) found.1 ∙ some
  where
    found : (k < Rattle.std.proofs.Common.length s) × (class_named s name ≡ class_at s k)
    found = named_at s name k e

    some : option_map (λ (c : Class). c.role) (class_at s k) ≡ Some (role_of s k)
    some = go (slice_get s k) (slice_get-get_or s k (record { rty = []; rid = [] }, record { role = Plain; letter = 0; is_number = Rattle.std.proofs.Common.false }) found.0)
      where
        go : (o : Option (Name × Class)) → o ≡ Some (Rattle.std.proofs.Common.get_or s k (record { rty = []; rid = [] }, record { role = Plain; letter = 0; is_number = Rattle.std.proofs.Common.false }))
            → option_map (λ (c : Class). c.role) (option_map (λ (x : Name × Class). x.1) o) ≡ Some (unwrap_or (option_map (λ (c : Class). c.role) (option_map (λ (x : Name × Class). x.1) o)) Plain)
        go (Some x) e = refl
        go None e = cc
