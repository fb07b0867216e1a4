-- Plans with their classes renamed.
use Rattle.std.proofs.Common.{◌≡◌, ℕ, zero, suc, List, [], ◌∷◌, length, map, get_or, filter_map, Option, Some, None, option_map, refl, ap, arith}
use Rattle.std.proofs.lemmas.List.{get_or-map, length-map}
use Rattle.edi_plan.specs.Plans.{PlanData, IsPlace, blank, record_at}
use Rattle.edi_plan.specs.declared.record.PlanAttribute.{PlanAttribute}
use Rattle.edi_plan.specs.declared.record.PlanRecord.{PlanRecord}

-- ---- lists

-- what is gathered of the images, where each gives the image of what its element gives
pub filter_map-map : {X Y Z W : Type 0} (g : X → Y) (h : Z → W) (there : Y → Option W) (here : X → Option Z) → ((x : X) → there (g x) ≡ option_map h (here x)) → (xs : List X)
    → filter_map there (map g xs) ≡ map h (filter_map here xs)
filter_map-map g h there here same [] = refl
filter_map-map {X} {Y} {Z} {W} g h there here same (x ∷ xs) = go (here x) refl (filter_map-map g h there here same xs)
  where
    go : (o : Option Z) → here x ≡ o → filter_map there (map g xs) ≡ map h (filter_map here xs) → filter_map there (map g (x ∷ xs)) ≡ map h (filter_map here (x ∷ xs))
    go None e more = rw (same x, e) more
    go (Some z) e more = rw (same x, e) (ap (λ l. h z ∷ l) more)

pub map_back : {X Y : Type 0} (f : X → Y) (g : Y → X) → ((x : X) → g (f x) ≡ x) → (xs : List X) → map g (map f xs) ≡ xs
map_back f g same [] = refl
map_back f g same (x ∷ xs) = λ i. same x i ∷ map_back f g same xs i

-- ---- records

abbrev pub renamed_attribute : (ℕ → ℕ) → PlanAttribute → PlanAttribute
renamed_attribute f a = record { atp = f a.atp; tex = a.tex; value = a.value }

abbrev pub renamed_record : (ℕ → ℕ) → PlanRecord → PlanRecord
renamed_record f r = record { kind = r.kind; class = f r.class; role = r.role; points = r.points; attributes = map (renamed_attribute f) r.attributes; extras = r.extras; ends = r.ends }

abbrev pub renamed : (ℕ → ℕ) → PlanData → PlanData
renamed f p = record { cse = p.cse; list = map (renamed_record f) p.list }

module _ (f : ℕ → ℕ) where
  pub length_renamed : (p : PlanData) → length (renamed f p).list ≡ length p.list
  length_renamed p = length-map p.list (renamed_record f)

  pub place_in : (p : PlanData) (k : ℕ) → IsPlace p k → IsPlace (renamed f p) k
  place_in p k h = let l = length_renamed p in omega (arith, l)

  pub place_back : (p : PlanData) (k : ℕ) → IsPlace (renamed f p) k → IsPlace p k
  place_back p k h = let l = length_renamed p in omega (arith, l)

  pub record_in : (p : PlanData) (k : ℕ) → IsPlace p k → record_at (renamed f p) k ≡ renamed_record f (record_at p k)
  record_in p k h = get_or-map (renamed_record f) p.list k blank blank h

  -- what a renaming doesn't change of a record
  field_at : {X : Type 0} (g : PlanRecord → X) → ((r : PlanRecord) → g (renamed_record f r) ≡ g r) → (rs : List PlanRecord) (k : ℕ) → g (get_or (map (renamed_record f) rs) k blank) ≡ g (get_or rs k blank)
  field_at g same [] k = refl
  field_at g same (r ∷ rs) zero = same r
  field_at g same (r ∷ rs) (suc k) = field_at g same rs k

  pub kind_at : (p : PlanData) (k : ℕ) → (record_at (renamed f p) k).kind ≡ (record_at p k).kind
  kind_at p k = field_at (λ r. r.kind) (λ r. refl) p.list k

  pub ends_at : (p : PlanData) (k : ℕ) → (record_at (renamed f p) k).ends ≡ (record_at p k).ends
  ends_at p k = field_at (λ r. r.ends) (λ r. refl) p.list k

  pub role_at : (p : PlanData) (k : ℕ) → (record_at (renamed f p) k).role ≡ (record_at p k).role
  role_at p k = field_at (λ r. r.role) (λ r. refl) p.list k

  pub points_at : (p : PlanData) (k : ℕ) → (record_at (renamed f p) k).points ≡ (record_at p k).points
  points_at p k = field_at (λ r. r.points) (λ r. refl) p.list k

  pub extras_at : (p : PlanData) (k : ℕ) → (record_at (renamed f p) k).extras ≡ (record_at p k).extras
  extras_at p k = field_at (λ r. r.extras) (λ r. refl) p.list k

-- the way back
module _ (f g : ℕ → ℕ) (same : (k : ℕ) → g (f k) ≡ k) where
  pub attribute_again : (a : PlanAttribute) → renamed_attribute g (renamed_attribute f a) ≡ a
  attribute_again a = λ i. record { atp = same a.atp i; tex = a.tex; value = a.value }

  pub attributes_again : (xs : List PlanAttribute) → map (renamed_attribute g) (map (renamed_attribute f) xs) ≡ xs
  attributes_again xs = map_back (renamed_attribute f) (renamed_attribute g) attribute_again xs

  pub record_again : (r : PlanRecord) → renamed_record g (renamed_record f r) ≡ r
  record_again r = λ i. record { kind = r.kind; class = same r.class i; role = r.role; points = r.points; attributes = attributes_again r.attributes i; extras = r.extras; ends = r.ends }

  pub plan_again : (p : PlanData) → renamed g (renamed f p) ≡ p
  plan_again p = λ i. record { cse = p.cse; list = map_back (renamed_record f) (renamed_record g) record_again p.list i }
