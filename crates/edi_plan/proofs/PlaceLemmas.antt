-- The places of the records of one kind.
use Rattle.std.proofs.Common.{◌≡◌, ℕ, zero, suc, ◌+◌, ◌<◌, ◌≤◌, Bool, true, false, cond, List, [], ◌∷◌, length, get_or, refl, sym, ap, ◌∙◌, arith, eqb-true, eq-eqb}
use Rattle.edi_record.specs.declared.record.Kind.{Kind}
use Rattle.edi_record.specs.declared.record.Kind.TheVariants.{Pno, Par, Pfe, Fea, Lnk}
use Rattle.edi_plan.specs.Plans.{PlanData, IsPlace, record_at, blank, kind_rank, same_kind}
use Rattle.edi_plan.specs.Places.{places_from, places_of}
use Rattle.edi_plan.specs.declared.record.PlanRecord.{PlanRecord}

pub one_kind : (j k : Kind) → kind_rank j ≡ kind_rank k → j ≡ k
one_kind Pno Pno h = refl
one_kind Pno Par h = absurd (omega arith)
one_kind Pno Pfe h = absurd (omega arith)
one_kind Pno Fea h = absurd (omega arith)
one_kind Pno Lnk h = absurd (omega arith)
one_kind Par Pno h = absurd (omega arith)
one_kind Par Par h = refl
one_kind Par Pfe h = absurd (omega arith)
one_kind Par Fea h = absurd (omega arith)
one_kind Par Lnk h = absurd (omega arith)
one_kind Pfe Pno h = absurd (omega arith)
one_kind Pfe Par h = absurd (omega arith)
one_kind Pfe Pfe h = refl
one_kind Pfe Fea h = absurd (omega arith)
one_kind Pfe Lnk h = absurd (omega arith)
one_kind Fea Pno h = absurd (omega arith)
one_kind Fea Par h = absurd (omega arith)
one_kind Fea Pfe h = absurd (omega arith)
one_kind Fea Fea h = refl
one_kind Fea Lnk h = absurd (omega arith)
one_kind Lnk Pno h = absurd (omega arith)
one_kind Lnk Par h = absurd (omega arith)
one_kind Lnk Pfe h = absurd (omega arith)
one_kind Lnk Fea h = absurd (omega arith)
one_kind Lnk Lnk h = refl

-- a place among those from a place on, as the list has it
pub record IsMember (kind : Kind) (place : ℕ) (rs : List PlanRecord) (k : ℕ) : Type 0 where
  pub at : ℕ
  pub within : at < length rs
  pub is : k ≡ place + at
  pub of_kind : same_kind kind (get_or rs at blank).kind ≡ true

later : (kind : Kind) (place : ℕ) (r : PlanRecord) (rs : List PlanRecord) (k : ℕ) → IsMember kind (place + 1) rs k → IsMember kind place (r ∷ rs) k
later kind place r rs k d = record { at = suc d.at; within = omega (arith, d.within); is = omega (arith, d.is); of_kind = d.of_kind }

member_from : (kind : Kind) (place : ℕ) (rs : List PlanRecord) (m : ℕ) → m < length (places_from kind place rs) → IsMember kind place rs (get_or (places_from kind place rs) m 0)
member_from kind place [] m h = absurd (omega arith)
member_from kind place (r ∷ rs) m h = go (same_kind kind r.kind) refl m h (member_from kind (place + 1) rs)
  where
    go : (b : Bool) → same_kind kind r.kind ≡ b → (m : ℕ) → m < length (cond b (place ∷ places_from kind (place + 1) rs) (places_from kind (place + 1) rs))
        → ((m : ℕ) → m < length (places_from kind (place + 1) rs) → IsMember kind (place + 1) rs (get_or (places_from kind (place + 1) rs) m 0))
        → IsMember kind place (r ∷ rs) (get_or (cond b (place ∷ places_from kind (place + 1) rs) (places_from kind (place + 1) rs)) m 0)
    go true e zero h more = record { at = 0; within = omega arith; is = omega arith; of_kind = e }
    go true e (suc m) h more = later kind place r rs _ (more m (omega arith))
    go false e m h more = later kind place r rs _ (more m h)

rise_from : (kind : Kind) (place : ℕ) (rs : List PlanRecord) (i j : ℕ) → i < j → j < length (places_from kind place rs) → get_or (places_from kind place rs) i 0 < get_or (places_from kind place rs) j 0
rise_from kind place [] i j less h = absurd (omega arith)
rise_from kind place (r ∷ rs) i j less h = go (same_kind kind r.kind) i j less h (rise_from kind (place + 1) rs) (member_from kind (place + 1) rs)
  where
    go : (b : Bool) (i j : ℕ) → i < j → j < length (cond b (place ∷ places_from kind (place + 1) rs) (places_from kind (place + 1) rs))
        → ((i j : ℕ) → i < j → j < length (places_from kind (place + 1) rs) → get_or (places_from kind (place + 1) rs) i 0 < get_or (places_from kind (place + 1) rs) j 0)
        → ((m : ℕ) → m < length (places_from kind (place + 1) rs) → IsMember kind (place + 1) rs (get_or (places_from kind (place + 1) rs) m 0))
        → get_or (cond b (place ∷ places_from kind (place + 1) rs) (places_from kind (place + 1) rs)) i 0 < get_or (cond b (place ∷ places_from kind (place + 1) rs) (places_from kind (place + 1) rs)) j 0
    go true zero zero less h more member = absurd (omega arith)
    go true zero (suc j) less h more member = let d = member j (omega arith) in omega (arith, d.is)
    go true (suc i) zero less h more member = absurd (omega arith)
    go true (suc i) (suc j) less h more member = more i j (omega arith) (omega arith)
    go false i j less h more member = more i j less h

found_from : (kind : Kind) (place : ℕ) (rs : List PlanRecord) (i : ℕ) → i < length rs → same_kind kind (get_or rs i blank).kind ≡ true
    → (m : ℕ) × (m < length (places_from kind place rs)) × (get_or (places_from kind place rs) m 0 ≡ place + i)
found_from kind place [] i h e = absurd (omega arith)
found_from kind place (r ∷ rs) zero h e = rw e (0, omega arith, omega arith)
found_from kind place (r ∷ rs) (suc i) h e = go (same_kind kind r.kind) (found_from kind (place + 1) rs i (omega arith) e)
  where
    go : (b : Bool) → (m : ℕ) × (m < length (places_from kind (place + 1) rs)) × (get_or (places_from kind (place + 1) rs) m 0 ≡ (place + 1) + i)
        → (m : ℕ) × (m < length (cond b (place ∷ places_from kind (place + 1) rs) (places_from kind (place + 1) rs)))
        × (get_or (cond b (place ∷ places_from kind (place + 1) rs) (places_from kind (place + 1) rs)) m 0 ≡ place + suc i)
    go true d = (suc d.0, omega (arith, d.1), omega (arith, d.2))
    go false d = (d.0, d.1, omega (arith, d.2))

short_from : (kind : Kind) (place : ℕ) (rs : List PlanRecord) → length (places_from kind place rs) ≤ length rs
short_from kind place [] = omega arith
short_from kind place (r ∷ rs) = go (same_kind kind r.kind) (short_from kind (place + 1) rs)
  where
    go : (b : Bool) → length (places_from kind (place + 1) rs) ≤ length rs → length (cond b (place ∷ places_from kind (place + 1) rs) (places_from kind (place + 1) rs)) ≤ suc (length rs)
    go true h = omega arith
    go false h = omega arith

-- the places of a kind are places of records of that kind, in rising order, and there are no others

pub places_few : (kind : Kind) (p : PlanData) → length (places_of kind p) ≤ length p.list
places_few kind p = short_from kind 0 p.list

pub place_there : (kind : Kind) (p : PlanData) (m : ℕ) → m < length (places_of kind p) → IsPlace p (get_or (places_of kind p) m 0)
place_there kind p m h = let d = member_from kind 0 p.list m h in omega (arith, d.is, d.within)

pub place_of_kind : (kind : Kind) (p : PlanData) (m : ℕ) → m < length (places_of kind p) → (record_at p (get_or (places_of kind p) m 0)).kind ≡ kind
place_of_kind kind p m h =
    let d = member_from kind 0 p.list m h in
    let e : get_or (places_of kind p) m 0 ≡ d.at = omega (arith, d.is) in
    ap (λ k. (record_at p k).kind) e ∙ sym (one_kind kind (record_at p d.at).kind (eqb-true _ _ d.of_kind))

pub places_rise : (kind : Kind) (p : PlanData) (i j : ℕ) → i < j → j < length (places_of kind p) → get_or (places_of kind p) i 0 < get_or (places_of kind p) j 0
places_rise kind p i j less h = rise_from kind 0 p.list i j less h

pub has_place : (kind : Kind) (p : PlanData) (k : ℕ) → IsPlace p k → (record_at p k).kind ≡ kind → (m : ℕ) × (m < length (places_of kind p)) × (get_or (places_of kind p) m 0 ≡ k)
has_place kind p k h e =
    let d = found_from kind 0 p.list k h (eq-eqb (kind_rank kind) (kind_rank (record_at p k).kind) (ap kind_rank (sym e))) in
    (d.0, d.1, omega (arith, d.2))
