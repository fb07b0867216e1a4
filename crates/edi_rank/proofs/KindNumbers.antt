-- The numbers of the records of a type, written at their places.
use Rattle.std.proofs.Common.{◌≡◌, ◌≢◌, ℕ, ◌+◌, ◌<◌, ◌⊎◌, inl, inr, List, length, get_or, set, sym, ap, ◌∙◌, subst, arith}
use Rattle.std.proofs.lemmas.Bool.{cases_eq}
use Rattle.std.proofs.lemmas.List.{get_or-set_same, get_or-set_other}
use Rattle.edi_record.specs.declared.record.Kind.{Kind}
use Rattle.edi_plan.specs.Places.{places_of, member_of}
use Rattle.edi_plan.specs.Plans.{PlanData, IsPlace, record_at}
use Rattle.edi_plan.proofs.PlaceLemmas.{place_there, place_of_kind, places_rise}
use Rattle.edi_rank.proofs.RankedApart.{place_of_member}

module _ (p : PlanData) (kind : Kind) where
  abbrev pub place_at : ℕ → ℕ
  place_at member = get_or (places_of kind p) member 0

  -- the numbers of the members before this one stand at their places
  abbrev pub WrittenTo : List ℕ → ℕ → List ℕ → Type 0
  WrittenTo ranks n numbers = (m : ℕ) → m < n → get_or numbers (place_at m) 0 ≡ get_or ranks m 0

  -- records of other types have the numbers that they had
  abbrev pub OthersStay : List ℕ → List ℕ → Type 0
  OthersStay was numbers = (k : ℕ) → k < length p.list → (record_at p k).kind ≢ kind → get_or numbers k 0 ≡ get_or was k 0

  module _ (numbers : List ℕ) (n value : ℕ) (there : n < length (places_of kind p)) where
    pub written_more : (ranks : List ℕ) → length numbers ≡ length p.list → value ≡ get_or ranks n 0 → WrittenTo ranks n numbers → WrittenTo ranks (n + 1) (set numbers (place_at n) value)
    written_more ranks long is before m h = go (cases_eq m n)
      where
        go : (m ≡ n) ⊎ (m ≡ n → ⊥) → get_or (set numbers (place_at n) value) (place_at m) 0 ≡ get_or ranks m 0
        go (inl same) =
            ap (λ j. get_or (set numbers (place_at n) value) (place_at j) 0) same
            ∙ (get_or-set_same numbers (place_at n) value 0 (omega (arith, long, place_there kind p n there)) ∙ (is ∙ ap (λ j. get_or ranks j 0) (sym same)))
        go (inr other) =
            let below : m < n = omega (arith, h, other) in
            let apart = places_rise kind p m n below there in
            get_or-set_other numbers (place_at n) (place_at m) value 0 (λ e. omega (arith, apart, e)) ∙ before m below

    pub others_stay : (was : List ℕ) → OthersStay was numbers → OthersStay was (set numbers (place_at n) value)
    others_stay was stay k h other =
        get_or-set_other numbers (place_at n) k value 0 (λ e. other (ap (λ j. (record_at p j).kind) e ∙ place_of_kind kind p n there)) ∙ stay k h other

  pub each_member : (ranks numbers : List ℕ) → WrittenTo ranks (length (places_of kind p)) numbers → (k : ℕ) → IsPlace p k → (record_at p k).kind ≡ kind → get_or numbers k 0 ≡ get_or ranks (member_of p k) 0
  each_member ranks numbers all k h is =
      let own = subst (λ j. (member_of p k < length (places_of j p)) × (get_or (places_of j p) (member_of p k) 0 ≡ k)) is (place_of_member p k h) in
      subst (λ j. get_or numbers j 0 ≡ get_or ranks (member_of p k) 0) own.1 (all (member_of p k) own.0)
