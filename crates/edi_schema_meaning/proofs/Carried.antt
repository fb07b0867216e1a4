-- A map carries one plan onto another exactly if it does with the classes of both renamed.
use Rattle.std.proofs.Common.{◌≡◌, ℕ, Bool, true, false, cond, List, map, IsPermutation, refl, sym, ap, ◌∙◌, subst}
use Rattle.std.proofs.lemmas.List.Sorted.{IsPermutation-map}
use Rattle.edi_schema.specs.Classes.{Classes, partner_of}
use Rattle.edi_schema.specs.Roles.{is_plain}
use Rattle.edi_plan.specs.Plans.{PlanData, record_at}
use Rattle.edi_plan.specs.declared.record.PlanAttribute.{PlanAttribute}
use Rattle.edi_plan.specs.declared.record.PlanRecord.{PlanRecord}
use Rattle.edi_rank.specs.Same.{Carries, CarriesRecord, OneToOne, Same, class_after, has_turned_arc}
use Rattle.edi_schema_meaning.proofs.Renamed.{attributes_again, kind_at, length_renamed, place_back, place_in, record_in, renamed, renamed_attribute, renamed_record}

resized : (to : ℕ → ℕ) (n m i j : ℕ) → n ≡ i → m ≡ j → OneToOne to n m → OneToOne to i j
resized to n m i j e g places = subst (λ k. OneToOne to k j) e (subst (OneToOne to n) g places)

-- under two schemas whose partners go as the renaming has them
module _ (s u : Classes) (f g : ℕ → ℕ) (again : (k : ℕ) → g (f k) ≡ k) (partner : (k : ℕ) → partner_of s (f k) ≡ f (partner_of u k)) where
  after : (turned : ℕ → Bool) (r : PlanRecord) → class_after (partner_of s) turned (renamed_record f r) ≡ f (class_after (partner_of u) turned r)
  after turned r = go (is_plain r.role) (has_turned_arc turned r)
    where
      go : (plain any : Bool) → cond plain (f r.class) (cond any (partner_of s (f r.class)) (f r.class)) ≡ f (cond plain r.class (cond any (partner_of u r.class) r.class))
      go true any = refl
      go false true = partner r.class
      go false false = refl

  record_carried : (to : ℕ → ℕ) (turned : ℕ → Bool) (i : ℕ) (a b : PlanRecord) → CarriesRecord u to turned i a b → CarriesRecord s to turned i (renamed_record f a) (renamed_record f b)
  record_carried to turned i a b c = record {
    kind = c.kind;
    attributes = IsPermutation-map (renamed_attribute f) _ _ c.attributes;
    extras = c.extras;
    class = ap f c.class ∙ sym (after turned a);
    points = c.points;
    origin = c.origin;
    others = c.others;
  }

  permuted_back : (xs ys : List PlanAttribute) → IsPermutation (map (renamed_attribute f) xs) (map (renamed_attribute f) ys) → IsPermutation xs ys
  permuted_back xs ys h =
      subst (λ l. IsPermutation l ys) (attributes_again f g again xs) (subst (λ l. IsPermutation (map (renamed_attribute g) (map (renamed_attribute f) xs)) l) (attributes_again f g again ys)
      (IsPermutation-map (renamed_attribute g) _ _ h))

  record_back : (to : ℕ → ℕ) (turned : ℕ → Bool) (i : ℕ) (a b : PlanRecord) → CarriesRecord s to turned i (renamed_record f a) (renamed_record f b) → CarriesRecord u to turned i a b
  record_back to turned i a b c = record {
    kind = c.kind;
    attributes = permuted_back a.attributes b.attributes c.attributes;
    extras = c.extras;
    class = sym (again b.class) ∙ (ap g (c.class ∙ after turned a) ∙ again (class_after (partner_of u) turned a));
    points = c.points;
    origin = c.origin;
    others = c.others;
  }

  pub carried_in : (to : ℕ → ℕ) (turned : ℕ → Bool) (p q : PlanData) → Carries u to turned p q → Carries s to turned (renamed f p) (renamed f q)
  carried_in to turned p q c = record {
    places = resized to _ _ _ _ (sym (length_renamed f p)) (sym (length_renamed f q)) c.places;
    arcs = λ i h t. kind_at f p i ∙ c.arcs i (place_back f p i h) t;
    cse = c.cse;
    each = λ i h.
        let there = place_back f p i h in
        subst (λ a. CarriesRecord s to turned i a (record_at (renamed f q) (to i))) (sym (record_in f p i there))
        (subst (CarriesRecord s to turned i (renamed_record f (record_at p i))) (sym (record_in f q (to i) (c.places.within i there))) (record_carried to turned i (record_at p i) (record_at q (to i)) (c.each i there)));
  }

  pub carried_back : (to : ℕ → ℕ) (turned : ℕ → Bool) (p q : PlanData) → Carries s to turned (renamed f p) (renamed f q) → Carries u to turned p q
  carried_back to turned p q c =
      let places = resized to _ _ _ _ (length_renamed f p) (length_renamed f q) c.places in
      record {
        places = places;
        arcs = λ i h t. sym (kind_at f p i) ∙ c.arcs i (place_in f p i h) t;
        cse = c.cse;
        each = λ i h. record_back to turned i (record_at p i) (record_at q (to i))
            (subst (λ a. CarriesRecord s to turned i a (renamed_record f (record_at q (to i)))) (record_in f p i h)
            (subst (CarriesRecord s to turned i (record_at (renamed f p) i)) (record_in f q (to i) (places.within i h)) (c.each i (place_in f p i h))));
      }

  pub same_in : (p q : PlanData) → Same u p q → Same s (renamed f p) (renamed f q)
  same_in p q h = (h.0, h.1, carried_in h.0 h.1 p q h.2)

  pub same_back : (p q : PlanData) → Same s (renamed f p) (renamed f q) → Same u p q
  same_back p q h = (h.0, h.1, carried_back h.0 h.1 p q h.2)
