-- Plans that are the same have one checksum.
use Rattle.std.proofs.Common.{◌≡◌, ℕ, ◌%◌, ◌^◌, Bool, true, false, cond, true≢false, IsTrue, ◌↔◌, length, reverse, refl, sym, ap, ◌∙◌, sum_by}
use Rattle.std.proofs.lemmas.List.Sorted.{sum_by-IsPermutation, IsPermutation-reverse}
use Rattle.edi_record.specs.declared.record.Point.{Point}
use Rattle.edi_schema.specs.Classes.{Classes, IsPaired, IsSchema, role_of, partner_of}
use Rattle.edi_schema.specs.Roles.{is_plain}
use Rattle.edi_plan.specs.Plans.{PlanData, record_at, blank}
use Rattle.edi_plan.specs.declared.record.PlanRecord.{PlanRecord}
use Rattle.edi_topo.specs.Ranking.{sum_below}
use Rattle.edi_topo.proofs.Sums.{sum_by-below}
use Rattle.edi_rank.specs.Laws.{IsPlanUnder}
use Rattle.edi_rank.specs.Same.{CarriesRecord, Same, directed, has_turned_arc}
use Rattle.edi_rank.proofs.Preserved.{plain_turned}
use Rattle.edi_rank.proofs.SameLaws.{role_at}
use Rattle.edi_rank.proofs.Sums.{sum_below-renamed}
use Rattle.edi_compare.specs.Laws.{IsAcceptedPlan}
use Rattle.edi_matching.specs.contracts.checksum.SummaryHash.TheImpl.{ghosts as summaries}
use Rattle.edi_matching.specs.inner.Checksums.{HaveOneChecksum, attribute_checksum, summary_of, extra_checksum, fixed_class, hash_of, plan_checksum, point_checksum, record_checksum, sum_of}
use Rattle.edi_matching.proofs.SamePlans.{accepted_under}

-- the sum over the places is that over the records
pub all_summed : (f : PlanRecord → ℕ) (p : PlanData) (n sum : ℕ) → n ≡ length p.list → sum ≡ sum_below n (λ k. f (record_at p k)) % 2 ^ 64 → sum ≡ sum_of f p.list
all_summed f p n sum all is = is ∙ ap (λ k. k % 2 ^ 64) (ap (λ k. sum_below k (λ i. f (record_at p i))) all ∙ sym (sum_by-below f p.list blank))

-- a record that was carried has one checksum with the record that it became

module _ (s : Classes) (paired : IsPaired s) (to : ℕ → ℕ) (turned : ℕ → Bool) (i : ℕ) (a b : PlanRecord)
    (role : a.role ≡ role_of s a.class) (role' : b.role ≡ role_of s b.class) (c : CarriesRecord s to turned i a b) where
  class_kept : fixed_class b ≡ fixed_class a
  class_kept = go (is_plain a.role) refl
    where
      go : (k : Bool) → is_plain a.role ≡ k → fixed_class b ≡ fixed_class a
      go true e =
          let same : b.class ≡ a.class = c.class ∙ ap (λ k. cond k a.class (cond (has_turned_arc turned a) (partner_of s a.class) a.class)) e in
          let plain : is_plain b.role ≡ true = ap is_plain (role' ∙ (ap (role_of s) same ∙ sym role)) ∙ e in
          rw (plain, e, same)
      go false e = rw (plain, e)
        where
          kind : is_plain (role_of s a.class) ≡ false
          kind = ap is_plain (sym role) ∙ e

          still : (t : Bool) → is_plain (role_of s (cond t (partner_of s a.class) a.class)) ≡ false
          still true = ap is_plain (paired.exchanges a.class kind) ∙ (plain_turned true (role_of s a.class) ∙ kind)
          still false = kind

          plain : is_plain b.role ≡ false
          plain = ap is_plain (role' ∙ ap (role_of s) (c.class ∙ ap (λ k. cond k a.class (cond (has_turned_arc turned a) (partner_of s a.class) a.class)) e)) ∙ still (has_turned_arc turned a)

  points_kept : (f : Point → ℕ) → sum_of f b.points ≡ sum_of f a.points
  points_kept f = go (turned i) c.points
    where
      go : (t : Bool) → b.points ≡ directed t a.points → sum_of f b.points ≡ sum_of f a.points
      go true e = ap (sum_of f) e ∙ ap (λ n. n % 2 ^ 64) (sum_by-IsPermutation f a.points (reverse a.points) (IsPermutation-reverse a.points))
      go false e = ap (sum_of f) e

  summary_kept : summary_of b ≡ summary_of a
  summary_kept = λ j. record {
    kind = c.kind j;
    class = class_kept j;
    points = points_kept point_checksum j;
    attributes = ap (λ n. n % 2 ^ 64) (sum_by-IsPermutation attribute_checksum a.attributes b.attributes c.attributes) j;
    extras = ap (sum_of extra_checksum) c.extras j;
  }

  pub record_kept : record_checksum b ≡ record_checksum a
  record_kept = ap (λ r. hash_of (summaries.hash_input r)) summary_kept

-- plans that are the same

pub same_checksum : (s : Classes) (p q : PlanData) → IsPlanUnder s p → IsPlanUnder s q → Same s p q → plan_checksum q ≡ plan_checksum p
same_checksum s p q under under' same = ap (λ n. n % 2 ^ 64) (sym whole)
  where
    whole : sum_by record_checksum p.list ≡ sum_by record_checksum q.list
    whole =
        sum_by-below record_checksum p.list blank
        ∙ (sum_below-renamed same.0 (length p.list) (length q.list) same.2.places (λ k. record_checksum (record_at p k)) (λ k. record_checksum (record_at q k))
        (λ k h. sym (record_kept s under.paired same.0 same.1 k (record_at p k) (record_at q (same.0 k)) (role_at s p under k h) (role_at s q under' (same.0 k) (same.2.places.within k h)) (same.2.each k h)))
        ∙ sym (sum_by-below record_checksum q.list blank))

pub other_checksum : (s : Classes) (p q : PlanData) → IsSchema s → IsAcceptedPlan s p → IsAcceptedPlan s q → (answer : Bool) → (IsTrue answer ↔ HaveOneChecksum p q) → answer ≡ false → ¬ (Same s p q)
other_checksum s p q keeps accepted accepted' answer contents e same =
    true≢false (sym (contents.1 (record { cse = same.2.cse; checksum = same_checksum s p q (accepted_under s p keeps accepted) (accepted_under s q keeps accepted') same })) ∙ e)
