-- What a ranking gives.
use Rattle.std.proofs.Common.{◌≡◌, ℕ, ◌<◌, ◌⊎◌, inl, inr, Bool, List, get_or, sym, ◌∙◌, subst, arith, Ordering, Less}
use Rattle.std.specs.Cmp.{IsTotalOrder}
use Rattle.std.proofs.lemmas.Bool.{cases_order}
use Rattle.edi_topo.specs.Marks.{AreMarksOf}
use Rattle.edi_topo.specs.Ranking.{IsFirstTie, IsRanking, IsTie, Ties, rank}
use Rattle.edi_topo.specs.declared.fault.TieFault.TheVariants.{Tie}
use Rattle.edi_topo.specs.declared.fault.Tied.{Tied}
use Rattle.edi_topo.proofs.RankOrder.{rank_within, rank_rises, equal_ranks}
use Rattle.edi_rank.specs.Labelling.{NumbersEach}

module _ {K : Type 0} (cmp : K → K → Ordering) (total : IsTotalOrder cmp) (key : ℕ → K) (size : ℕ) (numbers : List ℕ) (ranking : IsRanking cmp key size numbers) where
  pub ranks_each : NumbersEach numbers
  ranks_each = record {
    from_one = λ m h. omega (arith, ranking.each m (omega (arith, h, ranking.all)));
    to_count = λ m h. omega (arith, ranking.each m (omega (arith, h, ranking.all)), ranking.all, rank_within cmp total key size m (omega (arith, h, ranking.all)));
    apart = λ m n h l e.
        let there : m < size = omega (arith, h, ranking.all) in
        let there' : n < size = omega (arith, l, ranking.all) in
        one m n there there' (sym (ranking.each m there) ∙ (e ∙ ranking.each n there')) (cases_order m n);
  }
    where
      one : (m n : ℕ) → m < size → n < size → rank cmp key size m ≡ rank cmp key size n → (m ≡ n) ⊎ ((m < n) ⊎ (n < m)) → m ≡ n
      one m n h l e (inl same) = same
      one m n h l e (inr (inl less)) = absurd (ranking.distinct n (l, (m, less, equal_ranks cmp total key size m n h l e)))
      one m n h l e (inr (inr more)) = absurd (ranking.distinct m (h, (n, more, equal_ranks cmp total key size n m l h (sym e))))

  -- a lesser number is that of a lesser key
  pub keys_rise : (m n : ℕ) → m < size → n < size → get_or numbers m 0 < get_or numbers n 0 → cmp (key m) (key n) ≡ Less
  keys_rise m n h l less = rank_rises cmp total key size m n h l (omega (arith, less, ranking.each m h, ranking.each n l))

-- the ranking by one order is that by another which is the same
pub ranking_by : {K : Type 0} (cmp other : K → K → Ordering) → ((a b : K) → cmp a b ≡ other a b) → (key : ℕ → K) (size : ℕ) (numbers : List ℕ) → IsRanking cmp key size numbers → IsRanking other key size numbers
ranking_by cmp other same key size numbers ranking = subst (λ c. IsRanking c key size numbers) (λ i a b. same a b i) ranking

pub tie_by : {K : Type 0} (cmp other : K → K → Ordering) → ((a b : K) → cmp a b ≡ other a b) → (key : ℕ → K) (size m : ℕ) → IsTie cmp key size (Tie m) → IsTie other key size (Tie m)
tie_by cmp other same key size m tie = subst (λ c. IsTie c key size (Tie m)) (λ i a b. same a b i) tie

pub first_tie_by : {K : Type 0} (cmp other : K → K → Ordering) → ((a b : K) → cmp a b ≡ other a b) → (key : ℕ → K) (size : ℕ) (tied : Tied) → IsFirstTie cmp key size tied → IsFirstTie other key size tied
first_tie_by cmp other same key size tied tie = subst (λ c. IsFirstTie c key size tied) (λ i a b. same a b i) tie

pub marks_by : {K : Type 0} (cmp other : K → K → Ordering) → ((a b : K) → cmp a b ≡ other a b) → (key : ℕ → K) (size : ℕ) (marks : List Bool) → AreMarksOf size (Ties cmp key size) marks → AreMarksOf size (Ties other key size) marks
marks_by cmp other same key size marks are = subst (λ c. AreMarksOf size (Ties c key size) marks) (λ i a b. same a b i) are
