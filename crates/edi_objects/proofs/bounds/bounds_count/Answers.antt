use Rattle.std.proofs.Common.{ℕ, List, subst, sym}
use Rattle.std.specs.List.Sorted.{IsNonDecreasingBy}
use Rattle.edi_objects.specs.inner.Sheets.{is_marked_place}
use Rattle.edi_objects.proofs.Indexed.{index_rises}
use Rattle.edi_objects.proofs.Unbounded.{unbounded}
use Rattle.edi_objects.proofs.bounds.bounds_count.Goals as goal

pub entries_of-requires : goal.entries_of-requires
entries_of-requires c = subst (λ (xs : List (ℕ × ℕ)). IsNonDecreasingBy (λ (x : ℕ × ℕ). x.0) xs) (sym c.requires) (index_rises c.args.plan.now)

pub returns-then-not-is_bounded : goal.returns-then-not-is_bounded
returns-then-not-is_bounded c = sym (unbounded (is_marked_place c.args.marks.now) c.args.plan.now c.args.place (c.is_bounded.ensures c.if-not-is_bounded.true))
