use Rattle.std.proofs.Common.{ℕ, inl, inr, refl, sym, ◌∙◌, rules, of_calls, is_lt, true≢false}
use Rattle.std.proofs.lemmas.Fn.{always_returns_same}
use Rattle.edi_matching.proofs.ContentNumbers.{first_there, parted}
use Rattle.edi_matching.proofs.contents.number_in.Goals as goal

pub returns-then-has_key : goal.returns-then-has_key
returns-then-has_key g c =
    let cmp = g.K.Ord.cmp in
    let key = c.args.key.now in
    let parts = c.partition_point-at.ensures.partitioned (λ (z : g.row.K.Denot × ℕ). is_lt (cmp z.0 key)) (always_returns_same _ _ _ (λ a r f k. search (rules, of_calls)))
    (parted cmp g.K.PartialEq.eq g.met.K.Ord.total g.met.K.Ord.matches_eq c.args.order.now key c.requires) in
    record {
      at = c.partition_point-at.result;
      first = first_there cmp c.args.order.now key c.partition_point-at.result parts;
      is = inl (c.has_key.ensures.0 c.if-has_key.true, refl);
    }

pub returns-else-has_key : goal.returns-else-has_key
returns-else-has_key g c =
    let cmp = g.K.Ord.cmp in
    let key = c.args.key.now in
    let parts = c.partition_point-at.ensures.partitioned (λ (z : g.row.K.Denot × ℕ). is_lt (cmp z.0 key)) (always_returns_same _ _ _ (λ a r f k. search (rules, of_calls)))
    (parted cmp g.K.PartialEq.eq g.met.K.Ord.total g.met.K.Ord.matches_eq c.args.order.now key c.requires) in
    record {
      at = c.partition_point-at.result;
      first = first_there cmp c.args.order.now key c.partition_point-at.result parts;
      is = inr (λ has. true≢false (sym (c.has_key.ensures.1 has) ∙ c.if-has_key.false), refl);
    }
