use Rattle.std.proofs.Common.{rules, ap}
use Rattle.std.proofs.lemmas.Fn.{always_returns_same}
use Rattle.std.proofs.lemmas.List.{get_or_default}
use Rattle.std.proofs.lemmas.List.Sorted.{searchable_from_sorted}
use Rattle.edi_matching.proofs.Found.{keys_sorted, missing}
use Rattle.edi_matching.proofs.keys.member_with.Goals as goal

pub returns-in-Ok : goal.returns-in-Ok
returns-in-Ok g c =
    let position = c.in-Ok.ensures.position (λ x. g.K.Ord.cmp x.0 c.args.key.now) (always_returns_same _ _ _ (λ a r f called. search rules)) in
    let at = c.in-Ok.at in
    (at, c.in-Ok.ensures.bound, λ d. (position d, ap (λ x. x.1) (get_or_default c.args.pairs.now at d c.index-pairs-at.result c.in-Ok.ensures.bound)))

pub returns-in-Err : goal.returns-in-Err
returns-in-Err g c =
    let cmp = g.K.Ord.cmp in
    let key = c.args.key.now in
    let rises = searchable_from_sorted g.met.K.Ord.total (λ x. x.0) c.args.pairs.now key (keys_sorted cmp c.args.pairs.now c.requires) in
    let both = c.in-Err.ensures.position (λ x. cmp x.0 key) (always_returns_same _ _ _ (λ a r f called. search rules)) rises in
    λ k d h tie. missing (λ x. cmp x.0 key) c.args.pairs.now c.in-Err.field-0 both k d h tie
