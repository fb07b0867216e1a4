use Rattle.std.proofs.Common.{◌≡◌, ◌∙◌, ℕ, ◌+◌, ◌<◌, ◌^◌, arith, get_or, length, rules, subst, sym, true≢false}
use Rattle.edi_topo.proofs.FirstDifference.{differs, tied}
use Rattle.edi_diff.proofs.Alone.{lone_here, none_after, none_before, none_tied}
use Rattle.edi_diff.proofs.proposing.lone_pair.Goals.{then-is_ne-via-then-is_ne, then-is_ne-via-else-is_ne+then-has_key, then-is_ne-via-else-is_ne+else-has_key+then-has_key-2}
use Rattle.edi_diff.proofs.proposing.lone_pair.Goals as goal

pub returns : goal.returns
returns g c =
    let pairs = c.args.pairs.now in
    let x = c.in-Some.field-0.now in
    let y = c.in-Some-get.field-0.now in
    let few : length pairs < 2 ^ 64 = search rules in
    let next : c.saturating_add.result ≡ c.args.at + 1 = omega (arith, c.saturating_add.ensures, few, c.in-Some.ensures.lookup.3.0) in
    let there : y ≡ get_or pairs (c.args.at + 1) y = subst (λ (n : ℕ). y ≡ get_or pairs n y) next c.in-Some-get.ensures.lookup.1 in
    lone_here g.K.Ord.cmp pairs c.args.at x y (omega (arith, next, c.in-Some-get.ensures.lookup.3.0)) c.in-Some.ensures.lookup.1 there
    c.checked_sub.result c.checked_add.result c.checked_sub.ensures c.checked_add.ensures few
    (sym c.cmp.ensures ∙ tied c.cmp.result (sym c.is_ne.ensures ∙ c.if-is_ne.false))
    (λ has. true≢false (sym (c.has_key.ensures.1 has) ∙ c.if-has_key.false))
    (λ has. true≢false (sym (c.has_key-else-has_key.ensures.1 has) ∙ c.if-has_key-2.false))
    c.proposal_of.result c.proposal_of.ensures

pub returns-then-is_ne : goal.returns-then-is_ne
returns-then-is_ne g c =
    let pairs = c.args.pairs.now in
    let x = c.in-Some.field-0.now in
    let y = c.in-Some-get.field-0.now in
    let few : length pairs < 2 ^ 64 = search rules in
    let next : c.saturating_add.result ≡ c.args.at + 1 = omega (arith, c.saturating_add.ensures, few, c.in-Some.ensures.lookup.3.0) in
    let there : y ≡ get_or pairs (c.args.at + 1) y = subst (λ (n : ℕ). y ≡ get_or pairs n y) next c.in-Some-get.ensures.lookup.1 in
    let within : c.args.at + 1 < length pairs = omega (arith, next, c.in-Some-get.ensures.lookup.3.0) in
    let here = c.in-Some.ensures.lookup.1 in
    elim c.then-is_ne.branch [
      | then-is_ne-via-then-is_ne w ↦
          none_tied g.K.Ord.cmp pairs c.args.at x y within here there (λ e. differs c.cmp.result (sym c.is_ne.ensures ∙ w.if-is_ne.true) (c.cmp.ensures ∙ e))
      | then-is_ne-via-else-is_ne+then-has_key w ↦
          none_before g.K.Ord.cmp pairs c.args.at x y within here there w.checked_sub.result w.checked_sub.ensures (w.has_key.ensures.0 w.if-has_key.true)
      | then-is_ne-via-else-is_ne+else-has_key+then-has_key-2 w ↦
          none_after g.K.Ord.cmp pairs c.args.at x y within here there w.checked_add.result w.checked_add.ensures (w.has_key-else-has_key.ensures.0 w.if-has_key-2.true)
    ]
