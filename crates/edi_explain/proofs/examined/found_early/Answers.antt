use Rattle.std.proofs.Common.{◌≢◌, ◌-◌, arith, rules}
use Rattle.edi_explain.proofs.Earlier.{link_earlier, no_end_node}
use Rattle.edi_explain.proofs.examined.found_early.Goals as goal

pub returns-in-301 : goal.returns-in-301
returns-in-301 c = λ s sheet below states refusal link. c.found_in_zones.ensures s sheet states refusal

pub returns-in_default : goal.returns-in_default
returns-in_default c = λ s sheet below states refusal link.
    let b = c.args.bytes.now in
    let rule = c.args.rule in
    let name : rule ≢ 301 = search rules in
    let subset : rule ≢ 304 = search rules in
    c.found_at.ensures s b refusal (link_earlier s b sheet states rule c.args.at c.args.earlier below name subset link)
    (no_end_node s b rule (c.args.at - 1) (λ e. omega (arith, e, below)) (λ e. omega (arith, e, below)))
