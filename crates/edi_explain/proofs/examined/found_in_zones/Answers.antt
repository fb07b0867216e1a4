use Rattle.std.proofs.Common.{◌-◌, ◌<◌, ℕ, List, arith, ⊎_elim, subst, sym}
use Rattle.edi_line.specs.ZoneData.{entries}
use Rattle.edi_line.specs.LineRules.{IsZonesOf}
use Rattle.edi_line.specs.declared.zone.Zone.{Zone}
use Rattle.edi_explain.specs.Refusals.{IsEarlierIfAny}
use Rattle.edi_explain.proofs.Earlier.{no_end_node}
use Rattle.edi_explain.proofs.examined.found_in_zones.Goals as goal

pub returns-in-Ok : goal.returns-in-Ok
returns-in-Ok c = λ s sheet states refusal.
    let b = c.args.bytes.now in
    let rule = c.args.rule in
    let below : rule < 400 = ⊎_elim (λ e. omega (arith, e)) (λ e. omega (arith, e)) c.requires.rule in
    let read = subst (λ (zs : List Zone). IsZonesOf b (entries zs)) (sym c.deref.ensures.value) c.in-Ok.ensures in (
      refusal,
      subst (λ (n : ℕ). IsEarlierIfAny s b rule n c.earlier_in_zones.result) c.saturating_sub.ensures (c.earlier_in_zones.ensures s b sheet read states),
      no_end_node s b rule (c.args.at - 1) (λ e. omega (arith, e, below)) (λ e. omega (arith, e, below)),
      c.in-Ok.ensures,
    )

pub returns-in-Err : goal.returns-in-Err
returns-in-Err c = λ s sheet states refusal. c.found_alone.ensures s c.args.bytes.now tt tt
