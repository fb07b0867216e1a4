use Rattle.std.proofs.Common.{[], ◌∷◌, ◌↔◌, IsTrue, refl, subst, sym}
use Rattle.edi_line.specs.LineRules.{BreaksLineRule}
use Rattle.edi_line.specs.Refusal.{IsLineRefusal}
use Rattle.edi_line.specs.Zones.{groups_of}
use Rattle.edi_record.specs.Texts.{PointerText, shown}
use Rattle.edi_explain.specs.Elsewhere.{HasNamedAmong}
use Rattle.edi_explain.specs.inner.Elsewhere.{name_signature}
use Rattle.edi_explain.proofs.LinkEnds.{at_first, named_in_file, nothing_there, signed}
use Rattle.edi_explain.proofs.elsewhere.has_named.Goals as goal

pub returns-in-Ok : goal.returns-in-Ok
returns-in-Ok c =
    let h = c.in-Ok.ensures.groups in
    let p = shown c.args.pointer in
    let sought = c.read_groups.new.out in
    let come = groups_of h.zones in
    let held = h.handed (name_signature p ∷ []) (refl, at_first c.none.result c.none.ensures, (λ i. absurd cc, λ a. absurd (nothing_there _ a)), λ none. let e = none.joined in absurd cc) in
    named_in_file c.args.bytes.now p c.in-Ok.ensures.sound h.zones h.of_file c.is_found.result
    (subst (λ (q : PointerText). IsTrue c.is_found.result ↔ HasNamedAmong come q) (sym (signed p (shown sought.pointer) held.0)) (c.is_found.ensures (name_signature p) come held))

pub returns-in-Err-Broken : goal.returns-in-Err-Broken
returns-in-Err-Broken c = (
  λ i. absurd cc,
  λ h.
      let least = subst (IsLineRefusal (BreaksLineRule c.args.bytes.now)) c.in-Err-Broken.field-0-is c.in-Err-Broken.ensures.least in
      absurd (h.unbroken _ _ least.is),
)
