use Rattle.std.proofs.Common.{◌≡◌, ◌∙◌, codes, sym, subst, true}
use Rattle.edi_line.specs.ZoneData.{entry, has_code}
use Rattle.edi_explain.specs.BreakingZones.{NamesType}
use Rattle.edi_explain.proofs.breaking.ends_at.Goals as goal

pub returns-then-eq : goal.returns-then-eq
returns-then-eq c =
    let code : has_code (codes "FTP") (entry c.args.zone.now) ≡ true = sym c.eq.ensures ∙ c.if-eq.true in (
      λ t. (code, subst (NamesType c.args.rty) c.as_slice.ensures.value (c.names_type.ensures.0 t)),
      λ h. c.names_type.ensures.1 (subst (NamesType c.args.rty) (sym c.as_slice.ensures.value) h.1),
    )
