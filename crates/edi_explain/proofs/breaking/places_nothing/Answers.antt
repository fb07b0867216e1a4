use Rattle.std.proofs.Common.{◌≡◌, ◌∙◌, List, ℕ, codes, sym, subst, true}
use Rattle.edi_line.specs.ZoneData.{entry, has_code}
use Rattle.edi_record.specs.Texts.{IsPosition}
use Rattle.edi_record.specs.declared.record.Point.{Point}
use Rattle.edi_explain.proofs.breaking.places_nothing.Goals as goal

abbrev IsNoPosition : List ℕ → Type 0
IsNoPosition text = (p : Point) → ¬ (IsPosition text p)

pub returns-then-eq : goal.returns-then-eq
returns-then-eq c =
    let code : has_code (codes "COR") (entry c.args.zone.now) ≡ true = sym c.eq.ensures ∙ c.if-eq.true in (
      λ t. (code, subst IsNoPosition c.as_slice.ensures.value (c.is_no_position.ensures.0 t)),
      λ h. c.is_no_position.ensures.1 (subst IsNoPosition (sym c.as_slice.ensures.value) h.1),
    )
