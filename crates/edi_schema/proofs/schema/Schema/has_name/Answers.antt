use Rattle.std.proofs.Common.{◌≡◌, ◌∙◌, Some, sym, ap, ap₂}
use Rattle.std.specs.Cmp.Lexicographic.{same_text}
use Rattle.edi_schema.specs.Classes.{class_name_at}
use Rattle.edi_schema.proofs.InPlace.{found_in_place}
use Rattle.edi_schema.proofs.schema.Schema.has_name.Goals as goal

pub returns-then-eq-clause-class : goal.returns-then-eq-clause-class
returns-then-eq-clause-class c = λ is.
    let s = c.args.self.now in
    let known = c.name-known.result.now in
    let name = c.args.name.now in
    let rty = same_text known.rty name.rty (sym is ∙ c.eq-then-eq.ensures) in
    let rid = same_text known.rid name.rid (sym c.if-eq.true ∙ c.eq.ensures) in
    let same : known ≡ name = ap₂ (λ t i. record { rty = t; rid = i }) rty rid in
    found_in_place s c.keeps.ensures c.args.place name (ap (class_name_at s) (sym c.at.ensures) ∙ (sym c.name-known.ensures ∙ ap Some same))
