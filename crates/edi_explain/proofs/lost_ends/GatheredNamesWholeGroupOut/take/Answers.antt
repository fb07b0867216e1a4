use Rattle.std.proofs.Common.{◌≡◌, ◌↔◌, Option, Some, subst}
use Rattle.edi_line.specs.ZoneData.{entries}
use Rattle.edi_record.specs.Texts.{PointerText}
use Rattle.edi_record.specs.declared.name.Name.{Name}
use Rattle.edi_explain.specs.AstrayZones.{IsNamedBy}
use Rattle.edi_explain.specs.inner.LostEnds.{pointed_name}
use Rattle.edi_explain.proofs.LostEnds.{names_more, names_stay}
use Rattle.edi_explain.proofs.lost_ends.GatheredNamesWholeGroupOut.take.Goals as goal

pub returns-in_ok-insert : goal.returns-in_ok-insert
returns-in_ok-insert c = λ groups h.
    let g = entries c.args.group.now in
    names_more groups g c.args.self.now.names.keys h c.insert.new.self.keys c.in-Some.name c.in_ok-insert.ensures.keys
    (subst (λ (o : Option Name). (p : PointerText) → IsNamedBy p g ↔ (o ≡ Some (pointed_name p))) c.in-Some.is c.in_ok-name.ensures)

pub returns-in_default : goal.returns-in_default
returns-in_default c = λ groups h.
    let g = entries c.args.group.now in
    names_stay groups g c.args.self.now.names.keys h
    (subst (λ (o : Option Name). (p : PointerText) → IsNamedBy p g ↔ (o ≡ Some (pointed_name p))) c.in_default.is c.in_ok-name.ensures)
