use Rattle.std.proofs.Common.{◌∙◌, is_some, sym, ap}
use Rattle.edi_line.specs.inner.ZoneLists.{open_of}
use Rattle.edi_record.proofs.LastItems.{has_last}
use Rattle.edi_record.proofs.attributes.Attributes.is_open.Goals as goal

pub returns-then-self : goal.returns-then-self
returns-then-self c =
    let list = c.args.list.now in
    has_last list.items list.len c.is_empty.result list.ok.0 c.is_empty.ensures ∙ ap (λ is_open. is_some (open_of is_open list.items)) (sym c.if-self.true)
