use Rattle.std.proofs.Common.{◌∙◌, ap}
use Rattle.std.specs.Ordering.{is_eq}
use Rattle.edi_objects.proofs.AttributeLists.{borrowed_cmp}
use Rattle.edi_objects.proofs.attributes.are_alike.Goals as goal

pub returns : goal.returns
returns c = c.is_eq.ensures ∙ ap is_eq (c.cmp.ensures ∙ borrowed_cmp c.args.here.now c.args.there.now)
