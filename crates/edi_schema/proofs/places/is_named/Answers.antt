use Rattle.std.proofs.Common.{rules, ◌∙◌, sym}
use Rattle.std.proofs.lemmas.Iterator.{YieldsList-from_slice}
use Rattle.std.proofs.lemmas.Iterator.Search.{any_from_yields_List}
use Rattle.edi_schema.specs.Classes.{is_pointable}
use Rattle.edi_schema.specs.inner.Drafts.{drafted}
use Rattle.edi_schema.proofs.Pointable.{any_of_map}
use Rattle.edi_schema.proofs.places.is_named.Goals as goal

pub returns : goal.returns
returns c =
    any_from_yields_List (λ d. is_pointable c.args.role (drafted d)) _ _ c.any.result c.any.ensures.ran (YieldsList-from_slice c.args.classes.now cc) (λ x b q k. search rules)
    ∙ sym (any_of_map (is_pointable c.args.role) drafted c.args.classes.now)
