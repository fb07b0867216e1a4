use Rattle.std.proofs.Common.{rules, ◌∙◌, sym}
use Rattle.std.proofs.lemmas.Iterator.{YieldsList-from_slice}
use Rattle.std.proofs.lemmas.Iterator.Search.{any_from_yields_List}
use Rattle.edi_line.specs.ZoneData.{entry, has_code}
use Rattle.edi_schema.proofs.Pointable.{any_of_map}
use Rattle.edi_explain.proofs.breaking.has.Goals as goal

pub returns : goal.returns
returns c =
    any_from_yields_List (λ z. has_code c.args.code (entry z)) _ _ c.any.result c.any.ensures.ran (YieldsList-from_slice c.args.zones.now cc) (λ x b q k. search rules)
    ∙ sym (any_of_map (has_code c.args.code) entry c.args.zones.now)
