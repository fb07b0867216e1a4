use Rattle.std.proofs.Common.{◌++◌, ◌∙◌, ap, sym, map-id}
use Rattle.std.proofs.lemmas.Iterator.{YieldsList-from_chars}
use Rattle.std.proofs.lemmas.Iterator.Consumers.{YieldsList-end}
use Rattle.std.specs.List.{flat_map}
use Rattle.edi_shown.specs.Shown.{shown_char}
use Rattle.edi_shown.proofs.shown.push_text.Goals as goal

pub returns : goal.returns
returns c =
    let done = YieldsList-end (YieldsList-from_chars c.args.name.now c.utf8.name cc) c.loop-c.yielded _ c.loop-c.yielded_by _ _ c.in-None.is c.next.ensures.steps in
    c.loop-c.invariant ∙ ap (λ cs. c.args.text.now.items ++ flat_map shown_char cs) (sym (map-id c.loop-c.yielded) ∙ done.0)
