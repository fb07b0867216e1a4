use Rattle.std.proofs.Common.{◌∙◌, ◌++◌, List, ℕ, ap, sym, subst}
use Rattle.edi_line.specs.LineRules.{BreaksLineRule}
use Rattle.edi_line.specs.Refusal.{IsUnbroken}
use Rattle.edi_explain.specs.KindClasses.{codes_of}
use Rattle.edi_answers.proofs.Explaining.{rest_said}
use Rattle.edi_answers.proofs.explains.rest_of_accepted.Goals as goal

pub describe_kinds-requires : goal.describe_kinds-requires
describe_kinds-requires c = subst (λ (b : List ℕ). IsUnbroken (BreaksLineRule b)) (sym c.deref.ensures.value) c.requires.scd

pub describe_skipped-requires : goal.describe_skipped-requires
describe_skipped-requires c = subst (λ (b : List ℕ). IsUnbroken (BreaksLineRule b)) (sym c.deref-2.ensures.value) c.requires.vec

pub returns : goal.returns
returns c =
    let bytes = c.args.bytes.now in
    let classes = c.in_ok-lines.lines.items in
    let skipped = c.in_ok-skipped.skipped.items in
    rest_said c.args.kinds.now (codes_of c.codes.result.now) c.args.files.now bytes.scd.items bytes.vec.items c.input_name.result.now c.deref.result.now c.deref-2.result.now
    classes skipped _ c.codes.ensures c.input_name.ensures c.deref.ensures.value c.deref-2.ensures.value c.in_ok-lines.ensures c.in_ok-skipped.ensures
    (c.in_ok-extend_from_slice.ensures.items ∙ ap (λ (l : List ℕ). classes ++ l) c.deref-3.ensures.value)
