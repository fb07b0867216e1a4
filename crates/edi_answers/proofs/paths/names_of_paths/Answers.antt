use Rattle.std.proofs.Common.{◌∙◌, ◌-◌, length, take, ap, refl, arith}
use Rattle.edi_outcome.specs.Words.{texts}
use Rattle.edi_answers.proofs.Names.{with_output}
use Rattle.edi_answers.proofs.paths.names_of_paths.Goals as goal

pub returns : goal.returns
returns c =
    let paths = c.args.paths.now in
    ap texts c.in_ok-push-2.ensures.items ∙ with_output paths c.loop-path.names.items (take (length paths - 1) paths) c.loop-path.path-index _ _ (omega arith) refl (omega arith) c.loop-path.invariant c.output_name.ensures
