use Rattle.std.proofs.Common.{◌∙◌}
use Rattle.clap.specs.Words.{found_of}
use Rattle.clap.proofs.WalkLemmas.{one_text-rows}
use Rattle.edi_words.proofs.words.flag.Goals as goal

pub returns : goal.returns
returns c =
    let is = one_text-rows (found_of c.args.given.now) c.args.name.now in (
      (λ e. c.get_flag.ensures.none (is ∙ e)),
      (λ e. c.get_flag.ensures.value (is ∙ e)),
      (λ e. c.get_flag.ensures.other (is ∙ e)),
    )
