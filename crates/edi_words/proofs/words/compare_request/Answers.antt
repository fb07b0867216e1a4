use Rattle.std.proofs.Common.{◌∙◌, sym, refl, ap}
use Rattle.clap.specs.Words.{found_of, rows_of}
use Rattle.clap.proofs.WalkLemmas.{first_value-rows}
use Rattle.edi_words.specs.Requests.{is_standard_path}
use Rattle.edi_words.proofs.words.compare_request.Goals as goal

pub returns : goal.returns
returns c = λ give. (
  rows_of (found_of c.args.given.now),
  refl,
  give,
  c.pair_files.ensures,
  (
    c.get_str.ensures ∙ first_value-rows (found_of c.args.given.now) _,
    ap is_standard_path (sym c.path.ensures) ∙ (sym c.is_standard.ensures ∙ c.if-is_standard.false),
  ),
  c.flag.ensures,
)
