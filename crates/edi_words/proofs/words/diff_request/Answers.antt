use Rattle.std.proofs.Common.{◌∙◌, sym, refl, ap}
use Rattle.clap.specs.Words.{found_of, rows_of}
use Rattle.clap.proofs.WalkLemmas.{first_value-rows}
use Rattle.edi_words.specs.Requests.{is_standard_path}
use Rattle.edi_words.proofs.words.diff_request.Goals as goal

pub returns : goal.returns
returns c = λ give. (
  rows_of (found_of c.args.given.now),
  refl,
  give,
  c.pair_files.ensures,
  c.flag.ensures,
  c.flag-2.ensures,
  c.flag-3.ensures,
  c.get_str.ensures ∙ first_value-rows (found_of c.args.given.now) _,
  (
    c.get_str-2.ensures ∙ first_value-rows (found_of c.args.given.now) _,
    ap is_standard_path (sym c.path.ensures) ∙ (sym c.is_standard.ensures ∙ c.if-is_standard.false),
  ),
)
