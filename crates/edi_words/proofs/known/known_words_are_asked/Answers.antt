use Rattle.std.proofs.Common.{refl}
use Rattle.clap.proofs.OnLiterals.{clap_on_literals}
use Rattle.edi_words.proofs.known.known_words_are_asked.Goals as goal

pub returns : goal.returns
unfolding clap_on_literals
returns c = record {
  bundle = refl;
  check = refl;
  canon = refl;
  compare = refl;
  hash = refl;
  all_sheets = refl;
  all_asked = refl;
  first_asked = refl;
  no_sheets = refl;
  with_schema = refl;
  without_schema = refl;
  list = refl;
  no_list = refl;
  delivery = refl;
  manifest = refl;
  manifest_check = refl;
  changed = refl;
  explain = refl;
  rules = refl;
  rule = refl;
  verify = refl;
  pairing_checked = refl;
  pairing_written = refl;
  diff = refl;
  whole = refl;
  brief = refl;
  by_objects = refl;
  by_records = refl;
  as_json = refl;
  check_as_json = refl;
  check_as_words = refl;
  compare_as_json = refl;
  hash_as_json = refl;
  hash_as_words = refl;
  explain_as_json = refl;
  explain_as_words = refl;
  verify_as_json = refl;
  named_by = refl;
  as_text = refl;
  drawn = refl;
  picture = refl;
  no_picture = refl;
  sound = refl;
  no_path = refl;
  no_after = refl;
  no_drawing = refl;
  no_dictionary = refl;
  help = refl;
  version = refl;
  lacking = refl;
  unknown = refl;
}
