use Rattle.std.proofs.Common.{◌≡◌, Ok, ap, codes, refl}
use Rattle.clap.specs.Words.{app_of, new_app}
use Rattle.edi_words.specs.Requests.{canon_command, changed_command, check_command, compare_command, delivery_command, diff_command, draw_command, explain_command, hash_command, verify_command, versioned}
use Rattle.edi_words.proofs.Plain.{subcommand_added}
use Rattle.edi_words.proofs.command_line.command.Goals as goal

pub returns : goal.returns
returns c =
    let bare : app_of c.after_help-bare.result ≡ versioned (new_app (codes "edicad")) =
    rw (c.after_help-bare.ensures, c.about.ensures, c.version.ensures) (ap versioned c.new.ensures.app) in
    let with_check = subcommand_added (Ok c.after_help-bare.result) c.check_command.result c.with_subcommand-with_check.result _ check_command refl bare c.check_command.ensures c.with_subcommand-with_check.ensures in
    let with_canon = subcommand_added c.with_subcommand-with_check.result c.canon_command.result c.with_subcommand-with_canon.result _ canon_command refl with_check c.canon_command.ensures c.with_subcommand-with_canon.ensures in
    let with_compare = subcommand_added c.with_subcommand-with_canon.result c.compare_command.result c.with_subcommand-with_compare.result _ compare_command refl with_canon c.compare_command.ensures c.with_subcommand-with_compare.ensures in
    let with_hash = subcommand_added c.with_subcommand-with_compare.result c.hash_command.result c.with_subcommand-with_hash.result _ hash_command refl with_compare c.hash_command.ensures c.with_subcommand-with_hash.ensures in
    let with_explain = subcommand_added c.with_subcommand-with_hash.result c.explain_command.result c.with_subcommand-with_explain.result _ explain_command refl with_hash c.explain_command.ensures c.with_subcommand-with_explain.ensures in
    let with_verify = subcommand_added c.with_subcommand-with_explain.result c.verify_command.result c.with_subcommand-with_verify.result _ verify_command refl with_explain c.verify_command.ensures c.with_subcommand-with_verify.ensures in
    let with_diff = subcommand_added c.with_subcommand-with_verify.result c.diff_command.result c.with_subcommand-with_diff.result _ diff_command refl with_verify c.diff_command.ensures c.with_subcommand-with_diff.ensures in
    let with_draw = subcommand_added c.with_subcommand-with_diff.result c.draw_command.result c.with_subcommand-with_draw.result _ draw_command refl with_diff c.draw_command.ensures c.with_subcommand-with_draw.ensures in
    let with_delivery = subcommand_added c.with_subcommand-with_draw.result c.delivery_command.result c.with_subcommand-with_delivery.result _ delivery_command refl with_draw c.delivery_command.ensures c.with_subcommand-with_delivery.ensures in
    subcommand_added c.with_subcommand-with_delivery.result c.changed_command.result c.with_subcommand.result _ changed_command refl with_delivery c.changed_command.ensures c.with_subcommand.ensures
