use Rattle.std.proofs.Common.{◌≡◌, ◌∙◌, true, false, sym, ap}
use Rattle.std.specs.List.{list_any}
use Rattle.std.specs.Str.{bytes_eq, str_to_ascii_lowercase}
use Rattle.std.proofs.lemmas.Result.{err_from_is_err_and}
use Rattle.std.proofs.lemmas.Bool.{not-false, not-true}
use Rattle.edi_delivery.proofs.LotSteps.{if_rule}
use Rattle.edi_delivery.proofs.Repeats.{name_again, file_again, least_710, both_new, least_709}
use Rattle.edi_delivery.proofs.lots.LotsSoFar.take.Goals as goal

pub returns-then-not-branch-clause-least : goal.returns-then-not-branch-clause-least
returns-then-not-branch-clause-least c =
    let value : c.in_ok-lower_case.field-0 ≡ str_to_ascii_lowercase c.args.lot.name = c.in_ok-lower_case.ensures ∙ ap str_to_ascii_lowercase c.as_slice.ensures.bytes in
    let found : list_any (bytes_eq c.in_ok-lower_case.field-0) c.args.self.now.names.keys ≡ true = not-false _ (sym c.in_ok-insert.ensures.added ∙ c.if-not-branch.true) in
    least_709 c.args.self.now.lots.items c.args.lot
    (name_again c.args.self.now.names.keys c.args.self.now.lots.items c.args.lot c.requires.names ∙ (ap (λ t. list_any (bytes_eq t) c.args.self.now.names.keys) (sym value) ∙ found))

pub returns-in_err-note_files-clause-least : goal.returns-in_err-note_files-clause-least
returns-in_err-note_files-clause-least c =
    let value : c.in_ok-lower_case.field-0 ≡ str_to_ascii_lowercase c.args.lot.name = c.in_ok-lower_case.ensures ∙ ap str_to_ascii_lowercase c.as_slice.ensures.bytes in
    let none : list_any (bytes_eq c.in_ok-lower_case.field-0) c.args.self.now.names.keys ≡ false = not-true _ (sym c.in_ok-insert.ensures.added ∙ c.if-not-branch.false) in
    let p = err_from_is_err_and c.from_residual-in_err-note_files.result c.from_residual-in_err-note_files.ensures.1 in
    rw (p.1, p.2) (if_rule _ _ c.in_err-note_files.field-0.0 c.in_err-note_files.ensures.again
    (λ rule h. least_710 c.args.self.now.lots.items c.args.lot rule h.0
    (name_again c.args.self.now.names.keys c.args.self.now.lots.items c.args.lot c.requires.names ∙ (ap (λ t. list_any (bytes_eq t) c.args.self.now.names.keys) (sym value) ∙ none))
    (file_again c.args.self.now.files.keys c.args.self.now.lots.items c.args.lot c.requires.files ∙ h.1)))

pub returns-clause-sound : goal.returns-clause-sound
returns-clause-sound c =
    let value : c.in_ok-lower_case.field-0 ≡ str_to_ascii_lowercase c.args.lot.name = c.in_ok-lower_case.ensures ∙ ap str_to_ascii_lowercase c.as_slice.ensures.bytes in
    let none : list_any (bytes_eq c.in_ok-lower_case.field-0) c.args.self.now.names.keys ≡ false = not-true _ (sym c.in_ok-insert.ensures.added ∙ c.if-not-branch.false) in
    both_new c.args.self.now.lots.items c.args.lot
    (name_again c.args.self.now.names.keys c.args.self.now.lots.items c.args.lot c.requires.names ∙ (ap (λ t. list_any (bytes_eq t) c.args.self.now.names.keys) (sym value) ∙ none))
    (file_again c.args.self.now.files.keys c.args.self.now.lots.items c.args.lot c.requires.files ∙ c.in_ok-note_files.ensures.apart)
