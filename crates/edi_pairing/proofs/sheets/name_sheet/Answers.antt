use Rattle.std.proofs.Common.{sym, subst, ◌∙◌}
use Rattle.edi_line.specs.FileBytes.{file_bytes}
use Rattle.edi_pairing.specs.Names.{AreNames, AreNamesOf}
use Rattle.edi_pairing.proofs.NamesTaken.{names_keep, names_taken}
use Rattle.edi_pairing.proofs.sheets.name_sheet.Goals as goal

pub of-names-requires : goal.of-names-requires
of-names-requires c =
    let h = c.in_ok-accepted.ensures in
    subst AreNames (sym c.into_vec.ensures) (names_keep c.args.schema.now (file_bytes c.args.bytes) c.in_ok-accepted.accepted c.in_ok-accepted.taken h.plan h.other h.accepted c.keeps.ensures.short)

pub returns-clause-sheet : goal.returns-clause-sheet
returns-clause-sheet c =
    let h = c.in_ok-accepted.ensures in
    let b = file_bytes c.args.bytes in
    record {
      accepted = h.accepted;
      plan = h.plan;
      held = h.held;
      classes = h.classes;
      names = subst (AreNamesOf b) (sym (c.of-names.ensures ∙ c.into_vec.ensures)) (names_taken c.args.schema.now b c.in_ok-accepted.accepted c.in_ok-accepted.taken h.plan h.other);
    }
