use Rattle.edi_line.specs.FileBytes.{file_bytes}
use Rattle.edi_report.proofs.sheet.locate_from.Goals as goal

pub returns-in-Ok : goal.returns-in-Ok
returns-in-Ok c =
    let is = c.in-Ok.ensures c.args.schema.now (file_bytes c.args.bytes) c.in_ok-packed.ensures.packed in
    record { accepted = is.accepted; plan = is.located.plan; classes = is.classes; sites = is.located.sites; all = is.all; refusal = tt }
