use Rattle.std.proofs.lemmas.Result.{on_ok_weaker}
use Rattle.edi_answers.proofs.Bundles.{standard_fault}
use Rattle.edi_answers.proofs.Faults.{if_err_map}
use Rattle.edi_answers.proofs.sheets.bundle.Goals as goal

pub returns-clause-ok : goal.returns-clause-ok
returns-clause-ok g c =
    on_ok_weaker c.run_bundle.result (λ h. (g.F.Reader.ByteIn.contents c.input-input.result, c.input-input.ensures.contents, h)) (rw c.usual.ensures at c.run_bundle.ensures.ok)

pub returns-clause-err : goal.returns-clause-err
returns-clause-err g c =
    let reader = g.F.Reader.ByteIn in
    let input = c.input-input.result in
    let opened = c.input-input.ensures in
    if_err_map c.run_bundle.result _ _
    (λ e h. (reader.contents input, opened.contents, standard_fault g.F.Folder reader c.args.folder.now input c.run_bundle.new.reader _ opened.device e h))
    (rw c.usual.ensures at c.run_bundle.ensures.err)
