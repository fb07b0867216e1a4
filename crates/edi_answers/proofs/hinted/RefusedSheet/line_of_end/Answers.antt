use Rattle.std.proofs.Common.{subst}
use Rattle.std.proofs.lemmas.Result.{IfOk-weaker}
use Rattle.edi_record.specs.Texts.{PointerText, shown}
use Rattle.edi_record.proofs.TextParts.{pointer_one}
use Rattle.edi_answers.specs.Effects.{inputs}
use Rattle.edi_answers.specs.Hinted.{IsElsewhereLine}
use Rattle.edi_answers.proofs.Answering.{paths_of}
use Rattle.edi_answers.proofs.hinted.RefusedSheet.line_of_end.Goals as goal

pub returns-in-Some : goal.returns-in-Some
returns-in-Some g c =
    let inputs = inputs g.F.Folder g.F.Reader.ByteIn c.args.self.now.folder.now in
    IfOk-weaker c.elsewhere_line.result _ _ (λ line h p k.
    subst (λ (q : PointerText). IsElsewhereLine inputs c.args.self.now.path.now q (paths_of c.args.self.now.siblings.now) line.items)
    (pointer_one c.args.end.now (shown c.in-Some.pointer) p c.in-Some.ensures k) h) c.elsewhere_line.ensures
