use Rattle.std.proofs.Common.{ℕ, List, MatchOption, None, Option, Some, subst}
use Rattle.std.specs.Global.{Vec}
use Rattle.std.proofs.lemmas.Result.{IfOk-weaker}
use Rattle.edi_answers.specs.Effects.{inputs}
use Rattle.edi_answers.specs.Hinted.{AreSheetHints, IsReadAgain}
use Rattle.edi_answers.proofs.Answering.{paths_of}
use Rattle.edi_answers.proofs.hinted.RefusedSheet.hints_at_path.Goals as goal

pub returns-in-Some : goal.returns-in-Some
returns-in-Some g c =
    let inputs = inputs g.F.Folder g.F.Reader.ByteIn c.args.self.now.folder.now in
    let path = c.args.self.now.path.now in
    let read : IsReadAgain inputs path (Some c.in-Some.bytes.items) =
    subst (λ (o : Option (Vec ℕ)). MatchOption o (IsReadAgain inputs path None) (λ v. IsReadAgain inputs path (Some v.items))) c.in-Some.is c.in_ok-bytes.ensures in
    IfOk-weaker c.sheet_hints.result _ _ (λ lines h. (
      Some c.in-Some.bytes.items,
      read,
      subst (λ (b : List ℕ). AreSheetHints inputs (paths_of c.args.self.now.siblings.now) c.args.fault.now path b lines.items) c.deref.ensures.value h,
    )) c.sheet_hints.ensures
