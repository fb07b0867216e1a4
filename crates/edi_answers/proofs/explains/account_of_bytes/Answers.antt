use Rattle.std.proofs.Common.{◌∙◌, ◌++◌, Bool, ap, subst, sym}
use Rattle.std.proofs.lemmas.Result.{IfOk-weaker}
use Rattle.std.specs.Bool.{MatchBool}
use Rattle.edi_answers.specs.Explains.{TellsAccepted, TellsRefusal}
use Rattle.edi_answers.proofs.Explaining.{all_reported, lines_hold}
use Rattle.edi_answers.proofs.explains.account_of_bytes.Goals as goal

pub lines_behind-requires : goal.lines_behind-requires
lines_behind-requires c =
    let bytes = c.args.bytes.now in
    let parts = c.in_ok-parts.parts in
    lines_hold c.args.form c.args.kinds.now c.args.files.now bytes.scd.items bytes.dic.items bytes.vec.items parts.is_accepted parts.answer.items parts.words.items c.in_ok-parts.ensures

pub returns : goal.returns
returns c =
    let bytes = c.args.bytes.now in
    let form = c.args.form in
    let kinds = c.args.kinds.now in
    let files = c.args.files.now in
    let parts = c.in_ok-parts.parts in
    let words = parts.words.items in
    let all = c.extend_from_slice.new.self.items in
    let is = c.in_ok-extend_from_slice.ensures.items ∙ ap (λ l. words ++ l) c.deref.ensures.value in
    IfOk-weaker c.put_together.result _ _ (λ said h.
    subst (λ (a : Bool). MatchBool a (TellsAccepted form kinds files bytes.scd.items bytes.dic.items bytes.vec.items said.text.items)
    (TellsRefusal form kinds files bytes.scd.items bytes.dic.items bytes.vec.items said.text.items)) (sym h.0)
    (all_reported form kinds files bytes.scd.items bytes.dic.items bytes.vec.items parts.is_accepted parts.answer.items words c.in_ok-lines.lines.items all said.text.items
    c.in_ok-parts.ensures c.in_ok-lines.ensures is h.1 h.2)) c.put_together.ensures
