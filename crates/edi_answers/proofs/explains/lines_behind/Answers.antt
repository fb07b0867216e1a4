use Rattle.std.proofs.Common.{Bool, sym, subst}
use Rattle.std.proofs.lemmas.Result.{IfOk-weaker}
use Rattle.std.specs.Bool.{MatchBool}
use Rattle.edi_answers.specs.Explains.{DescribesRest, GiveHints}
use Rattle.edi_answers.proofs.Explaining.{hints_named}
use Rattle.edi_answers.proofs.explains.lines_behind.Goals as goal

pub rest_of_accepted-requires : goal.rest_of_accepted-requires
rest_of_accepted-requires c = let h = c.requires c.if-is_accepted.true in record { scd = h.0; vec = h.1 }

pub returns-then-is_accepted : goal.returns-then-is_accepted
returns-then-is_accepted c =
    let bytes = c.args.bytes.now in
    IfOk-weaker c.rest_of_accepted.result _ _ (λ lines h.
    subst (λ (a : Bool). MatchBool a (DescribesRest c.args.kinds.now c.args.files.now bytes.scd.items bytes.vec.items lines.items)
    (GiveHints c.args.files.now bytes.scd.items bytes.dic.items bytes.vec.items lines.items)) (sym c.if-is_accepted.true) h) c.rest_of_accepted.ensures

pub returns : goal.returns
returns c =
    let bytes = c.args.bytes.now in
    IfOk-weaker c.hints_of.result _ _ (λ lines h.
    subst (λ (a : Bool). MatchBool a (DescribesRest c.args.kinds.now c.args.files.now bytes.scd.items bytes.vec.items lines.items)
    (GiveHints c.args.files.now bytes.scd.items bytes.dic.items bytes.vec.items lines.items)) (sym c.if-is_accepted.false)
    (hints_named c.args.files.now bytes.scd.items bytes.dic.items bytes.vec.items _ _ _ _ _ _ lines.items c.input_name.ensures c.deref.ensures.value c.input_name-2.ensures c.deref-2.ensures.value
    c.input_name-3.ensures c.deref-3.ensures.value h)) c.hints_of.ensures
