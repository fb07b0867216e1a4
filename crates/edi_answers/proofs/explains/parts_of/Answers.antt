use Rattle.std.proofs.Common.{◌∙◌, List, ℕ, subst, sym}
use Rattle.std.proofs.lemmas.Result.{IfOk-weaker}
use Rattle.edi_schema.specs.Roles.{KindCodes}
use Rattle.edi_schema.specs.SchemaRefusal.{IsGoodSchema, IsSchemaRefusal}
use Rattle.edi_compare.specs.PlanOfFile.{IsPlanOfFile}
use Rattle.edi_compare.specs.Refused.{IsRefusal}
use Rattle.edi_compare.specs.Rules.{IsAccepted}
use Rattle.edi_explain.specs.ClassCounts.{DescribesSheet}
use Rattle.edi_explain.specs.Explained.{ExplainsSchema, ExplainsSheet}
use Rattle.edi_explain.specs.KindClasses.{codes_of}
use Rattle.edi_answers.proofs.Explaining.{accepted_said, schema_said, sheet_said}
use Rattle.edi_answers.proofs.explains.parts_of.Goals as goal

pub returns-in-Ok-examine : goal.returns-in-Ok-examine
returns-in-Ok-examine c =
    let kinds = c.args.kinds.now in
    let bytes = c.args.bytes.now in
    let s = c.in-Ok.schema in
    let good = subst (λ (d : List ℕ). IsGoodSchema bytes.scd.items d kinds s) c.deref-2.ensures.value
    (subst (λ (x : List ℕ). IsGoodSchema x c.deref-2.result.now kinds s) c.deref.ensures.value
    (subst (λ (k : KindCodes). IsGoodSchema c.deref.result.now c.deref-2.result.now k s) c.kinds.ensures c.in-Ok.ensures.schema)) in
    let p = c.in-Ok-examine.sound in
    let accepted = subst (λ (b : List ℕ). IsAccepted s b) c.deref-in-Ok.ensures.value c.in-Ok-examine.ensures.accepted in
    let plan = subst (λ (b : List ℕ). IsPlanOfFile s b p) c.deref-in-Ok.ensures.value c.in-Ok-examine.ensures.plan in
    IfOk-weaker c.parts_of_accepted.result _ _
    (λ parts h. accepted_said c.args.form kinds c.args.files.now bytes.scd.items bytes.dic.items bytes.vec.items parts.is_accepted parts.answer.items parts.words.items s good p accepted plan
    (h.0, h.1, subst (λ q. DescribesSheet s q parts.words.items) c.plan.ensures.plan h.2))
    c.parts_of_accepted.ensures

pub returns-in-Ok : goal.returns-in-Ok
returns-in-Ok c =
    let kinds = c.args.kinds.now in
    let bytes = c.args.bytes.now in
    let s = c.in-Ok.schema in
    let good = subst (λ (d : List ℕ). IsGoodSchema bytes.scd.items d kinds s) c.deref-2.ensures.value
    (subst (λ (x : List ℕ). IsGoodSchema x c.deref-2.result.now kinds s) c.deref.ensures.value
    (subst (λ (k : KindCodes). IsGoodSchema c.deref.result.now c.deref-2.result.now k s) c.kinds.ensures c.in-Ok.ensures.schema)) in
    let f = c.in-Err-examine.found.fault in
    let refusal = subst (λ (b : List ℕ). IsRefusal s b f) c.deref-in-Ok.ensures.value c.in-Err-examine.ensures.found.0 in
    IfOk-weaker c.parts_of_sheet.result _ _
    (λ parts h. sheet_said c.args.form kinds c.args.files.now bytes.scd.items bytes.dic.items bytes.vec.items parts.is_accepted parts.answer.items parts.words.items s good f
    c.input_name.result.now c.input_name.ensures refusal
    (h.0, h.1, h.2, subst (λ (b : List ℕ). ExplainsSheet s b c.input_name.result.now f parts.words.items) c.deref-in-Err-examine.ensures.value h.3))
    c.parts_of_sheet.ensures

pub parts_of_schema-requires : goal.parts_of_schema-requires
parts_of_schema-requires c =
    let bytes = c.args.bytes.now in
    let kinds = codes_of c.codes.result.now in
    let f = c.in-Err.fault in
    subst (λ (d : List ℕ). IsSchemaRefusal c.deref-in-Err.result.now d kinds f) (c.deref-2.ensures.value ∙ sym c.deref-in-Err-2.ensures.value)
    (subst (λ (x : List ℕ). IsSchemaRefusal x c.deref-2.result.now kinds f) (c.deref.ensures.value ∙ sym c.deref-in-Err.ensures.value)
    (subst (λ (k : KindCodes). IsSchemaRefusal c.deref.result.now c.deref-2.result.now k f) (c.kinds.ensures ∙ sym c.codes.ensures) c.in-Err.ensures.refusal))

pub returns : goal.returns
returns c =
    let kinds = c.args.kinds.now in
    let bytes = c.args.bytes.now in
    let f = c.in-Err.fault in
    let refusal = subst (λ (d : List ℕ). IsSchemaRefusal bytes.scd.items d kinds f) c.deref-2.ensures.value
    (subst (λ (x : List ℕ). IsSchemaRefusal x c.deref-2.result.now kinds f) c.deref.ensures.value
    (subst (λ (k : KindCodes). IsSchemaRefusal c.deref.result.now c.deref-2.result.now k f) c.kinds.ensures c.in-Err.ensures.refusal)) in
    let x = c.input_name-in-Err.result.now in
    let y = c.input_name-in-Err-2.result.now in
    IfOk-weaker c.parts_of_schema.result _ _
    (λ parts h. schema_said c.args.form kinds c.args.files.now bytes.scd.items bytes.dic.items bytes.vec.items parts.is_accepted parts.answer.items parts.words.items f x y
    c.input_name-in-Err.ensures c.input_name-in-Err-2.ensures refusal (
      h.0,
      h.1,
      h.2,
      subst (λ (d : List ℕ). ExplainsSchema kinds bytes.scd.items d x y f parts.words.items) c.deref-in-Err-2.ensures.value
          (subst (λ (e : List ℕ). ExplainsSchema kinds e c.deref-in-Err-2.result.now x y f parts.words.items) c.deref-in-Err.ensures.value
          (subst (λ (k : KindCodes). ExplainsSchema k c.deref-in-Err.result.now c.deref-in-Err-2.result.now x y f parts.words.items) c.codes.ensures h.3)),
    ))
    c.parts_of_schema.ensures
