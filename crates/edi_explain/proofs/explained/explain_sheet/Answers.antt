use Rattle.std.proofs.Common.{◌∙◌, ◌++◌, [], refl, subst, sym, append-nil}
use Rattle.std.proofs.lemmas.Result.{IfOk-weaker}
use Rattle.edi_compare.specs.Refused.{IsRefusal}
use Rattle.edi_compare.specs.declared.fault.Fault.{Fault}
use Rattle.edi_explain.specs.Found.{IsEarlierOf, IsEndNodeOf}
use Rattle.edi_explain.proofs.Phases.{line_least}
use Rattle.edi_explain.proofs.explained.explain_sheet.Goals as goal

pub explain_line-requires : goal.explain_line-requires
explain_line-requires c =
    line_least c.args.schema.now c.args.bytes.now c.in-Line.rule c.in-Line.at (subst (IsRefusal c.args.schema.now c.args.bytes.now) c.in-Line.is c.requires.0)

pub returns-in-Line : goal.returns-in-Line
returns-in-Line c = rw c.in-Line.is (IfOk-weaker c.explain_line.result _ _ (λ lines said. (lines.items, [], [], said, refl, refl, sym (append-nil (lines.items ++ []) ∙ append-nil lines.items))) c.explain_line.ensures)

pub explain_record-requires : goal.explain_record-requires
explain_record-requires c =
    let s = c.args.schema.now in
    let b = c.args.bytes.now in record {
      refusal = subst (IsRefusal s b) c.in-Entry.is c.requires.0;
      earlier = subst (λ (f : Fault). IsEarlierOf s b f c.args.found.now.earlier) c.in-Entry.is c.requires.1;
      node = subst (λ (f : Fault). IsEndNodeOf s b f c.args.found.now.node) c.in-Entry.is c.requires.2;
      zones = c.requires.3;
    }

pub returns-in-Entry : goal.returns-in-Entry
returns-in-Entry c = rw c.in-Entry.is c.explain_record.ensures
