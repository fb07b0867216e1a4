use Rattle.std.proofs.Common.{List, ℕ, arith, subst}
use Rattle.edi_schema.specs.SchemaRefusal.{IsGoodSchema}
use Rattle.edi_compare.specs.Runs.{MatchFault, RefusesSchema, seen}
use Rattle.edi_compare.proofs.Refusals.{err_kept}
use Rattle.edi_answers.specs.Effects.{inputs}
use Rattle.edi_answers.specs.Hashes.{LoadFault, escaped_name}
use Rattle.edi_answers.specs.Notes.{IsNote}
use Rattle.edi_answers.proofs.Faults.{failed_at, schema_input_fault}
use Rattle.edi_answers.proofs.Kept.{one_known}
use Rattle.edi_answers.proofs.Loading.{both_known, schema_fault}
use Rattle.edi_answers.proofs.Noted.{note_names_kinds}
use Rattle.edi_answers.proofs.hashes.load_schema.Goals as goal

pub returns-in-Ok-clause-ok : goal.returns-in-Ok-clause-ok
returns-in-Ok-clause-ok g c =
    let contents = g.F.Reader.ByteIn.contents in
    let kinds = c.args.kinds.now in
    let s = c.in-Ok.noted.schema in
    let note = c.in-Ok.noted.note.items in
    let name = escaped_name c.args.files.now.scd.now in (
      contents c.in_ok-scd.scd,
      contents c.in_ok-dic.dic,
      c.in_ok-scd.ensures.ok,
      c.in_ok-dic.ensures.ok,
      both_known (contents c.in_ok-scd.scd) (contents c.in_ok-dic.dic) c.in_ok-scd-2.scd.items c.in_ok-dic-2.dic.items (λ x y. IsGoodSchema x y kinds s)
          c.in_ok-scd-2.ensures.all c.in_ok-dic-2.ensures.all
          (subst (λ (d : List ℕ). IsGoodSchema c.in_ok-scd-2.scd.items d kinds s) c.deref-2.ensures.value
          (subst (λ (x : List ℕ). IsGoodSchema x c.deref-2.result.now kinds s) c.deref.ensures.value c.in-Ok.ensures.ok.0)),
      note_names_kinds kinds c.deref.result.now name note c.in-Ok.ensures.ok.1,
      one_known (contents c.in_ok-scd.scd) c.in_ok-scd-2.scd.items (λ x. IsNote kinds x name note) c.in_ok-scd-2.ensures.all
          (subst (λ (x : List ℕ). IsNote kinds x name note) c.deref.ensures.value c.in-Ok.ensures.ok.1),
    )

pub returns-clause-err : goal.returns-clause-err
returns-clause-err g c =
    let contents = g.F.Reader.ByteIn.contents in
    let kinds = c.args.kinds.now in
    let e = c.in-Err.fault in
    schema_fault (inputs g.F.Folder g.F.Reader.ByteIn c.args.folder.now) kinds c.args.files.now (contents c.in_ok-scd.scd) (contents c.in_ok-dic.dic) c.in_ok-scd-2.scd.items c.in_ok-dic-2.dic.items
    c.in_ok-scd.ensures.ok c.in_ok-dic.ensures.ok c.in_ok-scd-2.ensures.all c.in_ok-dic-2.ensures.all e
    (subst (λ (d : List ℕ). MatchFault e (λ _. ⊥) (λ _. ⊥) (RefusesSchema kinds c.in_ok-scd-2.scd.items d) (λ _. ⊥) (λ _. ⊥) (λ _. ⊥)) c.deref-2.ensures.value
    (subst (λ (x : List ℕ). MatchFault e (λ _. ⊥) (λ _. ⊥) (RefusesSchema kinds x c.deref-2.result.now) (λ _. ⊥) (λ _. ⊥) (λ _. ⊥)) c.deref.ensures.value c.in-Err.ensures.err))

pub returns-in_err-scd-2-clause-err : goal.returns-in_err-scd-2-clause-err
returns-in_err-scd-2-clause-err g c =
    let reader = g.F.Reader.ByteIn in
    let folder = c.args.folder.now in
    let inputs = inputs g.F.Folder reader folder in
    let kinds = c.args.kinds.now in
    let files = c.args.files.now in
    err_kept _ c.in_err-scd-2.field-0.0 (LoadFault inputs kinds files) c.from_residual-in_err-scd-2.ensures.1
    (schema_input_fault inputs kinds files (reader.contents c.in_ok-scd.scd, c.in_ok-scd.ensures.ok) (reader.contents c.in_ok-dic.dic, c.in_ok-dic.ensures.ok)
    1 (omega arith) (omega arith) (seen reader c.in_ok-scd.scd c.read_input.new.reader) c.in_ok-scd.ensures.ok
    (failed_at g.F.Folder reader folder files.scd.now c.in_ok-scd.scd c.read_input.new.reader c.in_ok-scd.ensures.device) c.in_err-scd-2.field-0.0 c.in_err-scd-2.ensures.err)

pub returns-in_err-dic-2-clause-err : goal.returns-in_err-dic-2-clause-err
returns-in_err-dic-2-clause-err g c =
    let reader = g.F.Reader.ByteIn in
    let folder = c.args.folder.now in
    let inputs = inputs g.F.Folder reader folder in
    let kinds = c.args.kinds.now in
    let files = c.args.files.now in
    err_kept _ c.in_err-dic-2.field-0.0 (LoadFault inputs kinds files) c.from_residual-in_err-dic-2.ensures.1
    (schema_input_fault inputs kinds files (reader.contents c.in_ok-scd.scd, c.in_ok-scd.ensures.ok) (reader.contents c.in_ok-dic.dic, c.in_ok-dic.ensures.ok)
    2 (omega arith) (omega arith) (seen reader c.in_ok-dic.dic c.read_input-2.new.reader) c.in_ok-dic.ensures.ok
    (failed_at g.F.Folder reader folder files.dic.now c.in_ok-dic.dic c.read_input-2.new.reader c.in_ok-dic.ensures.device) c.in_err-dic-2.field-0.0 c.in_err-dic-2.ensures.err)
