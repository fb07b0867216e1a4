use Rattle.std.proofs.Common.{◌∙◌, Bool, [], inl, subst, sym}
use Rattle.std.specs.Bool.{MatchBool}
use Rattle.edi_answers.specs.Effects.{effects, written}
use Rattle.edi_answers.specs.Statuses.{Prints}
use Rattle.edi_answers.proofs.Answering.{appends_nothing}
use Rattle.edi_deliveries.specs.Deliveries.{listings}
use Rattle.edi_deliveries.specs.Manifests.{IfAllFound, IsManifestPut, IsPrinted}
use Rattle.edi_deliveries.specs.inner.Opening.{opened_of}
use Rattle.edi_deliveries.proofs.manifests.manifest_of.Goals as goal

pub returns-clause-answer : goal.returns-clause-answer
returns-clause-answer g c =
    let run = effects g.F.Folder g.F.Reader.ByteIn g.F.Sink.ByteOut g.F.NewFile.ByteOut c.args.folder.now c.put.new.folder in
    let out = written g.O.ByteOut c.args.out.now c.args.out.now in
    let err = written g.E.ByteOut c.args.err.now c.put.new.err in
    let d = opened_of c.args.opened.now in
    let file = sym (sym c.is_standard.ensures ∙ c.if-is_standard.false) in
    record {
      answer = inl (
        d,
        c.requires,
        subst (λ (b : Bool). MatchBool b (run.untouched × IfAllFound run.inputs run.why c.args.kinds.now d (IsPrinted out) (Prints out []) err c.put.result)
            (Prints out [] × IsManifestPut run (listings g.F.Listing c.args.folder.now) c.args.kinds.now c.args.path.now c.args.file.now d err c.put.result)) file
            (appends_nothing (g.O.ByteOut.contents c.args.out.now), c.put.ensures.answer),
      );
      replaced = c.put.ensures.replaced;
    }
