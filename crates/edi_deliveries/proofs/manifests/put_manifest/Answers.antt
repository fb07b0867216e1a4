use Rattle.std.proofs.Common.{inr, refl, subst}
use Rattle.edi_files.proofs.Steps.{stays}
use Rattle.edi_answers.proofs.Answering.{appends_nothing}
use Rattle.edi_answers.specs.Effects.{effects, written}
use Rattle.edi_deliveries.specs.Deliveries.{OpensNone, listings}
use Rattle.edi_deliveries.specs.Manifests.{IsManifestStatus}
use Rattle.edi_deliveries.proofs.There.{manifest_there, none_opened}
use Rattle.edi_deliveries.proofs.manifests.put_manifest.Goals as goal

pub returns-in-Ok-clause-made : goal.returns-in-Ok-clause-made
returns-in-Ok-clause-made g c = λ zero.
    let run = effects g.F.Folder g.F.Reader.ByteIn g.F.Sink.ByteOut g.F.NewFile.ByteOut c.args.folder.now c.manifest_of.new.folder in
    let out = written g.O.ByteOut c.args.out.now c.manifest_of.new.out in
    let err = written g.E.ByteOut c.open_delivery.new.err c.manifest_of.new.err in
    manifest_there run (listings g.F.Listing c.args.folder.now) c.args.kinds.now c.args.path.now c.args.file.now out err
    (subst (λ s. IsManifestStatus run (listings g.F.Listing c.args.folder.now) c.args.kinds.now c.args.path.now c.args.file.now out err s) zero c.manifest_of.ensures.answer)

pub returns-in-Err-clause-answer : goal.returns-in-Err-clause-answer
returns-in-Err-clause-answer g c = record {
  answer = inr (c.in-Err.ensures.err.1, refl, appends_nothing (g.O.ByteOut.contents c.args.out.now));
  replaced = λ tells. stays _ _ _;
}

pub returns-in-Err-clause-made : goal.returns-in-Err-clause-made
returns-in-Err-clause-made g c = λ zero.
    let run = effects g.F.Folder g.F.Reader.ByteIn g.F.Sink.ByteOut g.F.NewFile.ByteOut c.args.folder.now c.args.folder.now in
    let listings = listings g.F.Listing c.args.folder.now in
    let err = written g.E.ByteOut c.args.err.now c.open_delivery.new.err in
    absurd (none_opened run listings c.args.path.now err (subst (λ s. OpensNone run listings c.args.path.now err s) zero c.in-Err.ensures.err.1))
