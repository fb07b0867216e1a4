use Rattle.std.proofs.Common.{List, codes, inl, inr, subst}
use Rattle.edi_manifest.specs.ManifestText.{IsNoManifest}
use Rattle.edi_manifest.specs.declared.line.ManifestLine.{ManifestLine}
use Rattle.edi_answers.specs.Effects.{effects, written}
use Rattle.edi_answers.proofs.Answering.{appends_nothing}
use Rattle.edi_changes.proofs.LackTold.{lack_told}
use Rattle.edi_deliveries.specs.Checks.{IsHeldAgainst}
use Rattle.edi_deliveries.specs.Deliveries.{listings}
use Rattle.edi_deliveries.proofs.checks.check_manifest.Goals as goal

pub returns-in-Ok-clause-answer : goal.returns-in-Ok-clause-answer
returns-in-Ok-clause-answer g c =
    let run = effects g.F.Folder g.F.Reader.ByteIn g.F.Sink.ByteOut g.F.NewFile.ByteOut c.args.folder.now c.args.folder.now in
    let listings = listings g.F.Listing c.args.folder.now in
    let out = written g.O.ByteOut c.args.out.now c.check_against.new.out in
    let err = written g.E.ByteOut c.args.err.now c.check_against.new.err in
    inl (
      c.in-Ok.known.items,
      c.in-Ok.ensures.ok,
      subst (λ (lines : List ManifestLine). IsHeldAgainst run listings c.args.kinds.now lines c.args.path.now out err c.check_against.result)
          c.deref.ensures.value c.check_against.ensures.answer,
    )

pub returns-in-Err-clause-answer : goal.returns-in-Err-clause-answer
returns-in-Err-clause-answer g c =
    let run = effects g.F.Folder g.F.Reader.ByteIn g.F.Sink.ByteOut g.F.NewFile.ByteOut c.args.folder.now c.args.folder.now in
    let err = written g.E.ByteOut c.args.err.now c.tell_lack.new.err in
    inr (
      lack_told IsNoManifest (codes "no manifest") run err c.args.manifest.now c.in-Err.lack c.tell_lack.result c.in-Err.ensures.err c.tell_lack.ensures.told,
      appends_nothing (g.O.ByteOut.contents c.args.out.now),
    )
