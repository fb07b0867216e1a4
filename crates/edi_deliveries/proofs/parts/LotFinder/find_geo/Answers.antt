use Rattle.std.proofs.Common.{ℕ, List, inr, refl, subst}
use Rattle.edi_answers.specs.Effects.{inputs, written}
use Rattle.edi_deliveries.specs.Found.{IsBytesAnswer}
use Rattle.edi_delivery.specs.NameParts.{file_name}
use Rattle.edi_delivery.specs.declared.file_name.Extension.TheVariants.{Geo}
use Rattle.edi_manifest.specs.declared.line.Digested.TheVariants.{Coordinates}
use Rattle.edi_deliveries.specs.inner.Finding.{IsPartThere, placed_of}
use Rattle.edi_deliveries.proofs.FoundParts.{file_missing, file_there}
use Rattle.edi_deliveries.proofs.FoundSteps.{none_added}
use Rattle.edi_deliveries.proofs.parts.LotFinder.find_geo.Goals as goal

pub returns-in-Ok-Some-clause-found : goal.returns-in-Ok-Some-clause-found
returns-in-Ok-Some-clause-found g c =
    let inputs = inputs g.F.Folder g.F.Reader.ByteIn c.args.self.now.folder.now in
    let at = placed_of c.args.self.now in
    let name = file_name at.lot.name Geo c.args.own.now in
    let are = subst (IsPartThere at name) c.in-Ok-Some.field-0-is c.in-Ok-Some.ensures in
    let came = subst (λ (path : List ℕ). IsBytesAnswer inputs path c.digest_of_bytes-answer.result) c.deref.ensures c.digest_of_bytes-answer.ensures in
    file_there inputs (g.F.Folder.why c.args.self.now.folder.now) at name Coordinates (IsBytesAnswer inputs) (written g.E.ByteOut c.args.err.now c.add_part.new.err)
    c.add_part.result _ _ c.in-Ok-Some.part c.digest_of_bytes-answer.result are came c.add_part.ensures.found

pub returns-in-Ok-None-clause-found : goal.returns-in-Ok-None-clause-found
returns-in-Ok-None-clause-found g c =
    let inputs = inputs g.F.Folder g.F.Reader.ByteIn c.args.self.now.folder.now in
    let at = placed_of c.args.self.now in
    let name = file_name at.lot.name Geo c.args.own.now in
    let none = subst (IsPartThere at name) c.in-Ok-None.field-0-is c.in-Ok-None.ensures in
    file_missing inputs (g.F.Folder.why c.args.self.now.folder.now) at name Coordinates (IsBytesAnswer inputs) (written g.E.ByteOut c.args.err.now c.args.err.now) 0
    c.args.lines.now.items none refl refl

pub returns-in-Err-clause-found : goal.returns-in-Err-clause-found
returns-in-Err-clause-found g c = none_added c.args.lines.now.items _ (inr (refl, c.out_of_memory.ensures.status, c.out_of_memory.ensures.text))
