use Rattle.edi_manifest.proofs.SameLines.{text_made}
use Rattle.edi_manifest.proofs.writing.manifest.Goals as goal

pub returns : goal.returns
returns c =
    text_made c.args.lines.now c.in_ok-text.text.items c.deref.result.now c.in_ok-last.last.items c.deref-2.result.now c.extend_from_slice.new.self.items
    c.in_ok-text.ensures c.deref.ensures.value c.in_ok-last.ensures c.deref-2.ensures.value c.in_ok-extend_from_slice.ensures.items
