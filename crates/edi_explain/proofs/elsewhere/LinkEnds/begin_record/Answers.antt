use Rattle.edi_line.specs.ZoneData.{entry}
use Rattle.edi_explain.proofs.LinkEnds.{holds_begun}
use Rattle.edi_explain.proofs.elsewhere.LinkEnds.begin_record.Goals as goal

pub returns : goal.returns
returns c = λ groups held.
    let was = c.args.self.now in
    holds_begun groups (entry c.args.head.now) was.home was.stray was.is_link c.is_link-self.result c.requires c.is_link-self.ensures held
