use Rattle.edi_matching.proofs.PairsAdded.{grows_by, grows_then}
use Rattle.edi_matching.proofs.growing.add_all_links.Goals as goal

pub returns : goal.returns
returns c =
    let start = c.args.to.now in
    let plain = c.add_links.new.to in
    let most = c.add_links-2.new.to in
    grows_then start plain most (grows_by _ start _ plain _ c.add_links.ensures) (grows_by _ plain _ most _ c.add_links-2.ensures)
