use Rattle.std.proofs.lemmas.Result.{on_ok_weaker}
use Rattle.edi_matching.specs.inner.Inverses.{Grows}
use Rattle.edi_matching.proofs.PairsAdded.{grows_by, grows_then}
use Rattle.edi_matching.proofs.growing.add_more.Goals as goal

pub returns : goal.returns
returns c =
    let start = c.args.to.now in
    let faces = c.add_faces.new.to in
    let objects = c.add_all_objects.new.to in
    let links = c.add_all_links.new.to in
    on_ok_weaker {P = Grows objects links} {Q = Grows start links} c.add_all_links.result
    (λ h. grows_then start objects links (grows_then start faces objects (grows_by _ start _ faces _ c.in_ok-add_faces.ensures) c.in_ok-add_all_objects.ensures) h)
    c.add_all_links.ensures
