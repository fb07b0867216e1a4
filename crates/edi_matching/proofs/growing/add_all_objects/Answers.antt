use Rattle.std.proofs.lemmas.Result.{on_ok_weaker}
use Rattle.edi_matching.specs.inner.Inverses.{Grows}
use Rattle.edi_matching.proofs.PairsAdded.{grows_by, grows_then}
use Rattle.edi_matching.proofs.growing.add_all_objects.Goals as goal

pub returns : goal.returns
returns c =
    let start = c.args.to.now in
    let rounds = c.add_objects_in_rounds.new.to in
    let contents = c.add_objects_by_contents.new.to in
    on_ok_weaker {Q = Grows start contents} c.add_objects_by_contents.result
    (λ h. grows_then start rounds contents (grows_by _ start _ rounds _ c.in_ok-add_objects_in_rounds.ensures) (grows_by _ rounds _ contents _ h.pairs))
    c.add_objects_by_contents.ensures
