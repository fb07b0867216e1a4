use Rattle.edi_objects.proofs.NothingHidden.{new_link_told}
use Rattle.edi_objects.proofs.laws.each_object_tells_its_new_links.Goals as goal

pub returns : goal.returns
returns c = λ n r link object source sound. new_link_told n r sound link object source
