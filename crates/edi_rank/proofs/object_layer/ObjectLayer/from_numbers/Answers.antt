use Rattle.edi_rank.proofs.object_layer.ObjectLayer.from_numbers.Goals as goal

pub invariant_of-result : goal.invariant_of-result
invariant_of-result c = (
  c.places.ensures,
  c.requires.numbers,
  c.in_ok-links.ensures.length,
  c.requires.objects,
  c.in_ok-links.ensures.links,
  c.requires.ordered,
  c.requires.orders,
)
