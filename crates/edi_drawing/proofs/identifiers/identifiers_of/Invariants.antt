use Rattle.std.proofs.Common.{◌≡◌, map, take}
use Rattle.edi_drawing.proofs.identifiers.identifiers_of.Given as goal

abbrev pub invariant-loop-site : goal.invariant-loop-site
invariant-loop-site l = map (λ i. i.now) l.identifiers.items ≡ map (λ site. site.rid) (take l.site-index l.site-items)
