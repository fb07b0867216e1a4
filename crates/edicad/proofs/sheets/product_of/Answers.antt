use Rattle.edicad.proofs.sheets.product_of.Goals as goal

pub returns-in-Canonical-clause-ok : goal.returns-in-Canonical-clause-ok
returns-in-Canonical-clause-ok g c = rw c.in-Canonical.is c.canon_of.ensures.ok

pub returns-in-Picture-clause-ok : goal.returns-in-Picture-clause-ok
returns-in-Picture-clause-ok g c = rw c.in-Picture.is c.run_draw.ensures.ok
