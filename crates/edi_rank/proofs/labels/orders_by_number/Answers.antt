use Rattle.edi_rank.proofs.labels.orders_by_number.Goals as goal

pub kind_by_number-requires-clause-long : goal.kind_by_number-requires-clause-long
kind_by_number-requires-clause-long c = c.requires.nodes.all

pub kind_by_number-requires-clause-each : goal.kind_by_number-requires-clause-each
kind_by_number-requires-clause-each c = c.requires.nodes.each

pub kind_by_number-requires-2-clause-long : goal.kind_by_number-requires-2-clause-long
kind_by_number-requires-2-clause-long c = c.requires.arcs.all

pub kind_by_number-requires-2-clause-each : goal.kind_by_number-requires-2-clause-each
kind_by_number-requires-2-clause-each c = c.requires.arcs.each

pub kind_by_number-requires-3-clause-long : goal.kind_by_number-requires-3-clause-long
kind_by_number-requires-3-clause-long c = c.requires.faces.all

pub kind_by_number-requires-3-clause-each : goal.kind_by_number-requires-3-clause-each
kind_by_number-requires-3-clause-each c = c.requires.faces.each

pub kind_by_number-requires-4-clause-long : goal.kind_by_number-requires-4-clause-long
kind_by_number-requires-4-clause-long c = c.requires.objects.all

pub kind_by_number-requires-4-clause-each : goal.kind_by_number-requires-4-clause-each
kind_by_number-requires-4-clause-each c = c.requires.objects.each

pub kind_by_number-requires-5-clause-long : goal.kind_by_number-requires-5-clause-long
kind_by_number-requires-5-clause-long c = c.requires.links.all

pub kind_by_number-requires-5-clause-each : goal.kind_by_number-requires-5-clause-each
kind_by_number-requires-5-clause-each c = c.requires.links.each

pub returns-clause-nodes : goal.returns-clause-nodes
returns-clause-nodes c = record { all = c.in_ok-kind_by_number.ensures.length; each = c.in_ok-kind_by_number.ensures.places }

pub returns-clause-arcs : goal.returns-clause-arcs
returns-clause-arcs c = record { all = c.in_ok-kind_by_number-2.ensures.length; each = c.in_ok-kind_by_number-2.ensures.places }

pub returns-clause-faces : goal.returns-clause-faces
returns-clause-faces c = record { all = c.in_ok-kind_by_number-3.ensures.length; each = c.in_ok-kind_by_number-3.ensures.places }

pub returns-clause-objects : goal.returns-clause-objects
returns-clause-objects c = record { all = c.in_ok-kind_by_number-4.ensures.length; each = c.in_ok-kind_by_number-4.ensures.places }

pub returns-clause-links : goal.returns-clause-links
returns-clause-links c = record { all = c.in_ok-kind_by_number-5.ensures.length; each = c.in_ok-kind_by_number-5.ensures.places }
