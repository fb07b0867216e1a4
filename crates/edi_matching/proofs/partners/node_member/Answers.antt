use Rattle.edi_matching.proofs.Found.{nodes_sorted, nodes_searched}
use Rattle.edi_matching.proofs.partners.node_member.Goals as goal

pub member_with-requires : goal.member_with-requires
member_with-requires c = nodes_sorted c.args.nodes.now c.requires

pub returns : goal.returns
returns c = nodes_searched c.args.nodes.now c.args.key.now c.member_with.result c.member_with.ensures
