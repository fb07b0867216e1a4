use Rattle.std.proofs.Common.{◌∙◌, true≢false, sym}
use Rattle.edi_topo.proofs.ArcEnds.{kind_beside, side_there}
use Rattle.edi_matching.proofs.FacesAdded.{forced_none}
use Rattle.edi_matching.proofs.record.Proposed.face_for.Goals as goal

pub is_left_for-requires-clause-face : goal.is_left_for-requires-clause-face
is_left_for-requires-clause-face c = side_there c.args.self.now.plan c.requires.joined c.requires.whole c.args.arc c.in-Some.face c.args.role c.in-Some.ensures.0.here

pub is_left_for-requires-clause-target : goal.is_left_for-requires-clause-target
is_left_for-requires-clause-target c =
    let b = c.in-Some.ensures.0 in
    side_there c.args.self.now.other c.requires.other_joined c.requires.other_whole b.other c.in-Some.target _ b.there

pub is_left_for-requires-clause-kind : goal.is_left_for-requires-clause-kind
is_left_for-requires-clause-kind c = kind_beside c.args.self.now.plan c.requires.joined c.args.arc c.in-Some.face c.args.role c.in-Some.ensures.0.here ∙ c.requires.side

pub returns-then-branch : goal.returns-then-branch
returns-then-branch c =
    let b = c.in-Some.ensures.0 in
    (side_there c.args.self.now.plan c.requires.joined c.requires.whole c.args.arc c.in-Some.face c.args.role b.here, b, c.in_ok-is_left_for-in-Some.ensures.0 c.if-branch.true)

pub returns-else-branch : goal.returns-else-branch
returns-else-branch c = λ f g b left free.
    let same = c.in-Some.ensures.1 f g b in
    forced_none c.args.self.now c.args.reached.now c.args.to.now c.in-Some.face c.in-Some.target (λ all. true≢false (sym (c.in_ok-is_left_for-in-Some.ensures.1 all) ∙ c.if-branch.false)) f g same left free

pub returns-in-None : goal.returns-in-None
returns-in-None c = λ f g b left free. c.in-None.ensures f g b
