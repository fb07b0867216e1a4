use Rattle.edi_line.proofs.HandedOn.{at_same, went_nowhere, went_further}
use Rattle.edi_line.proofs.groups.read_piece.Goals as goal

pub returns-clause-ok : goal.returns-clause-ok
returns-clause-ok g c =
    let owned = c.in_ok-into_owned in
    λ lines left given at.
    went_further
    (λ given_now here. went_nowhere lines left given_now owned.field-0 c.hand_done_on.new.handing (g.O.GroupOut.Holds c.hand_done_on.new.out)
    (at_same lines left given_now c.hand_done_on.new.reader owned.field-0 c.hand_done_on.new.handing owned.ensures.line owned.ensures.order owned.ensures.zones here))
    (went_further (λ given_now. c.in_ok-hand_done_on.ensures.went lines left given_now) (c.in_ok-reader.ensures.ok lines left given at))
