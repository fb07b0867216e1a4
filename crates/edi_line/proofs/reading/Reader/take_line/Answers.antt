use Rattle.edi_line.specs.inner.Spelling.{reading_of}
use Rattle.edi_line.specs.inner.ZoneLists.{open_in}
use Rattle.edi_line.proofs.BorrowedZones.{borrows_after, borrows_taken, begun_borrowed}
use Rattle.edi_line.proofs.reading.Reader.take_line.Goals as goal

pub returns-in_ok-begin-clause-borrows : goal.returns-in_ok-begin-clause-borrows
returns-in_ok-begin-clause-borrows c = λ lines counted borrows.
    borrows_taken lines (reading_of c.args.content.now) c.args.self.now c.step.new.self c.begin.new.self counted borrows c.in_ok-spelled.ensures.leaves c.in_ok-begin.ensures.done
    (begun_borrowed (open_in c.begin.new.self.zones) _ _ _ c.in_ok-spelled.ensures.ok.counted (λ owned. owned) c.in_ok-begin.ensures.open_zone)

pub returns-in_default-clause-borrows : goal.returns-in_default-clause-borrows
returns-in_default-clause-borrows c = λ lines counted borrows.
    borrows_after lines (reading_of c.args.content.now) c.args.self.now c.step.new.self borrows c.in_ok-spelled.ensures.leaves
