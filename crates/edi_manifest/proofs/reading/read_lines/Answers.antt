use Rattle.std.proofs.Common.{ℕ, List, Ok, Option, refl, sym, subst}
use Rattle.std.specs.Fn.{FnReturnsAt}
use Rattle.edi_manifest.specs.LineReading.{ReadsUpTo}
use Rattle.edi_manifest.proofs.ReadingOn.{read_on}
use Rattle.edi_manifest.proofs.reading.read_lines.Goals as goal

pub returns-in-None : goal.returns-in-None
returns-in-None g c =
    let Reads = λ (content : List ℕ) (line : Option g.row.L.Denot). FnReturnsAt g.R.Fn c.args.read content (Ok line) in record {
      read = (
        c.loop-content.found.items,
        c.in-Some.content.now,
        c.in-Some.behind.now,
        subst (ReadsUpTo Reads c.args.text.now c.loop-content.found.items) c.in-Some.ensures.cut.0 c.loop-content.invariant,
        c.in-Some.ensures.cut.1,
        subst (Reads c.in-Some.content.now) c.in-None.is (record { shown = c.in-Some.content; shows = refl; says = record { met = c.in_ok-line.ensures } }),
      );
    }

pub loop-content-preserved : goal.loop-content-preserved
loop-content-preserved g c =
    let Reads = λ (content : List ℕ) (line : Option g.row.L.Denot). FnReturnsAt g.R.Fn c.args.read content (Ok line) in
    let reads = subst (Reads c.in-Some.content.now) c.in-Some-2.is (record { shown = c.in-Some.content; shows = refl; says = record { met = c.in_ok-line.ensures } }) in
    subst (λ (lines : List g.row.L.Denot). ReadsUpTo Reads c.args.text.now lines c.in-Some.behind.now) (sym c.in_ok-push-in-Some-2.ensures.items)
    (read_on Reads c.args.text.now c.loop-content.found.items c.loop-content.rest.now c.loop-content.invariant c.in-Some.content.now c.in-Some.behind.now c.in-Some-2.line
    c.in-Some.ensures.cut.0 c.in-Some.ensures.cut.1 reads)
