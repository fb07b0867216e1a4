use Rattle.std.proofs.Common.{ℕ, List, refl, subst}
use Rattle.edi_delivery.specs.declared.lot.Lot.{Lot}
use Rattle.edi_answers.specs.Effects.{inputs, written}
use Rattle.edi_deliveries.specs.Deliveries.{unnamed_lines}
use Rattle.edi_deliveries.specs.Found.{EachFound, FindsNone, IsLotFound, OneFoundThenOther, placed}
use Rattle.edi_deliveries.specs.inner.Finding.{AddsLines}
use Rattle.edi_deliveries.specs.inner.Opening.{opened_of}
use Rattle.edi_deliveries.proofs.FoundParts.{said_of}
use Rattle.edi_deliveries.proofs.FoundSteps.{found_behind, none_added}
use Rattle.edi_deliveries.proofs.parts.find_lines.Goals as goal

pub returns-clause-found : goal.returns-clause-found
returns-clause-found g c =
    let inputs = inputs g.F.Folder g.F.Reader.ByteIn c.args.folder.now in
    let why = g.F.Folder.why c.args.folder.now in
    let err = written g.E.ByteOut c.args.err.now c.say_lines-unnamed.new.err in
    let d = opened_of c.args.opened.now in
    let a = c.args.lines.now.items in
    let b = c.find_each_lot-worst.new.lines.items in
    let Found = λ (before : List ℕ) (names : List (List ℕ)) (lots : List Lot). AddsLines a b
    (λ l. OneFoundThenOther (EachFound (λ lot. IsLotFound inputs why c.args.kinds.now (placed before names lot)) lots) (FindsNone (unnamed_lines before names lots) 0) l err c.max.result) in
    let said = said_of (λ v. v.items) c.unnamed_lines.result (unnamed_lines c.as_str-before.result.now c.args.names.now c.lots-lots.result.now) 0
    (written g.E.ByteOut c.find_each_lot-worst.new.err c.say_lines-unnamed.new.err) c.say_lines-unnamed.result c.say_lines-unnamed.ensures.said c.unnamed_lines.ensures in
    let raw : Found c.as_str-before.result.now c.args.names.now c.lots-lots.result.now =
    found_behind _ _ a b b (g.E.ByteOut.contents c.args.err.now) (g.E.ByteOut.contents c.find_each_lot-worst.new.err) (g.E.ByteOut.contents c.say_lines-unnamed.new.err)
    (g.E.ByteOut.has_failed c.find_each_lot-worst.new.err) (g.E.ByteOut.has_failed c.say_lines-unnamed.new.err) c.find_each_lot-worst.result c.say_lines-unnamed.result c.max.result
    c.find_each_lot-worst.ensures.found (none_added b _ (refl, said)) c.say_lines-unnamed.ensures.stays c.max.ensures in
    let by_before = subst (λ (before : List ℕ). Found before c.args.names.now c.lots-lots.result.now) c.as_str-before.ensures raw in
    let by_names = subst (λ (names : List (List ℕ)). Found d.before names c.lots-lots.result.now) c.requires by_before in
    subst (λ (lots : List Lot). Found d.before d.names lots) c.lots-lots.ensures by_names
