use Rattle.std.proofs.Common.{◌∙◌, ◌++◌, [], ℕ, List, sym, ap, subst, arith}
use Rattle.std.proofs.lemmas.List.{append-nil}
use Rattle.std.proofs.lemmas.Result.{err_from_is_err_and}
use Rattle.edi_line.specs.ZoneData.{ZoneData, entries}
use Rattle.edi_line.specs.LineRules.{BreaksIn, BreaksLineRule}
use Rattle.edi_line.specs.Refusal.{IsLeastBroken}
use Rattle.edi_line.specs.Spelling.{Reading}
use Rattle.edi_line.specs.inner.Groups.{handed_at_first, with_zones}
use Rattle.edi_line.specs.inner.HandingOn.{IsAtLines}
use Rattle.edi_line.specs.inner.Zones.{readings_of}
use Rattle.edi_line.proofs.Feeds.{if_broken}
use Rattle.edi_line.proofs.HandedOn.{all_handed, behind_others, end_refused, end_unbroken, room_left}
use Rattle.edi_line.proofs.Passes.{EndFault}
use Rattle.edi_line.proofs.Readings.{least_said}
use Rattle.edi_line.proofs.groups.read_last.Goals as goal

pub read_lines-requires : goal.read_lines-requires
read_lines-requires g c =
    let asked = c.requires in
    (asked.0, [], asked.1, subst (λ ls. IsAtLines asked.0 ls asked.1 c.args.reader c.args.handing) (sym (append-nil (readings_of c.args.bytes.now))) asked.2, asked.3)

pub returns-in_err-reader-clause-least : goal.returns-in_err-reader-clause-least
returns-in_err-reader-clause-least g c =
    let p = err_from_is_err_and c.from_residual.result c.from_residual.ensures.1 in
    let all = readings_of c.args.bytes.now in
    rw (p.1, p.2) (if_broken
    (λ rule place. (lines left : List Reading) (given : List ZoneData) → IsAtLines lines (all ++ left) given c.args.reader c.args.handing → IsLeastBroken (BreaksIn lines) rule place)
    (λ rule place. (file : List ℕ) (given : List ZoneData) → IsAtLines (readings_of file) all given c.args.reader c.args.handing → IsLeastBroken (BreaksLineRule file) rule place)
    (λ rule place refused file given at. least_said file rule place (refused (readings_of file) [] given (subst (λ ls. IsAtLines (readings_of file) ls given c.args.reader c.args.handing) (sym (append-nil all)) at)))
    c.in_err-reader.field-0.0 c.in_err-reader.ensures.broken)

pub finish-requires : goal.finish-requires
finish-requires g c =
    let asked = c.requires in
    let at = subst (λ ls. IsAtLines asked.0 ls asked.1 c.args.reader c.args.handing) (sym (append-nil (readings_of c.args.bytes.now))) asked.2 in
    let went = c.in_ok-reader.ensures.ok asked.0 [] asked.1 at in
    omega (arith, asked.3, room_left asked.0 [] went.given_now c.in_ok-reader.reader c.read_lines.new.handing went.at)

pub returns-in_err-zones-clause-least : goal.returns-in_err-zones-clause-least
returns-in_err-zones-clause-least g c =
    let p = err_from_is_err_and c.from_residual-in_err-zones.result c.from_residual-in_err-zones.ensures.1 in
    let all = readings_of c.args.bytes.now in
    let reader = c.in_ok-reader.reader in
    rw (p.1, p.2) (if_broken (EndFault reader)
    (λ rule place. (file : List ℕ) (given : List ZoneData) → IsAtLines (readings_of file) all given c.args.reader c.args.handing → IsLeastBroken (BreaksLineRule file) rule place)
    (λ rule place lacks file given at.
    (let went = c.in_ok-reader.ensures.ok (readings_of file) [] given (subst (λ ls. IsAtLines (readings_of file) ls given c.args.reader c.args.handing) (sym (append-nil all)) at) in
    end_refused file went.given_now reader c.read_lines.new.handing rule place lacks went.at))
    c.in_err-zones.field-0.0 c.in_err-zones.ensures.broken)

pub returns-clause-groups : goal.returns-clause-groups
returns-clause-groups g c =
    let all = readings_of c.args.bytes.now in
    let reader = c.in_ok-reader.reader in
    let handing = c.read_lines.new.handing in
    let Before = g.O.GroupOut.Holds c.args.out.now in
    let Between = g.O.GroupOut.Holds c.read_lines.new.out in
    let After = g.O.GroupOut.Holds c.end.new.out in
    λ file given at.
    (let went = c.in_ok-reader.ensures.ok (readings_of file) [] given (subst (λ ls. IsAtLines (readings_of file) ls given c.args.reader c.args.handing) (sym (append-nil all)) at) in
    let s = with_zones handed_at_first went.given_now in
    let zones = entries c.deref.result.now in
    let handed = c.in_ok-hand_all_on.ensures.state s went.at.state in
    behind_others given went.given_now file c.end.new.self.charset Before Between After went.handed
    (all_handed file went.given_now zones reader handing c.end.new.self Between After
    (ap entries c.deref.ensures.value ∙ c.in_ok-zones.ensures.ok.0) c.in_ok-zones.ensures.ok.1
    (c.in_ok-end.ensures.state (with_zones s zones) handed)
    (λ groups before. c.in_ok-end.ensures.keeps (with_zones s zones) groups handed (c.in_ok-hand_all_on.ensures.keeps s groups went.at.state before)) went.at))

pub returns-clause-sound : goal.returns-clause-sound
returns-clause-sound g c =
    let all = readings_of c.args.bytes.now in
    λ file given at.
    (let went = c.in_ok-reader.ensures.ok (readings_of file) [] given (subst (λ ls. IsAtLines (readings_of file) ls given c.args.reader c.args.handing) (sym (append-nil all)) at) in
    end_unbroken file went.given_now c.in_ok-reader.reader c.read_lines.new.handing c.in_ok-zones.ensures.ok.1 went.at)
