use Rattle.std.proofs.Common.{◌∙◌, ◌++◌, ◌∷◌, List, ℕ, [], map, take, sym, ap}
use Rattle.std.specs.Prelude.{flat_map, option_to_list, option_copied}
use Rattle.edi_line.specs.Printing.{printed, printed_zone}
use Rattle.edi_record.specs.CanonicalZones.{begin_zone, cse_zone, end_zone}
use Rattle.edi_plan.specs.Plans.{PlanData}
use Rattle.edi_rank.specs.Arranged.{old_places}
use Rattle.edi_write.specs.inner.Numbered.{numbered_zones}
use Rattle.edi_write.specs.inner.SharedFronts.{all_written}
use Rattle.edi_write.proofs.LaidOut.{laid_out, joined_parts}
use Rattle.edi_write.proofs.SharedFronts.{on_page}
use Rattle.edi_write.proofs.canon.write_canon_behind.Goals as goal

pub returns-clause-written : goal.returns-clause-written
returns-clause-written c =
    let p = c.plan-plan.ensures in
    let s = c.args.schema.now in
    let l = c.args.labels.now in
    let begin = begin_zone ∷ map cse_zone (option_to_list (option_copied c.cse.result)) in
    let records = flat_map (numbered_zones s l c.plan-plan.result.now) (old_places l) in
    let first = c.new-file.result in
    let last = c.write_records.new.file in
    let front = take first.front first.other.now in
    let opened = front ++ c.write_begin.new.page.file.items in
    let ended = take last.front last.other.now ++ c.write.new.self.file.items in
    let parts = joined_parts begin records end_zone (all_written first) opened (all_written last) ended c.new-file.ensures.written
    (on_page front first.page.file.items c.write_begin.new.page.file.items (printed begin) c.in_ok-write_begin.ensures)
    c.in_ok-write_records.ensures.written
    (on_page (take last.front last.other.now) last.page.file.items c.write.new.self.file.items (printed_zone end_zone) c.in_ok-write.ensures) in
    let other = c.drop_shared.ensures.other ∙ (c.in_ok-write_records.ensures.other ∙ c.new-file.ensures.other) in
    ap (λ (o : List ℕ). take c.drop_shared.new.self.front o ++ c.drop_shared.new.self.page.file.items) (sym other)
    ∙ (c.drop_shared.ensures.written ∙ (parts
    ∙ (ap (λ set. printed (begin_zone ∷ (map cse_zone (option_to_list set) ++ (records ++ end_zone ∷ [])))) c.cse.ensures
    ∙ (ap (λ (q : PlanData). printed (begin_zone ∷ (map cse_zone (option_to_list q.cse) ++ (flat_map (numbered_zones s l q) (old_places l) ++ end_zone ∷ [])))) p.plan
    ∙ sym (laid_out s c.args.sound.now l c.requires.labels p.whole)))))
