use Rattle.std.proofs.Common.{◌∙◌, ◌++◌, map, take, sym, ap, subst}
use Rattle.std.specs.Prelude.{flat_map}
use Rattle.std.specs.List.{AllByRecursion}
use Rattle.edi_line.specs.Printing.{printed}
use Rattle.edi_line.proofs.EachElement.{each_in_front, each_behind}
use Rattle.edi_plan.specs.Plans.{IsPlace}
use Rattle.edi_write.specs.declared.openings.Opening.{Opening}
use Rattle.edi_write.specs.inner.SharedFronts.{all_written}
use Rattle.edi_write.specs.inner.Numbered.{numbered_zones}
use Rattle.edi_write.proofs.SharedFronts.{on_page}
use Rattle.edi_write.proofs.Opened.{IsOpened, all_opened, batch_more, places_opened}
use Rattle.edi_write.proofs.labelled_plan.LabelledPlan.write_places.Goals as goal

pub look_up-requires : goal.look_up-requires
look_up-requires c =
    each_in_front (IsPlace c.args.self.now.plan) c.split_at.result.0.now c.split_at.result.1.now
    (subst (AllByRecursion (IsPlace c.args.self.now.plan)) c.split_at.ensures.by_index.0 c.loop-rest.invariant.there)

pub write_opened-requires-clause-openings : goal.write_opened-requires-clause-openings
write_opened-requires-clause-openings c =
    let l = c.args.self.now in
    subst (AllByRecursion (IsOpened l)) (sym (c.deref.ensures.value ∙ c.in_ok-look_up.ensures))
    (all_opened l c.split_at.result.0.now
    (each_in_front (IsPlace l.plan) c.split_at.result.0.now c.split_at.result.1.now (subst (AllByRecursion (IsPlace l.plan)) c.split_at.ensures.by_index.0 c.loop-rest.invariant.there)))

pub loop-rest-preserved : goal.loop-rest-preserved
loop-rest-preserved c =
    let l = c.args.self.now in
    let f = numbered_zones l.classes l.labels l.plan in
    let batch = c.split_at.result.0.now in
    let behind = c.split_at.result.1.now in
    let old = c.loop-rest.file in
    let cut = c.split_at.ensures.by_index.0 in
    let places = ap (map (λ (o : Opening). o.place)) (c.deref.ensures.value ∙ c.in_ok-look_up.ensures) ∙ places_opened l batch in record {
      line = c.in_ok-write_opened.ensures.line;
      there = each_behind (IsPlace l.plan) batch behind (subst (AllByRecursion (IsPlace l.plan)) cut c.loop-rest.invariant.there);
      other = c.drop_shared.ensures.other ∙ c.loop-rest.invariant.other;
      within = c.drop_shared.ensures.within;
      written = batch_more f batch behind (all_written old) (all_written c.drop_shared.new.self) (all_written c.args.file.now ++ printed (flat_map f c.args.places.now))
          (c.drop_shared.ensures.written ∙ on_page (take old.front old.other.now) old.page.file.items c.write_opened.new.page.file.items (printed (flat_map f batch))
          (c.in_ok-write_opened.ensures.written ∙ ap (λ ps. old.page.file.items ++ printed (flat_map f ps)) places))
          (sym (ap (λ ps. all_written old ++ printed (flat_map f ps)) cut) ∙ c.loop-rest.invariant.written);
    }
