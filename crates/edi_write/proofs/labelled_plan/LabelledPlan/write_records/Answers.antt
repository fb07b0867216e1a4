use Rattle.std.proofs.Common.{◌++◌}
use Rattle.std.proofs.lemmas.Result.{on_ok_weaker}
use Rattle.edi_write.specs.inner.SharedFronts.{all_written}
use Rattle.edi_write.specs.inner.Numbered.{numbered_zones}
use Rattle.edi_write.proofs.Opened.{both_written}
use Rattle.edi_write.proofs.labelled_plan.LabelledPlan.write_records.Goals as goal

pub returns-clause-written : goal.returns-clause-written
returns-clause-written c =
    let l = c.args.self.now.labels in
    let f = numbered_zones c.args.self.now.classes l c.args.self.now.plan in
    let begin = all_written c.args.file.now in
    let nodes = all_written c.write_kind.new.file in
    let arcs = all_written c.write_kind-2.new.file in
    let faces = all_written c.write_kind-3.new.file in
    let objects = all_written c.write_kind-4.new.file in
    let all = all_written c.write_kind-5.new.file in
    on_ok_weaker c.write_kind-5.result
    (λ last. both_written f (l.nodes ++ l.arcs ++ l.faces ++ l.objects) l.links begin objects all
    (both_written f (l.nodes ++ l.arcs ++ l.faces) l.objects begin faces objects
    (both_written f (l.nodes ++ l.arcs) l.faces begin arcs faces
    (both_written f l.nodes l.arcs begin nodes arcs c.in_ok-write_kind.ensures.written c.in_ok-write_kind-2.ensures.written) c.in_ok-write_kind-3.ensures.written)
    c.in_ok-write_kind-4.ensures.written) last)
    c.write_kind-5.ensures.written
