use Rattle.std.proofs.Common.{◌∙◌, true, refl, sym, arith}
use Rattle.edi_line.proofs.ZoneLists.{all_zones}
use Rattle.edi_record.specs.inner.Stored.{kept_ends}
use Rattle.edi_record.proofs.EndsStored.{ends_come, ends_sound, ends_few, ends_bad}
use Rattle.edi_record.proofs.ends.Ends.finish.Goals as goal
use Rattle.edi_record.proofs.ends.Ends.finish.Goals.{then-self-via-then-self, then-self-via-else-self+then-len-lt2}

pub returns-then-self-clause-breach : goal.returns-then-self-clause-breach
returns-then-self-clause-breach c = λ group k h. (
  refl,
  let list = c.args.list.now in
      let ends = kept_ends c.args.self list.items in
      let link = sym c.is_link.ensures ∙ c.if-not-is_link.false in
      elim c.then-self.branch [
        | then-self-via-then-self w ↦ ends_bad ends c.args.kind group w.if-self.true k link (h link)
        | then-self-via-else-self+then-len-lt2 w ↦
            ends_few ends c.args.kind list.items group w.if-self.false (all_zones true list.items) (omega (arith, w.if-len-lt2.true, w.len.ensures, list.ok.0)) k link (h link)
      ],
)

pub returns-clause-states : goal.returns-clause-states
returns-clause-states c = λ group h.
    let list = c.args.list.now.items in
    let link = sym c.is_link.ensures ∙ c.if-not-is_link.false in
    rw link (ends_come (kept_ends c.args.self list) list group c.if-self.false (all_zones true list) (h link))

pub returns-clause-sound : goal.returns-clause-sound
returns-clause-sound c = λ group k h.
    let list = c.args.list.now in
    let link = sym c.is_link.ensures ∙ c.if-not-is_link.false in
    ends_sound (kept_ends c.args.self list.items) c.args.kind list.items group c.if-self.false (all_zones true list.items) (omega (arith, c.if-len-lt2.false, c.len.ensures, list.ok.0)) k link (h link)
