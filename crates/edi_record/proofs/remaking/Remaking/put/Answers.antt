use Rattle.std.proofs.Common.{◌∙◌, ◌++◌, ◌∷◌, [], ap, sym}
use Rattle.edi_record.specs.AnyRecords.{any_record}
use Rattle.edi_record.specs.inner.BlockLists.{blocks_joined}
use Rattle.edi_record.specs.inner.RecordParts.{record_with_parts, records_with_parts}
use Rattle.edi_record.specs.inner.BlocksAhead.{all_ahead}
use Rattle.edi_record.proofs.InBlocks.{joined_more}
use Rattle.edi_record.proofs.remaking.Remaking.put.Goals as goal

pub returns-then-is_done-clause-put : goal.returns-then-is_done-clause-put
returns-then-is_done-clause-put g c =
    let s = c.self.inside in
    let put = c.in_ok-put.ensures.put in
    let r = put.0 in
    let new = c.open_next.new in
    let none = c.is_done.ensures.0 c.if-is_done.true in
    let e = any_record c.args.head r.parts.points c.args.ends.now.items c.args.attributes.now.items r.parts.extras in (
      record_with_parts r,
      ap (λ v. v.left) (sym c.self.view_is)
          ∙ (ap (λ rs. records_with_parts (rs ++ all_ahead s.ahead)) put.1
          ∙ (ap (λ rs. record_with_parts r ∷ records_with_parts (rs ++ all_ahead s.ahead)) none
          ∙ ap (λ rs. record_with_parts r ∷ records_with_parts rs) (sym c.open_next.ensures.left))),
      c.open_next.ensures.made
          ∙ ((λ i. blocks_joined (c.in_ok-room_for_block.ensures.same i) (put.2 i))
          ∙ (joined_more s.closed.items s.opened.made e ∙ ap (λ v. v.made ++ e ∷ []) c.self.view_is)),
    )

pub returns-else-is_done-clause-put : goal.returns-else-is_done-clause-put
returns-else-is_done-clause-put g c =
    let s = c.self.inside in
    let put = c.in_ok-put.ensures.put in
    let r = put.0 in
    let e = any_record c.args.head r.parts.points c.args.ends.now.items c.args.attributes.now.items r.parts.extras in (
      record_with_parts r,
      ap (λ v. v.left) (sym c.self.view_is) ∙ ap (λ rs. records_with_parts (rs ++ all_ahead s.ahead)) put.1,
      (λ i. blocks_joined (c.in_ok-room_for_block.ensures.same i) (put.2 i))
          ∙ (joined_more s.closed.items s.opened.made e ∙ ap (λ v. v.made ++ e ∷ []) c.self.view_is),
    )
