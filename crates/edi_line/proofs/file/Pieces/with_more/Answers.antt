use Rattle.std.proofs.Common.{◌+◌, ◌-◌, ◌^◌, ◌<◌, ◌∙◌, ◌++◌, length, ap, sym, arith}
use Rattle.edi_line.proofs.FilePieces.{bytes_fit, kept_behind, kept_cut}
use Rattle.edi_line.proofs.file.Pieces.with_more.Goals as goal

pub invariant_of-result : goal.invariant_of-result
invariant_of-result c =
    let room : c.self.inside.len + length c.args.bytes.now < 2 ^ 64 - 1 = omega (arith, c.if-more-len.false, c.self.invariant.counted) in
    kept_behind c.self.inside.ended.items c.self.inside.last.items c.extend_from_slice.new.self.items c.args.bytes.now c.self.inside.len c.self.invariant
    (bytes_fit c.args.bytes.now c.type_inv.bytes) room c.in_ok-extend_from_slice.ensures.items

pub invariant_of-result-2 : goal.invariant_of-result-2
invariant_of-result-2 c =
    let room : c.self.inside.len + length c.args.bytes.now < 2 ^ 64 - 1 = omega (arith, c.if-more-len.false, c.self.invariant.counted) in
    kept_cut c.self.inside.ended.items c.push.new.self.items c.self.inside.last.items c.in_ok-last.last.items c.args.bytes.now c.in-Some.front.now c.extend_from_slice-2.new.self c.self.inside.len c.self.invariant
    (bytes_fit c.args.bytes.now c.type_inv.bytes) room
    (c.in-Some.ensures.joined ∙ ap (λ l. c.in-Some.front.now ++ l) (sym c.in_ok-last.ensures.items)) c.in-Some.ensures.ended c.in_ok-extend_from_slice-2.ensures.items c.in_ok-push.ensures.items
