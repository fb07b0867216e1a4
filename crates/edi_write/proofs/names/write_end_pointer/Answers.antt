use Rattle.std.proofs.Common.{◌≡◌, ◌∙◌, ◌+◌, ◌≤◌, refl, ap, arith, rules, append_assoc, decimal, length}
use Rattle.std.proofs.lemmas.Result.{IfOk-equal}
use Rattle.edi_write.proofs.Joined.{pointer_written}
use Rattle.edi_write.proofs.names.write_end_pointer.Goals as goal

pub returns : goal.returns
returns c =
    let digits = c.as_bytes-digits.result.now in
    let value : digits ≡ decimal c.args.number = c.as_bytes-digits.ensures.value ∙ c.format.ensures.text in
    let short : length digits ≤ 40 = omega (arith, ap length c.as_bytes-digits.ensures.value, c.format.ensures.short) in
    let whole = pointer_written c.args.page.now.file.items c.pointer_line-front.result digits c.args.kind c.args.number (13 + length digits) c.pointer_line-front.ensures value refl short in
    search (whole, rules, IfOk-equal, append_assoc)
