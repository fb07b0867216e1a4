use Rattle.std.proofs.Common.{◌≡◌, ◌∙◌, ◌+◌, ◌≤◌, refl, ap, arith, rules, append_assoc, decimal, length}
use Rattle.std.proofs.lemmas.Result.{IfOk-equal}
use Rattle.edi_write.proofs.Joined.{identifier_written}
use Rattle.edi_write.proofs.names.write_identifier.Goals as goal

pub returns : goal.returns
returns c =
    let digits = c.as_bytes-digits.result.now in
    let value : digits ≡ decimal c.args.number = c.as_bytes-digits.ensures.value ∙ c.format.ensures.text in
    let short : length digits ≤ 40 = omega (arith, ap length c.as_bytes-digits.ensures.value, c.format.ensures.short) in
    let whole = identifier_written c.args.page.now.file.items c.identifier_line-front.result digits c.args.kind c.args.number (1 + length digits) c.identifier_line-front.ensures value refl short in
    search (whole, rules, IfOk-equal, append_assoc)
