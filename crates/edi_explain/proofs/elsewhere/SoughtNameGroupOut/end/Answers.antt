use Rattle.std.proofs.Common.{true, inl, inr, refl}
use Rattle.edi_explain.proofs.LinkEnds.{not_either, take_named, titled_in}
use Rattle.edi_explain.proofs.elsewhere.SoughtNameGroupOut.end.Goals as goal

pub returns-then-is_named : goal.returns-then-is_named
returns-then-is_named c = λ groups group one h.
    let was = c.args.self.now in
    take_named was.pointer was.ends was.title group was.is_there true
    (λ i. inr ((c.is_named.ensures group (titled_in was groups group one h)).0 c.if-is_named.true), λ n. refl) groups h

pub returns-else-is_named : goal.returns-else-is_named
returns-else-is_named c = λ groups group one h.
    let was = c.args.self.now in
    take_named was.pointer was.ends was.title group was.is_there was.is_there
    (λ i. inl i, not_either was.is_there _ c.is_named.result c.if-is_named.false (c.is_named.ensures group (titled_in was groups group one h))) groups h
