use Rattle.std.proofs.Common.{◌∙◌}
use Rattle.edi_pairing.proofs.NamesTaken.{taken_push}
use Rattle.edi_pairing.proofs.taken.TakenNamesGroupOut.end.Goals as goal

pub returns : goal.returns
returns c = λ groups group one held. record {
  names = c.in_ok-push.ensures.items ∙ taken_push c.args.self.now.list.items groups group c.args.self.now.title c.in_ok-name_of.field-0 held.names one (held.title one) c.in_ok-name_of.ensures;
  title = λ none. let e = none.joined in absurd cc;
}
