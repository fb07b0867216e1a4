use Rattle.std.proofs.Common.{◌≡◌, IfOk, subst}
use Rattle.edi_objects.specs.Accounts.{NamedReport, account_text}
use Rattle.edi_objects.proofs.account.account_text.Goals as goal

pub returns : goal.returns
returns c = subst (λ (a : NamedReport). IfOk c.text.result (λ t. t.items ≡ account_text a.naming a.report)) c.in_ok-account.ensures c.text.ensures
