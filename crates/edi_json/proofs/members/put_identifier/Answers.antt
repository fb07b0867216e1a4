use Rattle.std.proofs.Common.{◌≡◌, ◌++◌, List, OnOk, codes, subst, ℕ}
use Rattle.edi_json.specs.Values.{text_value}
use Rattle.edi_json.specs.Members.{member_tokens}
use Rattle.edi_json.proofs.members.put_identifier.Goals as goal

pub returns-clause-tokens : goal.returns-clause-tokens
returns-clause-tokens c =
    subst (λ (bytes : List ℕ). OnOk c.put_bytes.result (c.put_bytes.new.writer.tokens ≡ c.args.writer.now.tokens ++ member_tokens (codes "identifier") (text_value bytes)))
    c.as_slice.ensures c.put_bytes.ensures.tokens
