use Rattle.std.proofs.Common.{◌≡◌, ℕ, List, Option, IfSome, length, ap, sym, subst, ◌∙◌}
use Rattle.std.specs.Result.{result_ok}
use Rattle.hex.specs.Hex.{decode_sized, IsBytes}
use Rattle.hex.proofs.HexLemmas.{decode_sized-encode_lower}
use Rattle.edi_manifest.proofs.ReadBack.{digest_is}
use Rattle.edi_manifest.proofs.reading.digest_in.Goals as goal

pub returns-clause-finds : goal.returns-clause-finds
returns-clause-finds c = λ bytes long are e. c.ok.ensures.value ∙ ap result_ok (c.from_hex.ensures ∙ (ap (λ t. decode_sized t 32) e ∙ decode_sized-encode_lower bytes 32 long are))

pub returns-clause-bytes : goal.returns-clause-bytes
returns-clause-bytes c =
    subst (λ (found : Option (List ℕ)). IfSome found (λ digest. (length digest ≡ 32) × IsBytes digest)) (sym c.ok.ensures.value) (digest_is c.args.digits.now c.from_hex.result c.from_hex.ensures)
