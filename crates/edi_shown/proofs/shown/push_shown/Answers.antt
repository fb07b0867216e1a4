use Rattle.std.proofs.Common.{◌≡◌, ℕ, Bool, true, false, List, refl}
use Rattle.std.specs.Str.{is_utf8}
use Rattle.std.proofs.lemmas.Str.{IsUtf8-from_is_utf8, is_utf8-from_IsUtf8}
use Rattle.edi_shown.proofs.shown.push_shown.Goals as goal

pub returns-in-Ok : goal.returns-in-Ok
returns-in-Ok c =
    rw (is_utf8-from_IsUtf8 c.args.bytes.now c.in-Ok.ensures.cases.1, ← c.in-Ok.ensures.cases.0) c.push_text.ensures

no_text : (bytes : List ℕ) (is_text : Bool) → is_utf8 bytes ≡ is_text → (is_utf8 bytes ≡ true → ⊥) → is_utf8 bytes ≡ false
no_text bytes true e h = absurd (h e)
no_text bytes false e h = e

pub returns-in-Err : goal.returns-in-Err
returns-in-Err c =
    rw (no_text c.args.bytes.now (is_utf8 c.args.bytes.now) refl (λ e. c.in-Err.ensures.cases.0 (IsUtf8-from_is_utf8 c.args.bytes.now e))) c.push_bytes.ensures
