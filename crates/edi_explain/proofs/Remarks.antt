-- The lines of a file, one by one, and which are remarks.
use Rattle.std.proofs.Common.{◌≡◌, ◌∙◌, ◌+◌, ◌++◌, ◌∷◌, inl, ℕ, Bool, cond, List, [], Some, None, Ok, Err, length, map, refl, sym, ap, subst, arith, codes, count_by, nat_eq, append_assoc}
use Rattle.std.specs.List.{AllByRecursion, starts_with}
use Rattle.edi_schema.proofs.Paired.{count-cons}
use Rattle.edi_line.proofs.Readings.{readings_exist, rule_said}
use Rattle.edi_line.specs.LineKinds.{bears, code_is}
use Rattle.edi_line.specs.LineRules.{BreaksAt, BreaksLineRule}
use Rattle.edi_line.specs.Lines.{content_of}
use Rattle.edi_line.specs.Refusal.{IsUnbroken}
use Rattle.edi_line.specs.Spelling.{Reading}
use Rattle.edi_line.specs.inner.Lines.{line_contents, lines_in}
use Rattle.edi_line.specs.inner.Spelling.{reading_of}
use Rattle.edi_line.specs.inner.Zones.{readings_of}
use Rattle.edi_explain.proofs.Barred.{IsFine, next_content, remark_tested}
use Rattle.edi_explain.specs.Barring.{has_zone}
use Rattle.edi_explain.specs.Skipped.{HasRemarks, remarks_in}

remark_zone : (r : Reading) → bears (code_is "REM") r ≡ has_zone (codes "REM") r
remark_zone (Ok (Some s)) = refl
remark_zone (Ok None) = refl
remark_zone (Err rule) = refl

-- a line that breaks no rule of its own is a remark by its first bytes
pub remark_read : (content : List ℕ) → IsFine content → bears (code_is "REM") (reading_of content) ≡ starts_with nat_eq content (codes "REM")
remark_read content fine = remark_zone (reading_of content) ∙ remark_tested content fine

-- the contents of a file that breaks no rule of lines
abbrev pub AreFine : List ℕ → Type 0
AreFine bytes = AllByRecursion IsFine (line_contents bytes)

module _ (bytes : List ℕ) (unbroken : IsUnbroken (BreaksLineRule bytes)) where
  fine_behind : (before : List Reading) (contents : List (List ℕ)) → readings_of bytes ≡ before ++ map reading_of contents → AllByRecursion IsFine contents
  fine_behind before [] e = tt
  fine_behind before (content ∷ contents) e = (
    λ rule wrong.
        let breaks : BreaksAt (readings_of bytes) rule (length before + 1) = record { before = before; line = reading_of content; after = map reading_of contents; cut = e; place_is = refl; breaks = inl wrong } in
        unbroken rule (length before + 1) (rule_said bytes rule (length before + 1) (inl breaks)),
    fine_behind (before ++ reading_of content ∷ []) contents (e ∙ sym (append_assoc before (reading_of content ∷ []) (map reading_of contents))),
  )

  pub all_fine : AreFine bytes
  all_fine = fine_behind [] (line_contents bytes) refl

-- the first line, and those that pass a test behind it
pub lines_more : (test : Reading → Bool) (bytes line behind : List ℕ) → lines_in bytes ≡ line ∷ lines_in behind → (b : Bool) → test (reading_of (content_of line)) ≡ b
    → count_by test (readings_of bytes) ≡ cond b 1 0 + count_by test (readings_of behind)
lines_more test bytes line behind e b f =
    ap (λ cs. count_by test (map reading_of cs)) (next_content bytes line behind e)
    ∙ (count-cons test (reading_of (content_of line)) (readings_of behind) ∙ ap (λ t. cond t 1 0 + count_by test (readings_of behind)) f)

pub fine_step : (bytes line behind : List ℕ) → lines_in bytes ≡ line ∷ lines_in behind → AreFine bytes → IsFine (content_of line) × AreFine behind
fine_step bytes line behind e h = subst (AllByRecursion IsFine) (next_content bytes line behind e) h

pub no_lines : (test : Reading → Bool) (bytes : List ℕ) → length bytes ≡ 0 → count_by test (readings_of bytes) ≡ 0
no_lines test [] e = refl
no_lines test (x ∷ xs) e = absurd (omega (arith, e))

pub remarks_counted : (bytes : List ℕ) (count : ℕ) → count ≡ remarks_in (readings_of bytes) → HasRemarks bytes count
remarks_counted bytes count e = (readings_of bytes, readings_exist bytes, e)
