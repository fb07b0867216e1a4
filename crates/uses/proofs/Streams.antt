-- The fault of what was read is that of the whole stream.
use Rattle.std.proofs.Common.{◌≡◌, ℕ, List, [], ◌++◌, take, Option, None, Some, Result, Ok, Err, ◌∙◌, ap, sym, subst, append-nil}
use Rattle.std.specs.Prelude.{IfErr, IfSome, IsErrAnd}
use Rattle.std.specs.Io.KnownBytes.{Consumes, IsAtEnd}
use Rattle.edi_line.specs.Feeding.{HoldsFault}
use Rattle.edi_line.specs.LineRules.{BreaksLineRule}
use Rattle.edi_line.specs.Refusal.{IfBroken, IsLeastBroken, IsLineRefusal}
use Rattle.edi_line.specs.declared.fault.LineFault.{LineFault}
use Rattle.edi_line.specs.declared.fault.LineFault.TheVariants.{Memory, Broken}
use Rattle.edi_line.proofs.Feeds.{fault_of_all, fault_still}

-- the fault that is handed on
pub err_kept : {T E : Type 0} (r : Result T E) (fault : E) (P : E → Type 0) → IsErrAnd r (λ e. e ≡ fault) → P fault → IfErr r P
err_kept (Ok x) fault P e h = tt
err_kept (Err f) fault P e h = subst P (sym e) h

-- the fault of the first bytes is that of all
pub front_is_all : (contents left : Option (List ℕ)) (b : List ℕ) (fault : LineFault) → Consumes contents left b → IfBroken (HoldsFault b) fault
    → IfSome contents (λ bytes. IsLineRefusal (BreaksLineRule bytes) fault)
front_is_all None left b fault taken h = tt
front_is_all (Some xs) None b fault taken h = absurd taken
front_is_all (Some xs) (Some ys) b (Memory e) taken h = tt
front_is_all (Some xs) (Some ys) b (Broken rule at) taken h =
    subst (λ bytes. IsLeastBroken (BreaksLineRule bytes) rule at) (sym taken) (fault_of_all (b ++ ys) rule at (fault_still b ys rule at h))

-- at the end all was read
pub end_is_all : (contents left after : Option (List ℕ)) (b buffer : List ℕ) (count : ℕ) (fault : LineFault) → Consumes contents left b
    → Consumes left after (take count buffer) → count ≡ 0 → IsAtEnd after → IsLineRefusal (BreaksLineRule b) fault
    → IfSome contents (λ bytes. IsLineRefusal (BreaksLineRule bytes) fault)
end_is_all None left after b buffer count fault taken last zero end h = tt
end_is_all (Some xs) None after b buffer count fault taken last zero end h = absurd taken
end_is_all (Some xs) (Some ys) None b buffer count fault taken last zero end h = absurd last
end_is_all (Some xs) (Some ys) (Some zs) b buffer count fault taken last zero end h =
    let left : ys ≡ [] = last ∙ ap (λ n. take n buffer ++ zs) zero ∙ end in
    subst (λ bytes. IsLineRefusal (BreaksLineRule bytes) fault) (sym (taken ∙ ap (λ r. b ++ r) left ∙ append-nil b)) h
