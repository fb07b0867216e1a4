-- What a test says of a code is what it says of the code's kind.
use Rattle.std.proofs.Common.{◌≡◌, ℕ, Bool, true, false, not, ◌&&◌, ◌||◌, List, bytes_eq, codes, refl, sym, subst}
use Rattle.std.proofs.lemmas.Slice.Eq.{bytes_eq-Decides}
use Rattle.edi_line.specs.LineKinds.{code_is, is_zone, starts, is_inner, is_other}
use Rattle.edi_line.specs.inner.Kinds.{kind_of, is_bom, is_cse, is_rty, is_eom, is_next, is_remark, is_zone_kind, is_start_kind, is_inner_kind, is_other_kind}

-- none of the named codes
pub record IsOther (code : List ℕ) : Type 0 where
  pub bom : bytes_eq code (codes "BOM") ≡ false
  pub cse : bytes_eq code (codes "CSE") ≡ false
  pub rty : bytes_eq code (codes "RTY") ≡ false
  pub eom : bytes_eq code (codes "EOM") ≡ false
  pub nex : bytes_eq code (codes "NEX") ≡ false
  pub rem : bytes_eq code (codes "REM") ≡ false

known_code : (P : List ℕ → Type 0) (code known : List ℕ) → bytes_eq code known ≡ true → P known → P code
known_code P code known e h = subst P (sym ((bytes_eq-Decides code known).0 e)) h

-- what holds of the six codes and of all others holds of each
pub by_code : (P : List ℕ → Type 0) → P (codes "BOM") → P (codes "CSE") → P (codes "RTY") → P (codes "EOM") → P (codes "NEX") → P (codes "REM") → ((code : List ℕ) → IsOther code → P code) → (code : List ℕ) → P code
by_code P bom cse rty eom nex rem other code =
    go (bytes_eq code (codes "BOM")) (bytes_eq code (codes "CSE")) (bytes_eq code (codes "RTY")) (bytes_eq code (codes "EOM")) (bytes_eq code (codes "NEX")) (bytes_eq code (codes "REM")) refl refl refl refl refl refl
  where
    go : (a b c d e f : Bool) → bytes_eq code (codes "BOM") ≡ a → bytes_eq code (codes "CSE") ≡ b → bytes_eq code (codes "RTY") ≡ c → bytes_eq code (codes "EOM") ≡ d → bytes_eq code (codes "NEX") ≡ e → bytes_eq code (codes "REM") ≡ f → P code
    go true b c d e f p q r s t u = known_code P code (codes "BOM") p bom
    go false true c d e f p q r s t u = known_code P code (codes "CSE") q cse
    go false false true d e f p q r s t u = known_code P code (codes "RTY") r rty
    go false false false true e f p q r s t u = known_code P code (codes "EOM") s eom
    go false false false false true f p q r s t u = known_code P code (codes "NEX") t nex
    go false false false false false true p q r s t u = known_code P code (codes "REM") u rem
    go false false false false false false p q r s t u = other code (record { bom = p; cse = q; rty = r; eom = s; nex = t; rem = u })

pub bom_same : (code : List ℕ) → code_is "BOM" code ≡ is_bom (kind_of code)
bom_same code = by_code (λ c. code_is "BOM" c ≡ is_bom (kind_of c)) refl refl refl refl refl refl (λ c o. rw (o.bom, o.cse, o.rty, o.eom, o.nex, o.rem) refl) code

pub cse_same : (code : List ℕ) → code_is "CSE" code ≡ is_cse (kind_of code)
cse_same code = by_code (λ c. code_is "CSE" c ≡ is_cse (kind_of c)) refl refl refl refl refl refl (λ c o. rw (o.bom, o.cse, o.rty, o.eom, o.nex, o.rem) refl) code

pub rty_same : (code : List ℕ) → code_is "RTY" code ≡ is_rty (kind_of code)
rty_same code = by_code (λ c. code_is "RTY" c ≡ is_rty (kind_of c)) refl refl refl refl refl refl (λ c o. rw (o.bom, o.cse, o.rty, o.eom, o.nex, o.rem) refl) code

pub eom_same : (code : List ℕ) → code_is "EOM" code ≡ is_eom (kind_of code)
eom_same code = by_code (λ c. code_is "EOM" c ≡ is_eom (kind_of c)) refl refl refl refl refl refl (λ c o. rw (o.bom, o.cse, o.rty, o.eom, o.nex, o.rem) refl) code

pub next_same : (code : List ℕ) → code_is "NEX" code ≡ is_next (kind_of code)
next_same code = by_code (λ c. code_is "NEX" c ≡ is_next (kind_of c)) refl refl refl refl refl refl (λ c o. rw (o.bom, o.cse, o.rty, o.eom, o.nex, o.rem) refl) code

remark_same : (code : List ℕ) → code_is "REM" code ≡ is_remark (kind_of code)
remark_same code = by_code (λ c. code_is "REM" c ≡ is_remark (kind_of c)) refl refl refl refl refl refl (λ c o. rw (o.bom, o.cse, o.rty, o.eom, o.nex, o.rem) refl) code

pub zone_same : (code : List ℕ) → is_zone code ≡ is_zone_kind (kind_of code)
zone_same code = λ i. not (next_same code i || remark_same code i)

pub starts_same : (code : List ℕ) → starts code ≡ is_start_kind (kind_of code)
starts_same code = λ i. not (next_same code i)

pub inner_same : (code : List ℕ) → is_inner code ≡ is_inner_kind (kind_of code)
inner_same code = λ i. not (bom_same code i || (cse_same code i || (rty_same code i || eom_same code i)))

pub other_same : (code : List ℕ) → is_other code ≡ is_other_kind (kind_of code)
other_same code = λ i. zone_same code i && inner_same code i
