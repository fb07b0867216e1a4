-- What the role of a zone says of its code.
use Rattle.std.proofs.Common.{◌≡◌, ℕ, ◌⊎◌, inl, inr, Bool, true, false, cond, List, codes, bytes_eq, refl}
use Rattle.std.specs.List.{list_any}
use Rattle.std.proofs.lemmas.Slice.Eq.{bytes_eq-Decides}
use Rattle.edi_record.specs.Records.{has_points, is_link, known_anywhere, known_in, is_known}
use Rattle.edi_record.specs.inner.RecordRules.{is_arc_kind}
use Rattle.edi_record.specs.inner.Stored.{role_in, body_role_in}
use Rattle.edi_record.proofs.Stated.{any_apart}
use Rattle.edi_record.specs.declared.record.Kind.{Kind}
use Rattle.edi_record.specs.declared.record.Kind.TheVariants.{Pno, Par, Pfe, Fea, Lnk}
use Rattle.edi_record.specs.declared.role.ZoneRole.{ZoneRole}
use Rattle.edi_record.specs.declared.role.ZoneRole.TheVariants.{Identifier, Class, AttributeCount, AttributeClass, AttributeSet, AttributeValue, BodyCount, Position, EndPointer, EndSense, Skipped, Unknown}

-- a code that has the role
abbrev pub CodeIs : Kind → List ℕ → ZoneRole → Type 0
CodeIs kind code Identifier = code ≡ codes "RID"
CodeIs kind code Class = code ≡ codes "SCP"
CodeIs kind code AttributeCount = code ≡ codes "ATC"
CodeIs kind code AttributeClass = code ≡ codes "ATP"
CodeIs kind code AttributeSet = code ≡ codes "TEX"
CodeIs kind code AttributeValue = code ≡ codes "ATV"
CodeIs kind code BodyCount = ((is_arc_kind kind ≡ true) × (code ≡ codes "PTC")) ⊎ ((is_link kind ≡ true) × (code ≡ codes "FTC"))
CodeIs kind code Position = (has_points kind ≡ true) × (code ≡ codes "COR")
CodeIs kind code EndPointer = (is_link kind ≡ true) × (code ≡ codes "FTP")
CodeIs kind code EndSense = (is_link kind ≡ true) × (code ≡ codes "SNS")
CodeIs kind code Skipped = (code ≡ codes "RTY") ⊎ ((code ≡ codes "QAC") ⊎ (code ≡ codes "QAP"))
CodeIs kind code Unknown = (is_known kind code ≡ false) × (bytes_eq code (codes "TEX") ≡ false)

is : (code known : List ℕ) → bytes_eq code known ≡ true → code ≡ known
is code known e = (bytes_eq-Decides code known).0 e

body_code : (kind : Kind) (code : List ℕ) → list_any (bytes_eq code) known_anywhere ≡ false → bytes_eq code (codes "TEX") ≡ false → CodeIs kind code (body_role_in kind code)
body_code Pno code none set = go (bytes_eq code (codes "COR")) refl
  where
    go : (a : Bool) → bytes_eq code (codes "COR") ≡ a → CodeIs Pno code (cond a Position Unknown)
    go true p = (refl, is code (codes "COR") p)
    go false p = (rw (none, p) refl, set)
body_code Par code none set = go (bytes_eq code (codes "COR")) refl (bytes_eq code (codes "PTC")) refl
  where
    go : (a : Bool) → bytes_eq code (codes "COR") ≡ a → (b : Bool) → bytes_eq code (codes "PTC") ≡ b → CodeIs Par code (cond a Position (cond b BodyCount Unknown))
    go true p b q = (refl, is code (codes "COR") p)
    go false p true q = inl (refl, is code (codes "PTC") q)
    go false p false q = (rw (none, p, q) refl, set)
body_code Pfe code none set = (rw none refl, set)
body_code Fea code none set = (rw none refl, set)
body_code Lnk code none set = go (bytes_eq code (codes "FTC")) refl (bytes_eq code (codes "FTP")) refl (bytes_eq code (codes "SNS")) refl
  where
    go : (a : Bool) → bytes_eq code (codes "FTC") ≡ a → (b : Bool) → bytes_eq code (codes "FTP") ≡ b → (c : Bool) → bytes_eq code (codes "SNS") ≡ c → CodeIs Lnk code (cond a BodyCount (cond b EndPointer (cond c EndSense Unknown)))
    go true p b q c r = inr (refl, is code (codes "FTC") p)
    go false p true q c r = (refl, is code (codes "FTP") q)
    go false p false q true r = (refl, is code (codes "SNS") r)
    go false p false q false r = (rw (none, p, q, r) refl, set)

role_code : (kind : Kind) (code : List ℕ) → CodeIs kind code (role_in kind code)
role_code kind code =
    go (bytes_eq code (codes "RID")) refl (bytes_eq code (codes "SCP")) refl (bytes_eq code (codes "ATC")) refl (bytes_eq code (codes "ATP")) refl (bytes_eq code (codes "TEX")) refl (bytes_eq code (codes "ATV")) refl
    (bytes_eq code (codes "RTY")) refl (bytes_eq code (codes "QAC")) refl (bytes_eq code (codes "QAP")) refl
  where
    go : (a : Bool) → bytes_eq code (codes "RID") ≡ a → (b : Bool) → bytes_eq code (codes "SCP") ≡ b → (c : Bool) → bytes_eq code (codes "ATC") ≡ c → (d : Bool) → bytes_eq code (codes "ATP") ≡ d
        → (e : Bool) → bytes_eq code (codes "TEX") ≡ e → (f : Bool) → bytes_eq code (codes "ATV") ≡ f → (g : Bool) → bytes_eq code (codes "RTY") ≡ g → (h : Bool) → bytes_eq code (codes "QAC") ≡ h → (i : Bool) → bytes_eq code (codes "QAP") ≡ i
        → CodeIs kind code (cond a Identifier (cond b Class (cond c AttributeCount (cond d AttributeClass (cond e AttributeSet (cond f AttributeValue (cond g Skipped (cond h Skipped (cond i Skipped (body_role_in kind code))))))))))
    go true p b q c r d s e t f u g v h w i x = is code (codes "RID") p
    go false p true q c r d s e t f u g v h w i x = is code (codes "SCP") q
    go false p false q true r d s e t f u g v h w i x = is code (codes "ATC") r
    go false p false q false r true s e t f u g v h w i x = is code (codes "ATP") s
    go false p false q false r false s true t f u g v h w i x = is code (codes "TEX") t
    go false p false q false r false s false t true u g v h w i x = is code (codes "ATV") u
    go false p false q false r false s false t false u true v h w i x = inl (is code (codes "RTY") v)
    go false p false q false r false s false t false u false v true w i x = inr (inl (is code (codes "QAC") w))
    go false p false q false r false s false t false u false v false w true x = inr (inr (is code (codes "QAP") x))
    go false p false q false r false s false t false u false v false w false x = body_code kind code (rw (v, p, q, r, s, u, w, x) refl) t

pub code_of : (kind : Kind) (code : List ℕ) (r : ZoneRole) → r ≡ role_in kind code → CodeIs kind code r
code_of kind code r e = rw e (role_code kind code)

-- ---- known codes

pub place_known : (kind : Kind) → has_points kind ≡ true → is_known kind (codes "COR") ≡ true
place_known Pno e = refl
place_known Par e = refl
place_known Pfe e = absurd cc
place_known Fea e = absurd cc
place_known Lnk e = absurd cc

pub point_count_known : (kind : Kind) → is_arc_kind kind ≡ true → is_known kind (codes "PTC") ≡ true
point_count_known Par e = refl
point_count_known Pno e = absurd cc
point_count_known Pfe e = absurd cc
point_count_known Fea e = absurd cc
point_count_known Lnk e = absurd cc

pub link_known : (kind : Kind) (code : List ℕ) → is_link kind ≡ true → is_known Lnk code ≡ true → is_known kind code ≡ true
link_known Lnk code e k = k
link_known Pno code e k = absurd cc
link_known Par code e k = absurd cc
link_known Pfe code e k = absurd cc
link_known Fea code e k = absurd cc

-- a link has no points, and an arc no ends
pub no_link : (kind : Kind) → has_points kind ≡ true → is_link kind ≡ true → ⊥
no_link Lnk e f = absurd cc
no_link Pno e f = absurd cc
no_link Par e f = absurd cc
no_link Pfe e f = absurd cc
no_link Fea e f = absurd cc

pub no_arc : (kind : Kind) → is_arc_kind kind ≡ true → is_link kind ≡ true → ⊥
no_arc Lnk e f = absurd cc
no_arc Pno e f = absurd cc
no_arc Par e f = absurd cc
no_arc Pfe e f = absurd cc
no_arc Fea e f = absurd cc

-- ---- codes that aren't known in a type

pub place_apart : (kind : Kind) (code : List ℕ) → has_points kind ≡ true → list_any (bytes_eq code) (known_in kind) ≡ false → bytes_eq code (codes "COR") ≡ false
place_apart Pno code e none = (any_apart (bytes_eq code) (known_in Pno) none).0
place_apart Par code e none = (any_apart (bytes_eq code) (known_in Par) none).0
place_apart Pfe code e none = absurd cc
place_apart Fea code e none = absurd cc
place_apart Lnk code e none = absurd cc

pub arc_apart : (kind : Kind) (code : List ℕ) → is_arc_kind kind ≡ true → list_any (bytes_eq code) (known_in kind) ≡ false → (bytes_eq code (codes "COR") ≡ false) × (bytes_eq code (codes "PTC") ≡ false)
arc_apart Par code e none = let a = any_apart (bytes_eq code) (known_in Par) none in (a.0, a.1.0)
arc_apart Pno code e none = absurd cc
arc_apart Pfe code e none = absurd cc
arc_apart Fea code e none = absurd cc
arc_apart Lnk code e none = absurd cc

pub link_apart : (kind : Kind) (code : List ℕ) → is_link kind ≡ true → list_any (bytes_eq code) (known_in kind) ≡ false
    → (bytes_eq code (codes "FTC") ≡ false) × ((bytes_eq code (codes "FTP") ≡ false) × (bytes_eq code (codes "SNS") ≡ false))
link_apart Lnk code e none = let a = any_apart (bytes_eq code) (known_in Lnk) none in (a.0, (a.1.0, a.1.1.0))
link_apart Pno code e none = absurd cc
link_apart Par code e none = absurd cc
link_apart Pfe code e none = absurd cc
link_apart Fea code e none = absurd cc
