-- Steps of the loops that test the rules of a record.
use Rattle.std.proofs.Common.{◌≡◌, ℕ, Bool, true, false, ◌&&◌, ◌||◌, not, List, [], ◌∷◌, inl, inr, Option, Some, None, is_none, is_some, codes, refl, ap, ◌∙◌, option_map}
use Rattle.std.specs.List.{list_any, before_first}
use Rattle.std.proofs.lemmas.Bool.{or_left}
use Rattle.edi_line.specs.ZoneData.{ZoneData, has_code}
use Rattle.edi_record.specs.Records.{points_at, is_known}
use Rattle.edi_record.specs.Texts.{shown}
use Rattle.edi_record.specs.inner.GroupRules.{closes_by}
use Rattle.edi_record.specs.inner.Records.{Placed, zones_placed, is_open_after, is_extra}
use Rattle.edi_record.specs.inner.RecordRules.{count_until, repeats_code}
use Rattle.edi_record.specs.inner.Stored.{role_in}
use Rattle.edi_record.specs.inner.Texts.{pointer}
use Rattle.edi_record.specs.declared.pointer.Pointer.{Pointer}
use Rattle.edi_record.specs.declared.record.Kind.{Kind}
use Rattle.edi_record.specs.declared.role.ZoneRole.{ZoneRole}
use Rattle.edi_record.specs.declared.role.ZoneRole.TheVariants.{Identifier, Class, AttributeCount, AttributeClass, AttributeSet, AttributeValue, BodyCount, Position, EndPointer, EndSense, Skipped, Unknown}
use Rattle.edi_record.proofs.InStretches.{before_no}
use Rattle.edi_record.proofs.Roles.{CodeIs, code_of, place_known, point_count_known, link_known}

-- ---- pointers

pub no_pointer_told : (text : List ℕ) (r : Option Pointer) (t : Bool) → is_some r ≡ not t → option_map shown r ≡ pointer text → t ≡ is_none (pointer text)
no_pointer_told text None true e found = ap is_none found
no_pointer_told text None false e found = absurd cc
no_pointer_told text (Some p) true e found = absurd cc
no_pointer_told text (Some p) false e found = ap is_none found

-- ---- zones, with whether an attribute is open in front of them

pub placed_found : (test : Placed → Bool) (b : Bool) (z : ZoneData) (zs : List ZoneData) → test (record { open_before = b; zone = z }) ≡ true → list_any test (zones_placed b (z ∷ zs)) ≡ true
unfolding zones_placed
placed_found test b z zs e = or_left _ _ e

pub placed_passed : (test : Placed → Bool) (b next : Bool) (z : ZoneData) (zs : List ZoneData) → test (record { open_before = b; zone = z }) ≡ false → next ≡ is_open_after b z
    → list_any test (zones_placed b (z ∷ zs)) ≡ list_any test (zones_placed next zs)
unfolding zones_placed
placed_passed test b next z zs e opened = rw (e, opened) refl

pub placed_end : (test : Placed → Bool) (b : Bool) → list_any test (zones_placed b []) ≡ false
unfolding zones_placed
placed_end test b = refl

-- ---- an SNS before any FTP

pub sense_later : (all : List ZoneData) (z : ZoneData) (zs : List ZoneData) → all ≡ z ∷ zs → points_at z ≡ false → has_code (codes "SNS") z ≡ false
    → list_any (has_code (codes "SNS")) (before_first points_at all) ≡ list_any (has_code (codes "SNS")) (before_first points_at zs)
sense_later all z zs cut e f = ap (λ l. list_any (has_code (codes "SNS")) (before_first points_at l)) cut ∙ ap (list_any (has_code (codes "SNS"))) (before_no points_at z zs e) ∙ rw f refl

-- ---- extras

-- a role other than these two has a code that is known
known_role : (kind : Kind) (code : List ℕ) (r : ZoneRole) → (r ≡ Unknown → ⊥) → (r ≡ AttributeSet → ⊥) → CodeIs kind code r → is_known kind code ≡ true
known_role kind code Unknown not_unknown not_set h = absurd (not_unknown refl)
known_role kind code AttributeSet not_unknown not_set h = absurd (not_set refl)
known_role kind code Identifier not_unknown not_set h = rw h refl
known_role kind code Class not_unknown not_set h = rw h refl
known_role kind code AttributeCount not_unknown not_set h = rw h refl
known_role kind code AttributeClass not_unknown not_set h = rw h refl
known_role kind code AttributeValue not_unknown not_set h = rw h refl
known_role kind code BodyCount not_unknown not_set (inl h) = rw h.1 (point_count_known kind h.0)
known_role kind code BodyCount not_unknown not_set (inr h) = rw h.1 (link_known kind (codes "FTC") h.0 refl)
known_role kind code Position not_unknown not_set h = rw h.1 (place_known kind h.0)
known_role kind code EndPointer not_unknown not_set h = rw h.1 (link_known kind (codes "FTP") h.0 refl)
known_role kind code EndSense not_unknown not_set h = rw h.1 (link_known kind (codes "SNS") h.0 refl)
known_role kind code Skipped not_unknown not_set (inl h) = rw h refl
known_role kind code Skipped not_unknown not_set (inr (inl h)) = rw h refl
known_role kind code Skipped not_unknown not_set (inr (inr h)) = rw h refl

pub no_extra : (kind : Kind) (is_open : Bool) (z : ZoneData) (r : ZoneRole) → r ≡ role_in kind z.code → (r ≡ Unknown → ⊥) → (r ≡ AttributeSet → ⊥) → is_extra kind (record { open_before = is_open; zone = z }) ≡ false
no_extra kind is_open z r is not_unknown not_set = go (has_code (codes "TEX") z && is_open)
  where
    known : is_known kind z.code ≡ true
    known = known_role kind z.code r not_unknown not_set (code_of kind z.code r is)

    go : (b : Bool) → not (b || is_known kind z.code) ≡ false
    go true = refl
    go false = ap not known

-- ---- stretches that end where the next begins

same_count : (p q : ZoneData → Bool) → ((z : ZoneData) → p z ≡ q z) → (code : List ℕ) (zs : List ZoneData) → count_until p code zs ≡ count_until q code zs
same_count p q same code [] = refl
same_count p q same code (z ∷ zs) = rw (same z, same_count p q same code zs) refl

same_repeats : (opens p q : ZoneData → Bool) → ((z : ZoneData) → p z ≡ q z) → (code : List ℕ) (zs : List ZoneData) → repeats_code opens p code zs ≡ repeats_code opens q code zs
same_repeats opens p q same code [] = refl
same_repeats opens p q same code (z ∷ zs) = rw (same_count p q same code zs, same_repeats opens p q same code zs) refl

twice : (b : Bool) → (b || b) ≡ b
twice true = refl
twice false = refl

pub ends_repeat : (zs : List ZoneData) → repeats_code (has_code (codes "FTP")) (closes_by (codes "FTP") (codes "FTP")) (codes "SNS") zs ≡ repeats_code points_at points_at (codes "SNS") zs
ends_repeat zs = same_repeats points_at (closes_by (codes "FTP") (codes "FTP")) points_at (λ z. twice (points_at z)) (codes "SNS") zs
