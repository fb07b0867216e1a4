-- The names in a table, and the place of one.
use Rattle.std.proofs.Common.{◌≡◌, ℕ, suc, ◌+◌, ◌<◌, Bool, true, false, ◌&&◌, ◌||◌, List, [], ◌∷◌, ◌++◌, length, map, take, get_or, Option, Some, None, refl, sym, ap, ◌∙◌, subst, arith, if◌then◌else◌}
use Rattle.std.specs.List.{list_any, position}
use Rattle.std.specs.Str.{bytes_eq}
use Rattle.std.proofs.lemmas.List.{get_or-map, get_or-take, get_or_default, length-map, length-take-le, map-append, take_more}
use Rattle.std.proofs.lemmas.List.Quantifiers.{position-Some}
use Rattle.std.proofs.lemmas.List.Sums.{fails_before_first}
use Rattle.std.proofs.lemmas.Slice.Eq.{bytes_eq-Decides}
use Rattle.std.proofs.lemmas.Bool.{and_parts, false_from_ne_true}
use Rattle.indexmap.specs.IndexSet.{insert_key}
use Rattle.edi_record.proofs.GroupCuts.{place_at_None}
use Rattle.edi_record.specs.declared.record.Kind.{Kind}
use Rattle.edi_record.specs.declared.record.Kind.TheVariants.{Pno, Par, Pfe, Fea, Lnk}
use Rattle.edi_record.specs.contracts.record.KindPartialEq.TheImpl.{ghosts as kinds}
use Rattle.edi_pairing.specs.Names.{AreNames, name_at}
use Rattle.edi_pairing.specs.inner.Places.{owned_name, IsPlaceIfAny}
use Rattle.edi_pairing.specs.declared.names.RecordName.{RecordName}
use Rattle.edi_pairing.specs.declared.places.BorrowedName.{BorrowedName}
use Rattle.edi_pairing.specs.contracts.places.BorrowedNamePartialEq.TheImpl.{ghosts as names}

pub kind_same : (a b : Kind) → kinds.eq a b ≡ true → a ≡ b
kind_same Pno Pno h = refl
kind_same Pno Par h = cc
kind_same Pno Pfe h = cc
kind_same Pno Fea h = cc
kind_same Pno Lnk h = cc
kind_same Par Pno h = cc
kind_same Par Par h = refl
kind_same Par Pfe h = cc
kind_same Par Fea h = cc
kind_same Par Lnk h = cc
kind_same Pfe Pno h = cc
kind_same Pfe Par h = cc
kind_same Pfe Pfe h = refl
kind_same Pfe Fea h = cc
kind_same Pfe Lnk h = cc
kind_same Fea Pno h = cc
kind_same Fea Par h = cc
kind_same Fea Pfe h = cc
kind_same Fea Fea h = refl
kind_same Fea Lnk h = cc
kind_same Lnk Pno h = cc
kind_same Lnk Par h = cc
kind_same Lnk Pfe h = cc
kind_same Lnk Fea h = cc
kind_same Lnk Lnk h = refl

pub kind_itself : (a : Kind) → kinds.eq a a ≡ true
kind_itself Pno = refl
kind_itself Par = refl
kind_itself Pfe = refl
kind_itself Fea = refl
kind_itself Lnk = refl

-- two borrowed names that `==` holds equal are one name
pub eq_name : (a b : BorrowedName) → names.eq a b ≡ true → owned_name a ≡ owned_name b
eq_name a b h =
    let parts = and_parts (kinds.eq a.kind b.kind) (bytes_eq a.rid.now b.rid.now) h in
    let kind = kind_same a.kind b.kind parts.0 in
    let rid = (bytes_eq-Decides a.rid.now b.rid.now).0 parts.1 in
    λ i. record { kind = kind i; rid = rid i }

pub name_eq : (a b : BorrowedName) → owned_name a ≡ owned_name b → names.eq a b ≡ true
name_eq a b h =
    let kind : kinds.eq a.kind b.kind ≡ true = subst (λ k. kinds.eq a.kind k ≡ true) (ap (λ (n : RecordName). n.kind) h) (kind_itself a.kind) in
    let rid : bytes_eq a.rid.now b.rid.now ≡ true = (bytes_eq-Decides a.rid.now b.rid.now).1 (ap (λ (n : RecordName). n.rid) h) in
    go (kinds.eq a.kind b.kind) (bytes_eq a.rid.now b.rid.now) kind rid
  where
    go : (p q : Bool) → p ≡ true → q ≡ true → (p && q) ≡ true
    go p q hp hq = cc

-- a name that some key equals is one of the keys' names
any_at : (name : BorrowedName) (keys : List BorrowedName) → list_any (names.eq name) keys ≡ true → (j : ℕ) × (j < length keys) × (name_at (map owned_name keys) j ≡ owned_name name)
any_at name [] h = cc
any_at name (k ∷ ks) h = go (names.eq name k) refl h (any_at name ks)
  where
    go : (b : Bool) → names.eq name k ≡ b → (b || list_any (names.eq name) ks) ≡ true
        → (list_any (names.eq name) ks ≡ true → (j : ℕ) × (j < length ks) × (name_at (map owned_name ks) j ≡ owned_name name))
        → (j : ℕ) × (j < suc (length ks)) × (name_at (owned_name k ∷ map owned_name ks) j ≡ owned_name name)
    go true t h more = (0, omega arith, sym (eq_name name k t))
    go false t h more = let m = more h in (suc m.0, omega (arith, m.1), m.2)

module _ (all : List RecordName) (are : AreNames all) where
  -- the next name goes last
  pub name_added : (keys new : List BorrowedName) (i : ℕ) (name : BorrowedName) (x : RecordName) → i < length all → map owned_name keys ≡ take i all → x ≡ get_or all i x → owned_name name ≡ x → new ≡ insert_key names.eq keys name
      → map owned_name new ≡ take (i + 1) all
  name_added keys new i name x less e at is added =
      let here : name_at all i ≡ owned_name name = get_or_default all i _ x less ∙ (sym at ∙ sym is) in
      let long : length keys ≡ i = sym (length-map keys owned_name) ∙ (ap length e ∙ length-take-le i all (omega arith)) in
      let alone : list_any (names.eq name) keys ≡ false = false_from_ne_true _ (λ t.
      let found = any_at name keys t in
      let below : found.0 < i = omega (arith, found.1, long) in
      let there : name_at all found.0 ≡ owned_name name = sym (get_or-take i all found.0 _ below) ∙ (ap (λ ns. name_at ns found.0) (sym e) ∙ found.2) in
      let same = are.distinct found.0 i (omega arith) less (there ∙ sym here) in
      omega (arith, same, below)) in
      let put : new ≡ keys ++ name ∷ [] = added ∙ ap (λ b. if b then keys else keys ++ name ∷ []) alone in
      ap (map owned_name) put ∙ (map-append owned_name keys (name ∷ []) ∙ (ap (λ ns. ns ++ owned_name name ∷ []) e ∙ (ap (λ n. take i all ++ n ∷ []) (is ∙ at) ∙ sym (take_more all i x less))))

-- what a look-up finds
pub place_found : (keys : List BorrowedName) (name : BorrowedName) (found : Option ℕ) → found ≡ position (names.eq name) keys → IsPlaceIfAny (map owned_name keys) (owned_name name) found
place_found keys name None e = λ t less is.
    let within : t < length keys = omega (arith, length-map keys owned_name) in
    let fails = fails_before_first (names.eq name) keys t name (omega (arith, place_at_None (names.eq name) keys (sym e))) in
    let equal = name_eq name (get_or keys t name) (sym is ∙ get_or-map owned_name keys t name _ within) in
    absurd (true_false (sym equal ∙ fails))
  where
    true_false : true ≡ false → ⊥
    true_false h = cc
place_found keys name (Some k) e =
    let at = position-Some (names.eq name) keys k name (sym e) in
    (omega (arith, at.0, length-map keys owned_name), get_or-map owned_name keys k name _ at.0 ∙ sym (eq_name name (get_or keys k name) at.1))
