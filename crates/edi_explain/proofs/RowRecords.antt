-- The records of a sheet and the groups of zones that state them: names, and links with ends.
use Rattle.std.proofs.Common.{◌≡◌, ◌∙◌, ◌<◌, inl, inr, ℕ, Bool, true, false, cond, List, [], ◌∷◌, ◌++◌, Option, Some, None, MatchOption, length, filter, get_or, map, refl, sym, ap, subst, arith, codes, slice_get}
use Rattle.std.specs.Prelude.{IsSomeAnd}
use Rattle.std.specs.List.{AllZip}
use Rattle.std.proofs.lemmas.Option.{slice_get-get_or, slice_get_within, same_Some}
use Rattle.std.proofs.lemmas.Slice.Zip.{AllZip-left, AllZip-right}
use Rattle.edi_line.specs.ZoneData.{ZoneData, has_code}
use Rattle.edi_line.specs.Made.{AreMadeFrom}
use Rattle.edi_record.specs.Records.{IsEndAt, States, first, is_link, points_at, values}
use Rattle.edi_record.specs.Shapes.{kind_code}
use Rattle.edi_record.specs.declared.name.Name.{Name}
use Rattle.edi_record.specs.LinkEnds.{EndData}
use Rattle.edi_record.specs.declared.record.Kind.TheVariants.{Lnk}
use Rattle.edi_record.specs.declared.record.Record.{Record}
use Rattle.edi_record.proofs.KindCodes.{link_is, kind_from_code}
use Rattle.edi_plan.specs.PlanOf.{own_name}
use Rattle.edi_schema.specs.SchemaOf.{IsNamed}
use Rattle.edi_explain.specs.Partners.{HasEnd, SharesName}
use Rattle.edi_explain.specs.RowPartners.{SharesRowName}
use Rattle.edi_explain.specs.inner.RowPartners.{IsEarlierRow, IsLinked}

some_and : {X : Type 0} (P : X → Type 0) (o : Option X) → IsSomeAnd o P → (x : X) × (o ≡ Some x) × P x
some_and P (Some x) h = (x, refl, h)
some_and P None h = absurd h

-- ---- a group and its record

named_record : (g : List ZoneData) (r : Record) → States g r → IsNamed g (own_name r)
named_record g r h = record { rty = ap first h.type; rid = ap first h.rid }

one_name : (g : List ZoneData) (name : Name) (r : Record) → IsNamed g name → States g r → name ≡ own_name r
one_name g name r n h =
    let own = named_record g r h in
    let rty : name.rty ≡ (own_name r).rty = same_Some _ _ (sym n.rty ∙ own.rty) in
    let rid : name.rid ≡ (own_name r).rid = same_Some _ _ (sym n.rid ∙ own.rid) in
    λ i. record { rty = rty i; rid = rid i }

-- the ends of these zones
ends_there : (front zs : List ZoneData) (items : List EndData) → AreMadeFrom (λ f z. points_at z ≡ true) IsEndAt front zs items → 0 < length items
    → (text : List ℕ) × (first (values (codes "FTP") zs) ≡ Some text)
ends_there front [] items h some = absurd (omega (arith, ap length h, some))
ends_there front (z ∷ zs) items (inl h) some = (z.value, ap (λ (b : Bool). first (map (λ (x : ZoneData). x.value) (cond b (z ∷ filter (has_code (codes "FTP")) zs) (filter (has_code (codes "FTP")) zs)))) h.2)
ends_there front (z ∷ zs) items (inr h) some =
    let more = ends_there (front ++ z ∷ []) zs items h.1 some in
    (more.0, skipped more.0 (points_at z) refl h.0 more.1)
  where
    skipped : (text : List ℕ) (b : Bool) → points_at z ≡ b → ¬ (points_at z ≡ true) → first (values (codes "FTP") zs) ≡ Some text → first (values (codes "FTP") (z ∷ zs)) ≡ Some text
    skipped text true e not is = absurd (not e)
    skipped text false e not is = ap (λ (b : Bool). first (map (λ (x : ZoneData). x.value) (cond b (z ∷ filter (has_code (codes "FTP")) zs) (filter (has_code (codes "FTP")) zs)))) e ∙ is

there_ends : (front zs : List ZoneData) (items : List EndData) (text : List ℕ) → first (values (codes "FTP") zs) ≡ Some text
    → AreMadeFrom (λ f z. points_at z ≡ true) IsEndAt front zs items → 0 < length items
there_ends front [] items text e h = absurd cc
there_ends front (z ∷ zs) items text e (inl h) = omega (arith, ap length h.4)
there_ends front (z ∷ zs) items text e (inr h) = there_ends (front ++ z ∷ []) zs items text (skipped (points_at z) refl h.0) h.1
  where
    skipped : (b : Bool) → points_at z ≡ b → ¬ (points_at z ≡ true) → first (values (codes "FTP") zs) ≡ Some text
    skipped true is not = absurd (not is)
    skipped false is not = sym (ap (λ (b : Bool). first (map (λ (x : ZoneData). x.value) (cond b (z ∷ filter (has_code (codes "FTP")) zs) (filter (has_code (codes "FTP")) zs)))) is) ∙ e

link_has : (g : List ZoneData) (q : Record) → States g q → 0 < length q.ends → IsLinked g
link_has g q h some = go (is_link q.kind) refl
  where
    go : (b : Bool) → is_link q.kind ≡ b → IsLinked g
    go true e =
        let more = ends_there [] g q.ends (subst (λ b. AreMadeFrom (λ f z. points_at z ≡ true) IsEndAt [] (cond b g []) q.ends) e h.ends) some in
        (more.0, ap first h.type ∙ ap (λ k. Some (kind_code k)) (link_is q.kind e), more.1)
    go false e =
        let none : q.ends ≡ [] = subst (λ b. AreMadeFrom (λ f z. points_at z ≡ true) IsEndAt [] (cond b g []) q.ends) e h.ends in
        absurd (omega (arith, ap length none, some))

has_link : (g : List ZoneData) (q : Record) → States g q → IsLinked g → 0 < length q.ends
has_link g q h d =
    let kind : q.kind ≡ Lnk = kind_from_code q.kind Lnk (same_Some _ _ (sym (ap first h.type) ∙ d.1)) in
    there_ends [] g q.ends d.0 d.2 (subst (λ b. AreMadeFrom (λ f z. points_at z ≡ true) IsEndAt [] (cond b g []) q.ends) (ap is_link kind) h.ends)

-- ---- all of them

module _ (groups : List (List ZoneData)) (list : List Record) (all : AllZip States groups list) where
  record_of : (k : ℕ) (g : List ZoneData) → slice_get groups k ≡ Some g → (r : Record) × (slice_get list k ≡ Some r) × States g r
  record_of k g at = some_and (States g) (slice_get list k)
      (subst (λ o. MatchOption o (Unit {0}) (λ x. IsSomeAnd (slice_get list k) (States x))) at (AllZip-left States groups list all k))

  group_of : (k : ℕ) (r : Record) → slice_get list k ≡ Some r → (g : List ZoneData) × (slice_get groups k ≡ Some g) × States g r
  group_of k r at = some_and (λ g. States g r) (slice_get groups k)
      (subst (λ o. MatchOption o (Unit {0}) (λ y. IsSomeAnd (slice_get groups k) (λ x. States x y))) at (AllZip-right States groups list all k))

  module _ (place m : ℕ) where
    pub names_shared : SharesRowName groups place m → SharesName list place m
    names_shared h =
        let q = record_of m h.0 h.3 in
        let r = record_of place h.1 h.4 in
        (q.0, r.0, h.2, q.1, r.1, sym (one_name h.0 h.5.0 q.0 h.5.1 q.2) ∙ one_name h.1 h.5.0 r.0 h.5.2 r.2)

    pub rows_shared : SharesName list place m → SharesRowName groups place m
    rows_shared h =
        let g = group_of m h.0 h.3 in
        let k = group_of place h.1 h.4 in
        (g.0, k.0, h.2, g.1, k.1, (own_name h.0, named_record g.0 h.0 g.2, subst (IsNamed k.0) (sym h.5) (named_record k.0 h.1 k.2)))

    pub link_ends : IsEarlierRow IsLinked groups place m → HasEnd list place m
    link_ends h =
        let q = record_of m h.0 h.3 in
        let r = record_of place h.1 h.4 in
        (q.0, h.2, q.1, has_link h.0 q.0 q.2 h.5, slice_get_within list place r.0 r.1)

    pub end_links : HasEnd list place m → IsEarlierRow IsLinked groups place m
    end_links h =
        let g = group_of m h.0 h.2 in
        let k = group_of place (get_or list place h.0) (slice_get-get_or list place h.0 h.4) in
        (g.0, k.0, h.1, g.1, k.1, link_has g.0 h.0 g.2 h.3)
