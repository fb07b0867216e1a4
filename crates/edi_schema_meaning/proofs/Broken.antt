-- A plan breaks the rules of topology and of objects that it breaks with its classes renamed.
use Rattle.std.proofs.Common.{◌≡◌, ◌⊎◌, inl, inr, ℕ, Bool, true, false, cond, ◌&&◌, ◌==◌, List, [], ◌∷◌, map, Some, None, option_map, count_by, IsPermutation, refl, sym, ap, ◌∙◌, subst}
use Rattle.std.specs.List.{AllZip, list_any}
use Rattle.std.proofs.lemmas.List.Sorted.{IsPermutation-map}
use Rattle.edi_record.specs.Records.{is_link}
use Rattle.edi_record.specs.declared.record.Kind.{Kind}
use Rattle.edi_record.specs.declared.record.Point.{Point}
use Rattle.edi_schema.specs.declared.role.Role.{Role}
use Rattle.edi_schema.specs.declared.role.Role.TheVariants.{Left, Right}
use Rattle.edi_plan.specs.Plans.{PlanData, is_object, record_at}
use Rattle.edi_plan.specs.Sides.{Side}
use Rattle.edi_plan.specs.declared.record.PlanRecord.{PlanRecord}
use Rattle.edi_topo.specs.TopologyRules.{AreEqualNodes, BreaksTopologyRule, HasPoints}
use Rattle.edi_topo.specs.TopologyRules.BreaksTopologyRule.{starts_elsewhere, ends_elsewhere, repeats_node, equals_reverse, repeats_arc, bounds_nothing}
use Rattle.edi_rank.specs.EqualObjects.{AreEqualObjects, BreaksObjectRule, Piece, SamePiece, SameUpTo, piece, pieces}
use Rattle.edi_rank.specs.EqualObjects.BreaksObjectRule.{repeats_object}
use Rattle.edi_rank.specs.Keys.{is_piece}
use Rattle.edi_schema_meaning.proofs.Renamed.{ends_at, extras_at, filter_map-map, kind_at, place_back, place_in, points_at, record_in, renamed, renamed_attribute, renamed_record, role_at}

module _ (f : ℕ → ℕ) (p : PlanData) where
  -- ---- sides

  side_in : (a : ℕ) (role : Role) (x : ℕ) → Side p a role x → Side (renamed f p) a role x
  side_in a role x s = record {
    link = s.link;
    there = place_in f p s.link s.there;
    is_link = kind_at f p s.link ∙ s.is_link;
    has_role = role_at f p s.link ∙ s.has_role;
    not_plain = s.not_plain;
    arc_there = place_in f p a s.arc_there;
    is_arc = kind_at f p a ∙ s.is_arc;
    ends = subst (λ es. (map (λ e. e.target) es ≡ a ∷ x ∷ []) ⊎ (map (λ e. e.target) es ≡ x ∷ a ∷ [])) (sym (ends_at f p s.link)) s.ends;
  }

  side_back : (a : ℕ) (role : Role) (x : ℕ) → Side (renamed f p) a role x → Side p a role x
  side_back a role x s = record {
    link = s.link;
    there = place_back f p s.link s.there;
    is_link = sym (kind_at f p s.link) ∙ s.is_link;
    has_role = sym (role_at f p s.link) ∙ s.has_role;
    not_plain = s.not_plain;
    arc_there = place_back f p a s.arc_there;
    is_arc = sym (kind_at f p a) ∙ s.is_arc;
    ends = subst (λ es. (map (λ e. e.target) es ≡ a ∷ x ∷ []) ⊎ (map (λ e. e.target) es ≡ x ∷ a ∷ [])) (ends_at f p s.link) s.ends;
  }

  points_in : (kind : Kind) (k : ℕ) (points : List Point) → HasPoints p kind k points → HasPoints (renamed f p) kind k points
  points_in kind k points h = (place_in f p k h.0, kind_at f p k ∙ h.1, points_at f p k ∙ h.2)

  -- ---- topology

  nodes_in : (m n : ℕ) → AreEqualNodes p m n → AreEqualNodes (renamed f p) m n
  nodes_in m n e = record {
    first = place_in f p m e.first;
    second = place_in f p n e.second;
    first_node = kind_at f p m ∙ e.first_node;
    second_node = kind_at f p n ∙ e.second_node;
    points = points_at f p m ∙ (e.points ∙ sym (points_at f p n));
    class = ap (λ r. r.class) (record_in f p m e.first) ∙ (ap f e.class ∙ sym (ap (λ r. r.class) (record_in f p n e.second)));
    attributes = subst (λ r. IsPermutation r.attributes (record_at (renamed f p) n).attributes) (sym (record_in f p m e.first))
        (subst (λ r. IsPermutation (map (renamed_attribute f) (record_at p m).attributes) r.attributes) (sym (record_in f p n e.second)) (IsPermutation-map (renamed_attribute f) _ _ e.attributes));
    extras = extras_at f p m ∙ (e.extras ∙ sym (extras_at f p n));
  }

  pub topology_in : (rule at : ℕ) → BreaksTopologyRule p rule at → BreaksTopologyRule (renamed f p) rule at
  topology_in rule at (starts_elsewhere r h) =
      starts_elsewhere r (h.0, h.1, h.2, h.3, h.4, h.5, points_in _ _ _ h.6, side_in _ _ _ h.7, points_in _ _ _ h.8, h.9)
  topology_in rule at (ends_elsewhere r h) =
      ends_elsewhere r (h.0, h.1, h.2, h.3, h.4, h.5, points_in _ _ _ h.6, side_in _ _ _ h.7, points_in _ _ _ h.8, h.9)
  topology_in rule at (repeats_node r h) = repeats_node r (h.0, h.1, h.2, h.3, nodes_in h.0 h.1 h.4)
  topology_in rule at (equals_reverse r h) = equals_reverse r (h.0, h.1, h.2, points_in _ _ _ h.3, h.4)
  topology_in rule at (repeats_arc r h) = repeats_arc r (h.0, h.1, h.2, h.3, h.4, h.5, points_in _ _ _ h.6, points_in _ _ _ h.7, h.8)
  topology_in rule at (bounds_nothing r h) = bounds_nothing r (h.0, h.1, h.2, points_in _ _ _ h.3, λ a s. h.4 a (sides a s))
    where
      sides : (a : ℕ) → (Side (renamed f p) a Left h.0) ⊎ (Side (renamed f p) a Right h.0) → (Side p a Left h.0) ⊎ (Side p a Right h.0)
      sides a (inl s) = inl (side_back a Left h.0 s)
      sides a (inr s) = inr (side_back a Right h.0 s)

  -- ---- objects

  renamed_piece : Piece → Piece
  renamed_piece x = record { class = f x.class; origin = x.origin; others = x.others; attributes = map (renamed_attribute f) x.attributes; extras = x.extras }

  pub piece_in : (object : ℕ) (r : PlanRecord) → is_piece (renamed f p) object (renamed_record f r) ≡ is_piece p object r
  piece_in object r = λ i. is_link r.kind && (count_by (λ e. is_object (kind_at f p e.target i)) r.ends == 1) && list_any (λ e. e.target == object) r.ends

  one_piece : (object : ℕ) (r : PlanRecord)
      → cond (is_piece (renamed f p) object (renamed_record f r)) (Some (piece object (renamed_record f r))) None ≡ option_map renamed_piece (cond (is_piece p object r) (Some (piece object r)) None)
  unfolding renamed_piece
  one_piece object r = ap (λ b. cond b (Some (piece object (renamed_record f r))) None) (piece_in object r) ∙ go (is_piece p object r)
    where
      go : (b : Bool) → cond b (Some (piece object (renamed_record f r))) None ≡ option_map renamed_piece (cond b (Some (piece object r)) None)
      go true = refl
      go false = refl

  pieces_in : (object : ℕ) → pieces (renamed f p) object ≡ map renamed_piece (pieces p object)
  pieces_in object = filter_map-map (renamed_record f) renamed_piece _ _ (one_piece object) p.list

  same_piece : (a b : Piece) → SamePiece a b → SamePiece (renamed_piece a) (renamed_piece b)
  unfolding renamed_piece
  same_piece a b s = record { class = ap f s.class; origin = s.origin; others = s.others; attributes = IsPermutation-map (renamed_attribute f) _ _ s.attributes; extras = s.extras }

  zip_pieces : (xs ys : List Piece) → AllZip SamePiece xs ys → AllZip SamePiece (map renamed_piece xs) (map renamed_piece ys)
  zip_pieces [] [] all = tt
  zip_pieces [] (y ∷ ys) all = absurd all
  zip_pieces (x ∷ xs) [] all = absurd all
  zip_pieces (x ∷ xs) (y ∷ ys) all = (same_piece x y all.0, zip_pieces xs ys all.1)

  up_to : (xs ys : List Piece) → SameUpTo SamePiece xs ys → SameUpTo SamePiece (map renamed_piece xs) (map renamed_piece ys)
  up_to xs ys h = (map renamed_piece h.0, IsPermutation-map renamed_piece _ _ h.1, zip_pieces xs h.0 h.2)

  objects_in : (m n : ℕ) → AreEqualObjects p m n → AreEqualObjects (renamed f p) m n
  objects_in m n e = record {
    first = place_in f p m e.first;
    second = place_in f p n e.second;
    first_object = kind_at f p m ∙ e.first_object;
    second_object = kind_at f p n ∙ e.second_object;
    class = ap (λ r. r.class) (record_in f p m e.first) ∙ (ap f e.class ∙ sym (ap (λ r. r.class) (record_in f p n e.second)));
    attributes = subst (λ r. IsPermutation r.attributes (record_at (renamed f p) n).attributes) (sym (record_in f p m e.first))
        (subst (λ r. IsPermutation (map (renamed_attribute f) (record_at p m).attributes) r.attributes) (sym (record_in f p n e.second)) (IsPermutation-map (renamed_attribute f) _ _ e.attributes));
    extras = extras_at f p m ∙ (e.extras ∙ sym (extras_at f p n));
    pieces = subst (λ l. SameUpTo SamePiece l (pieces (renamed f p) n)) (sym (pieces_in m)) (subst (λ l. SameUpTo SamePiece (map renamed_piece (pieces p m)) l) (sym (pieces_in n)) (up_to (pieces p m) (pieces p n) e.pieces));
  }

  pub object_rule_in : (rule at : ℕ) → BreaksObjectRule p rule at → BreaksObjectRule (renamed f p) rule at
  object_rule_in rule at (repeats_object {m} {n} r a h e) = repeats_object r a h (objects_in m n e)
