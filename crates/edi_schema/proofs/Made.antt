-- The schema that records state, against the steps over what is read of them.
use Rattle.std.proofs.Common.{◌≡◌, ◌≢◌, ℕ, suc, ◌+◌, ◌-◌, ◌<◌, Bool, true, false, cond, List, [], ◌∷◌, map, drop, Option, Some, None, option_map, slice_get, count_by, codes, refl, sym, ap, ◌∙◌, subst, arith, true≢false, inl, inr}
use Rattle.std.specs.Prelude.{find}
use Rattle.std.specs.List.{AllByRecursion, AllZip, list_any}
use Rattle.std.specs.Map.{lookup}
use Rattle.std.proofs.lemmas.Option.{same_Some, none-some}
use Rattle.std.proofs.lemmas.List.Sorted.{sum_by-IsPermutation, list_any-IsPermutation}
use Rattle.edi_line.specs.ZoneData.{ZoneData}
use Rattle.edi_record.specs.declared.name.Name.{Name}
use Rattle.edi_record.specs.Records.{values, first}
use Rattle.edi_record.specs.Texts.{is_semicolon}
use Rattle.edi_record.proofs.StatesSaid.{points_said}
use Rattle.edi_schema.specs.Roles.{KindCodes, role_by, is_plain, same_role, exchanged}
use Rattle.edi_schema.specs.Classes.{Classes, is_name, has_role, is_pointable}
use Rattle.edi_schema.specs.inner.Drafts.{Said, said_in, draft_name, word_in, type_by, class_in}
use Rattle.edi_schema.specs.SchemaOf.{IsNamed, StatesWord, HasType, StatesClass, IsSchemaOf}
use Rattle.edi_schema.specs.SchemaOf.HasType.{none, some}
use Rattle.edi_schema.specs.SchemaRules.{HasRole, BreaksKinds}
use Rattle.edi_schema.specs.inner.Steps.{AreIdentified, AreStated, AreMatched, AreUnmatched}
use Rattle.edi_schema.specs.declared.class.Class.{Class}
use Rattle.edi_schema.specs.declared.role.Role.{Role}
use Rattle.edi_schema.specs.declared.role.Role.TheVariants.{Plain}
use Rattle.edi_schema.proofs.Led.{IsLed}
use Rattle.edi_schema.proofs.StepsHold.{own_name, word_named, named_class}
use Rattle.edi_schema.proofs.Paired.{one_role, itself, count-cons, is_counted, one_place, found_at}
use Rattle.edi_schema.proofs.Good.{zip_at, zip_back}
use Rattle.edi_schema.proofs.Pointable.{any_at, some_pass, by_pointable, makes_pointable, is_the_one}
use Rattle.edi_schema.proofs.RoleTests.{exchanged_back, still_plain, not_plain}

-- ---- words

abbrev pub word_of : List ZoneData → Name × Option (List ℕ)
word_of g = (draft_name g, first (values (codes "TYP") g))

zip_words : (gs : List (List ZoneData)) → ((k : ℕ) (g : List ZoneData) → slice_get gs k ≡ Some g → IsNamed g (draft_name g)) → AllZip StatesWord gs (map word_of gs)
zip_words [] named = tt
zip_words (g ∷ gs) named = ((named 0 g refl, refl), zip_words gs (λ k h e. named (suc k) h e))

found_up : (name : Name) (gs : List (List ZoneData)) (w : Said) → find (λ word. is_name name word.name) (map said_in gs) ≡ Some w → lookup (is_name name) (map word_of gs) ≡ Some w.word_type
found_up name [] w e = absurd (none-some w e)
found_up name (g ∷ gs) w e = go (is_name name (draft_name g)) refl e (found_up name gs w)
  where
    go : (b : Bool) → is_name name (draft_name g) ≡ b → cond b (Some (said_in g)) (find (λ word. is_name name word.name) (map said_in gs)) ≡ Some w
        → (find (λ word. is_name name word.name) (map said_in gs) ≡ Some w → lookup (is_name name) (map word_of gs) ≡ Some w.word_type)
        → lookup (is_name name) (map word_of (g ∷ gs)) ≡ Some w.word_type
    go true f e more = rw f (ap (λ s. Some s.word_type) (same_Some (said_in g) w e))
    go false f e more = rw f (more e)

no_first : (vs : List (List ℕ)) → first vs ≡ None → vs ≡ []
no_first [] e = refl
no_first (v ∷ vs) e = absurd (none-some v (sym e))

module _ (ws : List (List ZoneData)) (led : AllByRecursion IsLed ws) (form : AreIdentified (map said_in ws)) where
  type_found : (g : List ZoneData) (t : Option (List ℕ)) → type_by (map said_in ws) (first (values (codes "DIP") g)) ≡ Some t → HasType (map word_of ws) g t
  type_found g t e = go (first (values (codes "DIP") g)) refl e
    where
      by_word : (text : List ℕ) → first (values (codes "DIP") g) ≡ Some text → (o : Option Said) → word_in (map said_in ws) text ≡ o → option_map (λ word. word.word_type) o ≡ Some t → HasType (map word_of ws) g t
      by_word text f None h e = absurd (none-some t e)
      by_word text f (Some w) h e =
          let found = word_named ws led form text w h in
          let there : find (λ word. is_name found.0 word.name) (map said_in ws) ≡ Some w = sym (ap (Rattle.std.specs.Prelude.option_and_then (λ name. find (λ word. is_name name word.name) (map said_in ws))) found.3) ∙ h in
          some f (points_said text found.0 found.3) (found_up found.0 ws w there ∙ e)

      go : (o : Option (List ℕ)) → first (values (codes "DIP") g) ≡ o → type_by (map said_in ws) o ≡ Some t → HasType (map word_of ws) g t
      go None f e = subst (HasType (map word_of ws) g) (same_Some None t e) (none (no_first (values (codes "DIP") g) f))
      go (Some text) f e = by_word text f (word_in (map said_in ws) text) refl e

  states : (kinds : KindCodes) (g : List ZoneData) (p : Name × Class) → IsNamed g (draft_name g) → class_in kinds (map said_in ws) (said_in g) ≡ Some p → StatesClass kinds (map word_of ws) g p
  states kinds g p named e = go (type_by (map said_in ws) (first (values (codes "DIP") g))) refl e
    where
      go : (o : Option (Option (List ℕ))) → type_by (map said_in ws) (first (values (codes "DIP") g)) ≡ o → option_map (named_class kinds g) o ≡ Some p → StatesClass kinds (map word_of ws) g p
      go None f e = absurd (none-some p e)
      go (Some t) f e = subst (StatesClass kinds (map word_of ws) g) (same_Some (named_class kinds g t) p e) (record {
        typ = t;
        named = named;
        has_type = type_found g t f;
        role = refl;
        letter = refl;
        number = refl;
      })

  zip_classes : (kinds : KindCodes) (gs : List (List ZoneData)) (stated : Classes) → ((k : ℕ) (g : List ZoneData) → slice_get gs k ≡ Some g → IsNamed g (draft_name g))
      → map (class_in kinds (map said_in ws)) (map said_in gs) ≡ map Some stated → AllZip (StatesClass kinds (map word_of ws)) gs stated
  zip_classes kinds [] [] named e = tt
  zip_classes kinds [] (p ∷ ps) named e = absurd (none-some _ (ap Rattle.edi_line.specs.ZoneData.first e))
  zip_classes kinds (g ∷ gs) [] named e = absurd (none-some _ (ap Rattle.edi_line.specs.ZoneData.first (sym e)))
  zip_classes kinds (g ∷ gs) (p ∷ ps) named e =
      (states kinds g p (named 0 g refl) (same_Some _ _ (ap Rattle.edi_line.specs.ZoneData.first e)), zip_classes kinds gs ps (λ k h f. named (suc k) h f) (ap (drop 1) e))

module _ (cs ws : List (List ZoneData)) (cs_led : AllByRecursion IsLed cs) (ws_led : AllByRecursion IsLed ws) (kinds : KindCodes) (s : Classes) (are : AreStated (map said_in cs) (map said_in ws) kinds s) where
  each_class : AllZip (StatesClass kinds (map word_of ws)) cs are.stated
  each_class = zip_classes ws ws_led are.named.words_identified kinds cs are.stated (own_name cs cs_led are.named.classes_identified) are.each

  pub schema_made : IsSchemaOf cs ws kinds s
  schema_made = record {
    words = map word_of ws;
    stated = are.stated;
    each_word = zip_words ws (own_name ws ws_led are.named.words_identified);
    each_class = each_class;
    same = are.same;
    in_order = are.in_order;
  }

  -- ---- kinds

  abbrev Stated : List ZoneData → Name × Class → Type 0
  Stated = StatesClass kinds (map word_of ws)

  counts : (role : Role) → count_by (has_role role) s ≡ count_by (has_role role) are.stated
  counts role = sum_by-IsPermutation (λ e. cond (has_role role e) 1 0) are.stated s are.same

  stated_any : (test : Name × Class → Bool) → list_any test are.stated ≡ list_any test s
  stated_any test = list_any-IsPermutation test are.stated s are.same

  role_here : (k : ℕ) (role : Role) (p : Name × Class) → is_plain role ≡ false → slice_get are.stated k ≡ Some p → has_role role p ≡ true → HasRole cs ws kinds (suc k) role
  role_here k role p kind h passes =
      let g = zip_at Stated cs are.stated each_class k p h in
      let place : suc k - 1 ≡ k = omega arith in
      (g.0, p.0, (omega arith, ap (slice_get cs) place ∙ g.1), g.2.named, sym g.2.role ∙ sym (one_role role p.1.role passes), not_plain role kind)

  class_here : (m : ℕ) (role : Role) → (h : HasRole cs ws kinds m role) → (p : Name × Class) × (slice_get are.stated (m - 1) ≡ Some p) × (has_role role p ≡ true) × (h.1.rty ≡ p.0.rty)
  class_here m role h =
      let p = zip_back Stated cs are.stated each_class (m - 1) h.0 h.2.1 in
      let rid : h.1.rid ≡ p.0.0.rid = same_Some _ _ (sym h.3.rid ∙ p.2.named.rid) in
      let role_is : p.0.1.role ≡ role = p.2.role ∙ (ap (λ r. role_by kinds (first (values (codes "KND") h.0)) r) (sym rid) ∙ h.4) in
      (p.0, p.1, ap (same_role role) role_is ∙ itself role, same_Some _ _ (sym h.3.rty ∙ p.2.named.rty))

  kind_of_role : (role : Role) → role ≢ Plain → is_plain role ≡ false
  kind_of_role Rattle.edi_schema.specs.declared.role.Role.TheVariants.Initial h = refl
  kind_of_role Rattle.edi_schema.specs.declared.role.Role.TheVariants.Final h = refl
  kind_of_role Rattle.edi_schema.specs.declared.role.Role.TheVariants.Left h = refl
  kind_of_role Rattle.edi_schema.specs.declared.role.Role.TheVariants.Right h = refl
  kind_of_role Plain h = absurd (h refl)

  pub kinds_hold : AreMatched s → BreaksKinds cs ws kinds → ⊥
  kinds_hold m (inl b) =
      let one = class_here b.0 b.2 b.4 in
      let two = class_here b.1 b.2 b.5 in
      let few = m.one b.2 (kind_of_role b.2 b.4.5) in
      let same = one_place (has_role b.2) are.stated (b.0 - 1) (b.1 - 1) one.0 two.0 (omega (arith, few, counts b.2)) one.1 two.1 one.2 two.2 in
      omega (arith, same, b.3, b.4.2.0)
  kinds_hold m (inr (inl b)) =
      let one = class_here b.0 b.1 b.2 in
      let some_here = is_counted (has_role b.1) are.stated (b.0 - 1) one.0 one.1 one.2 in
      let kind = kind_of_role b.1 b.2.5 in
      let other = found_at (has_role (exchanged b.1)) are.stated (omega (arith, some_here, counts b.1, counts (exchanged b.1), m.both b.1 kind)) in
      b.3 (suc other.0) (role_here other.0 (exchanged b.1) other.1 (still_plain b.1 ∙ kind) other.3 other.4)
  kinds_hold m (inr (inr b)) =
      let one = class_here b.0 b.2 b.3 in
      let two = class_here b.1 (exchanged b.2) b.4 in
      let kind = kind_of_role b.2 b.3.5 in
      let free : list_any is_semicolon two.0.0.rty ≡ false = ap (list_any is_semicolon) (sym two.3) ∙ b.6 in
      let other = some_pass (is_pointable (exchanged b.2)) are.stated (b.1 - 1) two.0 two.1 (makes_pointable (exchanged b.2) two.0 two.2 free) in
      let named = stated_any (is_pointable b.2) ∙ (m.pointable b.2 kind ∙ (sym (stated_any (is_pointable (exchanged b.2))) ∙ other)) in
      let few = m.one b.2 kind in
      let none = is_the_one are.stated b.2 (omega (arith, few, counts b.2)) named (b.0 - 1) one.0 one.1 one.2 in
      true≢false (sym b.5 ∙ (ap (list_any is_semicolon) one.3 ∙ none))

  two_places : {X : Type 0} (test : X → Bool) (xs : List X) → 1 < count_by test xs → (i k : ℕ) × (x y : X) × (i < k) × (slice_get xs i ≡ Some x) × (slice_get xs k ≡ Some y) × (test x ≡ true) × (test y ≡ true)
  two_places test [] more = absurd (omega arith)
  two_places {X} test (x ∷ xs) more = go (test x) refl (two_places test xs)
    where
      go : (b : Bool) → test x ≡ b → (1 < count_by test xs → (i k : ℕ) × (y z : X) × (i < k) × (slice_get xs i ≡ Some y) × (slice_get xs k ≡ Some z) × (test y ≡ true) × (test z ≡ true))
          → (i k : ℕ) × (y z : X) × (i < k) × (slice_get (x ∷ xs) i ≡ Some y) × (slice_get (x ∷ xs) k ≡ Some z) × (test y ≡ true) × (test z ≡ true)
      go true e rest =
          let total : count_by test (x ∷ xs) ≡ 1 + count_by test xs = count-cons test x xs ∙ ap (λ b. cond b 1 0 + count_by test xs) e in
          let next = found_at test xs (omega (arith, total, more)) in
          (0, suc next.0, x, next.1, omega arith, refl, next.3, e, next.4)
      go false e rest =
          let total : count_by test (x ∷ xs) ≡ 0 + count_by test xs = count-cons test x xs ∙ ap (λ b. cond b 1 0 + count_by test xs) e in
          let two = rest (omega (arith, total, more)) in
          (suc two.0, suc two.1, two.2, two.3, omega (arith, two.4), two.5, two.6, two.7, two.8)

  -- a class of a kind that no pointer can name, where one can name its partner
  semicolon_here : (role : Role) → is_plain role ≡ false → (m k : ℕ) (e f : Name × Class) → slice_get are.stated m ≡ Some e → is_pointable role e ≡ true
      → slice_get are.stated k ≡ Some f → has_role (exchanged role) f ≡ true → list_any is_semicolon f.0.rty ≡ true → BreaksKinds cs ws kinds
  unfolding role_here
  semicolon_here role kind m k e f h pointed g other holds =
      let parts = by_pointable role e pointed in
      let other_kind = still_plain role ∙ kind in
      let again : has_role (exchanged (exchanged role)) e ≡ true = ap (λ r. has_role r e) (exchanged_back role) ∙ parts.0 in
      inr (inr (
        suc k,
        suc m,
        exchanged role,
        role_here k (exchanged role) f other_kind g other,
        role_here m (exchanged (exchanged role)) e (still_plain (exchanged role) ∙ other_kind) h again,
        holds,
        parts.1,
      ))

  unnamed : (role : Role) → is_plain role ≡ false → (m : ℕ) (e : Name × Class) → slice_get are.stated m ≡ Some e → is_pointable role e ≡ true
      → list_any (is_pointable (exchanged role)) are.stated ≡ false → BreaksKinds cs ws kinds
  unnamed role kind m e h pointed lacks = go (list_any (has_role (exchanged role)) are.stated) refl
    where
      with_class : (k : ℕ) (f : Name × Class) → slice_get are.stated k ≡ Some f → has_role (exchanged role) f ≡ true → (b : Bool) → list_any is_semicolon f.0.rty ≡ b → BreaksKinds cs ws kinds
      with_class k f g other true i = semicolon_here role kind m k e f h pointed g other i
      with_class k f g other false i =
          absurd (true≢false (sym (some_pass (is_pointable (exchanged role)) are.stated k f g (makes_pointable (exchanged role) f other i)) ∙ lacks))

      go : (b : Bool) → list_any (has_role (exchanged role)) are.stated ≡ b → BreaksKinds cs ws kinds
      go true i =
          let found = any_at (has_role (exchanged role)) are.stated i in
          with_class found.0 found.1 found.2 found.3 (list_any is_semicolon found.1.0.rty) refl
      go false i =
          inr (inl (
            suc m,
            role,
            role_here m role e kind h (by_pointable role e pointed).0,
            λ n there. let class = class_here n (exchanged role) there in
                true≢false (sym (some_pass (has_role (exchanged role)) are.stated (n - 1) class.0 class.1 class.2) ∙ i),
          ))

  pub kinds_break : AreUnmatched s → BreaksKinds cs ws kinds
  kinds_break (inr (role, kind, named, lacks)) =
      let found = any_at (is_pointable role) are.stated (stated_any (is_pointable role) ∙ named) in
      unnamed role kind found.0 found.1 found.2 found.3 (stated_any (is_pointable (exchanged role)) ∙ lacks)
  kinds_break (inl (role, kind, inl many)) =
      let two = two_places (has_role role) are.stated (omega (arith, many, counts role)) in
      inl (suc two.0, suc two.1, role, omega (arith, two.4), role_here two.0 role two.2 kind two.5 two.7, role_here two.1 role two.3 kind two.6 two.8)
  kinds_break (inl (role, kind, inr alone)) =
      let one = found_at (has_role role) are.stated (omega (arith, alone.0, counts role)) in
      inr (inl (
        suc one.0,
        role,
        role_here one.0 role one.1 kind one.3 one.4,
        λ m h.
            let other = class_here m (exchanged role) h in
            let some_other = is_counted (has_role (exchanged role)) are.stated (m - 1) other.0 other.1 other.2 in
            omega (arith, some_other, alone.1, counts (exchanged role)),
      ))
