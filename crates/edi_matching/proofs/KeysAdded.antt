-- Pairs of records whose entries have one key.
use Rattle.std.proofs.Common.{◌≡◌, ℕ, ◌<◌, Bool, true, false, List, Option, Contains, cond, get_or, length, refl, sym, ap, ◌∙◌, subst, Some}
use Rattle.std.proofs.lemmas.List.{get_or_default, get_or_read}
use Rattle.edi_schema.specs.Roles.{exchanged}
use Rattle.edi_schema.specs.declared.role.Role.{Role}
use Rattle.edi_plan.specs.Plans.{PlanData}
use Rattle.edi_plan.specs.Sides.{IsSideIfAny, Side}
use Rattle.edi_rank.specs.Labelling.{turned_at}
use Rattle.edi_matching.specs.Matchings.{GoesTo}
use Rattle.edi_matching.specs.declared.matching.Matching.{Matching}
use Rattle.edi_matching.specs.declared.ranked.Member.{Member}
use Rattle.edi_matching.specs.inner.Additions.{AddsPairs, AreAlike, AreAlikeBeside, AreLone, HasKey, HaveLoneKey, HaveOneKey, IsLone, PairsIfAlike, PairsIfBoth, PairsIfFree}
use Rattle.edi_matching.proofs.PairsAdded.{adds_if_alike, adds_if_both, adds_if_free, adds_then, adds_wider}

-- one pair more

module _ (Pair : ℕ → ℕ → Type 0) (start : List (Option ℕ)) (free : List Bool) (to : List (Option ℕ)) (taken : List Bool) (more : List (Option ℕ)) (marks : List Bool) (so : AddsPairs Pair start free to taken) where
  pub then_free : (i j : ℕ) → Pair i j → PairsIfFree i j to taken more marks → AddsPairs Pair start free more marks
  then_free i j pair pairs = adds_then Pair start free to taken more marks so (adds_if_free Pair i j to taken more marks pair pairs)

  pub then_alike : (p q : PlanData) (i j : ℕ) → (AreAlike p q i j → Pair i j) → PairsIfAlike p q i j to taken more marks → AddsPairs Pair start free more marks
  then_alike p q i j pair pairs = adds_then Pair start free to taken more marks so (adds_if_alike Pair p q i j to taken more marks pair pairs)

  pub then_both : (p q : PlanData) (place target : Option ℕ) → ((i j : ℕ) → place ≡ Some i → target ≡ Some j → AreAlike p q i j → Pair i j) → PairsIfBoth p q place target to taken more marks
      → AddsPairs Pair start free more marks
  then_both p q place target pair pairs = adds_then Pair start free to taken more marks so (adds_if_both Pair p q place target to taken more marks pair pairs)

  pub then_more : (Other : ℕ → ℕ → Type 0) → ((i j : ℕ) → Other i j → Pair i j) → AddsPairs Other to taken more marks → AddsPairs Pair start free more marks
  then_more Other wider pairs = adds_then Pair start free to taken more marks so (adds_wider Other Pair to taken more marks wider pairs)

-- entries with one key

abbrev pub one_key : {K X : Type 0} (eq : K → K → Bool) (place : X → ℕ) (entries others : List (K × X)) (x y : K × X) → Contains entries x → Contains others y → eq y.0 x.0 ≡ true
    → HaveOneKey eq place entries others (place x.1) (place y.1)
one_key eq place entries others x y here there same = record { here = x; there = y; listed = here; listed_there = there; same = same; is_here = refl; is_there = refl }

pub lone_key : {K X : Type 0} (eq : K → K → Bool) (place : X → ℕ) (entries others : List (K × X)) (x y : K × X) (here : Contains entries x) (there : Contains others y) → eq y.0 x.0 ≡ true
    → IsLone eq entries here.0 → IsLone eq others there.0 → HaveLoneKey eq place entries others (place x.1) (place y.1)
lone_key eq place entries others x y here there same lone lone_there = record { one = one_key eq place entries others x y here there same; lone = lone; lone_there = lone_there }

-- the sides of arcs

abbrev pub AreOnSides : PlanData → PlanData → ℕ → ℕ → Bool → ℕ → ℕ → Type 0
AreOnSides p q arc target is_turned i j = (role : Role) × Side p arc role i × Side q target (cond is_turned (exchanged role) role) j × AreAlike p q i j

pub on_sides : (p q : PlanData) (arc target : ℕ) (is_turned : Bool) (role there : Role) (place other : Option ℕ) → there ≡ cond is_turned (exchanged role) role → IsSideIfAny p arc role place
    → IsSideIfAny q target there other → (i j : ℕ) → place ≡ Some i → other ≡ Some j → AreAlike p q i j → AreOnSides p q arc target is_turned i j
on_sides p q arc target is_turned role there place other is here beyond i j at goes alike =
    (role, subst (λ (o : Option ℕ). IsSideIfAny p arc role o) at here, subst (λ (r : Role). Side q target r j) is (subst (λ (o : Option ℕ). IsSideIfAny q target there o) goes beyond), alike)

module _ (p q : PlanData) (turned : List Bool) where
  abbrev pub matched_so : List (Option ℕ) → Matching
  matched_so to = record { to = to; turned = turned }

  later : (to more : List (Option ℕ)) → ((k l : ℕ) → GoesTo to k l → GoesTo more k l) → (i j : ℕ) → AreAlikeBeside p q (matched_so to) i j → AreAlikeBeside p q (matched_so more) i j
  later to more keeps i j w = record {
    arc = w.arc;
    role = w.role;
    beside = record { other = w.beside.other; goes = keeps w.arc w.beside.other w.beside.goes; here = w.beside.here; there = w.beside.there };
    alike = w.alike;
  }

  pub sides_added : (start : List (Option ℕ)) (free : List Bool) (to : List (Option ℕ)) (taken : List Bool) (more : List (Option ℕ)) (marks : List Bool) (arc target : ℕ) (is_turned : Bool)
      → is_turned ≡ turned_at turned arc → GoesTo to arc target → AddsPairs (AreAlikeBeside p q (matched_so to)) start free to taken → AddsPairs (AreOnSides p q arc target is_turned) to taken more marks
      → AddsPairs (AreAlikeBeside p q (matched_so more)) start free more marks
  sides_added start free to taken more marks arc target is_turned is goes so adds =
      adds_then (AreAlikeBeside p q (matched_so more)) start free to taken more marks
      (adds_wider (AreAlikeBeside p q (matched_so to)) (AreAlikeBeside p q (matched_so more)) start free to taken (later to more adds.keeps) so)
      (adds_wider (AreOnSides p q arc target is_turned) (AreAlikeBeside p q (matched_so more)) to taken more marks (λ i j w. record {
        arc = arc;
        role = w.0;
        beside = record { other = target; goes = adds.keeps arc target goes; here = w.1; there = subst (λ (b : Bool). Side q target (cond b (exchanged w.0) w.0) j) is w.2 };
        alike = w.3;
      }) adds)

-- whether an entry has a key

pub has_it : {K X : Type 0} (eq : K → K → Bool) (entries : List (K × X)) (at : ℕ) (key : K) (x : K × X) → at < length entries → x ≡ get_or entries at x → eq x.0 key ≡ true → HasKey eq entries at key
has_it {K} {X} eq entries at key x within is same = record { within = within; same = λ d. ap (λ (y : K × X). eq y.0 key) (sym (get_or_read entries at x within is d)) ∙ same }

pub lacks_it : {K X : Type 0} (eq : K → K → Bool) (entries : List (K × X)) (at : ℕ) (key : K) → at < length entries → (HasKey eq entries at key → ⊥) → (d : K × X) → eq (get_or entries at d).0 key ≡ false
lacks_it {K} {X} eq entries at key within none d = go (eq (get_or entries at d).0 key) refl
  where
    go : (b : Bool) → eq (get_or entries at d).0 key ≡ b → eq (get_or entries at d).0 key ≡ false
    go false e = e
    go true e = absurd (none (record { within = within; same = λ c. ap (λ (y : K × X). eq y.0 key) (get_or_default entries at c d within) ∙ e }))

-- one pair more of two lists, where the second has the key of an entry of the first

module _ {K : Type 0} (eq : K → K → Bool) (p q : PlanData) (objects others : List (K × Member)) where
  abbrev pub Shared : ℕ → ℕ → Type 0
  Shared i j = HaveOneKey eq (λ (m : Member). m.place) objects others i j × AreAlike p q i j

  pub shared_more : (start : List (Option ℕ)) (free : List Bool) (to : List (Option ℕ)) (taken : List Bool) (more : List (Option ℕ)) (marks : List Bool) → AddsPairs Shared start free to taken
      → (n at : ℕ) (x d : K × Member) → n < length objects → x ≡ get_or objects n x → HasKey eq others at x.0 → PairsIfAlike p q x.1.place (get_or others at d).1.place to taken more marks
      → AddsPairs Shared start free more marks
  shared_more start free to taken more marks so n at x d within is has pairs =
      let y = get_or others at d in
      then_alike Shared start free to taken more marks so p q x.1.place y.1.place
      (λ alike. (one_key eq (λ (m : Member). m.place) objects others x y (n, within, sym is) (at, has.within, get_or_default others at y d has.within) (has.same d), alike)) pairs

  abbrev pub Alone : ℕ → ℕ → Type 0
  Alone i j = HaveLoneKey eq (λ (m : Member). m.place) objects others i j × AreAlike p q i j

  pub alone_more : (start : List (Option ℕ)) (free : List Bool) (to : List (Option ℕ)) (taken : List Bool) (more : List (Option ℕ)) (marks : List Bool) → AddsPairs Alone start free to taken
      → (n at : ℕ) (x d : K × Member) → n < length objects → x ≡ get_or objects n x → AreLone eq objects n others at → PairsIfAlike p q x.1.place (get_or others at d).1.place to taken more marks
      → AddsPairs Alone start free more marks
  alone_more start free to taken more marks so n at x d within is lone pairs =
      let has = lone.same x in
      let y = get_or others at d in
      then_alike Alone start free to taken more marks so p q x.1.place y.1.place
      (λ alike. (
        lone_key eq (λ (m : Member). m.place) objects others x y (n, within, sym is) (at, has.within, get_or_default others at y d has.within)
            (ap (λ (z : K × Member). eq y.0 z.0) is ∙ has.same d) lone.lone lone.lone_there,
        alike,
      )) pairs

pub links_more : {K : Type 0} (eq : K → K → Bool) (links others : List (K × ℕ)) (start : List (Option ℕ)) (free : List Bool) (to : List (Option ℕ)) (taken : List Bool) (more : List (Option ℕ)) (marks : List Bool)
    → AddsPairs (HaveOneKey eq (λ (k : ℕ). k) links others) start free to taken → (n at : ℕ) (x d : K × ℕ) → n < length links → x ≡ get_or links n x → HasKey eq others at x.0
    → PairsIfFree x.1 (get_or others at d).1 to taken more marks → AddsPairs (HaveOneKey eq (λ (k : ℕ). k) links others) start free more marks
links_more {K} eq links others start free to taken more marks so n at x d within is has pairs =
    let y = get_or others at d in
    then_free (HaveOneKey eq (λ (k : ℕ). k) links others) start free to taken more marks so x.1 y.1
    (one_key eq (λ (k : ℕ). k) links others x y (n, within, sym is) (at, has.within, get_or_default others at y d has.within) (has.same d)) pairs
