-- The ends of links, as they come.
use Rattle.std.proofs.Common.{◌≡◌, ◌≢◌, ◌⊎◌, ◌∙◌, ◌↔◌, ◌++◌, ℕ, Bool, true, false, IsTrue, is_some, not, ◌&&◌, List, [], ◌∷◌, map, codes, bytes_eq, if◌then◌else◌, refl, MatchOption, Option, Some, None, inl, inr, sym, ap, subst, append_assoc, append-nil, get_or, arith}
use Rattle.std.specs.Global.{Vec}
use Rattle.std.specs.List.{Any, Contains}
use Rattle.std.proofs.lemmas.List.Elements.{All-cons, All-contains, All-nil, All-push, Contains-append_left, Contains-append_right, Contains-push, Contains-push_cases}
use Rattle.std.specs.List.{filter}
use Rattle.std.proofs.lemmas.List.{map-append}
use Rattle.std.proofs.lemmas.List.Elements.{filter-append}
use Rattle.std.proofs.lemmas.Slice.Eq.{bytes_eq-Decides}
use Rattle.edi_line.specs.Groups.{IsOneRecord}
use Rattle.edi_line.specs.ZoneData.{ZoneData, first, has_code}
use Rattle.edi_line.specs.LineRules.{BreaksLineRule, IsZonesOf}
use Rattle.edi_line.specs.Refusal.{IsUnbroken}
use Rattle.edi_line.specs.Zones.{begins_group, groups_of}
use Rattle.edi_line.proofs.ZonesSaid.{zones_of_one}
use Rattle.std.proofs.lemmas.Grind.{flat_map-append}
use Rattle.std.proofs.lemmas.List.Quantifiers.{Any-push}
use Rattle.std.proofs.lemmas.Option.{same_Some}
use Rattle.edi_line.proofs.EachElement.{any_more}
use Rattle.edi_record.specs.Records.{values}
use Rattle.edi_record.specs.Texts.{IsPointer, PointerText, shown}
use Rattle.edi_record.specs.Titles.{IsTitleOf, TitleData}
use Rattle.edi_record.specs.declared.pointer.Pointer.{Pointer}
use Rattle.edi_record.proofs.TextParts.{pointer_one}
use Rattle.edi_explain.specs.AstrayZones.{AreApart, IsNamedBy}
use Rattle.edi_explain.specs.BreakingZones.{is_typed}
use Rattle.edi_explain.specs.Elsewhere.{AreStrayEnds, AreTogether, HasNamed, HasNamedAmong, HasStrayEnds, ends_of_record, link_ends}
use Rattle.edi_explain.specs.declared.elsewhere.StrayEnds.{StrayEnds}
use Rattle.edi_explain.specs.inner.Elsewhere.{AreEndsWithStray, EndsAre, HoldsLinkEnds, IsSoughtName, name_signature, sign_zone}
use Rattle.edi_explain.specs.declared.elsewhere.LinkEnds.{LinkEnds}
use Rattle.edi_explain.specs.declared.elsewhere.SoughtName.{SoughtName}

-- no pointer is apart from itself
pub not_apart_itself : (text : List ℕ) → ¬ (AreApart text text)
not_apart_itself text h = go h.4
  where
    same : h.0 ≡ h.1
    same = pointer_one text h.0 h.1 h.2 h.3

    go : (h.0.lot ≢ h.1.lot) ⊎ (h.0.subset ≢ h.1.subset) → ⊥
    go (inl n) = n (ap (λ (p : PointerText). p.lot) same)
    go (inr n) = n (ap (λ (p : PointerText). p.subset) same)

first_more : (ends : List (List ℕ)) (text home : List ℕ) → first ends ≡ Some home → first (ends ++ text ∷ []) ≡ Some home
first_more [] text home e = absurd cc
first_more (x ∷ xs) text home e = e

module _ (text : List ℕ) where
  pub begun : (ends : List (List ℕ)) (v : Vec ℕ) (stray : Option (Vec ℕ)) → v.items ≡ text → EndsAre ends None stray → EndsAre (ends ++ text ∷ []) (Some v) stray
  begun ends v (Some w) e h = let f = h.1 in absurd cc
  begun [] v None e h = (
    ap Some (sym e),
    All-cons (λ x. ¬ (AreApart x v.items)) text [] (subst (λ x. ¬ (AreApart x v.items)) e (not_apart_itself v.items)) (All-nil (λ x. ¬ (AreApart x v.items))),
  )
  begun (x ∷ xs) v None e h = let f = h.0 in absurd cc

  module _ (ends : List (List ℕ)) (home : Vec ℕ) where
    pub strayed : (v : Vec ℕ) → v.items ≡ text → AreApart text home.items → EndsAre ends (Some home) None → EndsAre (ends ++ text ∷ []) (Some home) (Some v)
    strayed v e apart h = record {
      leads = first_more ends text home.items h.0;
      front = ends;
      behind = [];
      cut = ap (λ x. ends ++ x ∷ []) (sym e);
      together = h.1;
      apart = subst (λ x. AreApart x home.items) (sym e) apart;
    }

    pub stayed : ¬ (AreApart text home.items) → EndsAre ends (Some home) None → EndsAre (ends ++ text ∷ []) (Some home) None
    stayed not h = (first_more ends text home.items h.0, All-push (λ x. ¬ (AreApart x home.items)) ends text h.1 not)

    pub went_on : (stray : Vec ℕ) → EndsAre ends (Some home) (Some stray) → EndsAre (ends ++ text ∷ []) (Some home) (Some stray)
    went_on stray h = record {
      leads = first_more ends text home.items h.leads;
      front = h.front;
      behind = h.behind ++ text ∷ [];
      cut = ap (λ l. l ++ text ∷ []) h.cut ∙ append_assoc h.front (stray.items ∷ h.behind) (text ∷ []);
      together = h.together;
      apart = h.apart;
    }

-- the same of an end that isn't apart, by what is known of the two
pub stayed_by : (text : List ℕ) (ends : List (List ℕ)) (home : Vec ℕ) (h s : Option (Vec ℕ)) → h ≡ Some home → is_some s ≡ false → ¬ (AreApart text home.items) → EndsAre ends h s → EndsAre (ends ++ text ∷ []) h s
stayed_by text ends home None s e f not k = absurd cc
stayed_by text ends home (Some x) (Some y) e f not k = absurd cc
stayed_by text ends home (Some x) None e f not k =
    let same : x ≡ home = cc in
    stayed text ends x (λ a. not (subst (λ (v : Vec ℕ). AreApart text v.items) same a)) k

-- where no end strayed, there are no two
module _ (ends : List (List ℕ)) (h s : List ℕ) (two : AreStrayEnds ends h s) where
  pub none_of_none : (stray : Option (Vec ℕ)) → EndsAre ends None stray → ⊥
  none_of_none stray k = let e : first ends ≡ None = ap first k.0 in let f = two.leads in absurd cc

  pub none_of_one : (home : Vec ℕ) → EndsAre ends (Some home) None → ⊥
  none_of_one home k =
      let same = same_Some h home.items (sym two.leads ∙ k.0) in
      All-contains (λ x. ¬ (AreApart x home.items)) ends s k.1 there (subst (AreApart s) same two.apart)
    where
      there : Contains ends s
      there = subst (λ l. Contains l s) (sym two.cut) (Contains-append_right two.front (s ∷ two.behind) s (Contains-append_left (s ∷ []) two.behind s (Contains-push [] s)))

-- the same by what is known of the two
pub none_of_these : (ends : List (List ℕ)) (home : Vec ℕ) (h s : Option (Vec ℕ)) → h ≡ Some home → s ≡ None → EndsAre ends h s → (one other : List ℕ) → ¬ (AreStrayEnds ends one other)
none_of_these ends home None s e f k one other two = absurd cc
none_of_these ends home (Some x) (Some y) e f k one other two = absurd cc
none_of_these ends home (Some x) None e f k one other two = none_of_one ends one other two x k

-- of two sheets' reading there is one list of ends
module _ (b : List ℕ) (unbroken : IsUnbroken (BreaksLineRule b)) (zones : List ZoneData) (read : IsZonesOf b zones) where
  abbrev ends : List (List ℕ)
  ends = link_ends (groups_of zones)

  pub no_stray_ends : ((home stray : List ℕ) → ¬ (AreStrayEnds ends home stray)) → (home stray : List ℕ) → ¬ (HasStrayEnds b home stray)
  no_stray_ends none home stray h = none home stray (subst (λ z. AreStrayEnds (link_ends (groups_of z)) home stray) (zones_of_one b h.zones zones h.read read) h.ends)

  pub stray_ends_are : (found : Option StrayEnds)
      → MatchOption found ((home stray : List ℕ) → ¬ (AreStrayEnds ends home stray)) (λ both. AreStrayEnds ends both.home.items both.stray.items)
      → MatchOption found ((home stray : List ℕ) → ¬ (HasStrayEnds b home stray)) (λ both. HasStrayEnds b both.home.items both.stray.items)
  stray_ends_are None h = no_stray_ends h
  stray_ends_are (Some both) h = record { unbroken = unbroken; zones = zones; read = read; ends = h }

-- ---- a record that is sought

pub any_cases : {X : Type 0} (P : X → Type 0) (xs : List X) (y : X) → Any P (xs ++ y ∷ []) → Any P xs ⊎ P y
any_cases P xs y h = go (Contains-push_cases xs y h.1 (h.0, h.2, h.3))
  where
    go : Contains xs h.1 ⊎ (y ≡ h.1) → Any P xs ⊎ P y
    go (inl c) = inl (c.0, h.1, c.1, c.2, h.4)
    go (inr e) = inr (subst P (sym e) h.4)

-- the lot and the subset of two pointers
module _ (p : PointerText) (text : List ℕ) (q : PointerText) (h : IsPointer text q) where
  pub together_by_subset : p.lot ≡ q.lot → (t : Bool) → IsTrue t ↔ (p.subset ≡ q.subset) → IsTrue t ↔ AreTogether p text
  together_by_subset e t k = (
    λ i. (q, h, e, k.0 i),
    λ w. k.1 (w.3 ∙ ap (λ (x : PointerText). x.subset) (pointer_one text w.0 q w.1 h)),
  )

  pub not_together : (t : Bool) → t ≡ false → IsTrue t ↔ (p.lot ≡ q.lot) → IsTrue t ↔ AreTogether p text
  not_together t f k = (
    λ i. absurd cc,
    λ w. k.1 (w.2 ∙ ap (λ (x : PointerText). x.lot) (pointer_one text w.0 q w.1 h)),
  )

ends_more : (come : List (List ZoneData)) (g : List ZoneData) → link_ends (come ++ g ∷ []) ≡ link_ends come ++ ends_of_record g
ends_more come g = flat_map-append ends_of_record come (g ∷ []) ∙ ap (λ l. link_ends come ++ l) (append-nil (ends_of_record g))

-- ---- the ends of a link, zone by zone

values_behind : (group : List ZoneData) (z : ZoneData) → values (codes "FTP") (group ++ z ∷ []) ≡ values (codes "FTP") group ++ values (codes "FTP") (z ∷ [])
values_behind group z =
    ap (map (λ x. x.value)) (filter-append (has_code (codes "FTP")) group (z ∷ [])) ∙ map-append (λ x. x.value) (filter (has_code (codes "FTP")) group) (filter (has_code (codes "FTP")) (z ∷ []))

typed_still : (rty : List ℕ) (group : List ZoneData) (z : ZoneData) → IsOneRecord group → is_typed rty (group ++ z ∷ []) ≡ is_typed rty group
typed_still rty group z one = ap (λ g. is_typed rty (g ++ z ∷ [])) one.joined ∙ ap (is_typed rty) (sym one.joined)

none_in_head : (head : ZoneData) → begins_group head ≡ true → values (codes "FTP") (head ∷ []) ≡ []
none_in_head head begins =
    let is : head.code ≡ codes "RTY" = (bytes_eq-Decides head.code (codes "RTY")).0 begins in
    let other : has_code (codes "FTP") head ≡ false = ap (λ c. bytes_eq c (codes "FTP")) is in
    rw other refl

-- a record begins without ends
pub begun_ends : (head : ZoneData) → begins_group head ≡ true → ends_of_record (head ∷ []) ≡ []
begun_ends head begins = go (bytes_eq head.value (codes "LNK")) (values (codes "FTP") (head ∷ [])) (none_in_head head begins)
  where
    go : (t : Bool) (vs : List (List ℕ)) → vs ≡ [] → (if t then vs else []) ≡ []
    go true vs e = e
    go false vs e = refl

pub end_more : (group : List ZoneData) (z : ZoneData) → IsOneRecord group → is_typed (codes "LNK") group ≡ true → has_code (codes "FTP") z ≡ true
    → ends_of_record (group ++ z ∷ []) ≡ ends_of_record group ++ z.value ∷ []
end_more group z one link code =
    let last : values (codes "FTP") (z ∷ []) ≡ z.value ∷ [] = rw code refl in
    let still = typed_still (codes "LNK") group z one in
    ap (λ t. if t then values (codes "FTP") (group ++ z ∷ []) else []) (still ∙ link)
    ∙ (values_behind group z ∙ ap (λ vs. values (codes "FTP") group ++ vs) last)
    ∙ ap (λ vs. vs ++ z.value ∷ []) (sym (ap (λ t. if t then values (codes "FTP") group else []) link))

pub no_end : (group : List ZoneData) (z : ZoneData) → IsOneRecord group → is_typed (codes "LNK") group && has_code (codes "FTP") z ≡ false
    → ends_of_record (group ++ z ∷ []) ≡ ends_of_record group
no_end group z one none = go (is_typed (codes "LNK") group) (has_code (codes "FTP") z) refl refl none
  where
    go : (t c : Bool) → is_typed (codes "LNK") group ≡ t → has_code (codes "FTP") z ≡ c → t && c ≡ false → ends_of_record (group ++ z ∷ []) ≡ ends_of_record group
    go true true t_is c_is e = absurd cc
    go true false t_is c_is e =
        let last : values (codes "FTP") (z ∷ []) ≡ [] = rw c_is refl in
        ap (λ t. if t then values (codes "FTP") (group ++ z ∷ []) else []) (typed_still (codes "LNK") group z one ∙ t_is)
        ∙ (values_behind group z ∙ ap (λ vs. values (codes "FTP") group ++ vs) last ∙ append-nil (values (codes "FTP") group))
        ∙ sym (ap (λ t. if t then values (codes "FTP") group else []) t_is)
    go false c t_is c_is e =
        ap (λ t. if t then values (codes "FTP") (group ++ z ∷ []) else []) (typed_still (codes "LNK") group z one ∙ t_is)
        ∙ sym (ap (λ t. if t then values (codes "FTP") group else []) t_is)

-- a record has begun
pub holds_begun : (groups : List (List ZoneData)) (head : ZoneData) (home stray : Option (Vec ℕ)) (was is : Bool) → begins_group head ≡ true → is ≡ is_typed (codes "LNK") (head ∷ [])
    → HoldsLinkEnds groups [] (record { home = home; stray = stray; is_link = was }) → HoldsLinkEnds groups (head ∷ []) (record { home = home; stray = stray; is_link = is })
holds_begun groups head home stray was is begins typed h = record {
  ends = subst (λ l. EndsAre (link_ends groups ++ l) home stray) (sym (begun_ends head begins)) h.ends;
  is_link = λ one. typed;
}

-- a zone more, which may be an end
pub holds_end : (groups : List (List ZoneData)) (group : List ZoneData) (z : ZoneData) (old new : LinkEnds) → IsOneRecord group → old.is_link ≡ true → has_code (codes "FTP") z ≡ true → new.is_link ≡ old.is_link
    → ((ends : List (List ℕ)) → AreEndsWithStray ends old → AreEndsWithStray (ends ++ z.value ∷ []) new) → HoldsLinkEnds groups group old → HoldsLinkEnds groups (group ++ z ∷ []) new
holds_end groups group z old new one link code same taken h =
    let typed = sym (h.is_link one) ∙ link in
    record {
      ends = subst (λ l. AreEndsWithStray l new)
          (append_assoc (link_ends groups) (ends_of_record group) (z.value ∷ []) ∙ ap (λ l. link_ends groups ++ l) (sym (end_more group z one typed code)))
          (taken (link_ends groups ++ ends_of_record group) h.ends);
      is_link = λ more. same ∙ h.is_link one ∙ sym (typed_still (codes "LNK") group z one);
    }

pub holds_other : (groups : List (List ZoneData)) (group : List ZoneData) (z : ZoneData) (s : LinkEnds) → IsOneRecord group → s.is_link && has_code (codes "FTP") z ≡ false
    → HoldsLinkEnds groups group s → HoldsLinkEnds groups (group ++ z ∷ []) s
holds_other groups group z s one none h = record {
  ends = subst (λ l. AreEndsWithStray (link_ends groups ++ l) s) (sym (no_end group z one (ap (λ t. t && has_code (codes "FTP") z) (sym (h.is_link one)) ∙ none))) h.ends;
  is_link = λ more. h.is_link one ∙ sym (typed_still (codes "LNK") group z one);
}

-- the record is whole
pub holds_whole : (groups : List (List ZoneData)) (group : List ZoneData) (s : LinkEnds) → HoldsLinkEnds groups group s → HoldsLinkEnds (groups ++ group ∷ []) [] s
holds_whole groups group s h = record {
  ends = subst (λ l. AreEndsWithStray l s) (sym (append-nil (link_ends (groups ++ group ∷ [])) ∙ ends_more groups group)) h.ends;
  is_link = λ none. absurd (no_record none);
}
  where
    no_record : IsOneRecord [] → ⊥
    no_record none = let e = none.joined in absurd cc

pub at_first : (s : LinkEnds) → AreEndsWithStray [] s → HoldsLinkEnds [] [] s
at_first s h = record { ends = h; is_link = λ none. let e = none.joined in absurd cc }

-- ---- the record that is coming, by what it says of itself

pub named_by_title : (p : PointerText) (group : List ZoneData) (title : TitleData) (t : Bool) → IsTitleOf group title → IsTrue t ↔ ((title.rty ≡ p.rty) × (title.rid ≡ Some p.rid)) → IsTrue t ↔ IsNamedBy p group
named_by_title p group title t is k = (
  λ i. (typed (k.0 i).0, sym is.rid ∙ (k.0 i).1),
  λ n. k.1 (is.rty ∙ (bytes_eq-Decides is.head.value p.rty).0 (sym (ap (is_typed p.rty) is.is) ∙ n.0), is.rid ∙ n.1),
)
  where
    typed : title.rty ≡ p.rty → is_typed p.rty group ≡ true
    typed e = ap (is_typed p.rty) is.is ∙ (bytes_eq-Decides is.head.value p.rty).1 (sym is.rty ∙ e)

-- one record more
module _ (pointer : Pointer) (ends : LinkEnds) (title : TitleData) (g : List ZoneData) (was is : Bool) where
  pub take_named : (IsTrue is ↔ (IsTrue was ⊎ IsNamedBy (shown pointer) g)) → (groups : List (List ZoneData))
      → IsSoughtName (record { pointer = pointer; ends = ends; title = title; is_there = was }) groups g
      → IsSoughtName (record { pointer = pointer; ends = ends; title = title; is_there = is }) (groups ++ g ∷ []) []
  take_named k [] h = absurd h
  take_named k (sign ∷ come) h = (
    h.0,
    holds_whole come g ends h.1,
    (λ i. into (k.0 i), λ a. k.1 (from (any_cases (IsNamedBy (shown pointer)) come g a))),
    λ none. let e = none.joined in absurd cc,
  )
    where
      into : IsTrue was ⊎ IsNamedBy (shown pointer) g → Any (IsNamedBy (shown pointer)) (come ++ g ∷ [])
      into (inl i) = any_more (IsNamedBy (shown pointer)) come g (h.2.0 i)
      into (inr n) = Any-push (IsNamedBy (shown pointer)) come g n

      from : Any (IsNamedBy (shown pointer)) come ⊎ IsNamedBy (shown pointer) g → IsTrue was ⊎ IsNamedBy (shown pointer) g
      from (inl a) = inl (h.2.1 a)
      from (inr n) = inr n

pub titled_in : (s : SoughtName) (groups : List (List ZoneData)) (group : List ZoneData) → IsOneRecord group → IsSoughtName s groups group → IsTitleOf group s.title
titled_in s [] group one h = absurd h
titled_in s (sign ∷ come) group one h = h.3 one

-- the next record begins
pub sought_begun : (s : SoughtName) (groups : List (List ZoneData)) (head : ZoneData) (later : LinkEnds) (title : TitleData)
    → ((gs : List (List ZoneData)) → HoldsLinkEnds gs [] s.ends → HoldsLinkEnds gs (head ∷ []) later) → IsTitleOf (head ∷ []) title
    → IsSoughtName s groups [] → IsSoughtName (record { pointer = s.pointer; ends = later; title = title; is_there = s.is_there }) groups (head ∷ [])
sought_begun s [] head later title ends titled h = absurd h
sought_begun s (sign ∷ come) head later title ends titled h = (h.0, ends come h.1, h.2, λ one. titled)

-- a zone more comes
pub sought_on : (s : SoughtName) (groups : List (List ZoneData)) (group : List ZoneData) (z : ZoneData) (later : LinkEnds) (title : TitleData) → IsOneRecord group
    → ((gs : List (List ZoneData)) → HoldsLinkEnds gs group s.ends → HoldsLinkEnds gs (group ++ z ∷ []) later) → (IsTitleOf group s.title → IsTitleOf (group ++ z ∷ []) title)
    → IsSoughtName s groups group → IsSoughtName (record { pointer = s.pointer; ends = later; title = title; is_there = s.is_there }) groups (group ++ z ∷ [])
sought_on s [] group z later title one ends titled h = absurd h
sought_on s (sign ∷ come) group z later title one ends titled h = (h.0, ends come h.1, h.2, λ more. titled (h.3 one))

-- a record that is found, and one that isn't
module _ (p : PointerText) (come : List (List ZoneData)) where
  module _ (home : Vec ℕ) (ends : LinkEnds) (is : ends.home ≡ Some home) (h : AreEndsWithStray (link_ends come) ends) where
    leads_by : (o s : Option (Vec ℕ)) → o ≡ Some home → EndsAre (link_ends come) o s → first (link_ends come) ≡ Some home.items
    leads_by None s e k = absurd cc
    leads_by (Some x) None e k = let same : x ≡ home = cc in subst (λ (v : Vec ℕ). first (link_ends come) ≡ Some v.items) same k.0
    leads_by (Some x) (Some y) e k = let same : x ≡ home = cc in subst (λ (v : Vec ℕ). first (link_ends come) ≡ Some v.items) same k.leads

    leads : first (link_ends come) ≡ Some home.items
    leads = leads_by ends.home ends.stray is h

    pub found_named : (t u : Bool) → IsTrue t ↔ Any (IsNamedBy p) come → t ≡ true → IsTrue u ↔ AreTogether p home.items → IsTrue u ↔ HasNamedAmong come p
    found_named t u there e k = (
      λ i. record { home = home.items; leads = leads; together = k.0 i; there = there.0 e },
      λ h. k.1 (subst (AreTogether p) (same_Some h.home home.items (sym h.leads ∙ leads)) h.together),
    )

  pub not_there : (t : Bool) → IsTrue t ↔ Any (IsNamedBy p) come → t ≡ false → IsTrue t ↔ HasNamedAmong come p
  not_there t there e = (λ i. absurd cc, λ h. there.1 h.there)

  pub no_links : (o s : Option (Vec ℕ)) → o ≡ None → EndsAre (link_ends come) o s → ¬ (HasNamedAmong come p)
  no_links (Some x) s e k h = absurd cc
  no_links None s e k h = let f : first (link_ends come) ≡ None = ap first k.0 in let g = h.leads in absurd cc

-- the records of a sheet are read in one way
module _ (b : List ℕ) (p : PointerText) where
  pub named_in_file : IsUnbroken (BreaksLineRule b) → (zones : List ZoneData) → IsZonesOf b zones → (t : Bool) → IsTrue t ↔ HasNamedAmong (groups_of zones) p → IsTrue t ↔ HasNamed b p
  named_in_file unbroken zones read t k = (
    λ i. record { unbroken = unbroken; zones = zones; read = read; among = k.0 i },
    λ h. k.1 (subst (λ z. HasNamedAmong (groups_of z) p) (zones_of_one b h.zones zones h.read read) h.among),
  )

-- ---- the pointer that stands in front

abbrev value_at : ℕ → List ZoneData → List ℕ
value_at n zones = (get_or zones n (sign_zone [])).value

pub signed : (p q : PointerText) → name_signature p ≡ name_signature q → p ≡ q
signed p q e =
    ap (λ (t : List ℕ). made t p.subset p.rty p.rid) (ap (value_at 0) e)
    ∙ (ap (λ (t : List ℕ). made q.lot t p.rty p.rid) (ap (value_at 1) e)
    ∙ (ap (λ (t : List ℕ). made q.lot q.subset t p.rid) (ap (value_at 2) e) ∙ ap (made q.lot q.subset q.rty) (ap (value_at 3) e)))
  where
    made : List ℕ → List ℕ → List ℕ → List ℕ → PointerText
    made lot subset rty rid = record { lot = lot; subset = subset; rty = rty; rid = rid }

pub not_either : (t : Bool) (X : Type 0) (u : Bool) → u ≡ false → IsTrue u ↔ X → IsTrue t ⊎ X → IsTrue t
not_either t X u e k (inl i) = i
not_either t X u e k (inr x) = let f = k.1 x in absurd cc

pub nothing_there : {X : Type 0} (P : X → Type 0) → ¬ (Any P [])
nothing_there P h = omega (arith, h.2)
