-- Records that are found by their names.
use Rattle.std.proofs.Common.{◌≡◌, ℕ, zero, suc, add-one, ◌+◌, ◌++◌, ◌<◌, ◌≤◌, Bool, true, false, not, ◌&&◌, ◌==◌, List, [], ◌∷◌, length, drop, slice_index_or, Option, None, Some, is_some, if◌then◌else◌, slice_get, refl, sym, ap, ◌∙◌, subst, arith}
use Rattle.std.proofs.lemmas.Option.{get_or_from_slice_get, same_Some}
use Rattle.edi_record.specs.Records.{is_link}
use Rattle.edi_record.specs.Shapes.{kind_code, stated_at}
use Rattle.edi_record.specs.declared.name.Name.{Name}
use Rattle.edi_record.specs.declared.record.Kind.{Kind}
use Rattle.edi_record.specs.declared.record.Kind.TheVariants.{Pno, Par, Pfe, Fea, Lnk}
use Rattle.edi_record.specs.declared.record.Record.{Record}
use Rattle.edi_record.proofs.KindCodes.{kind_from_code}
use Rattle.edi_schema.proofs.Names.{same_name}
use Rattle.edi_plan.specs.PlanOf.{own_name, place_named}
use Rattle.edi_plan.specs.inner.Hints.{is_named, is_named_at, is_held, first_held, tag_of, found, HasAll, HasTabled}
use Rattle.edi_plan.specs.inner.LinkNames.{LinksDiffer}
use Rattle.edi_plan.specs.inner.Slots.{slot_place, slot_tag}
use Rattle.edi_plan.specs.inner.Names.{RepeatsNameAt, is_tabled}
use Rattle.edi_plan.specs.inner.Targets.{HasNameAt}
use Rattle.edi_plan.specs.declared.name_slots.NameHints.{NameHints}
use Rattle.edi_plan.proofs.NameLemmas.{has_name}
use Rattle.edi_plan.proofs.TargetLemmas.{only_named}

-- links are of one type
link_kind : (k l : Kind) → is_link k ≡ true → is_link l ≡ true → k ≡ l
link_kind Lnk Lnk h i = refl
link_kind Lnk Pno h i = cc
link_kind Lnk Par h i = cc
link_kind Lnk Pfe h i = cc
link_kind Lnk Fea h i = cc
link_kind Pno l h i = cc
link_kind Par l h i = cc
link_kind Pfe l h i = cc
link_kind Fea l h i = cc

module _ (list : List Record) (name : Name) where
  pub named_there : (place : ℕ) → is_named_at list name place ≡ true → HasNameAt list name place
  named_there place t = go (slice_get list place) refl t
    where
      go : (o : Option Record) → slice_get list place ≡ o → is_named name o ≡ true → HasNameAt list name place
      go None at h = cc
      go (Some r) at h = record { there = r; here = at; is = same_name (own_name r) name h }

  held_named : (slot : ℕ) → is_held list name slot ≡ true → is_named_at list name (slot_place slot) ≡ true
  held_named slot = go (slot_tag slot == tag_of name.rid)
    where
      go : (b : Bool) → b && is_named_at list name (slot_place slot) ≡ true → is_named_at list name (slot_place slot) ≡ true
      go true h = h
      go false h = cc

  pub first_there : (slots : List ℕ) (place : ℕ) → first_held list name slots ≡ Some place → HasNameAt list name place
  unfolding first_held
  first_there [] place h = cc
  first_there (p ∷ ps) place h = go (is_held list name p) refl h (first_there ps place)
    where
      go : (b : Bool) → is_held list name p ≡ b → (if b then Some (slot_place p) else first_held list name ps) ≡ Some place → (first_held list name ps ≡ Some place → HasNameAt list name place) → HasNameAt list name place
      go true t e more = subst (HasNameAt list name) (same_Some _ _ e) (named_there (slot_place p) (held_named p t))
      go false t e more = more e

  -- what is left of the slots goes on with the next of them
  cut_next : (slots : List ℕ) (i : ℕ) → i < length slots
      → first_held list name (drop i slots) ≡ (if is_held list name (slice_index_or slots i 0) then Some (slot_place (slice_index_or slots i 0)) else first_held list name (drop (suc i) slots))
  unfolding first_held
  cut_next [] i less = absurd (omega (arith, less))
  cut_next (p ∷ ps) zero less = refl
  cut_next (p ∷ ps) (suc i) less = cut_next ps i (omega (arith, less))

  pub first_cut : (slots : List ℕ) (i : ℕ) → i < length slots
      → first_held list name (drop i slots) ≡ (if is_held list name (slice_index_or slots i 0) then Some (slot_place (slice_index_or slots i 0)) else first_held list name (drop (i + 1) slots))
  first_cut slots i less =
      cut_next slots i less ∙ ap (λ n. if is_held list name (slice_index_or slots i 0) then Some (slot_place (slice_index_or slots i 0)) else first_held list name (drop n slots)) (sym (add-one i))

  pub first_none : (slots : List ℕ) (i : ℕ) → length slots ≤ i → first_held list name (drop i slots) ≡ None
  unfolding first_held
  first_none [] zero past = refl
  first_none [] (suc i) past = refl
  first_none (p ∷ ps) zero past = absurd (omega (arith, past))
  first_none (p ∷ ps) (suc i) past = first_none ps i (omega (arith, past))

module _ (list : List Record) (hints : NameHints) (differ : LinksDiffer list) (all : HasAll list hints) where
  pub no_repeats : (k : ℕ) → ¬ (RepeatsNameAt list k)
  no_repeats k d = go (is_link d.2.kind) refl
    where
      kind : d.1.kind ≡ d.2.kind
      kind = kind_from_code d.1.kind d.2.kind (ap (λ (n : Name). n.rty) d.6)

      rid : d.1.rid ≡ d.2.rid
      rid = ap (λ (n : Name). n.rid) d.6

      go : (b : Bool) → is_link d.2.kind ≡ b → ⊥
      go true link = differ d.0 k d.1 d.2 d.3 d.4 d.5 (ap is_link kind ∙ link) link rid
      go false other =
          let one : found list hints d.1.kind d.1.rid ≡ Some d.0 = all d.0 d.1 d.4 (ap is_link kind ∙ other) in
          let two : found list hints d.2.kind d.2.rid ≡ Some k = all k d.2 d.5 other in
          let both : found list hints d.1.kind d.1.rid ≡ found list hints d.2.kind d.2.rid = λ i. found list hints (kind i) (rid i) in
          let same : d.0 ≡ k = same_Some _ _ (sym one ∙ (both ∙ two)) in
          absurd (omega (arith, d.3, same))

  pub found_named : (k : Kind) (rid : List ℕ) → is_link k ≡ false → found list hints k rid ≡ place_named list (record { rty = kind_code k; rid = rid })
  found_named k rid no_link = go (found list hints k rid) refl
    where
      name : Name
      name = record { rty = kind_code k; rid = rid }

      none : found list hints k rid ≡ None → (o : Option ℕ) → place_named list name ≡ o → found list hints k rid ≡ o
      none e None at = e
      none e (Some place) at =
          let there = has_name list name place at in
          let kinds : there.0.kind ≡ k = kind_from_code there.0.kind k (ap (λ (n : Name). n.rty) there.2) in
          let rids : there.0.rid ≡ rid = ap (λ (n : Name). n.rid) there.2 in
          let here : found list hints there.0.kind there.0.rid ≡ Some place = all place there.0 there.1 (ap is_link kinds ∙ no_link) in
          let both : found list hints there.0.kind there.0.rid ≡ found list hints k rid = λ i. found list hints (kinds i) (rids i) in
          sym both ∙ here

      go : (o : Option ℕ) → found list hints k rid ≡ o → found list hints k rid ≡ place_named list name
      go (Some place) e = e ∙ sym (only_named list name None place no_repeats refl (first_there list name _ place e))
      go None e = none e (place_named list name) refl

module _ (list : List Record) (n : ℕ) (r : Record) (kind : Kind) (rid : List ℕ)
    (there : slice_get list n ≡ Some r) (named_so : (let x : Name = record { rty = kind_code kind; rid = rid } in x) ≡ own_name (stated_at list n)) where
  -- the name of the record at a place, by its parts
  named_it : (let x : Name = record { rty = kind_code kind; rid = rid } in x) ≡ own_name r
  named_it = named_so ∙ ap own_name (get_or_from_slice_get list n r _ there)

  pub kind_there : kind ≡ r.kind
  kind_there = kind_from_code kind r.kind (ap (λ (x : Name). x.rty) named_it)

  pub rid_there : rid ≡ r.rid
  rid_there = ap (λ (x : Name). x.rid) named_it

-- what is no link is tabled
plain_tabled : (rise : Bool) (kind : Kind) → is_link kind ≡ false → is_tabled rise kind ≡ true
plain_tabled true kind plain = ap not plain
plain_tabled false kind plain = refl

-- where the names that are tabled are found, so are those of all records but links, and the links differ if these are among them
pub plain_found : (rise : Bool) (list : List Record) (hints : NameHints) → HasTabled rise list hints → HasAll list hints
plain_found rise list hints has k r at plain = has k r at (plain_tabled rise r.kind plain)

links_found_differ : (list : List Record) (hints : NameHints) → HasTabled false list hints → LinksDiffer list
links_found_differ list hints has j k q r less at later link too same =
    let kinds : q.kind ≡ r.kind = link_kind q.kind r.kind link too in
    let both : found list hints q.kind q.rid ≡ found list hints r.kind r.rid = λ i. found list hints (kinds i) (same i) in
    let one : j ≡ k = same_Some _ _ (sym (has j q at refl) ∙ (both ∙ has k r later refl)) in
    absurd (omega (arith, less, one))

pub finds_all : (rise : Bool) (list : List Record) (hints : NameHints) → (rise ≡ true → LinksDiffer list) → HasTabled rise list hints → LinksDiffer list × HasAll list hints
finds_all true list hints differ has = (differ refl, plain_found true list hints has)
finds_all false list hints differ has = (links_found_differ list hints has, plain_found false list hints has)

-- what stands under a name in two lists of slots, one after the other
pub first_of_two : (list : List Record) (name : Name) (slots more : List ℕ)
    → first_held list name (slots ++ more) ≡ (if is_some (first_held list name slots) then first_held list name slots else first_held list name more)
unfolding first_held
first_of_two list name [] more = refl
first_of_two list name (p ∷ ps) more = go (is_held list name p) (first_of_two list name ps more)
  where
    go : (b : Bool) → first_held list name (ps ++ more) ≡ (if is_some (first_held list name ps) then first_held list name ps else first_held list name more)
        → (if b then Some (slot_place p) else first_held list name (ps ++ more))
        ≡ (if is_some (if b then Some (slot_place p) else first_held list name ps) then (if b then Some (slot_place p) else first_held list name ps) else first_held list name more)
    go true h = refl
    go false h = h
