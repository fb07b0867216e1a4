-- The records of a file can be printed.
use Rattle.std.proofs.Common.{◌≡◌, ℕ, ◌+◌, ◌≤◌, ◌<◌, ◌^◌, Bool, true, false, cond, not, ◌&&◌, ◌||◌, eqb, ltb, leb, inl, inr, Option, Some, None, List, [], ◌∷◌, ◌++◌, map, filter, length, refl, sym, ap, ◌∙◌, subst, arith, codes, ℤ}
use Rattle.std.specs.Prelude.{option_map, unwrap_or, IfSome, is_none}
use Rattle.std.specs.List.{AllByRecursion, AllZip, list_any, before_first, onto_first}
use Rattle.std.proofs.lemmas.Bool.{and_from, or_parts, not-true, false_from_ne_true, eq-eqb, le-leb, ltb-false, not-false}
use Rattle.std.proofs.lemmas.List.{length-map, nil_from_length}
use Rattle.std.proofs.lemmas.List.Elements.{All-from_recursion, recursion_from_All}
use Rattle.edi_line.specs.ZoneData.{ZoneData, has_code, first}
use Rattle.edi_line.specs.LineRules.{BreaksLineRule, IsZonesOf}
use Rattle.edi_line.specs.Number.{size_of, MOST}
use Rattle.edi_line.specs.inner.Number.{number}
use Rattle.edi_line.specs.Printing.{IsOneLine, IsPrintable}
use Rattle.edi_line.specs.Refusal.{IsUnbroken, BreaksTest}
use Rattle.edi_line.specs.Zones.{groups_of, charset_of}
use Rattle.edi_line.proofs.ZonesFound.{zones_of}
use Rattle.edi_line.proofs.Numbers.{number_in_range}
use Rattle.edi_line.proofs.NumberRead.{number_is}
use Rattle.edi_record.specs.Texts.{PointerText}
use Rattle.edi_record.specs.inner.Texts.{parts, pointer_of, pointer, class_of, flat_place, high_place, point_of, point_in}
use Rattle.edi_record.specs.Shapes.{may_have_points, may_have_ends}
use Rattle.edi_record.specs.Records.{values, has_points, is_link, opens, closes, points_at, is_known, may_be_number, StatesSheet, SheetData}
use Rattle.edi_record.specs.inner.Records.{set_after, value_after, attribute, attributes, sns_after, end_with_sense, ends, Placed, is_open_after, zones_placed, is_extra, value_of, extra, ReadsAsRecord}
use Rattle.edi_record.specs.RecordRules.{BreaksRecordRule, just_one, is_identifier, has_no_identifier}
use Rattle.edi_record.specs.inner.RecordRules.{kind_in, has_bad_point, has_bad_end, is_unknown_pointer, has_unknown_pointer, record_tests, repeats_code, some_no_pointer, FailsTest}
use Rattle.edi_record.specs.CanonicalZones.{value_text}
use Rattle.edi_record.specs.RecordLayout.{IsOwnValue, IsExtra, IsName, IsPoint, IsRecord, IsLineName, IsLineAttribute, IsLineValue, IsLineExtra, IsLineEnd, IsLineRecord, FollowsRules}
use Rattle.edi_record.specs.Readable.{IsPrintableSheet}
use Rattle.edi_record.specs.declared.name.Name.{Name}
use Rattle.edi_record.specs.declared.record.Kind.{Kind}
use Rattle.edi_record.specs.declared.record.Kind.TheVariants.{Pno, Par, Pfe, Fea, Lnk}
use Rattle.edi_record.specs.declared.record.Record.{Record}
use Rattle.edi_record.specs.declared.record.Attribute.{Attribute}
use Rattle.edi_record.specs.declared.record.Extra.{Extra}
use Rattle.edi_record.specs.declared.record.Value.TheVariants.{Number, Bytes}
use Rattle.edi_record.specs.LinkEnds.{EndData}
use Rattle.edi_record.specs.declared.record.Point.{Point}
use Rattle.edi_line.proofs.ZonesSaid.{zones_read}
use Rattle.edi_record.proofs.StatesSaid.{all_read}
use Rattle.edi_record.proofs.RulesSaid.{records_pass}
use Rattle.edi_record.proofs.Passes.{kind_is}
use Rattle.edi_record.proofs.Parts.{same_length, ends_count}
use Rattle.edi_record.proofs.ReadZones.{NoFeed, one_line, IsGroupZone, AreGroupZones, zones_printable, few_zones_of, groups_readable, few_in_groups}

-- ---- parts of texts

-- no semicolon and no line feed
abbrev IsPartOfLine : List ℕ → Type 0
IsPartOfLine part = AllByRecursion (λ c. (eqb c 59 ≡ false) × (eqb c 10 ≡ false)) part

onto_part : (c : ℕ) → eqb c 59 ≡ false → eqb c 10 ≡ false → (ps : List (List ℕ)) → AllByRecursion IsPartOfLine ps → AllByRecursion IsPartOfLine (onto_first c ps)
onto_part c e f [] h = (((e, f), tt), tt)
onto_part c e f (p ∷ ps) h = (((e, f), h.0), h.1)

parts_of_line : (text : List ℕ) → NoFeed text → AllByRecursion IsPartOfLine (parts text)
parts_of_line [] h = (tt, tt)
parts_of_line (c ∷ cs) h = go (parts_of_line cs h.1) (eqb c 59) refl
  where
    go : AllByRecursion IsPartOfLine (parts cs) → (b : Bool) → eqb c 59 ≡ b → AllByRecursion IsPartOfLine (cond b ([] ∷ parts cs) (onto_first c (parts cs)))
    go more true e = (tt, more)
    go more false e = onto_part c e h.0 (parts cs) more

no_semicolon : (part : List ℕ) → IsPartOfLine part → AllByRecursion (λ c. eqb c 59 ≡ false) part
no_semicolon [] h = tt
no_semicolon (c ∷ cs) h = (h.0.0, no_semicolon cs h.1)

no_feed_in : (part : List ℕ) → IsPartOfLine part → NoFeed part
no_feed_in [] h = tt
no_feed_in (c ∷ cs) h = (h.0.1, no_feed_in cs h.1)

record IsReadName (n : Name) : Type 0 where
  name : IsName n
  line : IsLineName n

read_name : (rty rid : List ℕ) → IsPartOfLine rty → IsPartOfLine rid → IsReadName (record { rty = rty; rid = rid })
read_name rty rid h k = record {
  name = record { rty = All-from_recursion (λ c. eqb c 59 ≡ false) rty (no_semicolon rty h); rid = All-from_recursion (λ c. eqb c 59 ≡ false) rid (no_semicolon rid k) };
  line = record { rty = one_line rty (no_feed_in rty h); rid = one_line rid (no_feed_in rid k) };
}

abbrev NamesWell : PointerText → Type 0
NamesWell p = IsReadName (record { rty = p.rty; rid = p.rid })

pointer_by_parts : (ps : List (List ℕ)) → AllByRecursion IsPartOfLine ps → IfSome (pointer_of ps) NamesWell
pointer_by_parts (a ∷ b ∷ c ∷ d ∷ []) h = read_name c d h.1.1.0 h.1.1.1.0
pointer_by_parts [] h = tt
pointer_by_parts (a ∷ []) h = tt
pointer_by_parts (a ∷ b ∷ []) h = tt
pointer_by_parts (a ∷ b ∷ c ∷ []) h = tt
pointer_by_parts (a ∷ b ∷ c ∷ d ∷ f ∷ more) h = tt

pointer_read : (text : List ℕ) → IsOneLine text → IfSome (pointer text) NamesWell
unfolding pointer
pointer_read text h = pointer_by_parts (parts text) (parts_of_line text (recursion_from_All (λ c. eqb c 10 ≡ false) text h))

class_read : (text : List ℕ) → IsOneLine text → IfSome (class_of text) IsReadName
class_read text h = go (pointer text) (pointer_read text h)
  where
    go : (o : Option PointerText) → IfSome o NamesWell → IfSome (option_map (λ (p : PointerText). (let n : Name = record { rty = p.rty; rid = p.rid } in n)) o) IsReadName
    go None k = tt
    go (Some p) k = k

in_range : (text : List ℕ) → IfSome (number text) (λ m. size_of m ≤ MOST)
in_range text = go (number text) refl
  where
    go : (o : Option ℤ) → number text ≡ o → IfSome o (λ m. size_of m ≤ MOST)
    go None e = tt
    go (Some m) e = number_in_range text m ((number_is text m).0 e)

abbrev IsNear : Option ℤ → Type 0
IsNear o = IfSome o (λ m. size_of m ≤ MOST)

flat_read : (x y : Option ℤ) → IsNear x → IsNear y → IfSome (flat_place x y) IsPoint
flat_read (Some x) (Some y) h k = record { x = h; y = k; z = tt }
flat_read (Some x) None h k = tt
flat_read None y h k = tt

high_read : (x y z : Option ℤ) → IsNear x → IsNear y → IsNear z → IfSome (high_place x y z) IsPoint
high_read (Some x) (Some y) (Some z) h k l = record { x = h; y = k; z = l }
high_read (Some x) (Some y) None h k l = tt
high_read (Some x) None z h k l = tt
high_read None y z h k l = tt

point_by_parts : (ps : List (List ℕ)) → IfSome (point_of ps) IsPoint
point_by_parts (x ∷ y ∷ []) = flat_read (number x) (number y) (in_range x) (in_range y)
point_by_parts (x ∷ y ∷ [] ∷ []) = flat_read (number x) (number y) (in_range x) (in_range y)
point_by_parts (x ∷ y ∷ (a ∷ z) ∷ []) = high_read (number x) (number y) (number (a ∷ z)) (in_range x) (in_range y) (in_range (a ∷ z))
point_by_parts (x ∷ y ∷ [] ∷ [] ∷ []) = high_read (number x) (number y) (number []) (in_range x) (in_range y) (in_range [])
point_by_parts (x ∷ y ∷ (a ∷ z) ∷ [] ∷ []) = high_read (number x) (number y) (number (a ∷ z)) (in_range x) (in_range y) (in_range (a ∷ z))
point_by_parts [] = tt
point_by_parts (x ∷ []) = tt
point_by_parts (x ∷ y ∷ [] ∷ (b ∷ w) ∷ more) = tt
point_by_parts (x ∷ y ∷ (a ∷ z) ∷ (b ∷ w) ∷ more) = tt
point_by_parts (x ∷ y ∷ [] ∷ [] ∷ v ∷ more) = tt
point_by_parts (x ∷ y ∷ (a ∷ z) ∷ [] ∷ v ∷ more) = tt

point_read : (text : List ℕ) → IfSome (point_in text) IsPoint
unfolding point_in
point_read text = point_by_parts (parts text)

-- ---- values of zones

values_one_line : (p : ZoneData → Bool) (zs : List ZoneData) → AllByRecursion IsPrintable zs → AllByRecursion IsOneLine (map (λ (z : ZoneData). z.value) (filter p zs))
values_one_line p [] h = tt
values_one_line p (z ∷ zs) h = go (values_one_line p zs h.1) (p z)
  where
    go : AllByRecursion IsOneLine (map (λ (y : ZoneData). y.value) (filter p zs)) → (b : Bool) → AllByRecursion IsOneLine (map (λ (y : ZoneData). y.value) (cond b (z ∷ filter p zs) (filter p zs)))
    go more true = (h.0.one_line, more)
    go more false = more

printables : (zs : List ZoneData) → AreGroupZones zs → AllByRecursion IsPrintable zs
printables [] h = tt
printables (z ∷ zs) h = (h.0.printable, printables zs h.1)

-- what holds of each of a list of options that are all there
each_there : {X : Type 0} (P : X → Type 0) (os : List (Option X)) (xs : List X) → AllByRecursion (λ o. IfSome o P) os → os ≡ map Some xs → AllByRecursion P xs
each_there P [] [] h e = tt
each_there P [] (x ∷ xs) h e = absurd cc
each_there P (o ∷ os) [] h e = absurd cc
each_there P (None ∷ os) (x ∷ xs) h e = absurd cc
each_there P (Some y ∷ os) (x ∷ xs) h e = let head : y ≡ x = cc in let more : os ≡ map Some xs = cc in (subst P head h.0, each_there P os xs h.1 more)

each_mapped : {X : Type 0} (P : X → Type 0) (f : List ℕ → Option X) → ((text : List ℕ) → IsOneLine text → IfSome (f text) P) → (texts : List (List ℕ)) → AllByRecursion IsOneLine texts → AllByRecursion (λ o. IfSome o P) (map f texts)
each_mapped P f k [] h = tt
each_mapped P f k (t ∷ texts) h = (k t h.0, each_mapped P f k texts h.1)

none_empty : IsOneLine []
none_empty = one_line [] tt

-- ---- attributes

record IsReadAttribute (a : Attribute) : Type 0 where
  name : IsName a.atp
  line : IsLineAttribute a

set_one_line : (zs : List ZoneData) → AllByRecursion IsPrintable zs → IfSome (set_after zs) IsOneLine
unfolding set_after
set_one_line [] h = tt
set_one_line (z ∷ zs) h = go (set_one_line zs h.1) (opens z || closes z) (has_code (codes "TEX") z)
  where
    go : IfSome (set_after zs) IsOneLine → (a b : Bool) → IfSome (cond a None (cond b (Some z.value) (set_after zs))) IsOneLine
    go more true b = tt
    go more false true = h.0.one_line
    go more false false = more

value_one_line : (zs : List ZoneData) → AllByRecursion IsPrintable zs → IsOneLine (value_after zs)
unfolding value_after
value_one_line [] h = none_empty
value_one_line (z ∷ zs) h = go (value_one_line zs h.1) (opens z) (closes z)
  where
    go : IsOneLine (value_after zs) → (a b : Bool) → IsOneLine (cond a [] (cond b z.value (value_after zs)))
    go more true b = none_empty
    go more false true = h.0.one_line
    go more false false = more

attribute_read : (class : List ℕ) (tex : Option (List ℕ)) (atv : List ℕ) → IsOneLine class → IfSome tex IsOneLine → IsOneLine atv → IfSome (attribute class tex atv) IsReadAttribute
attribute_read class tex atv c t v = go (class_of class) (class_read class c)
  where
    go : (o : Option Name) → IfSome o IsReadName → IfSome (option_map (λ (name : Name). (let a : Attribute = record { atp = name; tex = tex; atv = atv } in a)) o) IsReadAttribute
    go None k = tt
    go (Some n) k = record { name = k.name; line = record { class = k.line; set = t; value = v } }

attributes_read : (zs : List ZoneData) → AllByRecursion IsPrintable zs → AllByRecursion (λ o. IfSome o IsReadAttribute) (attributes zs)
unfolding attributes
attributes_read [] h = tt
attributes_read (z ∷ zs) h = go (attributes_read zs h.1) (opens z)
  where
    go : AllByRecursion (λ o. IfSome o IsReadAttribute) (attributes zs) → (b : Bool) → AllByRecursion (λ o. IfSome o IsReadAttribute) (cond b (attribute z.value (set_after zs) (value_after zs) ∷ attributes zs) (attributes zs))
    go more true = (attribute_read z.value (set_after zs) (value_after zs) h.0.one_line (set_one_line zs h.1) (value_one_line zs h.1), more)
    go more false = more

-- ---- ends

record IsReadEnd (e : EndData) : Type 0 where
  name : IsName e.target
  line : IsLineEnd e

sns_one_line : (zs : List ZoneData) → AllByRecursion IsPrintable zs → IfSome (sns_after zs) IsOneLine
unfolding sns_after
sns_one_line [] h = tt
sns_one_line (z ∷ zs) h = go (sns_one_line zs h.1) (points_at z) (has_code (codes "SNS") z)
  where
    go : IfSome (sns_after zs) IsOneLine → (a b : Bool) → IfSome (cond a None (cond b (Some z.value) (sns_after zs))) IsOneLine
    go more true b = tt
    go more false true = h.0.one_line
    go more false false = more

end_read : (text : List ℕ) (sns : Option (List ℕ)) → IsOneLine text → IfSome sns IsOneLine → IfSome (end_with_sense text sns) IsReadEnd
end_read text sns h k = go (pointer text) (pointer_read text h)
  where
    go : (o : Option PointerText) → IfSome o NamesWell → IfSome (option_map (λ (p : PointerText). (let e : EndData = record { lot = p.lot; subset = p.subset; target = record { rty = p.rty; rid = p.rid }; sns = sns } in e)) o) IsReadEnd
    go None l = tt
    go (Some p) l = record { name = l.name; line = record { target = l.line; sns = k } }

ends_read : (zs : List ZoneData) → AllByRecursion IsPrintable zs → AllByRecursion (λ o. IfSome o IsReadEnd) (ends zs)
unfolding ends
ends_read [] h = tt
ends_read (z ∷ zs) h = go (ends_read zs h.1) (points_at z)
  where
    go : AllByRecursion (λ o. IfSome o IsReadEnd) (ends zs) → (b : Bool) → AllByRecursion (λ o. IfSome o IsReadEnd) (cond b (end_with_sense z.value (sns_after zs) ∷ ends zs) (ends zs))
    go more true = (end_read z.value (sns_after zs) h.0.one_line (sns_one_line zs h.1), more)
    go more false = more

-- ---- extras

record IsReadExtra (kind : Kind) (e : Extra) : Type 0 where
  unknown : IsExtra kind e
  line : IsLineExtra e

value_line : (may : Bool) (text : List ℕ) → IsOneLine text → IsLineValue (value_of may text)
value_line false text h = h
value_line true text h = go (number text) (in_range text)
  where
    go : (o : Option ℤ) → IsNear o → IsLineValue (unwrap_or (option_map Number o) (Bytes text))
    go None k = h
    go (Some m) k = k

value_own : (may : Bool) (text : List ℕ) → IsOwnValue may (value_of may text)
value_own false text = λ e. let f : false ≡ true = e in absurd cc
value_own true text = go (number text) refl (in_range text)
  where
    go : (o : Option ℤ) → number text ≡ o → IsNear o → IsOwnValue true (unwrap_or (option_map Number o) (Bytes text))
    go None e k = λ _. e
    go (Some m) e k = (refl, k)

abbrev place_made : Bool → ZoneData → Placed
place_made b z = record { open_before = b; zone = z }

extra_read : (kind : Kind) (before : Bool) (z : ZoneData) → IsGroupZone z → is_extra kind (place_made before z) ≡ true → IsReadExtra kind (extra z)
extra_read kind before z h e =
    let none = or_parts (has_code (codes "TEX") z && before) (is_known kind z.code) (not-true _ e) in
    record {
      unknown = record { unknown = none.1; own = value_own (may_be_number z.format) z.value; free = h.free };
      line = record { code = h.printable.code; nature = h.printable.nature; format = h.printable.format; value = value_line (may_be_number z.format) z.value h.printable.one_line };
    }

abbrev extras_in : List Placed → List Extra
extras_in ps = map (λ (p : Placed). extra p.zone) ps

extras_read : (kind : Kind) (before : Bool) (zs : List ZoneData) → AreGroupZones zs → AllByRecursion (IsReadExtra kind) (extras_in (filter (is_extra kind) (zones_placed before zs)))
unfolding zones_placed
extras_read kind before [] h = tt
extras_read kind before (z ∷ zs) h = go (extras_read kind (is_open_after before z) zs h.1) (is_extra kind (place_made before z)) refl
  where
    more : List Placed
    more = filter (is_extra kind) (zones_placed (is_open_after before z) zs)

    go : AllByRecursion (IsReadExtra kind) (extras_in more) → (b : Bool) → is_extra kind (place_made before z) ≡ b → AllByRecursion (IsReadExtra kind) (extras_in (cond b (place_made before z ∷ more) more))
    go rest true e = (extra_read kind before z h.0 e, rest)
    go rest false e = rest

-- ---- the rules of records

-- no rule is broken in the group
abbrev pub IsKept : List ZoneData → Type 0
IsKept group = (rule : ℕ) → ¬ (BreaksTest (record_tests group) rule)

kept_each : (groups : List (List ZoneData)) → ((before : List (List ZoneData)) (group : List ZoneData) (after : List (List ZoneData)) → groups ≡ before ++ group ∷ after → IsKept group) → AllByRecursion IsKept groups
kept_each [] k = tt
kept_each (g ∷ gs) k = (k [] g gs refl, kept_each gs (λ before group after e. k (g ∷ before) group after (ap (λ t. g ∷ t) e)))

pub all_kept : (zones : List ZoneData) → IsUnbroken (FailsTest zones) → AllByRecursion IsKept (groups_of zones)
all_kept zones unbroken =
    kept_each (groups_of zones) (λ before group after e rule b. unbroken rule (length before + 1) (record { before = before; group = group; after = after; cut = e; place_is = refl; breaks = b }))

pub identifier_kept : (group : List ZoneData) → IsKept group → has_no_identifier group ≡ false
identifier_kept group k = false_from_ne_true (has_no_identifier group) (λ e. k 202 (inr (inl (refl, e))))

pub point_kept : (group : List ZoneData) → IsKept group → has_bad_point group ≡ false
point_kept group k = false_from_ne_true (has_bad_point group) (λ e. k 206 (inr (inr (inr (inr (inr (inl (refl, e))))))))

pub end_kept : (group : List ZoneData) → IsKept group → has_bad_end group ≡ false
end_kept group k = false_from_ne_true (has_bad_end group) (λ e. k 207 (inr (inr (inr (inr (inr (inr (inl (refl, e)))))))))

pointer_kept : (group : List ZoneData) → IsKept group → has_unknown_pointer group ≡ false
pointer_kept group k = false_from_ne_true (has_unknown_pointer group) (λ e. k 208 (inr (inr (inr (inr (inr (inr (inr (inl (refl, e))))))))))

identifier_read : (group : List ZoneData) (r : Record) → ReadsAsRecord group r → IsKept group → is_identifier r.rid ≡ true
identifier_read group r h k = not-false (is_identifier r.rid) (sym (ap (λ vs. not (just_one is_identifier vs)) h.rid) ∙ identifier_kept group k)

-- ---- points and ends where the kind has them

none_of : {X : Type 0} (xs : List X) → [] ≡ map Some xs → xs ≡ []
none_of [] e = refl
none_of (x ∷ xs) e = absurd cc

chosen_each : {X : Type 0} (P : Option X → Type 0) (b : Bool) (os : List (Option X)) → AllByRecursion P os → AllByRecursion P (cond b os [])
chosen_each P true os h = h
chosen_each P false os h = tt

none_chosen : {X : Type 0} (b : Bool) (os : List (Option X)) (xs : List X) → cond b os [] ≡ map Some xs → b ≡ false → xs ≡ []
none_chosen true os xs e f = absurd cc
none_chosen false os xs e f = none_of xs e

few_chosen : {X : Type 0} (b : Bool) (os : List (Option X)) (xs : List X) (n : ℕ) → cond b os [] ≡ map Some xs → length os ≤ n → length xs ≤ n
few_chosen true os xs n e h = let same = same_length os xs e in omega (arith, same, h)
few_chosen false os xs n e h = let same = ap length (none_of xs e) in omega (arith, same)

few_values : (code : List ℕ) (zs : List ZoneData) → length (values code zs) ≤ length zs
few_values code [] = omega arith
few_values code (z ∷ zs) = go (has_code code z) (few_values code zs)
  where
    go : (b : Bool) → length (values code zs) ≤ length zs → length (map (λ (y : ZoneData). y.value) (cond b (z ∷ filter (has_code code) zs) (filter (has_code code) zs))) ≤ length (z ∷ zs)
    go true h = omega (arith, h)
    go false h = omega (arith, h)

few_attributes : (zs : List ZoneData) → length (attributes zs) ≤ length zs
unfolding attributes
few_attributes [] = omega arith
few_attributes (z ∷ zs) = go (opens z) (few_attributes zs)
  where
    go : (b : Bool) → length (attributes zs) ≤ length zs → length (cond b (attribute z.value (set_after zs) (value_after zs) ∷ attributes zs) (attributes zs)) ≤ length (z ∷ zs)
    go true h = omega (arith, h)
    go false h = omega (arith, h)

node_one : (a b : Bool) → (a || (not b || false)) ≡ false → b ≡ true
node_one true b e = absurd cc
node_one false true e = refl
node_one false false e = absurd cc

link_two : (a b c : Bool) → (a || (b || c)) ≡ false → b ≡ false
link_two true b c e = absurd cc
link_two false true c e = absurd cc
link_two false false c e = refl

two_or_more : (n : ℕ) → ltb n 2 ≡ false → leb 2 n ≡ true
two_or_more n e = le-leb 2 n (ltb-false n 2 e)

none_counted : {X : Type 0} (xs : List X) → [] ≡ map Some xs → eqb (length xs) 0 ≡ true
none_counted xs e = ap (λ t. eqb (length t) 0) (none_of xs e)

pub shape_read : (kind : Kind) (group : List ZoneData) (ps : List Point) (es : List EndData) → kind_in group ≡ Some kind → cond (has_points kind) (map point_in (values (codes "COR") group)) [] ≡ map Some ps
    → cond (is_link kind) (ends group) [] ≡ map Some es → has_bad_point group ≡ false → has_bad_end group ≡ false → (may_have_points kind (length ps) && may_have_ends kind (length es)) ≡ true
shape_read Pno group ps es k p e bad_point bad_end =
    let count : length (values (codes "COR") group) ≡ length ps = sym (length-map (values (codes "COR") group) point_in) ∙ same_length (map point_in (values (codes "COR") group)) ps p in
    let one = node_one (list_any (λ text. is_none (point_in text)) (values (codes "COR") group)) (eqb (length (values (codes "COR") group)) 1) (rw k at bad_point) in
    and_from (eqb (length ps) 1) (eqb (length es) 0) (ap (λ n. eqb n 1) (sym count) ∙ one) (none_counted es e)
shape_read Par group ps es k p e bad_point bad_end =
    let count : length (values (codes "COR") group) ≡ length ps = sym (length-map (values (codes "COR") group) point_in) ∙ same_length (map point_in (values (codes "COR") group)) ps p in
    let two = (or_parts (list_any (λ text. is_none (point_in text)) (values (codes "COR") group)) (ltb (length (values (codes "COR") group)) 2) (rw k at bad_point)).1 in
    and_from (leb 2 (length ps)) (eqb (length es) 0) (two_or_more (length ps) (ap (λ n. ltb n 2) (sym count) ∙ two)) (none_counted es e)
shape_read Pfe group ps es k p e bad_point bad_end = and_from (eqb (length ps) 0) (eqb (length es) 0) (none_counted ps p) (none_counted es e)
shape_read Fea group ps es k p e bad_point bad_end = and_from (eqb (length ps) 0) (eqb (length es) 0) (none_counted ps p) (none_counted es e)
shape_read Lnk group ps es k p e bad_point bad_end =
    let count : length (values (codes "FTP") group) ≡ length es = sym (ends_count group) ∙ same_length (ends group) es e in
    let two = link_two (some_no_pointer (values (codes "FTP") group)) (ltb (length (values (codes "FTP") group)) 2)
    (list_any (has_code (codes "SNS")) (before_first points_at group) || repeats_code points_at points_at (codes "SNS") group) (rw k at bad_end) in
    and_from (eqb (length ps) 0) (leb 2 (length es)) (none_counted ps p) (two_or_more (length es) (ap (λ n. ltb n 2) (sym count) ∙ two))

-- ---- extras with the format of a pointer are empty

abbrev PointsToNothing : Extra → Type 0
PointsToNothing e = e.format ≡ 80 → value_text e.value ≡ []

nothing_held : (z : ZoneData) → ((eqb z.format 80) && ltb 0 (length z.value)) ≡ false → PointsToNothing (extra z)
nothing_held z e f = ap (λ n. value_text (value_of (may_be_number n) z.value)) f ∙ nothing (ltb 0 (length z.value)) refl
  where
    nothing : (b : Bool) → ltb 0 (length z.value) ≡ b → z.value ≡ []
    nothing true g = let both : (eqb z.format 80 && ltb 0 (length z.value)) ≡ true = and_from _ _ (eq-eqb z.format 80 f) g in let clash : true ≡ false = sym both ∙ e in absurd cc
    nothing false g = nil_from_length z.value (let h = ltb-false 0 (length z.value) g in omega (arith, h))

pointers_read : (kind : Kind) (ps : List Placed) → list_any (is_unknown_pointer kind) ps ≡ false → AllByRecursion PointsToNothing (extras_in (filter (is_extra kind) ps))
pointers_read kind [] e = tt
pointers_read kind (p ∷ ps) e =
    let split = or_parts (is_unknown_pointer kind p) (list_any (is_unknown_pointer kind) ps) e in
    go (is_extra kind p) refl split.0 (pointers_read kind ps split.1)
  where
    more : List Placed
    more = filter (is_extra kind) ps

    go : (b : Bool) → is_extra kind p ≡ b → is_unknown_pointer kind p ≡ false → AllByRecursion PointsToNothing (extras_in more) → AllByRecursion PointsToNothing (extras_in (cond b (p ∷ more) more))
    go true f known rest = (nothing_held p.zone (rw f at known), rest)
    go false f known rest = rest

-- ---- records

attribute_parts : (xs : List Attribute) → AllByRecursion IsReadAttribute xs → AllByRecursion (λ a. IsName a.atp) xs × AllByRecursion IsLineAttribute xs
attribute_parts [] h = (tt, tt)
attribute_parts (x ∷ xs) h = let more = attribute_parts xs h.1 in ((h.0.name, more.0), (h.0.line, more.1))

end_parts : (xs : List EndData) → AllByRecursion IsReadEnd xs → AllByRecursion (λ e. IsName e.target) xs × AllByRecursion IsLineEnd xs
end_parts [] h = (tt, tt)
end_parts (x ∷ xs) h = let more = end_parts xs h.1 in ((h.0.name, more.0), (h.0.line, more.1))

extra_parts : (kind : Kind) (xs : List Extra) → AllByRecursion (IsReadExtra kind) xs → AllByRecursion (IsExtra kind) xs × AllByRecursion IsLineExtra xs
extra_parts kind [] h = (tt, tt)
extra_parts kind (x ∷ xs) h = let more = extra_parts kind xs h.1 in ((h.0.unknown, more.0), (h.0.line, more.1))

record IsReadRecord (r : Record) : Type 0 where
  is : IsRecord r
  line : IsLineRecord r
  rules : FollowsRules r

record_read : (group : List ZoneData) (r : Record) → AreGroupZones group → ReadsAsRecord group r → length group < 2 ^ 64 → IsKept group → IsReadRecord r
record_read group r h s few kept =
    let lines = printables group h in
    let rid = subst (AllByRecursion IsOneLine) s.rid (values_one_line (has_code (codes "RID")) group lines) in
    let class = each_there IsReadName (map class_of (values (codes "SCP") group)) (r.scp ∷ []) (each_mapped IsReadName class_of class_read (values (codes "SCP") group) (values_one_line (has_code (codes "SCP")) group lines)) s.scp in
    let places = each_mapped IsPoint point_in (λ text k. point_read text) (values (codes "COR") group) (values_one_line (has_code (codes "COR")) group lines) in
    let points = each_there IsPoint (cond (has_points r.kind) (map point_in (values (codes "COR") group)) []) r.points (chosen_each (λ o. IfSome o IsPoint) (has_points r.kind) (map point_in (values (codes "COR") group)) places) s.points in
    let found_ends = end_parts r.ends (each_there IsReadEnd (cond (is_link r.kind) (ends group) []) r.ends (chosen_each (λ o. IfSome o IsReadEnd) (is_link r.kind) (ends group) (ends_read group lines)) s.ends) in
    let attrs = attribute_parts r.attributes (each_there IsReadAttribute (attributes group) r.attributes (attributes_read group lines) s.attributes) in
    let others = extra_parts r.kind r.extras (subst (AllByRecursion (IsReadExtra r.kind)) s.extras (extras_read r.kind false group h)) in
    let many_attributes : length r.attributes ≤ length group = (let n = few_attributes group in let same = same_length (attributes group) r.attributes s.attributes in omega (arith, n, same)) in
    let many_points = few_chosen (has_points r.kind) (map point_in (values (codes "COR") group)) r.points (length group) s.points
    (let n = few_values (codes "COR") group in let same = length-map (values (codes "COR") group) point_in in omega (arith, n, same)) in
    let many_ends = few_chosen (is_link r.kind) (ends group) r.ends (length group) s.ends (let n = few_values (codes "FTP") group in let same = ends_count group in omega (arith, n, same)) in
    let kind = kind_is group r s in
    let nothing : list_any (is_unknown_pointer r.kind) (zones_placed false group) ≡ false = rw kind at (pointer_kept group kept) in
    record {
      is = record {
        class = class.0.name;
        points = points;
        no_points = none_chosen (has_points r.kind) (map point_in (values (codes "COR") group)) r.points s.points;
        ends = found_ends.0;
        no_ends = none_chosen (is_link r.kind) (ends group) r.ends s.ends;
        classes = attrs.0;
        extras = others.0;
      };
      line = record {
        rid = rid.0;
        class = class.0.line;
        points = points;
        ends = found_ends.1;
        few = omega (arith, few, many_attributes);
        few_points = omega (arith, few, many_points);
        few_ends = omega (arith, few, many_ends);
        attributes = attrs.1;
        extras = others.1;
      };
      rules = record {
        identifier = identifier_read group r s kept;
        shape = shape_read r.kind group r.points r.ends kind s.points s.ends (point_kept group kept) (end_kept group kept);
        few_attributes = omega (arith, few, many_attributes);
        few_points = omega (arith, few, many_points);
        few_ends = omega (arith, few, many_ends);
        pointers = subst (AllByRecursion PointsToNothing) s.extras (pointers_read r.kind (zones_placed false group) nothing);
      };
    }

records_read : (groups : List (List ZoneData)) (rs : List Record) → AllZip ReadsAsRecord groups rs → AllByRecursion AreGroupZones groups → AllByRecursion (λ g. length g < 2 ^ 64) groups → AllByRecursion IsKept groups → AllByRecursion IsReadRecord rs
records_read [] [] s h few kept = tt
records_read [] (r ∷ rs) s h few kept = absurd s
records_read (g ∷ gs) [] s h few kept = tt
records_read (g ∷ gs) (r ∷ rs) s h few kept = (record_read g r h.0 s.0 few.0 kept.0, records_read gs rs s.1 h.1 few.1 kept.1)

record_parts : (rs : List Record) → AllByRecursion IsReadRecord rs → AllByRecursion IsRecord rs × AllByRecursion IsLineRecord rs × AllByRecursion FollowsRules rs
record_parts [] h = (tt, tt, tt)
record_parts (r ∷ rs) h = let more = record_parts rs h.1 in ((h.0.is, more.0), (h.0.line, more.1), (h.0.rules, more.2))

fewer : (n : ℕ) → n < 2 ^ 64 → (groups : List (List ZoneData)) → AllByRecursion (λ g. length g ≤ n) groups → AllByRecursion (λ g. length g < 2 ^ 64) groups
fewer n h [] k = tt
fewer n h (g ∷ gs) k = (omega (arith, h, k.0), fewer n h gs k.1)

charset_line : (zones : List ZoneData) → AllByRecursion IsPrintable zones → IfSome (option_map (λ (e : ZoneData). e.value) (charset_of zones)) IsOneLine
charset_line [] h = tt
charset_line (z ∷ zs) h = go (has_code (codes "CSE") z) (charset_line zs h.1)
  where
    go : (b : Bool) → IfSome (option_map (λ (e : ZoneData). e.value) (charset_of zs)) IsOneLine → IfSome (option_map (λ (e : ZoneData). e.value) (first (cond b (z ∷ filter (has_code (codes "CSE")) zs) (filter (has_code (codes "CSE")) zs)))) IsOneLine
    go true more = h.0.one_line
    go false more = more

-- What a file states can be printed.
pub sheet_read : (bytes : List ℕ) (zones : List ZoneData) (sheet : SheetData) → length bytes < 2 ^ 64 → IsZonesOf bytes zones → IsUnbroken (BreaksLineRule bytes)
    → StatesSheet zones sheet → IsUnbroken (BreaksRecordRule zones) → IsPrintableSheet sheet
sheet_read bytes zones sheet long are lines states unbroken =
    let of = zones_read bytes zones are in
    let rules = records_pass zones unbroken in
    let groups = subst (λ zs. AllByRecursion AreGroupZones (groups_of zs)) (sym of.is) (groups_readable bytes lines) in
    let few : length zones ≤ length bytes = subst (λ zs. length zs ≤ length bytes) (sym of.is) (few_zones_of bytes) in
    let read = record_parts sheet.list (records_read (groups_of zones) sheet.list (all_read (groups_of zones) sheet.list states.records) groups (fewer (length bytes) long (groups_of zones) (few_in_groups zones (length bytes) few)) (all_kept zones rules)) in
    record {
      cse = subst (λ o. IfSome o IsOneLine) (sym states.cse) (subst (λ zs. IfSome (option_map (λ (e : ZoneData). e.value) (charset_of zs)) IsOneLine) (sym of.is) (charset_line (zones_of bytes) (zones_printable bytes)));
      records = read.0;
      lines = read.1;
      rules = read.2;
    }
