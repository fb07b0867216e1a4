-- Steps of the loops that read attributes.
use Rattle.std.proofs.Common.{◌≡◌, ℕ, true, false, ◌||◌, List, [], ◌∷◌, ◌++◌, ◌≤◌, ◌<◌, ◌-◌, length, get_or, take, drop, arith, map, Option, Some, None, is_none, codes, bytes_eq, refl, sym, ap, ◌∙◌}
use Rattle.std.specs.List.{list_any}
use Rattle.std.proofs.lemmas.List.{take_all}
use Rattle.edi_line.specs.ZoneData.{ZoneData, entry, entries}
use Rattle.edi_line.specs.declared.zone.Zone.{Zone}
use Rattle.edi_record.specs.Texts.{PointerText}
use Rattle.edi_record.specs.inner.Texts.{pointer}
use Rattle.edi_record.specs.Records.{opens, closes}
use Rattle.edi_record.specs.inner.Records.{set_after, value_after, attribute, attributes}
use Rattle.edi_record.specs.declared.record.Attribute.{Attribute}

pub set_stops : (z : ZoneData) (zs : List ZoneData) → (opens z || closes z) ≡ true → None ≡ set_after (z ∷ zs)
unfolding set_after
set_stops z zs e = rw e refl

pub set_found : (z : ZoneData) (zs : List ZoneData) → (opens z || closes z) ≡ false → bytes_eq z.code (codes "TEX") ≡ true → Some z.value ≡ set_after (z ∷ zs)
unfolding set_after
set_found z zs e f = rw (e, f) refl

pub set_goes_on : (z : ZoneData) (zs : List ZoneData) → (opens z || closes z) ≡ false → bytes_eq z.code (codes "TEX") ≡ false → set_after zs ≡ set_after (z ∷ zs)
unfolding set_after
set_goes_on z zs e f = rw (e, f) refl

pub set_none : None ≡ set_after []
unfolding set_after
set_none = refl

pub value_stops : (z : ZoneData) (zs : List ZoneData) → opens z ≡ true → [] ≡ value_after (z ∷ zs)
unfolding value_after
value_stops z zs e = rw e refl

pub value_found : (z : ZoneData) (zs : List ZoneData) → opens z ≡ false → closes z ≡ true → z.value ≡ value_after (z ∷ zs)
unfolding value_after
value_found z zs e f = rw (e, f) refl

pub value_goes_on : (z : ZoneData) (zs : List ZoneData) → opens z ≡ false → closes z ≡ false → value_after zs ≡ value_after (z ∷ zs)
unfolding value_after
value_goes_on z zs e f = rw (e, f) refl

pub value_none : [] ≡ value_after []
unfolding value_after
value_none = refl

pub attributes_end : attributes [] ≡ []
unfolding attributes
attributes_end = refl

pub attributes_skip : (z : ZoneData) (zs : List ZoneData) → opens z ≡ false → attributes (z ∷ zs) ≡ attributes zs
unfolding attributes
attributes_skip z zs e = rw e refl

pub attributes_here : (z : ZoneData) (zs : List ZoneData) → opens z ≡ true → attributes (z ∷ zs) ≡ attribute z.value (set_after zs) (value_after zs) ∷ attributes zs
unfolding attributes
attributes_here z zs e = rw e refl

-- ---- the first zone of a list that isn't empty, and the rest

pub cut_first : (rest : List Zone) (d z : Zone) → 1 ≤ length rest → z ≡ get_or rest 0 d → entries rest ≡ entry z ∷ entries (take (length rest - 1) (drop 1 rest))
cut_first [] d z some e = absurd (omega arith)
cut_first (x ∷ xs) d z some e = ap (λ y. entry y ∷ entries xs) (sym e) ∙ ap (λ l. entry z ∷ entries l) (sym (take_all (length (x ∷ xs) - 1) xs (omega arith)))

pub nothing_left : (rest : List Zone) → length rest < 1 → entries rest ≡ []
nothing_left [] none = refl
nothing_left (x ∷ xs) none = absurd (omega arith)

-- ---- an attribute

abbrev attribute_made : PointerText → List ZoneData → Attribute
attribute_made p zs = record { atp = record { rty = p.rty; rid = p.rid }; tex = set_after zs; atv = value_after zs }

pub class_read : (z : ZoneData) (zs : List ZoneData) (text : List ℕ) (p : PointerText) → opens z ≡ true → text ≡ z.value → Some p ≡ pointer text → attributes (z ∷ zs) ≡ Some (attribute_made p zs) ∷ attributes zs
class_read z zs text p e same read =
    let found : pointer z.value ≡ Some p = ap pointer (sym same) ∙ sym read in
    attributes_here z zs e ∙ rw found refl

pub no_class : (z : ZoneData) (zs : List ZoneData) (text : List ℕ) → opens z ≡ true → text ≡ z.value → None ≡ pointer text → attributes (z ∷ zs) ≡ None ∷ attributes zs
no_class z zs text e same read =
    let found : pointer z.value ≡ None = ap pointer (sym same) ∙ sym read in
    attributes_here z zs e ∙ rw found refl

none_among : {X : Type 0} (ds : List X) (more : List (Option X)) → list_any is_none (map Some ds ++ (None ∷ more)) ≡ true
none_among [] more = refl
none_among (d ∷ ds) more = none_among ds more

pub one_missing : {X : Type 0} (all found more : List (Option X)) (ds : List X) → all ≡ map Some ds ++ found → found ≡ None ∷ more → list_any is_none all ≡ true
one_missing all found more ds kept here = ap (list_any is_none) (kept ∙ ap (λ t. map Some ds ++ t) here) ∙ none_among ds more

more_found : {X : Type 0} (ds : List X) (a : X) (more : List (Option X)) → map Some ds ++ (Some a ∷ more) ≡ map Some (ds ++ a ∷ []) ++ more
more_found [] a more = refl
more_found (d ∷ ds) a more = ap (λ t. Some d ∷ t) (more_found ds a more)

pub one_found : {X : Type 0} (all found more : List (Option X)) (ds new : List X) (a : X) → all ≡ map Some ds ++ found → found ≡ Some a ∷ more → new ≡ ds ++ a ∷ [] → all ≡ map Some new ++ more
one_found all found more ds new a kept here pushed = kept ∙ ap (λ t. map Some ds ++ t) here ∙ more_found ds a more ∙ ap (λ t. map Some t ++ more) (sym pushed)
