-- The names of records, as their zones give them.
use Rattle.std.proofs.Common.{◌≡◌, ℕ, Bool, true, false, not, cond, List, [], ◌∷◌, Some, codes, refl, sym, ap, ◌∙◌}
use Rattle.std.specs.Prelude.{unwrap_or}
use Rattle.std.specs.List.{AllByRecursion}
use Rattle.edi_line.specs.ZoneData.{ZoneData}
use Rattle.edi_line.specs.Zones.{begins_group, before_end, groups_of}
use Rattle.edi_record.specs.declared.name.Name.{Name}
use Rattle.edi_record.specs.Records.{values, first}
use Rattle.edi_record.specs.RecordRules.{has_no_identifier, just_one, is_identifier}
use Rattle.edi_schema.specs.inner.Drafts.{text_of_code, draft_name}
use Rattle.edi_schema.specs.SchemaOf.{IsNamed}

-- each group leads with its type
abbrev pub IsLed : List ZoneData → Type 0
IsLed group = (z : ZoneData) × (zs : List ZoneData) × (group ≡ z ∷ zs) × (begins_group z ≡ true)

pub groups_led : (es : List ZoneData) → AllByRecursion IsLed (groups_of es)
groups_led [] = tt
groups_led (z ∷ zs) = go (begins_group z) refl (groups_led zs)
  where
    go : (b : Bool) → begins_group z ≡ b → AllByRecursion IsLed (groups_of zs) → AllByRecursion IsLed (cond b ((z ∷ before_end zs) ∷ groups_of zs) (groups_of zs))
    go true e more = ((z, before_end zs, refl, e), more)
    go false e more = more

led_type : (group : List ZoneData) → IsLed group → first (values (codes "RTY") group) ≡ Some (text_of_code (codes "RTY") group)
led_type group h =
    let found : first (values (codes "RTY") group) ≡ Some h.0.value = ap (λ g. first (values (codes "RTY") g)) h.2 ∙ here h.0 h.1 h.3 in
    found ∙ ap Some (sym (ap (λ o. unwrap_or o []) found))
  where
    here : (z : ZoneData) (zs : List ZoneData) → begins_group z ≡ true → first (values (codes "RTY") (z ∷ zs)) ≡ Some z.value
    here z zs e = rw e refl

one_text : (vs : List (List ℕ)) → not (just_one is_identifier vs) ≡ false → first vs ≡ Some (unwrap_or (first vs) [])
one_text [] e = absurd cc
one_text (v ∷ vs) e = refl

pub is_named : (group : List ZoneData) → IsLed group → has_no_identifier group ≡ false → IsNamed group (draft_name group)
is_named group led has = record { rty = led_type group led; rid = one_text (values (codes "RID") group) has }

pub named_so : (group : List ZoneData) (name : Name) → IsNamed group name → name ≡ draft_name group
named_so group name h =
    let rty : name.rty ≡ text_of_code (codes "RTY") group = sym (ap (λ o. unwrap_or o []) h.rty) in
    let rid : name.rid ≡ text_of_code (codes "RID") group = sym (ap (λ o. unwrap_or o []) h.rid) in
    λ j. record { rty = rty j; rid = rid j }
