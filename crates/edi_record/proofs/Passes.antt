-- Which rules a group that states a record can't break.
use Rattle.std.proofs.Common.{◌≡◌, ℕ, Bool, true, false, not, List, [], ◌∷◌, map, Option, Some, None, option_map, is_none, is_some, codes, refl, sym, ap, ◌∙◌}
use Rattle.std.specs.Prelude.{option_and_then, unwrap_or, ℤ}
use Rattle.edi_line.specs.ZoneData.{ZoneData, first}
use Rattle.edi_record.specs.Texts.{PointerText}
use Rattle.edi_record.specs.inner.Texts.{pointer, class_of}
use Rattle.edi_record.specs.RecordRules.{just_one, is_identifier, has_no_identifier}
use Rattle.edi_record.specs.inner.RecordRules.{kind_named, kind_in, has_no_kind, has_no_class}
use Rattle.edi_line.specs.inner.Number.{number}
use Rattle.edi_line.proofs.NumberRead.{number_is}
use Rattle.edi_record.specs.declared.record.Value.TheVariants.{Number, Bytes}
use Rattle.edi_record.specs.Records.{values, IsValueOf}
use Rattle.edi_record.specs.inner.Records.{ReadsAsRecord, value_of}
use Rattle.edi_record.specs.declared.name.Name.{Name}
use Rattle.edi_record.specs.declared.record.Record.{Record}
use Rattle.edi_record.proofs.KindCodes.{kind_again}

pub kind_is : (group : List ZoneData) (r : Record) → ReadsAsRecord group r → kind_in group ≡ Some r.kind
kind_is group r h = ap (λ vs. option_and_then kind_named (first vs)) h.type ∙ kind_again r.kind

pub has_kind : (group : List ZoneData) (r : Record) → ReadsAsRecord group r → has_no_kind group ≡ false
has_kind group r h = ap is_none (kind_is group r h)

pub has_identifier : (group : List ZoneData) (r : Record) → ReadsAsRecord group r → is_identifier r.rid ≡ true → has_no_identifier group ≡ false
has_identifier group r h form = ap (λ vs. not (just_one is_identifier vs)) h.rid ∙ rw form refl

some_pointer : (text : List ℕ) (name : Name) → class_of text ≡ Some name → is_some (pointer text) ≡ true
some_pointer text name e = go (pointer text) e
  where
    go : (p : Option PointerText) → option_map (λ q. (let n : Name = record { rty = q.rty; rid = q.rid } in n)) p ≡ Some name → is_some p ≡ true
    go (Some p) e = refl
    go None e = absurd cc

one_pointer : (vs : List (List ℕ)) (name : Name) → map class_of vs ≡ Some name ∷ [] → just_one (λ text. is_some (pointer text)) vs ≡ true
one_pointer [] name e = absurd cc
one_pointer (v ∷ []) name e = some_pointer v name cc
one_pointer (v ∷ w ∷ vs) name e = absurd cc

pub has_class : (group : List ZoneData) (r : Record) → ReadsAsRecord group r → has_no_class group ≡ false
has_class group r h = rw (one_pointer (values (codes "SCP") group) r.scp h.scp) refl

-- ---- values

by_number : (text : List ℕ) (n : Option ℤ) → number text ≡ n → IsValueOf (true ≡ true) text (unwrap_or (option_map Number n) (Bytes text))
by_number text (Some m) e = (refl, (number_is text m).0 e)
by_number text None e = (refl, λ t m h. let f : ◌≡◌ {A = Option ℤ} None (Some m) = sym e ∙ (number_is text m).1 h in cc)

-- the value that reading gives is the one that the relation asks for
pub value_said : (may : Bool) (text : List ℕ) → IsValueOf (may ≡ true) text (value_of may text)
value_said true text = by_number text (number text) refl
value_said false text = (refl, λ t. let f : false ≡ true = t in absurd (cc))
