-- Where the name of a class of a kind can be printed, so can that of its partner.
use Rattle.std.proofs.Common.{◌≡◌, ℕ, Some, slice_get, refl, sym, subst}
use Rattle.std.proofs.lemmas.List.Folds.{list_any_none}
use Rattle.std.proofs.lemmas.Option.{slice_get-map}
use Rattle.edi_record.specs.Texts.{is_semicolon}
use Rattle.edi_record.specs.declared.name.Name.{Name}
use Rattle.edi_schema.specs.Classes.{Classes, IsSchema, IsReadName, partner_of}
use Rattle.edi_schema.specs.declared.class.Class.{Class}
use Rattle.edi_schema.proofs.Ordered.{all_at}
use Rattle.edi_schema.proofs.Paired.{there}
use Rattle.edi_schema.proofs.Pointable.{partner_named}
use Rattle.edi_schema.proofs.ReadNames.{whole_text}
use Rattle.edi_write.specs.Layout.{class_name_of}
use Rattle.edi_write.specs.Written.{HasPrintableKinds, IsPrintableName}

name_there : (s : Classes) (c : ℕ) (e : Name × Class) → slice_get s c ≡ Some e → class_name_of s c ≡ e.0
name_there s c e h = rw (slice_get-map (λ (x : Name × Class). x.0) s c, h) refl

pub kinds_printable : (s : Classes) → IsSchema s → HasPrintableKinds s
kinds_printable s keeps c kind prints =
    let here = there s c kind in
    let name : class_name_of s c ≡ here.0.0 = name_there s c here.0 here.1 in
    let free = list_any_none is_semicolon here.0.0.rty (subst IsPrintableName name prints).0.rty in
    let found = partner_named s keeps c here.0 kind here.1 free in
    let read : IsReadName found.0.0 = all_at (λ (x : Name × Class). IsReadName x.0) s keeps.readable (partner_of s c) found.0 found.1 in
    subst IsPrintableName (sym (name_there s (partner_of s c) found.0 found.1))
    (record { rty = whole_text found.0.0.rty found.2; rid = read.2 }, record { rty = read.0; rid = read.1 })
