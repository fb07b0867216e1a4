-- The values of lines: they are shallow, and their numbers are printed.
use Rattle.std.proofs.Common.{◌≡◌, ℕ, ◌≤◌, Bool, true, false, List, [], ◌∷◌, ◌++◌, Option, Some, None, append_assoc, arith, codes, refl}
use Rattle.std.specs.List.{AllByRecursion}
use Rattle.edi_line.proofs.EachElement.{each_of_both}
use Rattle.json.specs.Json.{Items, max_depth}
use Rattle.json.specs.Token.{Token}
use Rattle.json.specs.Tree.{depth, items_depth, items_tokens, json_tokens}
use Rattle.edi_record.specs.declared.record.Kind.{Kind}
use Rattle.edi_report.specs.declared.parts.DifferingParts.{DifferingParts}
use Rattle.edi_report.specs.declared.site.Site.{Site}
use Rattle.edi_json.specs.Values.{charsets_value, counts_value, name_if, part_names, record_value, site_or_null, text_or_null}
use Rattle.edi_json.specs.inner.Tokens.{name_tokens}
use Rattle.edi_json.proofs.PlainTexts.{IsPlainToken, plain_decimal}

-- ---- names of parts

name_said : (said : Bool) (name : List ℕ) (names : Items) → items_tokens (name_if said name names) ≡ name_tokens said name ++ items_tokens names
name_said true name names = refl
name_said false name names = refl

name_shallow : (said : Bool) (name : List ℕ) (names : Items) → items_depth (name_if said name names) ≡ items_depth names
name_shallow true name names = omega arith
name_shallow false name names = refl

pub names_tokens : (parts : DifferingParts) → items_tokens (part_names parts) ≡ name_tokens parts.class (codes "class") ++ name_tokens parts.attributes (codes "attributes")
    ++ name_tokens parts.extras (codes "extras") ++ name_tokens parts.points (codes "points") ++ name_tokens parts.ends (codes "ends") ++ Token.end_array ∷ []
names_tokens parts = simp (name_said, append_assoc) refl

names_shallow : (parts : DifferingParts) → items_depth (part_names parts) ≡ 0
names_shallow parts = simp name_shallow refl

plain_name : (said : Bool) (name : List ℕ) (names : Items) → AllByRecursion IsPlainToken (items_tokens names) → AllByRecursion IsPlainToken (items_tokens (name_if said name names))
plain_name true name names h = (tt, h)
plain_name false name names h = h

plain_names : (parts : DifferingParts) → AllByRecursion IsPlainToken (items_tokens (part_names parts))
plain_names parts =
    plain_name parts.class _ _ (plain_name parts.attributes _ _ (plain_name parts.extras _ _ (plain_name parts.points _ _ (plain_name parts.ends _ _ (tt, tt)))))

-- ---- records

site_plain : (site : Option Site) → AllByRecursion IsPlainToken (json_tokens (site_or_null site))
site_plain None = (tt, tt)
site_plain (Some site) = (tt, (tt, (tt, (tt, (plain_decimal site.line, (tt, tt))))))

site_shallow : (site : Option Site) → depth (site_or_null site) ≤ 2
site_shallow None = omega arith
site_shallow (Some site) = omega arith

pub record_plain : (mark : List ℕ) (kind : Kind) (a b : Option Site) (parts : DifferingParts) → AllByRecursion IsPlainToken (json_tokens (record_value mark kind a b parts))
record_plain mark kind a b parts =
    let behind = each_of_both IsPlainToken (items_tokens (part_names parts)) (Token.end_object ∷ []) (plain_names parts) (tt, tt) in
    let there = each_of_both IsPlainToken (json_tokens (site_or_null b)) _ (site_plain b) (tt, (tt, behind)) in
    let here = each_of_both IsPlainToken (json_tokens (site_or_null a)) _ (site_plain a) (tt, there) in
    (tt, (tt, (plain_decimal 1, (tt, (tt, (tt, (tt, (tt, (tt, (tt, here))))))))))

pub record_shallow : (mark : List ℕ) (kind : Kind) (a b : Option Site) (parts : DifferingParts) → depth (record_value mark kind a b parts) ≤ max_depth
record_shallow mark kind a b parts = omega (arith, site_shallow a, site_shallow b, names_shallow parts)

-- ---- character sets and counts

text_shallow : (bytes : Option (List ℕ)) → depth (text_or_null bytes) ≡ 0
text_shallow None = refl
text_shallow (Some bytes) = refl

text_plain : (bytes : Option (List ℕ)) → AllByRecursion IsPlainToken (json_tokens (text_or_null bytes))
text_plain None = (tt, tt)
text_plain (Some bytes) = (tt, tt)

pub charsets_shallow : (a b : Option (List ℕ)) → depth (charsets_value a b) ≤ max_depth
charsets_shallow a b = omega (arith, text_shallow a, text_shallow b)

pub charsets_plain : (a b : Option (List ℕ)) → AllByRecursion IsPlainToken (json_tokens (charsets_value a b))
charsets_plain a b =
    let there = each_of_both IsPlainToken (json_tokens (text_or_null b)) (Token.end_object ∷ []) (text_plain b) (tt, tt) in
    let here = each_of_both IsPlainToken (json_tokens (text_or_null a)) _ (text_plain a) (tt, there) in
    (tt, (tt, (plain_decimal 1, (tt, (tt, (tt, here))))))

pub counts_shallow : (gone added changed : ℕ) → depth (counts_value gone added changed) ≤ max_depth
counts_shallow gone added changed = omega arith

pub counts_plain : (gone added changed : ℕ) → AllByRecursion IsPlainToken (json_tokens (counts_value gone added changed))
counts_plain gone added changed =
    (tt, (tt, (plain_decimal 1, (tt, (tt, (tt, (plain_decimal gone, (tt, (plain_decimal added, (tt, (plain_decimal changed, (tt, tt))))))))))))
