-- Lines that are held against others.
use Rattle.std.proofs.Common.{◌≡◌, ℕ, List, [], ◌∷◌, ◌++◌, IsPermutation, ap, ap₂, append_assoc, map, refl, subst}
use Rattle.std.specs.List.{concat}
use Rattle.std.proofs.lemmas.List.Sorted.{IsPermutation-map}
use Rattle.hex.specs.Hex.{encode_lower}
use Rattle.edi_line.specs.Bytes.{line_feed, space}
use Rattle.edi_record.specs.Orders.{bytes_cmp}
use Rattle.edi_schema.proofs.SortedLists.{counts_from_permutation, sort_by-same}
use Rattle.edi_manifest.specs.ManifestText.{digested_text, last_line, manifest_head, manifest_line, manifest_text}
use Rattle.edi_manifest.specs.declared.line.ManifestLine.{ManifestLine}
use Rattle.edi_manifest.proofs.ByteOrder.{bytes_total, bytes_exact}
use Rattle.edi_changes.specs.declared.entry.Entry.{Entry}
use Rattle.edi_deliveries.specs.Checks.{named_entry}

-- the line of a digest
abbrev entry_text : Entry → List ℕ
entry_text e = e.subject ++ (encode_lower e.digest ++ line_feed ∷ [])

line_of_entry : (line : ManifestLine) → entry_text (named_entry line) ≡ manifest_line line
line_of_entry line = append_assoc line.name (space ∷ digested_text line.digested) (encode_lower line.digest ++ line_feed ∷ [])

lines_of_entries : (lines : List ManifestLine) → map entry_text (map named_entry lines) ≡ map manifest_line lines
lines_of_entries [] = refl
lines_of_entries (l ∷ ls) = ap₂ (λ t ts. t ∷ ts) (line_of_entry l) (lines_of_entries ls)

-- lists with the same digests have one text
pub one_text_of_entries : (known lines : List ManifestLine) → IsPermutation (map named_entry known) (map named_entry lines) → manifest_text known ≡ manifest_text lines
one_text_of_entries known lines moved =
    let texts = subst (λ ts. IsPermutation ts (map manifest_line lines)) (lines_of_entries known)
    (subst (λ ts. IsPermutation (map entry_text (map named_entry known)) ts) (lines_of_entries lines) (IsPermutation-map entry_text (map named_entry known) (map named_entry lines) moved)) in
    ap (λ ts. (manifest_head ++ concat ts) ++ last_line (manifest_head ++ concat ts))
    (sort_by-same bytes_cmp bytes_total bytes_exact (map manifest_line known) (map manifest_line lines) (counts_from_permutation (map manifest_line known) (map manifest_line lines) texts))
