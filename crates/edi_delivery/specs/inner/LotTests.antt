-- The rules of a lot by itself as tests: what reading finds.
use Rattle.std.specs.Prelude.{ℕ, Bool, true, not, ◌||◌, nat_le, List, [], ◌∷◌, ◌++◌, length, is_none, codes}
use Rattle.std.specs.List.{list_any}
use Rattle.edi_line.specs.ZoneData.{ZoneData, first}
use Rattle.edi_line.specs.Refusal.{Test, test}
use Rattle.edi_record.specs.Records.{values}
use Rattle.edi_record.specs.RecordRules.{just_one}
use Rattle.edi_record.specs.inner.RecordRules.{counts_right}
use Rattle.edi_delivery.specs.NameParts.{is_name_part}
use Rattle.edi_delivery.specs.DeliveryRules.{file_codes}

abbrev pub lacks_one : List (List ℕ) → Bool
lacks_one texts = not (just_one (λ text. true) texts)

abbrev pub is_unsafe : List ℕ → Bool
is_unsafe text = not (is_name_part text)

abbrev pub has_several : List (List ℕ) → Bool
has_several texts = nat_le 2 (length texts)

-- no VEC file, or a count that isn't theirs
abbrev pub miscounts : List (List ℕ) → List (List ℕ) → Bool
miscounts counts vecs = is_none (first vecs) || not (counts_right counts (length vecs))

abbrev pub miscounts_vecs : List ZoneData → Bool
miscounts_vecs group = miscounts (values (codes "GDC") group) (values (codes "GDN") group)

-- two files of a sort of which a lot has one at most
abbrev pub has_two_of_one : List ZoneData → Bool
has_two_of_one group =
    has_several (values (codes "GNN") group)
    || (has_several (values (codes "GON") group) || has_several (values (codes "QAN") group))

-- the rules 704 to 707
abbrev pub draft_tests : List ZoneData → List Test
draft_tests group =
    test 704 (lacks_one (values (codes "SCN") group))
    ∷ test 705 (lacks_one (values (codes "DIN") group))
    ∷ test 706 (miscounts_vecs group)
    ∷ test 707 (has_two_of_one group)
    ∷ []

-- a file's own name that isn't a name
abbrev pub has_unsafe_file : List ZoneData → Bool
has_unsafe_file group = list_any (λ code. list_any is_unsafe (values code group)) file_codes

-- the rules 702 to 708
abbrev pub lot_tests : List ZoneData → List Test
lot_tests group =
    test 702 (lacks_one (values (codes "LON") group))
    ∷ test 703 (list_any is_unsafe (values (codes "LON") group))
    ∷ (draft_tests group ++ test 708 (has_unsafe_file group) ∷ [])
