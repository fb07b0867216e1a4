use Rattle.std.proofs.Common.{ℕ, List, [], ◌∷◌, ◌++◌, None, codes, refl}
use Rattle.edi_line.specs.inner.Spelling.{reading_of, has_head}
use Rattle.edi_record.specs.inner.Texts.{count}
use Rattle.edi_delivery.specs.Known.{thf, lot_lines, known_lot}
use Rattle.edi_delivery.specs.declared.lot.Lot.{Lot}
use Rattle.edi_delivery.proofs.KnownDeliveries.{record_of, known_delivery, known_unknown, known_own, known_twice, known_again, known_none}
use Rattle.edi_delivery.proofs.known.known_deliveries_are_read.Goals as goal

-- a lot with one VEC file, and no others but those that it must have
abbrev small : List ℕ → List ℕ → List ℕ → List ℕ → Lot
small name scd dic vec = record { name = name; scd = scd; dic = dic; general = None; geo = None; quality = None; vecs = vec ∷ [] }

pub returns-clause-delivery : goal.returns-clause-delivery
unfolding reading_of has_head count
returns-clause-delivery c =
    let bytes = thf (lot_lines (codes "GONSA01:S\nGDCSN02:02\nGDNSA02:T2\nGDNSA02:T1\n")) in
    known_delivery bytes refl (record_of bytes 0) refl (record_of bytes 1) known_lot refl (record { name = refl; scd = refl; dic = refl; general = refl; geo = refl; quality = refl; vecs = refl }) refl refl refl

pub returns-clause-files : goal.returns-clause-files
unfolding reading_of has_head count
returns-clause-files c =
    refl

pub returns-clause-unknown : goal.returns-clause-unknown
unfolding reading_of has_head count
returns-clause-unknown c =
    let bytes = thf (codes "RTYSA03:GTX\n" ++ lot_lines (codes "GDNSA01:T\n")) in
    known_unknown bytes refl (record_of bytes 0) refl (record_of bytes 1) (record_of bytes 2 ∷ []) refl refl refl

pub returns-clause-no_name : goal.returns-clause-no_name
unfolding reading_of has_head count
returns-clause-no_name c =
    let bytes = thf (codes "RTYSA03:GTL\nSCNSA01:S\nDINSA01:D\nGDNSA01:T\n") in
    known_own bytes refl (record_of bytes 0) refl (record_of bytes 1) 702 refl refl refl

pub returns-clause-two_names : goal.returns-clause-two_names
unfolding reading_of has_head count
returns-clause-two_names c =
    let bytes = thf (lot_lines (codes "LONSA01:A\nGDNSA01:T\n")) in
    known_own bytes refl (record_of bytes 0) refl (record_of bytes 1) 702 refl refl refl

pub returns-clause-name_above : goal.returns-clause-name_above
unfolding reading_of has_head count
returns-clause-name_above c =
    let bytes = thf (codes "RTYSA03:GTL\nLONSA03:../\nSCNSA01:S\nDINSA01:D\nGDNSA01:T\n") in
    known_own bytes refl (record_of bytes 0) refl (record_of bytes 1) 703 refl refl refl

pub returns-clause-no_classes : goal.returns-clause-no_classes
unfolding reading_of has_head count
returns-clause-no_classes c =
    let bytes = thf (codes "RTYSA03:GTL\nLONSA01:A\nDINSA01:D\nGDNSA01:T\n") in
    known_own bytes refl (record_of bytes 0) refl (record_of bytes 1) 704 refl refl refl

pub returns-clause-no_dictionary : goal.returns-clause-no_dictionary
unfolding reading_of has_head count
returns-clause-no_dictionary c =
    let bytes = thf (codes "RTYSA03:GTL\nLONSA01:A\nSCNSA01:S\nGDNSA01:T\n") in
    known_own bytes refl (record_of bytes 0) refl (record_of bytes 1) 705 refl refl refl

pub returns-clause-no_sheet : goal.returns-clause-no_sheet
unfolding reading_of has_head count
returns-clause-no_sheet c =
    let bytes = thf (lot_lines []) in
    known_own bytes refl (record_of bytes 0) refl (record_of bytes 1) 706 refl refl refl

pub returns-clause-wrong_count : goal.returns-clause-wrong_count
unfolding reading_of has_head count
returns-clause-wrong_count c =
    let bytes = thf (lot_lines (codes "GDCSN01:2\nGDNSA01:T\n")) in
    known_own bytes refl (record_of bytes 0) refl (record_of bytes 1) 706 refl refl refl

pub returns-clause-two_systems : goal.returns-clause-two_systems
unfolding reading_of has_head count
returns-clause-two_systems c =
    let bytes = thf (lot_lines (codes "GONSA01:S\nGONSA01:T\nGDNSA01:T\n")) in
    known_own bytes refl (record_of bytes 0) refl (record_of bytes 1) 707 refl refl refl

pub returns-clause-file_with_point : goal.returns-clause-file_with_point
unfolding reading_of has_head count
returns-clause-file_with_point c =
    let bytes = thf (lot_lines (codes "GDNSA03:T.1\n")) in
    known_own bytes refl (record_of bytes 0) refl (record_of bytes 1) 708 refl refl refl

pub returns-clause-file_with_nothing : goal.returns-clause-file_with_nothing
unfolding reading_of has_head count
returns-clause-file_with_nothing c =
    let bytes = thf (lot_lines (codes "GDNSA00:\n")) in
    known_own bytes refl (record_of bytes 0) refl (record_of bytes 1) 708 refl refl refl

pub returns-clause-lot_again : goal.returns-clause-lot_again
unfolding reading_of has_head count
returns-clause-lot_again c =
    let bytes = thf (lot_lines (codes "GDNSA01:T\n") ++ codes "RTYSA03:GTL\nLONSA01:a\nSCNSA01:X\nDINSA01:X\nGDNSA01:X\n") in
    known_again bytes refl (record_of bytes 0) refl (record_of bytes 1) (small (codes "A") (codes "S") (codes "D") (codes "T")) refl (record { name = refl; scd = refl; dic = refl; general = refl; geo = refl; quality = refl; vecs = refl }) refl refl
    (record_of bytes 2) (small (codes "a") (codes "X") (codes "X") (codes "X")) 709 refl refl (record { name = refl; scd = refl; dic = refl; general = refl; geo = refl; quality = refl; vecs = refl }) refl refl

pub returns-clause-file_twice : goal.returns-clause-file_twice
unfolding reading_of has_head count
returns-clause-file_twice c =
    let bytes = thf (lot_lines (codes "GDNSA01:T\nGDNSA01:t\n")) in
    known_twice bytes refl (record_of bytes 0) refl (record_of bytes 1) (record { name = codes "A"; scd = codes "S"; dic = codes "D"; general = None; geo = None; quality = None; vecs = codes "T" ∷ codes "t" ∷ [] }) refl refl (record { name = refl; scd = refl; dic = refl; general = refl; geo = refl; quality = refl; vecs = refl }) refl refl

pub returns-clause-file_of_earlier : goal.returns-clause-file_of_earlier
unfolding reading_of has_head count
returns-clause-file_of_earlier c =
    let bytes = thf (lot_lines (codes "GDNSA02:BT\n") ++ codes "RTYSA03:GTL\nLONSA02:AB\nSCNSA01:X\nDINSA01:X\nGDNSA01:T\n") in
    known_again bytes refl (record_of bytes 0) refl (record_of bytes 1) (small (codes "A") (codes "S") (codes "D") (codes "BT")) refl (record { name = refl; scd = refl; dic = refl; general = refl; geo = refl; quality = refl; vecs = refl }) refl refl
    (record_of bytes 2) (small (codes "AB") (codes "X") (codes "X") (codes "T")) 710 refl refl (record { name = refl; scd = refl; dic = refl; general = refl; geo = refl; quality = refl; vecs = refl }) refl refl

pub returns-clause-no_lot : goal.returns-clause-no_lot
unfolding reading_of has_head count
returns-clause-no_lot c =
    known_none (thf []) refl (record_of (thf []) 0) refl refl
