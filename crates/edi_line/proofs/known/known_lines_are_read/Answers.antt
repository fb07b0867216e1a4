use Rattle.std.proofs.Common.{codes, None, Err, [], ◌∷◌, refl, inl, lit≤}
use Rattle.edi_line.specs.inner.Spelling.{reading_of, has_head}
use Rattle.edi_line.specs.Zones.{IsGroup, IsFileOf}
use Rattle.edi_line.specs.Printing.{zone_text}
use Rattle.edi_line.proofs.Cut.{lines_exist}
use Rattle.edi_line.proofs.KnownFiles.{refused_as, unbroken_as, zones_as}
use Rattle.edi_line.proofs.ZonesSaid.{zones_read}
use Rattle.edi_line.proofs.known.known_lines_are_read.Goals as goal

pub returns-clause-lines : goal.returns-clause-lines
returns-clause-lines c = lines_exist _

pub returns-clause-contents : goal.returns-clause-contents
returns-clause-contents c = refl

pub returns-clause-joined : goal.returns-clause-joined
unfolding reading_of has_head
returns-clause-joined c = zones_as _ _ refl refl

pub returns-clause-remark : goal.returns-clause-remark
unfolding reading_of has_head
returns-clause-remark c = zones_as _ _ refl refl

pub returns-clause-faulty : goal.returns-clause-faulty
unfolding reading_of has_head
returns-clause-faulty c =
    λ zones is. (zones_read _ zones is).readable 101 1 (lit≤ tt)
    (record { before = []; line = Err 101; after = []; cut = refl; place_is = refl; breaks = inl refl })

pub returns-clause-hand_made : goal.returns-clause-hand_made
returns-clause-hand_made c =
    let begin = zone_text (codes "BOM") 84 32 [] in
    let lead = zone_text (codes "RTY") 83 65 (codes "PNO") in
    let extra = zone_text (codes "NEX") 84 32 (codes "q") in
    let end = zone_text (codes "EOM") 84 32 [] in
    let group : IsGroup (lead ∷ extra ∷ []) = record { first = lead; rest = extra ∷ []; joined = refl; leads = refl; others = (refl, tt) } in
    let file : IsFileOf (begin ∷ lead ∷ extra ∷ end ∷ []) None ((lead ∷ extra ∷ []) ∷ []) = record { head = begin; tail = end; joined = refl; head_is = refl; charset_is = tt; groups_are = (group, tt); tail_is = refl } in
    (None, (lead ∷ extra ∷ []) ∷ [], file)

pub returns-clause-sound : goal.returns-clause-sound
unfolding reading_of has_head
returns-clause-sound c = unbroken_as (codes "BOMT 01:X\nCSET 03:IRV\nRTYSA03:PNO\nRIDSA01:a\nEOMT 00:\n") refl

pub returns-clause-no_head : goal.returns-clause-no_head
unfolding reading_of has_head
returns-clause-no_head c = refused_as (codes "BOMT 01:X\nx\nEOMT 00:\n") 101 2 refl

pub returns-clause-cut_short : goal.returns-clause-cut_short
unfolding reading_of has_head
returns-clause-cut_short c = refused_as (codes "BOMT 01:X\nRTYSA04:PNO\nEOMT 00:\n") 102 2 refl

pub returns-clause-more : goal.returns-clause-more
unfolding reading_of has_head
returns-clause-more c = refused_as (codes "BOMT 01:X\nRTYSA02:PNO\nEOMT 00:\n") 103 2 refl

pub returns-clause-stray_next : goal.returns-clause-stray_next
unfolding reading_of has_head
returns-clause-stray_next c = refused_as (codes "NEXT 00:\nBOMT 00:\n") 104 1 refl

pub returns-clause-no_begin : goal.returns-clause-no_begin
unfolding reading_of has_head
returns-clause-no_begin c = refused_as (codes "EOMT 00:\n") 105 1 refl

pub returns-clause-nothing : goal.returns-clause-nothing
unfolding reading_of has_head
returns-clause-nothing c = refused_as [] 106 1 refl

pub returns-clause-no_end : goal.returns-clause-no_end
unfolding reading_of has_head
returns-clause-no_end c = refused_as (codes "BOMT 01:X\nRTYSA03:PNO\n") 106 3 refl

pub returns-clause-behind_end : goal.returns-clause-behind_end
unfolding reading_of has_head
returns-clause-behind_end c = refused_as (codes "BOMT 01:X\nEOMT 00:\nBOMT 00:\n") 107 3 refl

pub returns-clause-two_begins : goal.returns-clause-two_begins
unfolding reading_of has_head
returns-clause-two_begins c = refused_as (codes "BOMT 01:X\nBOMT 00:\nx\n") 108 2 refl

pub returns-clause-late_charset : goal.returns-clause-late_charset
unfolding reading_of has_head
returns-clause-late_charset c = refused_as (codes "BOMT 01:X\nRTYSA03:PNO\nCSET 03:IRV\n") 108 3 refl

pub returns-clause-no_record : goal.returns-clause-no_record
unfolding reading_of has_head
returns-clause-no_record c = refused_as (codes "BOMT 01:X\nTYPSN01:1\nEOMT 00:\n") 109 2 refl
