use Rattle.edi_pairing.proofs.LineLemmas.{no_front, no_cut, no_position, no_end, line_read}
use Rattle.edi_pairing.proofs.lines.read_line.Goals as goal

pub returns-in_default : goal.returns-in_default
returns-in_default c = no_front c.args.places.now c.args.name.now c.args.text.now c.in_default.ensures

pub returns-in_default-cut_at_mark : goal.returns-in_default-cut_at_mark
returns-in_default-cut_at_mark c = no_cut c.args.places.now c.args.name.now c.args.text.now c.in-Some.rest.now c.in-Some.ensures c.in_default-cut_at_mark.ensures

pub returns-in_default-find : goal.returns-in_default-find
returns-in_default-find c =
    no_position c.args.places.now c.args.name.now c.in_default-find.ensures.names c.args.text.now c.in-Some.rest.now c.in-Some-cut_at_mark.other.now c.in-Some-cut_at_mark.end.now c.in-Some.ensures c.in-Some-cut_at_mark.ensures c.in_default-find.ensures.place

pub returns-in-None : goal.returns-in-None
returns-in-None c =
    no_end c.args.places.now c.args.name.now c.in-Some-find.ensures.names c.args.text.now c.in-Some.rest.now c.in-Some-cut_at_mark.other.now c.in-Some-cut_at_mark.end.now c.in-Some.ensures c.in-Some-cut_at_mark.ensures c.in-None.ensures

pub returns-in-Some-behind_end : goal.returns-in-Some-behind_end
returns-in-Some-behind_end c =
    line_read c.args.places.now c.args.name.now c.args.text.now c.in-Some.rest.now c.in-Some-cut_at_mark.other.now c.in-Some-cut_at_mark.end.now c.in-Some-behind_end.behind.now c.in-Some-find.to c.in-Some-behind_end.turned
    c.in-Some.ensures c.in-Some-cut_at_mark.ensures c.in-Some-find.ensures.place.0 c.in-Some-find.ensures.place.1 c.in-Some-behind_end.ensures
