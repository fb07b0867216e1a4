use Rattle.std.proofs.Common.{option_map}
use Rattle.edi_line.specs.ZoneData.{entries}
use Rattle.edi_explain.proofs.ZoneFound.{end_of_earlier, end_of_own}
use Rattle.edi_explain.proofs.zone_lines.first_end.Goals as goal

pub returns-in-Some : goal.returns-in-Some
returns-in-Some c = λ zones place found.
    end_of_earlier zones place (option_map (λ g. entries g.now) c.args.records.now.earlier) (option_map (λ e. e.now) c.end_of.result) c.end_of.ensures
    c.args.earlier _ c.in-Some.is found.earlier_one

pub returns-in-None : goal.returns-in-None
returns-in-None c = λ zones place found.
    end_of_own zones place (option_map (λ g. entries g.now) c.args.records.now.here) (option_map (λ e. e.now) c.end_of-in-None.result) c.end_of-in-None.ensures
    c.args.earlier c.in-None.is found.here
