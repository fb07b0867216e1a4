use Rattle.std.proofs.Common.{◌∙◌, ap, [], ◌∷◌, ◌++◌}
use Rattle.edi_line.proofs.ZoneLists.{open_left}
use Rattle.edi_line.proofs.zone_list.ZoneList.let_go.Goals as goal

pub returns-in-Some-clause-open_zone : goal.returns-in-Some-clause-open_zone
returns-in-Some-clause-open_zone c =
    open_left c.args.self.now.is_open c.pop.new.self.items c.args.self.now.zones.items c.push_reserved.new.self.items c.in-Some.zone c.if-not-self.false c.in-Some.ensures.items
    (c.push_reserved.ensures.items ∙ ap (λ l. l ++ c.in-Some.zone ∷ []) c.clear-in-Some.ensures.items)
