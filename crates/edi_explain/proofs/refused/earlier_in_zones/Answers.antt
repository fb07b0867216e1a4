use Rattle.std.proofs.Common.{◌≡◌, List, arith, ⊎_elim, subst}
use Rattle.std.specs.List.{AllZip}
use Rattle.edi_line.specs.ZoneData.{ZoneData, entries}
use Rattle.edi_line.specs.Zones.{groups_of}
use Rattle.edi_line.proofs.ZonesSaid.{zones_of_one}
use Rattle.edi_record.specs.Records.{States}
use Rattle.edi_plan.proofs.Leasts.{least_as}
use Rattle.edi_explain.proofs.RowRecords.{end_links, link_ends, names_shared, rows_shared}
use Rattle.edi_explain.proofs.refused.earlier_in_zones.Goals as goal

pub returns-then-rule-eq301 : goal.returns-then-rule-eq301
returns-then-rule-eq301 c = λ s b sheet read states.
    let is : c.args.rule ≡ 301 = c.if-rule-eq301.true in
    let place = c.args.place in
    let zones = entries c.args.zones.now in
    let all = subst (λ (zs : List ZoneData). AllZip States (groups_of zs) sheet.list) (zones_of_one b states.0 zones states.1 read) states.2.records in
    record {
      names = λ e. (sheet, states, least_as _ _ (names_shared (groups_of zones) sheet.list all place) (rows_shared (groups_of zones) sheet.list all place) c.row_namesake.result c.row_namesake.ensures);
      subsets = λ e. absurd (omega (arith, e, is));
      sides = λ e. absurd (omega (arith, e, is));
      nodes = λ e. absurd (omega (arith, e, is));
      arcs = λ e. absurd (omega (arith, e, is));
      objects = λ e. absurd (omega (arith, e, is));
      others = λ a d f g h i. absurd (a is);
    }

pub returns-else-rule-eq301 : goal.returns-else-rule-eq301
returns-else-rule-eq301 c = λ s b sheet read states.
    let is : c.args.rule ≡ 304 = ⊎_elim (λ e. absurd (c.if-rule-eq301.false e)) (λ e. e) c.requires in
    let place = c.args.place in
    let zones = entries c.args.zones.now in
    let all = subst (λ (zs : List ZoneData). AllZip States (groups_of zs) sheet.list) (zones_of_one b states.0 zones states.1 read) states.2.records in
    record {
      names = λ e. absurd (omega (arith, e, is));
      subsets = λ e. (sheet, states, least_as _ _ (link_ends (groups_of zones) sheet.list all place) (end_links (groups_of zones) sheet.list all place) c.first_link.result c.first_link.ensures);
      sides = λ e. absurd (omega (arith, e, is));
      nodes = λ e. absurd (omega (arith, e, is));
      arcs = λ e. absurd (omega (arith, e, is));
      objects = λ e. absurd (omega (arith, e, is));
      others = λ a d f g h i. absurd (d is);
    }
