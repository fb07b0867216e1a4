use Rattle.std.proofs.Common.{◌≡◌, ◌∙◌, ◌++◌, List, ℕ, ap, subst}
use Rattle.edi_line.specs.ZoneData.{entries}
use Rattle.edi_line.specs.declared.zone.Zone.{Zone}
use Rattle.edi_schema.specs.declared.role.Role.TheVariants.{Initial, Final, Left, Right}
use Rattle.edi_explain.specs.KindClasses.{codes_of}
use Rattle.edi_explain.specs.KindLines.{IsClassSite, class_line}
use Rattle.edi_explain.proofs.kind_lines.describe_kinds.Goals as goal

four : (a b c d w x y z : List ℕ) → a ≡ w → b ≡ a ++ x → c ≡ b ++ y → d ≡ c ++ z → d ≡ ((w ++ x) ++ y) ++ z
four a b c d w x y z first second third fourth =
    fourth ∙ ap (λ l. l ++ z) (third ∙ ap (λ l. l ++ y) (second ∙ ap (λ l. l ++ x) first))

pub returns : goal.returns
returns c =
    let zones = c.in_ok-zones.zones.items in
    let kinds = codes_of c.args.codes.now in
    let name = c.args.scd.now.name.now in
    let one = c.in_ok-push_kind.ensures in
    let two = c.in_ok-push_kind-2.ensures in
    let three = c.in_ok-push_kind-3.ensures in
    let last = c.in_ok-push_kind-4.ensures in (
      entries zones,
      one.0,
      two.0,
      three.0,
      last.0,
      c.in_ok-zones.ensures,
      subst (λ (zs : List Zone). IsClassSite (entries zs) kinds Initial one.0) c.deref.ensures.value one.1,
      subst (λ (zs : List Zone). IsClassSite (entries zs) kinds Final two.0) c.deref-2.ensures.value two.1,
      subst (λ (zs : List Zone). IsClassSite (entries zs) kinds Left three.0) c.deref-3.ensures.value three.1,
      subst (λ (zs : List Zone). IsClassSite (entries zs) kinds Right last.0) c.deref-4.ensures.value last.1,
      four _ _ _ _ (class_line name Initial one.0) (class_line name Final two.0) (class_line name Left three.0) (class_line name Right last.0)
          (one.2 ∙ ap (λ l. l ++ class_line name Initial one.0) c.new-text.ensures.items) two.2 three.2 last.2,
    )
