use Rattle.std.proofs.Common.{◌≡◌, ◌∙◌, sym, subst, IsPermutation}
use Rattle.std.proofs.lemmas.List.Sorted.{IsPermutation-refl}
use Rattle.std.proofs.lemmas.Slice.Eq.{slice_eq-Decides}
use Rattle.edi_schema.specs.Sorted.{sort_by}
use Rattle.edi_plan.specs.Orders.{attribute_cmp}
use Rattle.edi_plan.proofs.Orders.{attribute_total, attribute_exact}
use Rattle.edi_compare.proofs.Equal.{attribute_decided, permuted, one_order}
use Rattle.edi_compare.proofs.contents.same_attributes.Goals as goal

pub returns-then-eq : goal.returns-then-eq
returns-then-eq c =
    let xs = c.args.attributes.now in
    let ys = c.args.others.now in
    let same = (slice_eq-Decides attribute_decided ys xs c.eq.result c.eq.ensures).0 c.if-eq.true in
    (λ t. subst (IsPermutation xs) (sym same) (IsPermutation-refl xs), λ permuted. cc)

pub returns : goal.returns
returns c =
    let xs = c.args.attributes.now in
    let ys = c.args.others.now in
    let one : c.from_vec.result ≡ sort_by attribute_cmp xs = c.from_vec.ensures ∙ c.in_ok-first.ensures in
    let two : c.from_vec-2.result ≡ sort_by attribute_cmp ys = c.from_vec-2.ensures ∙ c.in_ok-second.ensures in
    let d = slice_eq-Decides attribute_decided c.from_vec.result c.from_vec-2.result c.eq-4.result c.eq-4.ensures in (
      λ t. permuted attribute_cmp attribute_total attribute_exact xs ys (sym one ∙ (d.0 t ∙ two)),
      λ same. d.1 (one ∙ (one_order attribute_cmp attribute_total attribute_exact xs ys same ∙ sym two)),
    )
