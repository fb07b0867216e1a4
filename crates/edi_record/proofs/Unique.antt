-- A group of zones states one record at most.
use Rattle.std.proofs.Common.{◌≡◌, cond, List, [], ◌∷◌, map, Some, codes, refl, sym, ap, ◌∙◌}
use Rattle.edi_line.specs.ZoneData.{ZoneData}
use Rattle.edi_record.specs.inner.Texts.{point_in}
use Rattle.edi_record.specs.Shapes.{kind_code}
use Rattle.edi_record.specs.Records.{values, has_points, is_link}
use Rattle.edi_record.specs.inner.Records.{ends, extras, ReadsAsRecord}
use Rattle.edi_record.specs.declared.record.Record.{Record}
use Rattle.edi_record.proofs.KindCodes.{kind_from_code}

some_lists : {X : Type 0} (xs ys : List X) → map Some xs ≡ map Some ys → xs ≡ ys
some_lists [] [] e = refl
some_lists [] (y ∷ ys) e = absurd cc
some_lists (x ∷ xs) [] e = absurd cc
some_lists (x ∷ xs) (y ∷ ys) e = let head : x ≡ y = cc in let rest = some_lists xs ys cc in cc

pub states_one : (group : List ZoneData) (r q : Record) → ReadsAsRecord group r → ReadsAsRecord group q → r ≡ q
states_one group r q h k =
    let code : kind_code r.kind ≡ kind_code q.kind = cc (h.type, k.type) in
    let kind : r.kind ≡ q.kind = kind_from_code r.kind q.kind code in
    let rid : r.rid ≡ q.rid = cc (h.rid, k.rid) in
    let scp : r.scp ≡ q.scp = cc (h.scp, k.scp) in
    let points : r.points ≡ q.points = some_lists r.points q.points (sym h.points ∙ ap (λ t. cond (has_points t) (map point_in (values (codes "COR") group)) []) kind ∙ k.points) in
    let linked : r.ends ≡ q.ends = some_lists r.ends q.ends (sym h.ends ∙ ap (λ t. cond (is_link t) (ends group) []) kind ∙ k.ends) in
    let attrs : r.attributes ≡ q.attributes = some_lists r.attributes q.attributes (sym h.attributes ∙ k.attributes) in
    let es : r.extras ≡ q.extras = sym h.extras ∙ ap (λ t. extras t group) kind ∙ k.extras in
    λ i. record { kind = kind i; rid = rid i; scp = scp i; points = points i; ends = linked i; attributes = attrs i; extras = es i }
