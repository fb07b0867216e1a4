use Rattle.std.proofs.Common.{◌≡◌, ◌∙◌, ◌<◌, ap, arith, length, option_map, sym, true, Some, Vec, Global, ℕ}
use Rattle.std.proofs.lemmas.Grind.{common_steps}
use Rattle.edi_plan.specs.Plans.{record_at}
use Rattle.edi_record.specs.Records.{is_link}
use Rattle.edi_diff.specs.inner.Progress.{progress_of}
use Rattle.edi_diff.proofs.EndsKeyed.{ends_key_is}
use Rattle.edi_diff.proofs.proposing.Open.ends_key.Goals as goal

pub returns-in-Some : goal.returns-in-Some
returns-in-Some c =
    let p = c.side-plan.result.now in
    let place = c.place_of-place.result in
    let here : place < length p.list = omega (arith, c.if-place-len.false, c.len.ensures) in
    let link : is_link (record_at p place).kind ≡ true = grind (arith, common_steps) in
    ends_key_is (progress_of c.args.self.now) c.args.code p c.side-plan.ensures place c.place_of-place.ensures here link c.is_second.result c.is_second-in-Some.result c.is_second.ensures c.is_second-in-Some.ensures
    c.ends.result.now c.ends.ensures c.class-class.result c.from_vec.result c.class-class.ensures
    (ap Some c.from_vec.ensures ∙ (ap (option_map (λ (v : Vec ℕ Global). v.items)) (sym c.in-Some.is) ∙ c.in_ok-names.ensures))
