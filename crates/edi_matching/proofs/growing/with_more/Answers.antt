use Rattle.std.proofs.Common.{◌∙◌, ◌≡◌, ap, arith, length, sym}
use Rattle.edi_matching.proofs.PairsAdded.{grows_kept, grows_same, grows_then}
use Rattle.edi_matching.proofs.growing.with_more.Goals as goal

pub returns : goal.returns
returns c =
    let start = c.args.matching.now.to in
    let n = c.in_ok-to.to.len in
    let same : c.in_ok-to.to.items ≡ start = c.in_ok-to.ensures.items ∙ c.as_slice.ensures in
    let whole : length c.in_ok-to.to.items ≡ n = omega (arith, c.in_ok-to.to.ok.0) in
    let long : length start ≡ n = sym (ap length same) ∙ whole in
    let copy = c.deref_mut.result.now in
    let most = c.add_more.new.to in
    let grew = grows_then start copy most (grows_same start copy (c.deref_mut.ensures.value ∙ same)) c.in_ok-add_more.ensures in
    let all = grows_then start most c.from_vec.result grew (grows_kept n most _ c.from_vec.result c.from_vec.ensures (grew.long ∙ long)) in
    record { long = all.long; turned = c.from_vec-2.ensures ∙ (c.in_ok-from_slice.ensures.items ∙ c.as_slice-turned.ensures); keeps = all.keeps }
