use Rattle.std.proofs.Common.{◌≡◌, ◌∙◌, ◌++◌, ◌-◌, ◌<◌, ◌≤◌, List, ℕ, length, length-append, sym, ap, ap₂, subst, arith, take-append-drop}
use Rattle.edi_explain.specs.Lengths.{character_count}
use Rattle.edi_explain.proofs.Miscounted.{has_characters, spaces_behind}
use Rattle.edi_explain.proofs.lengths.has_characters.Goals as goal

pub returns : goal.returns
returns c =
    let bytes = c.args.bytes.now in
    let stated = c.args.stated in
    let front = c.split_at.result.0.now in
    let behind = c.split_at.result.1.now in
    let enough : stated ≤ character_count bytes = subst (λ n. stated ≤ n) c.characters-count.ensures c.if-count-stated.false in
    let more : character_count bytes < length bytes = subst (λ n. n < length bytes) c.characters-count.ensures c.if-count-bytes.false in
    let whole : bytes ≡ front ++ behind = sym (ap₂ (λ (xs ys : List ℕ). xs ++ ys) c.split_at.ensures.front c.split_at.ensures.back ∙ take-append-drop _ bytes) in
    let spaces : length behind ≡ character_count bytes - stated = omega (arith, ap length whole, length-append front behind, c.split_at.ensures.front_len, c.characters-count.ensures, enough, more) in (
      λ t. has_characters bytes stated front behind whole enough more spaces (sym c.are_spaces.ensures ∙ t),
      λ h. c.are_spaces.ensures ∙ spaces_behind bytes stated front behind whole enough more spaces h,
    )
