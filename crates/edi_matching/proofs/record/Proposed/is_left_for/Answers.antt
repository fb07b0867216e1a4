use Rattle.std.proofs.Common.{◌∙◌, ◌≡◌, ℕ, List, ap, get_or, sym, true≢false}
use Rattle.edi_matching.specs.contracts.entries.ContentKeyOrd.TheImpl.{ghosts as keys}
use Rattle.edi_matching.specs.contracts.entries.ContentKeyPartialEq.TheImpl.{ghosts as keys_eq}
use Rattle.edi_matching.proofs.OneNumber.{one_if_carried}
use Rattle.edi_matching.proofs.record.Proposed.is_left_for.Goals as goal

pub returns-then-number_of : goal.returns-then-number_of
returns-then-number_of c =
    let here : c.number_of.result ≡ get_or c.args.contents.now.here.items c.args.face 0 =
    c.number_of.ensures ∙ ap (λ (xs : List ℕ). get_or xs c.args.face 0) c.deref.ensures.value in
    let there : c.number_of-2.result ≡ get_or c.args.contents.now.there.items c.args.target 0 =
    c.number_of-2.ensures ∙ ap (λ (xs : List ℕ). get_or xs c.args.target 0) c.deref-2.ensures.value in (
      λ wrong. absurd (true≢false (sym wrong)),
      λ left. absurd (c.if-number_of.true
          (here ∙ one_if_carried keys.cmp keys_eq.eq c.args.self.now c.args.contents.now c.requires.contents c.requires.whole c.args.face c.args.target c.requires.face c.requires.target c.requires.kind left.free.carried ∙ sym there)),
    )
