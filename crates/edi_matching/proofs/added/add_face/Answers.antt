use Rattle.std.proofs.Common.{◌∙◌, ◌≡◌, ℕ, List, ap, get_or, inr, refl, sym}
use Rattle.edi_record.specs.declared.record.Kind.TheVariants.{Pfe}
use Rattle.edi_matching.specs.contracts.entries.ContentKeyOrd.TheImpl.{ghosts as keys}
use Rattle.edi_matching.specs.contracts.entries.ContentKeyPartialEq.TheImpl.{ghosts as keys_eq}
use Rattle.edi_matching.proofs.OneNumber.{one_if_alike}
use Rattle.edi_matching.proofs.added.add_face.Goals as goal

pub returns-then-number_of : goal.returns-then-number_of
returns-then-number_of c =
    let here : c.number_of.result ≡ get_or c.args.contents.now.here.items c.args.place 0 =
    c.number_of.ensures ∙ ap (λ (xs : List ℕ). get_or xs c.args.place 0) c.deref.ensures.value in
    let there : c.number_of-2.result ≡ get_or c.args.contents.now.there.items c.args.target 0 =
    c.number_of-2.ensures ∙ ap (λ (xs : List ℕ). get_or xs c.args.target 0) c.deref-2.ensures.value in
    inr (
      λ both. c.if-number_of.true (here ∙ one_if_alike keys.cmp keys_eq.eq Pfe c.args.plan.now c.args.other.now c.args.contents.now c.requires c.args.place c.args.target both.0 ∙ sym there),
      record { places = refl; marked = refl },
    )
