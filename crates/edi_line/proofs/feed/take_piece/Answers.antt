use Rattle.std.proofs.Common.{◌≡◌, [], ◌∷◌, ◌++◌, sym, ap, ◌∙◌, subst}
use Rattle.std.proofs.lemmas.List.{append_assoc}
use Rattle.std.proofs.lemmas.Result.{err_from_is_err_and}
use Rattle.edi_line.specs.inner.Held.{BreaksAtNext}
use Rattle.edi_line.specs.inner.Feeding.{TakesFront, RefusesIn}
use Rattle.edi_line.specs.Lines.{content_of}
use Rattle.edi_line.specs.inner.Spelling.{reading_of}
use Rattle.edi_line.proofs.Rules.{stands_more}
use Rattle.edi_line.proofs.Ends.{pending_ended}
use Rattle.edi_line.proofs.Feeds.{if_broken, front_more, refuses_first, refuses_more}
use Rattle.edi_line.proofs.feed.take_piece.Goals as goal

pub returns-in_err-take_first-clause-broken : goal.returns-in_err-take_first-clause-broken
returns-in_err-take_first-clause-broken c =
    let p = err_from_is_err_and c.from_residual-in_err-take_first.result c.from_residual-in_err-take_first.ensures.1 in
    let old = c.args.reader.now in
    let pending = c.args.pending.now.items in
    let line = c.in-Some.line.now in
    let after = c.in-Some.after.now in
    let whole : (pending ++ line) ++ after ≡ pending ++ c.args.piece.now = append_assoc pending line after ∙ ap (λ b. pending ++ b) (sym c.in-Some.ensures.joined) in
    rw (p.1, p.2) (if_broken (BreaksAtNext old (reading_of (content_of (pending ++ line)))) (RefusesIn old (pending ++ c.args.piece.now))
    (λ rule place h. subst (λ b. RefusesIn old b rule place) whole (refuses_first old (pending ++ line) after rule place (pending_ended pending line c.requires.no_feed c.in-Some.ensures.ended) h))
    c.in_err-take_first.field-0.0 c.in_err-take_first.ensures.broken)

pub take_ended-requires-clause-holds : goal.take_ended-requires-clause-holds
take_ended-requires-clause-holds c =
    let held = c.requires.holds in
    let line = reading_of (content_of (c.args.pending.now.items ++ c.in-Some.line.now)) in
    (held.0 ++ line ∷ [], stands_more held.0 line c.args.reader.now c.take_first.new.reader held.1 c.in_ok-take_first.ensures.ok)

pub returns-in_err-rest-clause-broken : goal.returns-in_err-rest-clause-broken
returns-in_err-rest-clause-broken c =
    let p = err_from_is_err_and c.from_residual-in_err-rest.result c.from_residual-in_err-rest.ensures.1 in
    let old = c.args.reader.now in
    let mid = c.take_first.new.reader in
    let pending = c.args.pending.now.items in
    let line = c.in-Some.line.now in
    let after = c.in-Some.after.now in
    let whole : (pending ++ line) ++ after ≡ pending ++ c.args.piece.now = append_assoc pending line after ∙ ap (λ b. pending ++ b) (sym c.in-Some.ensures.joined) in
    rw (p.1, p.2) (if_broken (RefusesIn mid after) (RefusesIn old (pending ++ c.args.piece.now))
    (λ rule place h. subst (λ b. RefusesIn old b rule place) whole (refuses_more old mid (pending ++ line) after rule place (pending_ended pending line c.requires.no_feed c.in-Some.ensures.ended) c.in_ok-take_first.ensures.ok h))
    c.in_err-rest.field-0.0 c.in_err-rest.ensures.broken)

pub returns-clause-ok : goal.returns-clause-ok
returns-clause-ok c =
    let old = c.args.reader.now in
    let mid = c.take_first.new.reader in
    let new = c.take_ended.new.reader in
    let pending = c.args.pending.now.items in
    let line = c.in-Some.line.now in
    let after = c.in-Some.after.now in
    let rest = c.in_ok-rest.rest.now in
    let whole : (pending ++ line) ++ after ≡ pending ++ c.args.piece.now = append_assoc pending line after ∙ ap (λ b. pending ++ b) (sym c.in-Some.ensures.joined) in
    let left : c.extend_from_slice-2.new.self.items ≡ rest = c.in_ok-extend_from_slice-2.ensures.items ∙ ap (λ p. p ++ rest) c.in_ok-take_first.ensures.empty in
    subst (λ b. TakesFront old b c.extend_from_slice-2.new.self.items new) whole (subst (λ r. TakesFront old ((pending ++ line) ++ after) r new) (sym left)
    (front_more old mid new (pending ++ line) after rest (pending_ended pending line c.requires.no_feed c.in-Some.ensures.ended) c.in_ok-take_first.ensures.ok c.in_ok-rest.ensures.ok))
