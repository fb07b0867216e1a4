use Rattle.std.proofs.Common.{◌+◌, ◌-◌, eqb, ◌∙◌, sym, ap, ap₂, take, drop, length, ◌++◌, List, ℕ, append-nil}
use Rattle.std.specs.List.{starts_with}
use Rattle.std.proofs.lemmas.Bool.Decides.{Decides-eqb}
use Rattle.std.proofs.lemmas.Slice.Eq.{starts_is}
use Rattle.edi_write.proofs.SharedFronts.{shared}
use Rattle.edi_write.proofs.shared_front.SharedFront.drop_shared.Goals as goal

pub returns-then-self-clause-written : goal.returns-then-self-clause-written
returns-then-self-clause-written c =
    let other = c.args.self.now.other.now in
    let front = c.args.self.now.front in
    let file = c.args.self.now.page.file.items in
    let ahead = take (length other - front) (drop front other) in
    let begins = (starts_is Decides-eqb ahead file c.starts_with-self.result (c.starts_with-self.ensures.value ∙ ap (λ (f : List ℕ). starts_with eqb ahead f) c.deref.ensures.value)).0 c.if-self.true in
    ap₂ (λ (a b : List ℕ). a ++ b) (ap (λ n. take (front + n) other) (c.len.ensures ∙ (sym c.deref.ensures.len ∙ ap length c.deref.ensures.value))) c.clear.ensures.items
    ∙ (append-nil (take (front + length file) other) ∙ shared other file (drop (length file) ahead) front begins)
