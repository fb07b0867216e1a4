use Rattle.std.proofs.Common.{◌≡◌, ◌+◌, ◌++◌, ◌∷◌, [], ◌∙◌, Some, refl, sym, subst, arith}
use Rattle.edi_record.specs.inner.Lists.{IsFinished, IsMadeOfGroups}
use Rattle.edi_record.specs.inner.RecordParts.{whole}
use Rattle.edi_record.specs.declared.list.Coming.TheVariants.{Nothing}
use Rattle.edi_record.proofs.ListRead.{ended_refused, ended_with, ended_without}
use Rattle.edi_record.proofs.list.RecordsUntilFaultGroupOut.end.Goals as goal

pub returns-in-Ok-None : goal.returns-in-Ok-None
returns-in-Ok-None c = λ groups group one held.
    let was = c.args.self.now in
    let now = c.finish-made.new.parts in
    let none : was.coming ≡ _ = subst (λ made. IsFinished was.coming was.parts made now) c.in-Ok-None.field-0-is c.in-Ok-None.ensures.states in
    let end = ended_without groups group one was.coming was.parts now was.list was.fault none held.made held.coming_is in
    record { made = end.0; coming_is = end.1 }

pub returns-in_ok-push-in-Ok-Some : goal.returns-in_ok-push-in-Ok-Some
returns-in_ok-push-in-Ok-Some c = λ groups group one held.
    let was = c.args.self.now in
    let now = c.finish-made.new.parts in
    let is = subst (λ made. IsFinished was.coming was.parts made now) c.in-Ok-Some.field-0-is c.in-Ok-Some.ensures.states in
    let end = ended_with groups group one was.coming was.parts c.push.new.parts was.list c.push.new.self was.fault (whole c.in-Ok-Some.record now)
    (λ none. let e = sym c.in-Ok-Some.is ∙ c.finish-made.ensures.nothing none in let f = c.in-Ok-Some.field-0-is in absurd cc)
    (is group one) c.in_ok-push-in-Ok-Some.ensures.records held.made held.coming_is in
    record { made = end.0; coming_is = end.1 }

pub returns-in-Err : goal.returns-in-Err
returns-in-Err c = λ groups group one held.
    let was = c.args.self.now in
    let place = c.len.result + 1 in
    let some : ¬ (was.coming ≡ Nothing) = (λ none. let e = sym c.in-Err.is ∙ c.finish-made.ensures.nothing none in absurd cc) in
    record {
      made = subst (λ f. IsMadeOfGroups (groups ++ group ∷ []) was.list (Some f)) (sym c.at.ensures)
          (ended_refused groups group one was.coming was.parts c.finish-made.new.parts was.list was.fault c.in-Err.fault place some
          (λ come. c.in-Err.ensures.least group one come) (omega (arith, c.len.ensures.len, c.len.ensures.few)) held.made held.coming_is);
      coming_is = refl;
    }
