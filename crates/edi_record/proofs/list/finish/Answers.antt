use Rattle.std.proofs.Common.{List, subst}
use Rattle.edi_line.specs.Groups.{IsOneRecord}
use Rattle.edi_line.specs.ZoneData.{ZoneData}
use Rattle.edi_record.specs.inner.Lists.{IsComingOf}
use Rattle.edi_record.specs.inner.RecordRefusal.{IsGroupRefusal}
use Rattle.edi_record.proofs.ListRead.{stores_all, type_once}
use Rattle.edi_record.proofs.RecordMade.{err_kept}
use Rattle.edi_record.proofs.list.finish.Goals as goal

pub returns-in_err-finish-in-Stored-clause-least : goal.returns-in_err-finish-in-Stored-clause-least
returns-in_err-finish-in-Stored-clause-least c =
    let coming = c.args.coming.now in
    let parts = c.args.parts.now in
    err_kept _ c.in_err-finish-in-Stored.field-0.0 (λ fault. (group : List ZoneData) → IsOneRecord group → IsComingOf coming parts group → IsGroupRefusal group fault) c.from_residual.ensures.1
    (λ group one come.
    (let stored = subst (λ k. IsComingOf k parts group) c.in-Stored.is come in
    c.in_err-finish-in-Stored.ensures.least group stored.kind (stores_all c.in-Stored.draft parts group stored)))

pub returns-in_ok-finish-in-Stored-clause-states : goal.returns-in_ok-finish-in-Stored-clause-states
returns-in_ok-finish-in-Stored-clause-states c = λ group one come.
    let parts = c.args.parts.now in
    let stored = subst (λ k. IsComingOf k parts group) c.in-Stored.is come in
    let all = stores_all c.in-Stored.draft parts group stored in
    record {
      states = c.in_ok-finish-in-Stored.ensures.states group (type_once group one) stored.kind all;
      sound = c.in_ok-finish-in-Stored.ensures.sound group stored.kind all;
      shape = c.in_ok-finish-in-Stored.ensures.shape;
    }
