use Rattle.std.proofs.Common.{◌≤◌, ℕ, List, length, take, IsTrue}
use Rattle.std.specs.Io.KnownBytes.{Appends}
use Rattle.std.proofs.lemmas.Result.{on_ok_weaker}
use Rattle.edi_answers.specs.Effects.{inputs}
use Rattle.edicad.specs.Made.{OfMade}
use Rattle.edicad.proofs.Made.{of_made, put_fault}
use Rattle.edi_answers.proofs.Faults.{fault_unwritten, if_err_map}
use Rattle.edicad.proofs.sheets.send.Goals as goal

pub returns-in-Err-clause-err : goal.returns-in-Err-clause-err
returns-in-Err-clause-err g c =
    let folder = c.args.folder.now in
    let inputs = inputs g.F.Folder g.F.Reader.ByteIn folder in
    let contents = g.O.ByteOut.contents c.args.out.now in
    fault_unwritten inputs c.args.kinds.now c.args.files.now
    (λ n. IsTrue (g.O.ByteOut.has_failed c.args.out.now) × OfMade inputs c.args.product c.args.kinds.now c.args.files.now (λ b. (n ≤ length b) × Appends contents contents (take n b))) c.in-Err.fault
    c.in-Err.ensures.err

pub returns-in-Ok-clause-ok : goal.returns-in-Ok-clause-ok
returns-in-Ok-clause-ok g c =
    let folder = c.args.folder.now in
    let inputs = inputs g.F.Folder g.F.Reader.ByteIn folder in
    on_ok_weaker c.write_all.result
    (of_made inputs c.args.product c.args.kinds.now c.args.files.now c.in-Ok.bytes.items _ c.deref.ensures.value c.in-Ok.ensures.ok
    (Appends (g.O.ByteOut.contents c.args.out.now) (g.O.ByteOut.contents c.write_all.new.out)))
    c.write_all.ensures.ok

pub returns-in-Ok-clause-err : goal.returns-in-Ok-clause-err
returns-in-Ok-clause-err g c =
    let folder = c.args.folder.now in
    let inputs = inputs g.F.Folder g.F.Reader.ByteIn folder in
    let old = g.O.ByteOut.contents c.args.out.now in
    let new = g.O.ByteOut.contents c.write_all.new.out in
    let failed = IsTrue (g.O.ByteOut.has_failed c.write_all.new.out) in
    let First : ℕ → List ℕ → Type 0 = λ n b. (n ≤ length b) × Appends old new (take n b) in
    if_err_map c.write_all.result _ _
    (put_fault inputs c.args.product c.args.kinds.now c.args.files.now c.in-Ok.bytes.items _ c.deref.ensures.value c.in-Ok.ensures.ok
    (λ n. failed × (n ≤ length c.deref.result.now) × Appends old new (take n c.deref.result.now)) (λ n. failed × OfMade inputs c.args.product c.args.kinds.now c.args.files.now (First n))
    (λ n h. (
      h.0,
      of_made inputs c.args.product c.args.kinds.now c.args.files.now c.in-Ok.bytes.items _ c.deref.ensures.value c.in-Ok.ensures.ok (First n) (h.1, h.2),
    )))
    c.write_all.ensures.err
