use Rattle.std.proofs.Common.{ℕ, subst}
use Rattle.edi_line.specs.FileBytes.{file_bytes}
use Rattle.edi_line.specs.Zones.{groups_of}
use Rattle.edi_line.proofs.ZonesSaid.{zones_of_one}
use Rattle.edi_record.specs.RecordRules.{BreaksRecordRule}
use Rattle.edi_record.proofs.ListRead.{made_of_file, file_unbroken, file_refusal, made_few}
use Rattle.edi_record.proofs.StatesSaid.{all_said}
use Rattle.edi_record.proofs.list.read_sheet_from.Goals as goal

pub invariant_of-sheet : goal.invariant_of-sheet
invariant_of-sheet g c =
    let h = c.in_ok-cse.ensures.groups in
    let list = (made_of_file (file_bytes c.args.file) c.in_ok-cse.cse c.new.result c.read_groups_from.new.out.records _ _ _ h c.new.ensures c.requires.none_taken c.in-None.is).0 in
    record { few = (made_few (groups_of h.zones) c.read_groups_from.new.out.records.list list h.few); shape = list.shape }

pub returns-in-Some-clause-refusal : goal.returns-in-Some-clause-refusal
returns-in-Some-clause-refusal g c =
    let h = c.in_ok-cse.ensures.groups in
    let records = c.read_groups_from.new.out.records in
    let made = (made_of_file (file_bytes c.args.file) c.in_ok-cse.cse c.new.result records _ _ _ h c.new.ensures c.requires.none_taken c.in-Some.is).0 in
    (c.in_ok-cse.ensures.sound, (h.zones, h.of_file, file_refusal h.zones records.list c.in-Some.fault made))

pub returns-in-None-clause-sheet : goal.returns-in-None-clause-sheet
returns-in-None-clause-sheet g c =
    let h = c.in_ok-cse.ensures.groups in
    let records = c.read_groups_from.new.out.records in
    let list = (made_of_file (file_bytes c.args.file) c.in_ok-cse.cse c.new.result records _ _ _ h c.new.ensures c.requires.none_taken c.in-None.is).0 in (
      h.zones,
      h.of_file,
      record {
        cse = h.charset_is;
        records = (all_said (groups_of h.zones) records.list list.states);
      },
    )

pub returns-in-None-clause-other : goal.returns-in-None-clause-other
returns-in-None-clause-other g c =
    let h = c.in_ok-cse.ensures.groups in
    let records = c.read_groups_from.new.out.records in (
      h.zones,
      h.of_file,
      (made_of_file (file_bytes c.args.file) c.in_ok-cse.cse c.new.result records _ _ _ h c.new.ensures c.requires.none_taken c.in-None.is).1,
    )

pub returns-in-None-clause-records : goal.returns-in-None-clause-records
returns-in-None-clause-records g c =
    let h = c.in_ok-cse.ensures.groups in
    let records = c.read_groups_from.new.out.records in
    λ zones of_file. subst (λ zs. (rule : ℕ) → (place : ℕ) → ¬ (BreaksRecordRule zs rule place)) (zones_of_one (file_bytes c.args.file) h.zones zones h.of_file of_file)
    (file_unbroken h.zones records.list (made_of_file (file_bytes c.args.file) c.in_ok-cse.cse c.new.result records _ _ _ h c.new.ensures c.requires.none_taken c.in-None.is).0)
