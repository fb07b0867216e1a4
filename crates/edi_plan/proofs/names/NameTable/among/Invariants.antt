use Rattle.std.proofs.Common.{◌≡◌, true}
use Rattle.edi_plan.specs.inner.Names.{name_lent, place_in, is_tabled}
use Rattle.edi_plan.specs.declared.names.RecordNameRef.{RecordNameRef}
use Rattle.edi_plan.proofs.NameLemmas.{FirstTo, RepeatTo}
use Rattle.edi_plan.proofs.names.NameTable.among.Given as goal

abbrev pub invariant-loop-place : goal.invariant-loop-place
invariant-loop-place l = record {
  first : (q : RecordNameRef) → is_tabled l.links_rise q.kind ≡ true → FirstTo l.records l.place (name_lent q) (place_in l.places.entries q);
  repeat : RepeatTo l.records l.place l.repeat;
}
