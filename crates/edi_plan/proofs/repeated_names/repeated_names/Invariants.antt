use Rattle.std.proofs.Common.{◌≡◌, false, true, length}
use Rattle.edi_plan.specs.inner.Findings.{EachAt}
use Rattle.edi_plan.specs.inner.Names.{name_lent, place_in, is_tabled, RepeatsNameAt}
use Rattle.edi_plan.specs.declared.names.RecordNameRef.{RecordNameRef}
use Rattle.edi_plan.proofs.NameLemmas.{FirstTo}
use Rattle.edi_plan.proofs.repeated_names.repeated_names.Given as goal

abbrev pub invariant-loop-place : goal.invariant-loop-place
invariant-loop-place l = record {
  first : (q : RecordNameRef) → is_tabled false q.kind ≡ true → FirstTo l.records l.place (name_lent q) (place_in l.places.entries q);
  long : length l.found.items ≡ l.place;
  each : EachAt (λ k b. (b ≡ true → RepeatsNameAt l.records k) × (RepeatsNameAt l.records k → b ≡ true)) l.found.items;
}
