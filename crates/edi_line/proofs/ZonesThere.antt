-- A file that breaks no rule of lines has zones, and no more records than a file may have.
use Rattle.std.proofs.Common.{◌≡◌, ℕ, ◌+◌, ◌≤◌, Bool, true, false, List, length, refl, sym, inl, inr}
use Rattle.edi_line.specs.LineKinds.{code_is, some_bears}
use Rattle.edi_line.specs.LineRules.{BreaksLineRule, IsZonesOf}
use Rattle.edi_line.specs.Refusal.{IsUnbroken}
use Rattle.edi_line.specs.ZoneData.{ZoneData}
use Rattle.edi_line.specs.Zones.{groups_of}
use Rattle.edi_line.specs.inner.Zones.{parts_after, readings_of}
use Rattle.edi_line.proofs.Readings.{unbroken_read}
use Rattle.edi_line.proofs.Rules.{closed_zones}
use Rattle.edi_line.proofs.Shape.{few_of_all}
use Rattle.edi_line.proofs.ZonesFound.{zones_of}
use Rattle.edi_line.proofs.ZonesSaid.{zones_said}

module _ (bytes : List ℕ) (unbroken : IsUnbroken (BreaksLineRule bytes)) where
  pub zones_there : IsZonesOf bytes (zones_of bytes)
  zones_there = zones_said bytes (zones_of bytes) (record { readable = λ rule place own broken. unbroken_read bytes unbroken rule place (inl broken); is = refl })

  ends : some_bears (code_is "EOM") (readings_of bytes) ≡ true
  ends = go (some_bears (code_is "EOM") (readings_of bytes)) refl
    where
      go : (b : Bool) → some_bears (code_is "EOM") (readings_of bytes) ≡ b → b ≡ true
      go true e = refl
      go false e = absurd (unbroken_read bytes unbroken 106 (length (readings_of bytes) + 1) (inr (refl, refl, e)))

  few : length (groups_of (zones_of bytes)) ≤ 9999999
  few = few_of_all (readings_of bytes) (zones_of bytes) (λ rule place broken. unbroken_read bytes unbroken rule place (inl broken)) ends (sym (closed_zones (parts_after 0 (readings_of bytes))))

  pub file_has_zones : (zones : List ZoneData) × IsZonesOf bytes zones × (length (groups_of zones) ≤ 9999999)
  file_has_zones = (zones_of bytes, zones_there, few)
