-- Where the status is 0, the manifest is there.
use Rattle.std.proofs.Common.{◌≡◌, ◌≢◌, ◌⊎◌, ℕ, Bool, true, false, List, [], ◌∷◌, inl, inr, refl, sym, subst, arith}
use Rattle.std.specs.Bool.{MatchBool}
use Rattle.edi_line.specs.declared.fault.LineFault.TheVariants as line
use Rattle.edi_record.specs.declared.fault.RecordFault.TheVariants as record_fault
use Rattle.edi_schema.specs.Roles.{KindCodes}
use Rattle.edi_delivery.specs.declared.fault.DeliveryFault.{DeliveryFault}
use Rattle.edi_delivery.specs.declared.fault.DeliveryFault.TheVariants.{Line, Record}
use Rattle.edi_manifest.specs.ManifestText.{manifest_text}
use Rattle.edi_manifest.specs.declared.line.ManifestLine.{ManifestLine}
use Rattle.edi_compare.specs.declared.fault.RunFault.{RunFault}
use Rattle.edi_compare.specs.declared.fault.RunFault.TheVariants.{Read, Write}
use Rattle.edi_files.specs.Reasons.{Why}
use Rattle.edi_outcome.specs.Status.{status_of_fault}
use Rattle.edi_words.specs.Requests.{is_standard_path}
use Rattle.edi_answers.specs.Effects.{Effects, Stream}
use Rattle.edi_answers.specs.Hashes.{named_line}
use Rattle.edi_answers.specs.Statuses.{IsWarned, Prints}
use Rattle.edi_answers.proofs.Answering.{over}
use Rattle.edi_answers.proofs.Refusals.{fault_status}
use Rattle.edi_deliveries.specs.Deliveries.{ErrorsSay, Listings, Opened, Opens, OpensNoLots, OpensNone, listed_path, parent_of, status_of_refusal}
use Rattle.edi_deliveries.specs.Found.{AreLotsFound}
use Rattle.edi_deliveries.specs.Manifests.{IfAllFound, IsManifestMade, IsManifestOf, IsManifestPut, IsManifestStatus, IsManifestThere, IsPrinted, IsStored}
use Rattle.edi_deliveries.proofs.Well.{no_fault}

refusal_some : (f : DeliveryFault) → 0 ≡ status_of_refusal f → ⊥
refusal_some (Line (line.Memory e)) h = absurd (omega (arith, h))
refusal_some (Line (line.Broken rule at)) h = absurd (omega (arith, h))
refusal_some (Record (record_fault.Memory e)) h = absurd (omega (arith, h))
refusal_some (Record (record_fault.Broken rule at)) h = absurd (omega (arith, h))

no_warning : (why : Why) (err : Stream) (e : RunFault) (paths : List (List ℕ)) → IsWarned why err e paths 0 → ⊥
no_warning why err e paths (inl h) = go (status_of_fault e) (fault_status e) h.0
  where
    go : (s : ℕ) → (s ≡ 2) ⊎ ((s ≡ 4) ⊎ (s ≡ 5)) → 0 ≡ s → ⊥
    go s (inl two) zero = absurd (omega (arith, two, zero))
    go s (inr (inl four)) zero = absurd (omega (arith, four, zero))
    go s (inr (inr five)) zero = absurd (omega (arith, five, zero))
no_warning why err e paths (inr h) = absurd (omega (arith, h.0))

none_lots : (run : Effects) (listings : Listings) (thf : List ℕ) (err : Stream) → OpensNoLots run listings thf err 0 → ⊥
none_lots run listings thf err (inl (f, at, inl h)) = refusal_some f h.0
none_lots run listings thf err (inl (f, at, inr h)) = absurd (omega (arith, h.0))
none_lots run listings thf err (inr (inl h)) = no_fault run.why err h.0 thf h.2
none_lots run listings thf err (inr (inr (inl h))) = no_fault run.why err (Read 1) (listed_path (parent_of thf)) h.3
none_lots run listings thf err (inr (inr (inr h))) = absurd (omega (arith, h.0))

pub none_opened : (run : Effects) (listings : Listings) (path : List ℕ) (err : Stream) → OpensNone run listings path err 0 → ⊥
none_opened run listings path err (inl h) = said (named_line path h.1) h.4
  where
    said : (text : List ℕ) → ErrorsSay text 4 err 0 → ⊥
    said text (inl k) = absurd (omega (arith, k.0))
    said text (inr k) = absurd (omega (arith, k.0))
none_opened run listings path err (inr (inl h)) = none_lots run listings h.0 err h.2
none_opened run listings path err (inr (inr h)) = absurd (omega (arith, h.0))

module _ (run : Effects) (listings : Listings) (kinds : KindCodes) (path file : List ℕ) (out err : Stream) (d : Opened) (opens : Opens run.inputs listings path d) where
  printed : (lines : List ManifestLine) (e f : Stream) → AreLotsFound run.inputs run.why kinds d lines e 0 → IsPrinted out lines f 0
      → (bytes : List ℕ) × IsManifestOf run listings kinds path bytes × Prints out bytes
  printed lines e f found (inl h) = (manifest_text lines, (d, opens, (lines, e, found, refl)), h.0.0)
  printed lines e f found (inr (inl h)) = absurd (omega (arith, h.3))
  printed lines e f found (inr (inr h)) = absurd (omega (arith, h.1))

  stored : (lines : List ManifestLine) (e f : Stream) → AreLotsFound run.inputs run.why kinds d lines e 0 → IsStored run path file lines f 0
      → (bytes : List ℕ) × IsManifestOf run listings kinds path bytes × run.Puts file bytes
  stored lines e f found (inl h) = (manifest_text lines, (d, opens, (lines, e, found, refl)), h.0)
  stored lines e f found (inr h) = absurd (no_warning run.why f h.0 (path ∷ file ∷ []) h.2)

  all : (Then : List ManifestLine → Stream → ℕ → Type 0) (Else Q : Type 0)
      → ((lines : List ManifestLine) (e f : Stream) → AreLotsFound run.inputs run.why kinds d lines e 0 → Then lines f 0 → Q)
      → IfAllFound run.inputs run.why kinds d Then Else err 0 → Q
  all Then Else Q f h = go h.2.4
    where
      go : ((h.1 ≡ 0) × Then h.0 (over h.2.0 err.after err.failed) 0) ⊎ ((h.1 ≢ 0) × Else × (err.after ≡ h.2.0) × (0 ≡ h.1)) → Q
      go (inl k) = f h.0 (over err.before h.2.0 h.2.1) (over h.2.0 err.after err.failed)
          (subst (λ s. AreLotsFound run.inputs run.why kinds d h.0 (over err.before h.2.0 h.2.1) s) k.0 h.2.3) k.1
      go (inr k) = absurd (k.0 (sym k.3))

  made : IsManifestMade run listings kinds path file d out err 0 → IsManifestThere run listings kinds path file out
  made h = go (is_standard_path file) h
    where
      put : IsManifestPut run listings kinds path file d err 0 → (bytes : List ℕ) × IsManifestOf run listings kinds path bytes × run.Puts file bytes
      put (inl k) = absurd (no_warning run.why err (Write (record { count = 0 })) (path ∷ file ∷ []) k.2)
      put (inr (inl k)) = all (IsStored run path file) run.untouched ((bytes : List ℕ) × IsManifestOf run listings kinds path bytes × run.Puts file bytes) stored k.1
      put (inr (inr k)) = absurd (omega (arith, k.1))

      go : (b : Bool)
          → MatchBool b (run.untouched × IfAllFound run.inputs run.why kinds d (IsPrinted out) (Prints out []) err 0) (Prints out [] × IsManifestPut run listings kinds path file d err 0)
          → (bytes : List ℕ) × IsManifestOf run listings kinds path bytes × MatchBool b (Prints out bytes) (run.Puts file bytes)
      go true k = all (IsPrinted out) (Prints out []) ((bytes : List ℕ) × IsManifestOf run listings kinds path bytes × Prints out bytes) printed k.1
      go false k = put k.1

pub manifest_there : (run : Effects) (listings : Listings) (kinds : KindCodes) (path file : List ℕ) (out err : Stream) → IsManifestStatus run listings kinds path file out err 0
    → IsManifestThere run listings kinds path file out
manifest_there run listings kinds path file out err h = go h.answer
  where
    go : ((d : Opened) × Opens run.inputs listings path d × IsManifestMade run listings kinds path file d out err 0) ⊎ (OpensNone run listings path err 0 × run.untouched × Prints out [])
        → IsManifestThere run listings kinds path file out
    go (inl k) = made run listings kinds path file out err k.0 k.1 k.2
    go (inr k) = absurd (none_opened run listings path err k.0)
