use Rattle.std.proofs.Common.{◌≡◌, ◌∙◌, ℕ, List, ap, inl, inr, map, string_bytes, subst}
use Rattle.std.specs.Option.{MatchOption}
use Rattle.std.specs.Path.{path_buf_bytes, with_separator}
use Rattle.edi_compare.specs.declared.fault.RunFault.TheVariants.{Read}
use Rattle.edi_answers.specs.Effects.{written}
use Rattle.edi_answers.specs.Hashes.{TellsFault}
use Rattle.edi_deliveries.specs.Deliveries.{listed_path, parent_of}
use Rattle.edi_deliveries.proofs.Told.{told_status}
use Rattle.edi_deliveries.proofs.opening.open_folder.Goals as goal

pub returns-in-Ok-None-clause-err : goal.returns-in-Ok-None-clause-err
returns-in-Ok-None-clause-err g c =
    let folder = c.args.folder.now in
    let thf = c.deref.result.now in
    let err = written g.E.ByteOut c.args.err.now c.tell_fault.new.err in
    let unlisted = subst (λ found. MatchOption found (g.F.Listing.unlisted folder (listed_path (parent_of thf)))
    (λ f. g.F.Listing.lists folder (listed_path (parent_of thf)) (map string_bytes f.0.items) × (path_buf_bytes f.1 ≡ with_separator (parent_of thf))))
    c.in-Ok-None.field-0-is c.in-Ok-None.ensures in
    let at = c.listed_path-at.ensures ∙ ap listed_path (c.parent_of.ensures ∙ ap parent_of c.deref-in-Ok-None.ensures) in
    let told = subst (λ (path : List ℕ). TellsFault (g.F.Folder.why folder) err (Read 1) path c.tell_fault.result) at c.tell_fault.ensures.contents in (
      told_status (g.F.Folder.why folder) err (Read 1) (listed_path (parent_of (string_bytes c.args.thf))) c.tell_fault.result told,
      inr (inr (inl (c.args.delivery, c.requires, subst (λ (t : List ℕ). g.F.Listing.unlisted folder (listed_path (parent_of t))) c.deref.ensures unlisted, told))),
    )
