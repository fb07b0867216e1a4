-- The bytes are those of the canonical file, or there is no memory for them.
use Rattle.std.proofs.Common.{inl, inr, ◌∙◌, alloc_error}
use Rattle.edi_compare.specs.declared.fault.Fault.TheVariants.{Memory}
use Rattle.edicad_c.proofs.sheets.canonical_file.Goals as goal

pub returns-in-Ok : goal.returns-in-Ok
returns-in-Ok c =
    elim c.of_bytes.ensures [
      | inl given ↦ inl (c.in-Ok.file.items, c.in-Ok.ensures.form, given.0, given.1 ∙ c.done.ensures)
      | inr lacking ↦ inr (lacking.0, (Memory alloc_error, tt, lacking.1))
    ]
