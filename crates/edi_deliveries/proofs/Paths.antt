-- The paths of a lot's files.
use Rattle.std.proofs.Common.{◌≡◌, ◌⊎◌, ◌∙◌, ℕ, false, List, Option, Some, None, inl, inr, refl, sym, ap, option_map, is_some}
use Rattle.std.proofs.lemmas.Bool.{false≢true}
use Rattle.edi_schema.specs.Roles.{KindCodes}
use Rattle.edi_delivery.specs.declared.lot.Lot.{Lot}
use Rattle.edi_words.specs.declared.words.ManyFiles.{ManyFiles}
use Rattle.edi_answers.specs.Effects.{Effects, Stream}
use Rattle.edi_answers.specs.declared.form.AnswerForm.TheVariants.{Words}
use Rattle.edi_answers.specs.Hashes.{IsHashStatus}
use Rattle.edi_answers.specs.Statuses.{OnlyLacksMemory}
use Rattle.edi_deliveries.specs.Deliveries.{AreLotFiles, IsLotHashed, siblings_of}
use Rattle.edi_deliveries.specs.declared.lot_files.LotPaths.{LotPaths}
use Rattle.edi_deliveries.specs.inner.Paths.{AreLotPaths, HavePaths}

-- what is made of nothing is nothing
pub none_of : {X Y : Type 0} (f : X → Y) (o : Option X) → None ≡ option_map f o → o ≡ None
none_of f None e = refl
none_of f (Some x) e = absurd (false≢true (ap is_some e))

-- files by the paths of a lot are its files
pub files_by : (before : List ℕ) (names : List (List ℕ)) (lot : Lot) (paths : LotPaths) (files : ManyFiles) → AreLotPaths before names lot paths → HavePaths paths files
    → AreLotFiles before names lot files
files_by before names lot paths files are have = record {
  scd = are.scd ∙ ap Some (sym have.scd);
  dic = are.dic ∙ ap Some (sym have.dic);
  sheets = have.sheets ∙ are.vecs;
}

pub lot_hashed : (run : Effects) (kinds : KindCodes) (before : List ℕ) (names : List (List ℕ)) (lot : Lot) (paths : LotPaths) (out err : Stream) (s : ℕ)
    → AreLotPaths before names lot paths
    → ((files : ManyFiles) × HavePaths paths files × IsHashStatus run out err kinds files Words false (siblings_of files) s) ⊎ (OnlyLacksMemory out err × (s ≡ 5))
    → IsLotHashed run kinds before names lot out err s
lot_hashed run kinds before names lot paths out err s are (inl h) = inl (h.0, files_by before names lot paths h.0 are h.1, h.2)
lot_hashed run kinds before names lot paths out err s are (inr h) = inr (inr h)
