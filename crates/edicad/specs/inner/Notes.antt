-- The note on the kinds of links that no class has, while a command runs.
use Rattle.std.specs.Prelude.{◌≡◌, ℕ, List}
use Rattle.edi_words.specs.declared.words.Request.{Request}
use Rattle.edi_words.specs.declared.words.Request.TheVariants.{Bundle, Sheet, Pair, Many, Delivery, Manifest, CheckManifest, Explain, Rule, Rules, Changed, Misused, Answered}
use Rattle.edi_answers.specs.Effects.{Inputs}
use Rattle.edi_answers.specs.Notes.{HasNoteOf}

-- a place for the note has that of the request, by its file of classes, or what it had where the status says that there
-- is no answer; a request that has no note leaves the place as it was
abbrev pub LeavesNoteOf : Inputs → Request → ℕ → List ℕ → List ℕ → Type 0
LeavesNoteOf inputs Bundle status old new = new ≡ old
LeavesNoteOf inputs (Sheet kinds files what) status old new = HasNoteOf inputs kinds files.scd.now status old new
LeavesNoteOf inputs (Pair kinds files what) status old new = HasNoteOf inputs kinds files.scd.now status old new
LeavesNoteOf inputs (Many kinds files what) status old new = new ≡ old
LeavesNoteOf inputs (Delivery kinds paths) status old new = new ≡ old
LeavesNoteOf inputs (Manifest kinds path file) status old new = new ≡ old
LeavesNoteOf inputs (CheckManifest kinds path manifest) status old new = new ≡ old
LeavesNoteOf inputs (Explain kinds files json) status old new = new ≡ old
LeavesNoteOf inputs (Rule word json) status old new = new ≡ old
LeavesNoteOf inputs (Rules json) status old new = new ≡ old
LeavesNoteOf inputs (Changed before after) status old new = new ≡ old
LeavesNoteOf inputs (Misused misuse) status old new = new ≡ old
LeavesNoteOf inputs (Answered given) status old new = new ≡ old
