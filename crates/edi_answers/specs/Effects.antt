-- What a command does to the folder and to its streams.
use Rattle.std.specs.Prelude.{◌≡◌, ◌⊎◌, ℕ, Bool, List, Option, IsTrue}
use Rattle.edi_line.specs.declared.device.ByteIn as byte_in
use Rattle.edi_line.specs.declared.device.ByteOut as byte_out
use Rattle.edi_files.specs.declared.folder.Destination.TheVariants as destination
use Rattle.edi_files.specs.declared.folder.Folder as folder
use Rattle.edi_files.specs.Folders.{Goes, IsSpare}
use Rattle.edi_files.specs.Outputs.{IsUnmade, IsWholeOrNew, Reaches, StopsAfter}
use Rattle.edi_files.specs.Reasons.{Why}

-- what is known of the inputs
pub record Inputs : Type 1 where
  -- the file of a path can be opened, and this may be known to be its contents
  pub holds : List ℕ → Option (List ℕ) → Type 0
  -- the file of a path can't be opened
  pub closed : List ℕ → Type 0
  -- this may be known to be the contents of standard input
  pub standard : Option (List ℕ) → Type 0
  -- the device of this number was opened for a path
  pub opens : List ℕ → ℕ → Type 0
  -- the device of this number is standard input
  pub is_input : ℕ → Type 0
  -- the device of this number has failed
  pub failed : ℕ → Type 0
  -- the path leads to a file, or to nothing yet
  pub is_file : List ℕ → Type 0
  -- the path leads to a device or a pipe, or can't be written to
  pub no_file : List ℕ → Type 0

-- the inputs of a folder
abbrev pub inputs : {F R S N M : Type 0} → folder.Ghosts F R S N M → byte_in.Ghosts R → F → Inputs
inputs {R = R} g r folder = record {
  holds = g.holds folder;
  closed = g.closed folder;
  standard = g.standard folder;
  opens = g.opens folder;
  is_input = g.is_input folder;
  failed = λ device. (input : R) × (r.device input ≡ device) × IsTrue (r.has_failed input);
  is_file = λ path. g.leads folder path destination.File;
  no_file = λ path. g.unwritable folder path ⊎ g.leads folder path destination.Stream;
}

-- What a command finds in the folder, and what it leaves there.
pub record Effects : Type 1 where
  pub inputs : Inputs
  -- whether two paths lead to one file
  pub is_one : List ℕ → List ℕ → Bool → Type 0
  -- the folder may give this as the reason why a path could not be read or written
  pub why : Why
  -- these bytes are now the file of a path, or went to its stream
  pub Puts : List ℕ → List ℕ → Type 0
  -- why so many of these bytes went to a path, and no more
  pub Stops : List ℕ → ℕ → List ℕ → Type 0
  -- If the folder tells what interruptions leave: at each moment a path has the file that it had, or a whole one of
  -- this kind, and no other file that was there has changed, but for drafts of runs that were stopped.
  pub Replaces : List ℕ → (List ℕ → Type 0) → Type 0
  -- nothing in the folder has changed
  pub untouched : Type 0

-- the effects on a folder, by what it is before and after
abbrev pub effects : {F R S N M : Type 0} → folder.Ghosts F R S N M → byte_in.Ghosts R → byte_out.Ghosts S
    → byte_out.Ghosts N → F → F → Effects
effects {S = S} {N = N} g r s n before after = record {
  inputs = inputs g r before;
  is_one = g.is_one before;
  why = g.why after;
  Puts = λ path. Reaches S (g.holds after path) (g.sinks before path) (g.ends after path) s.contents;
  Stops =
      λ path. StopsAfter S (IsUnmade N (g.unwritable after path) n.has_failed) (g.sinks before path) s.contents
      s.has_failed;
  Replaces =
      λ path IsMade. g.tells before → Goes (g.moment before) (g.moment after) (g.left_since before) (g.left_since after)
      (IsWholeOrNew path (IsSpare (g.is_stray before) (g.moment before) (g.left_since before)) IsMade);
  untouched = after ≡ before;
}

-- a stream that is written to over a run: what it has before and after, and whether it has failed
pub record Stream : Type 0 where
  pub before : Option (List ℕ)
  pub after : Option (List ℕ)
  pub failed : Bool

abbrev pub written : {S : Type 0} → byte_out.Ghosts S → S → S → Stream
written g before after = record { before = g.contents before; after = g.contents after; failed = g.has_failed after }
