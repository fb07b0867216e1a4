-- What the steps over a folder leave.
use Rattle.std.specs.Prelude.{◌≡◌, ◌⊎◌, ◌≤◌, ℕ, List, Option, None}
use Rattle.edi_files.specs.declared.folder.OutFault.{OutFault}
use Rattle.edi_files.specs.declared.folder.OutFault.TheVariants.{Memory, Unwritable}

-- what an interruption, at some moment from one on, might have left at a path: these bytes, or no file
abbrev pub Leavings : Type 1
Leavings = ℕ → List ℕ → Option (List ℕ) → Type 0

-- an interruption at this moment leaves no file at the path
abbrev pub IsFree : ℕ → Leavings → List ℕ → Type 0
IsFree now left path = (c : Option (List ℕ)) → left now path c → c ≡ None

-- it leaves none there, or what lies there is the draft of a run that was stopped
abbrev pub IsSpare : (List ℕ → Type 0) → ℕ → Leavings → List ℕ → Type 0
IsSpare is_stray now left path = IsFree now left path ⊎ is_stray path

-- Time goes on. What an interruption since an earlier moment might have left at a path, it might have left before, or P
-- holds of it.
pub record Goes (before now : ℕ) (past since : Leavings) (P : List ℕ → Option (List ℕ) → Type 0) : Type 0 where
  pub later : before ≤ now
  pub each : (t : ℕ) (path : List ℕ) (c : Option (List ℕ)) → t ≤ before → since t path c → past t path c ⊎ P path c

-- a fact for each reason why a path can't be written to: lack of memory, or the path itself
abbrev pub MatchOut : OutFault → Type 0 → Type 0 → Type 0
MatchOut (Memory e) M U = M
MatchOut Unwritable M U = U
