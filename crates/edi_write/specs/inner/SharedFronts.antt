-- A canonical file on its way, whose front another file shares.
use Rattle.std.specs.Prelude.{ℕ, List, ◌++◌, take}
use Rattle.edi_write.specs.declared.shared_front.SharedFront.{SharedFront}

-- what is written so far
abbrev pub all_written : SharedFront → List ℕ
all_written b = take b.front b.other.now ++ b.page.file.items
