-- What handles own.
use Rattle.std.specs.Prelude.{Option, Some, None}
use denote.RawPtr.{Ptr, null_ptr}
use base.Fml.{Fml, feq}
use base.Stored.{Coded}
use Rattle.std.specs.Coded.{coded_option}
use Rattle.std.specs.Global.{Global}
use Rattle.std.specs.Box.Ownership.{box_owns}
use Rattle.std.specs.contracts.impls.GlobalAllocator.TheImpl.{ghosts}
use Rattle.edicad_c.specs.contracts.content.Content.{the_row}

-- a handle that holds something owns its block and what lies in it; an empty one is null, and owns nothing
abbrev pub Owns : Global → Ptr → Option the_row.Denot → Fml
Owns alloc at None = feq Ptr at null_ptr
Owns alloc at (Some content) = box_owns (ghosts.dealloc_token alloc) the_row at content

abbrev pub held_coded : Coded (Option the_row.Denot)
held_coded = coded_option the_row.coded
