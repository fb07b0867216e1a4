-- A handle owns a block of the heap and what lies in it, or nothing, and neither is tied to a thread.
use Rattle.std.proofs.Common.{Option, None, Some}
use mir.Raw.{raw}
use base.Shift.{Keyless}
use denote.Memory.{lone}
use denote.RawPtr.{Ptr}
use denote.Struct.Struct.{exits_of}
use denote.Struct.Owning.{shape, fields, to}
use denote.Param.Send.{IsSend, AllSend, owning_send, struct_send, sendable}
use Rattle.std.specs.Global.{Global}
use Rattle.std.proofs.Crossing.{frees}
use Rattle.std.proofs.alloc.Global.TheSendSync as heap
use Rattle.std_alloc.proofs.SendSync.{quiet, lies}
use Rattle.edicad_c.specs.Handles.{Owns}
use Rattle.edicad_c.specs.contracts.content.Content as content
use Rattle.edicad_c.proofs.content.Content.TheSendSync.{the_send as content_send}
use Rattle.edicad_c.specs.contracts.handle.Handle.{the_row, the_type}

owned : (a : Global) (p : Ptr) (held : Option content.the_row.Denot) → Keyless (Owns a p held)
owned a p None = tt
owned a p (Some c) = (lies content.the_row content_send p c, frees.frees a (raw (lone content.the_row.mir)) p)

pub send : IsSend the_row
send =
    let all : AllSend (fields the_type) = (search sendable, (heap.the_field_send, tt)) in
    owning_send the_type all (λ d. owned d.alloc d.at d.held)
    (λ k. quiet (to the_type) (exits_of k (fields the_type)) ((struct_send (shape the_type) all).leaving k))
