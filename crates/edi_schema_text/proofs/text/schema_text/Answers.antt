use Rattle.std.proofs.Common.{◌<◌, length, arith}
use Rattle.edi_schema_text.specs.SchemaText.{schema_head}
use Rattle.edi_schema_text.proofs.Lines.{put_more}
use Rattle.edi_schema_text.proofs.text.schema_text.Goals as goal

pub loop-place-preserved : goal.loop-place-preserved
loop-place-preserved c =
    let h : c.loop-place.place < length c.args.schema.now = omega arith in
    put_more c.args.schema.now c.loop-place.place schema_head c.loop-place.text.items c.put_class.new.text.items h c.loop-place.invariant c.in_ok-put_class.ensures
