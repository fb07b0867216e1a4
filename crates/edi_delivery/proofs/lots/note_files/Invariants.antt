use Rattle.std.proofs.Common.{◌≡◌, ◌++◌, false, map, take}
use Rattle.std.specs.Str.{str_to_ascii_lowercase}
use Rattle.edi_delivery.specs.inner.Steps.{repeats_earlier}
use Rattle.edi_delivery.proofs.lots.note_files.Given as goal

abbrev pub invariant-loop-file : goal.invariant-loop-file
invariant-loop-file l = record {
  noted : l.noted.keys ≡ l.initial.noted.keys ++ map str_to_ascii_lowercase (take l.file-index l.file-items);
  apart : repeats_earlier l.initial.noted.keys (map str_to_ascii_lowercase (take l.file-index l.file-items)) ≡ false;
}
