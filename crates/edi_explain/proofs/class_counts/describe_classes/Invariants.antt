use Rattle.std.proofs.Common.{◌≡◌, ◌++◌, drop}
use Rattle.std.specs.Map.{keys_of}
use Rattle.edi_explain.specs.ClassCounts.{class_count_lines}
use Rattle.edi_explain.proofs.class_counts.describe_classes.Given as goal

abbrev pub invariant-loop-place : goal.invariant-loop-place
invariant-loop-place l =
    l.text.items ++ class_count_lines l.fn.plan l.place (drop l.place (keys_of l.fn.schema)) ≡ class_count_lines l.fn.plan 0 (keys_of l.fn.schema)
