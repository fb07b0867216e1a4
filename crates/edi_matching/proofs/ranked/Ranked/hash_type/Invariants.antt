use Rattle.std.proofs.Common.{◌≡◌, fold, take}
use Rattle.std.specs.Hash.FoldHasher as folding
use Rattle.edi_rank.specs.Labelling.{order_of}
use Rattle.edi_matching.specs.inner.Ranked.{records_input}
use Rattle.edi_matching.proofs.ranked.Ranked.hash_type.Given as goal

-- the records so far were hashed
abbrev pub invariant-loop-place : goal.invariant-loop-place
invariant-loop-place l = l.state ≡ fold folding.write l.initial.state (records_input l.self.plan.now l.self.labels.now (take l.place-index (order_of l.self.labels.now l.fn.kind)))
