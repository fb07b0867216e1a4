use Rattle.std.proofs.Common.{◌≡◌, fold, take}
use Rattle.std.specs.List.{flat_map}
use Rattle.std.specs.Hash.FoldHasher as folding
use Rattle.edi_rank.specs.Labelling.{order_of}
use Rattle.edi_matching.specs.declared.ranked.TheConstants.{TYPES}
use Rattle.edi_matching.specs.inner.Ranked.{records_input}
use Rattle.edi_matching.proofs.ranked.Ranked.fingerprint.Given as goal

-- the types so far were hashed
abbrev pub invariant-loop-kind : goal.invariant-loop-kind
invariant-loop-kind l = l.state ≡ fold folding.write folding.initial (flat_map (λ kind. records_input l.self.plan.now l.self.labels.now (order_of l.self.labels.now kind)) (take l.kind-index TYPES))
