-- Blocks before others.
use Rattle.std.proofs.Common.{◌≡◌, ℕ, ◌<◌, ◌⊎◌, inl, inr, length, ap, arith}
use Rattle.std.proofs.lemmas.Bool.{cases_order}
use Rattle.edi_record.specs.declared.blocks_ahead.BlocksAhead.{BlocksAhead}
use Rattle.edi_record.specs.inner.BlocksAhead.{all_ahead, IsBlockBefore}

-- a block that others follow is full
pub block_full : (n : ℕ) (ahead : BlocksAhead) → IsBlockBefore n ahead → 0 < length (all_ahead ahead) → n ≡ 256
block_full n ahead is more = go (cases_order n 256)
  where
    go : (n ≡ 256) ⊎ ((n < 256) ⊎ (256 < n)) → n ≡ 256
    go (inl same) = same
    go (inr (inl less)) = let none = ap length (is.last less) in absurd (omega (arith, none, more))
    go (inr (inr greater)) = absurd (omega (arith, is.short, greater))
