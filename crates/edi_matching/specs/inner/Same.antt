-- Two plans with as many records of each type.
use Rattle.std.specs.Prelude.{◌≡◌, length}
use Rattle.edi_rank.specs.Labelling.{Labelling}

-- the labels number as many records of each type
pub record AreAsMany (l m : Labelling) : Type 0 where
  pub nodes : length l.nodes ≡ length m.nodes
  pub arcs : length l.arcs ≡ length m.arcs
  pub faces : length l.faces ≡ length m.faces
  pub objects : length l.objects ≡ length m.objects
  pub links : length l.links ≡ length m.links
