-- What a whole file states.
use Rattle.std.proofs.Common.{◌≡◌, ℕ, List, sym, ap, subst}
use Rattle.edi_line.specs.ZoneData.{entries}
use Rattle.edi_line.specs.LineRules.{BreaksLineRule, IsZonesOf}
use Rattle.edi_line.specs.Refusal.{IsUnbroken}
use Rattle.edi_line.specs.Zones.{groups_of}
use Rattle.edi_line.specs.declared.zone.Zone.{Zone}
use Rattle.edi_delivery.specs.Lots.{StatesLots}
use Rattle.edi_delivery.specs.DeliveryRules.{BreaksDeliveryRule}
use Rattle.edi_delivery.specs.DeliveryRefusal.{IsDeliveryOf}
use Rattle.edi_delivery.specs.declared.lot.Lot.{Lot}

pub delivery_of : (bytes : List ℕ) (zones borrowed : List Zone) (lots all : List Lot) → borrowed ≡ zones → all ≡ lots → IsZonesOf bytes (entries zones) → IsUnbroken (BreaksLineRule bytes)
    → IsUnbroken (BreaksDeliveryRule (groups_of (entries borrowed))) → StatesLots (groups_of (entries borrowed)) lots → IsDeliveryOf bytes all
delivery_of bytes zones borrowed lots all same is of_file lines rules states = record {
  lines = lines;
  zones = entries borrowed;
  of_file = subst (IsZonesOf bytes) (ap entries (sym same)) of_file;
  rules = rules;
  states = subst (StatesLots (groups_of (entries borrowed))) (sym is) states;
}
