-- What is read of a lot's record, before it is known that the names are names.
use Rattle.std.specs.Prelude.{◌≡◌, ℕ, List, [], ◌∷◌, ◌++◌, map, option_map, option_to_list, codes}
use Rattle.edi_line.specs.ZoneData.{ZoneData}
use Rattle.edi_record.specs.Records.{values}
use Rattle.edi_delivery.specs.declared.lot.Lot.{Lot}
use Rattle.edi_delivery.specs.declared.draft.LotDraft.{LotDraft}

-- the own names of the files that a record names
pub record IsDraftOf (group : List ZoneData) (d : LotDraft) : Type 0 where
  pub scd : values (codes "SCN") group ≡ d.scd.now ∷ []
  pub dic : values (codes "DIN") group ≡ d.dic.now ∷ []
  pub general : values (codes "GNN") group ≡ option_to_list (option_map (λ t. t.now) d.general)
  pub geo : values (codes "GON") group ≡ option_to_list (option_map (λ t. t.now) d.geo)
  pub quality : values (codes "QAN") group ≡ option_to_list (option_map (λ t. t.now) d.quality)
  pub vecs : values (codes "GDN") group ≡ map (λ t. t.now) d.vecs.items

-- all of them
abbrev pub own_names : LotDraft → List (List ℕ)
own_names d =
    d.scd.now
    ∷ (d.dic.now
    ∷ (option_to_list (option_map (λ t. t.now) d.general)
    ++ (option_to_list (option_map (λ t. t.now) d.geo)
    ++ (option_to_list (option_map (λ t. t.now) d.quality)
    ++ map (λ t. t.now) d.vecs.items))))

-- the lot with these own names, and this name
pub record IsLotOf (d : LotDraft) (name : List ℕ) (lot : Lot) : Type 0 where
  pub is_name : lot.name ≡ name
  pub scd : lot.scd ≡ d.scd.now
  pub dic : lot.dic ≡ d.dic.now
  pub general : lot.general ≡ option_map (λ t. t.now) d.general
  pub geo : lot.geo ≡ option_map (λ t. t.now) d.geo
  pub quality : lot.quality ≡ option_map (λ t. t.now) d.quality
  pub vecs : lot.vecs ≡ map (λ t. t.now) d.vecs.items
