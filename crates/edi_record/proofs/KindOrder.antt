-- Types go by their ranks.
use Rattle.std.proofs.Common.{◌≡◌, refl, nat_cmp}
use Rattle.edi_record.specs.Shapes.{kind_rank}
use Rattle.edi_record.specs.declared.record.Kind.{Kind}
use Rattle.edi_record.specs.declared.record.Kind.TheVariants.{Pno, Par, Pfe, Fea, Lnk}
use Rattle.edi_record.specs.contracts.record.KindOrd.TheImpl.{ghosts as kinds}

pub kind_order : (a b : Kind) → kinds.cmp a b ≡ nat_cmp (kind_rank a) (kind_rank b)
kind_order Pno Pno = refl
kind_order Pno Par = refl
kind_order Pno Pfe = refl
kind_order Pno Fea = refl
kind_order Pno Lnk = refl
kind_order Par Pno = refl
kind_order Par Par = refl
kind_order Par Pfe = refl
kind_order Par Fea = refl
kind_order Par Lnk = refl
kind_order Pfe Pno = refl
kind_order Pfe Par = refl
kind_order Pfe Pfe = refl
kind_order Pfe Fea = refl
kind_order Pfe Lnk = refl
kind_order Fea Pno = refl
kind_order Fea Par = refl
kind_order Fea Pfe = refl
kind_order Fea Fea = refl
kind_order Fea Lnk = refl
kind_order Lnk Pno = refl
kind_order Lnk Par = refl
kind_order Lnk Pfe = refl
kind_order Lnk Fea = refl
kind_order Lnk Lnk = refl
