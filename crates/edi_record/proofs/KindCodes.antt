-- Kinds by their codes, and what tells links.
use Rattle.std.proofs.Common.{◌≡◌, true, Option, Some, refl, sym, ap, ◌∙◌}
use Rattle.edi_record.specs.Records.{is_link}
use Rattle.edi_record.specs.Shapes.{kind_code}
use Rattle.edi_record.specs.declared.record.Kind.{Kind}
use Rattle.edi_record.specs.declared.record.Kind.TheVariants.{Pno, Par, Pfe, Fea, Lnk}
use Rattle.edi_record.specs.inner.RecordRules.{kind_named}

pub link_is : (kind : Kind) → is_link kind ≡ true → kind ≡ Lnk
link_is Pno e = absurd cc
link_is Par e = absurd cc
link_is Pfe e = absurd cc
link_is Fea e = absurd cc
link_is Lnk e = refl

pub kind_again : (kind : Kind) → kind_named (kind_code kind) ≡ Some kind
kind_again Pno = refl
kind_again Par = refl
kind_again Pfe = refl
kind_again Fea = refl
kind_again Lnk = refl

pub kind_from_code : (a b : Kind) → kind_code a ≡ kind_code b → a ≡ b
kind_from_code a b e = let s : ◌≡◌ {A = Option Kind} (Some a) (Some b) = sym (kind_again a) ∙ (ap kind_named e ∙ kind_again b) in cc
