use Rattle.edi_explain.proofs.Numbered.{site_of_earlier}
use Rattle.edi_explain.specs.inner.Found.{number_from_one}
use Rattle.edi_explain.proofs.refused.sites_of_records.Goals as goal

pub returns : goal.returns
returns c = λ zones number earlier found. record {
  here = c.in_ok-site_if_found.ensures zones number found.here;
  earlier_site = site_of_earlier zones earlier c.in_ok-site_if_found-2.field-0 (c.in_ok-site_if_found-2.ensures zones (number_from_one earlier) found.earlier_one);
}
