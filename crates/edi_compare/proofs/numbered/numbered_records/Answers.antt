use Rattle.edi_compare.proofs.numbered.numbered_records.Goals as goal

pub returns : goal.returns
returns c = record {
  long = c.in_ok-kinds.ensures.length;
  kinds = c.in_ok-kinds.ensures.each;
  numbers = c.into_numbers_and_turned_arcs-numbers.ensures.numbers;
  turned = c.into_numbers_and_turned_arcs-numbers.ensures.turned;
}
