use Rattle.edi_line.specs.inner.Spelling.{reading_of}
use Rattle.edi_line.specs.inner.Zones.{readings_of}
use Rattle.edi_line.proofs.Readings.{reading_says, says_one, readings_exist, readings_one}
use Rattle.edi_line.proofs.spelling.readings_are_unique.Goals as goal

pub returns-clause-some : goal.returns-clause-some
returns-clause-some c = λ content. (reading_of content, reading_says content)

pub returns-clause-unique : goal.returns-clause-unique
returns-clause-unique c = says_one

pub returns-clause-all : goal.returns-clause-all
returns-clause-all c = λ bytes. (readings_of bytes, readings_exist bytes)

pub returns-clause-all_unique : goal.returns-clause-all_unique
returns-clause-all_unique c = readings_one
