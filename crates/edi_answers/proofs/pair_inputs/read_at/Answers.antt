use Rattle.edi_compare.specs.Inputs.{input_number}
use Rattle.edi_answers.proofs.LoadedPairs.{read_whole, unread_result}
use Rattle.edi_answers.proofs.pair_inputs.read_at.Goals as goal

pub returns-clause-read : goal.returns-clause-read
returns-clause-read g c =
    read_whole g.F.Folder g.F.Reader.ByteIn c.args.folder.now c.args.path.now c.args.reader.now c.read_input.new.reader c.requires c.read_input.result g.G.Gathering.bytes c.read_input.ensures.all
    c.read_input.ensures.read

pub returns-clause-err : goal.returns-clause-err
returns-clause-err g c =
    unread_result g.F.Folder g.F.Reader.ByteIn c.args.folder.now c.args.path.now c.args.reader.now c.read_input.new.reader c.requires (input_number c.args.input) c.read_input.result c.read_input.ensures.err
