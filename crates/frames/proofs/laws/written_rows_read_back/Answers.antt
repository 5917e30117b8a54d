use Rattle.frames.proofs.Readback.{read_back}
use Rattle.frames.proofs.laws.written_rows_read_back.Goals as goal

pub returns : goal.returns
returns c = read_back
