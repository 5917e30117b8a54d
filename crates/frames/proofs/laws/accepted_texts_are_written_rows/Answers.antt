use Rattle.frames.proofs.Accepted.{accepted_texts}
use Rattle.frames.proofs.laws.accepted_texts_are_written_rows.Goals as goal

pub returns : goal.returns
returns c = accepted_texts
