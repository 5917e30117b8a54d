use Rattle.lines.proofs.Fitting.{plain_written, open_written, bounded_written, settled_written}
use Rattle.lines.proofs.laws.lawful_rows_are_written.Goals as goal

pub returns : goal.returns
returns c = (plain_written, open_written, bounded_written, settled_written)
