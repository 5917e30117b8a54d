-- What an answer may be.
use Rattle.std.specs.Prelude.{◌≡◌, ℕ, List, [], ◌∷◌, length, None}
use Rattle.std.specs.List.{AllByRecursion}
use Rattle.model.specs.declared.refusal.Refusal.TheVariants.{TooManyTasks, NoRound}
use Rattle.model.specs.Verdict.{accepted, verdict}
use Rattle.rows.specs.Bare.{settled_breaks}
use Rattle.rows.specs.declared.bare.SettledRow.{SettledRow}
use Rattle.seeker.specs.Sought.{beside}
use Rattle.frames.specs.declared.fault.Fault.{Fault}
use Rattle.frames.specs.declared.frame.TextRow.{TextRow}
use Rattle.frames.specs.Hex.{line}
use Rattle.frames.specs.Laws as frames
use Rattle.frames.specs.Texts.{plain_rows, open_rows, bounded_rows, text_read}
use Rattle.lines.specs.Lines.{four}
use Rattle.settling.specs.Settled.{fault_text, number_text, settled_lines, rest_of, tables}

-- The rows of a text that is accepted are settled, each open row once, so that each settled row keeps the rules and all pass beside the rest;
-- or one line says why not, of five kinds.
pub data Answer (text out : List ℕ) : Type 0 where
  settles : (rows : List TextRow) (settled : List SettledRow) → text_read tables text ≡ frames.accepted rows → length settled ≡ length (open_rows rows)
      → AllByRecursion (λ r. settled_breaks r ≡ None) settled → verdict (beside (rest_of (plain_rows rows) (bounded_rows rows)) settled) ≡ accepted → out ≡ settled_lines settled → Answer text out
  sticks : (name : ℕ) → out ≡ line (0xF1 ∷ name ∷ []) → Answer text out
  misreads : (f : Fault) → out ≡ fault_text f → Answer text out
  overloads : (t : ℕ) → out ≡ line (0xF3 ∷ four t) → Answer text out
  many : out ≡ number_text TooManyTasks → Answer text out
  far : out ≡ number_text NoRound → Answer text out
