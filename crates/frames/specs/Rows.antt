-- The rows that a text may hold: what one line of it means.
use Rattle.std.specs.Prelude.{ℕ, cond, List, Ok, Err, Result, ◌==◌}
use Rattle.model.specs.declared.refusal.Refusal.TheVariants.{UnknownTag}
use Rattle.rows.specs.Bare.{plain_breaks, open_breaks, bounded_breaks}
use Rattle.frames.specs.declared.fault.Fault.{Fault}
use Rattle.frames.specs.declared.fault.Layer.TheVariants.{Frame}
use Rattle.frames.specs.declared.frame.TextRow.{TextRow}
use Rattle.frames.specs.declared.frame.TextRow.TheVariants.{Plain, Open, Bounded}
use Rattle.frames.specs.Hex.{bytes}
use Rattle.frames.specs.Frames.{◌then◌, fault_at, digits_test, tag_of, body, plain_row, open_row, bounded_row}

-- the row of a frame in line n, by its tag
abbrev pub by_tag : ℕ → List ℕ → ℕ → Result TextRow Fault
by_tag n frame tag =
    cond (tag == 1) (body 3 plain_row plain_breaks n frame then (λ row. Ok (Plain row)))
    (cond (tag == 2) (body 4 open_row open_breaks n frame then (λ row. Ok (Open row)))
    (cond (tag == 3) (body 6 bounded_row bounded_breaks n frame then (λ row. Ok (Bounded row)))
    (Err (fault_at UnknownTag n Frame))))

-- the row of a frame in line n, its tag read first
abbrev pub any_body : ℕ → List ℕ → Result TextRow Fault
any_body n frame = tag_of n frame then (λ tag. by_tag n frame tag)

-- the row of the text of line n
abbrev pub row_of : ℕ → List ℕ → Result TextRow Fault
row_of n text = digits_test n text then (λ _. any_body n (bytes text))
