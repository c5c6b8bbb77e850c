-- What the reader's functions ask of a filter's field, and what a step says of a position of the file. Assumes nothing.
use Rattle.std.specs.Prelude.{◌≡◌, false, List, ℕ, suc, ◌+◌, ◌<◌, ◌≤◌, length, drop, Option, Some, None, Result, Ok, Err}
use Rattle.alf_spec.specs.declared.Fault.{Fault}
use Rattle.alf_spec.specs.Answers.{fault_number}
use Rattle.alf_bank.specs.Filters.{shape_of, size_of, order_of}
use Rattle.alf_bank.specs.Reading.{tag_of, length_of, id_of, clip_at, field_fault}
use Rattle.alf_op_bank_read.specs.declared.Step.{Step}

-- the bytes that a filter's tag calls for are there
abbrev pub Reaches : List ℕ → Type 0
Reaches field = 3 + size_of (shape_of (tag_of field)) ≤ length field

-- they are there, and each clip fits a signed 16-bit number
pub record Storable (field : List ℕ) : Type 0 where
  pub reaches : Reaches field
  pub clips : (j : ℕ) → j < (shape_of (tag_of field)).clips → clip_at field j < 32768

-- what stands at a position after tag 1: the end; a faulty field; or a filter's field, with the position and the place in file order
-- after it
abbrev pub Seen : Result (Option Step) Fault → List ℕ → ℕ → ℕ → ℕ → Type 0
Seen (Ok None) file at limit from = length file ≤ at
Seen (Err f) file at limit from = (at < length file) × (fault_number f ≡ field_fault false limit from (drop at file))
Seen (Ok (Some s)) file at limit from =
    (at < length file) × (field_fault false limit from (drop at file) ≡ 0)
    × (s.at ≡ at + (3 + length_of (drop at file))) × (s.from ≡ suc (order_of (id_of (drop at file))))
