-- The operations' answers, and what stands for them: the number of paper 01's table, and the causes by number and by name. Assumes
-- nothing.
use Rattle.std.specs.Prelude.{List, [], ◌∷◌, ℕ, zero, suc, Result, Ok, Err, codes}
use Rattle.std.proofs.Math.Option.{Option, some, none}
use Rattle.alf_spec.specs.declared.Fault.{Fault}
use Rattle.alf_spec.specs.declared.Fault.TheVariants.{PictureSize, CtbSize, BitDepth, ChromaFormat, Length, VirtualBoundary, Tile}
use Rattle.alf_spec.specs.declared.Fault.TheVariants.{Slice, Subpicture, Parameter, Filter, Sample, Address, Region, Position}
use Rattle.alf_spec.specs.declared.Fault.TheVariants.{FieldCutShort, FieldUnlisted, FieldOutOfPlace}
use Rattle.alf_spec.specs.declared.ClipCause.{ClipCause}
use Rattle.alf_spec.specs.declared.ClipCause.TheVariants as cause
use Rattle.alf_spec.specs.declared.SideCauses.{SideCauses}

-- 01's table, and the cards of 02: the number of each fault
abbrev pub fault_number : Fault → ℕ
fault_number PictureSize = 1
fault_number CtbSize = 2
fault_number BitDepth = 3
fault_number ChromaFormat = 4
fault_number Length = 5
fault_number VirtualBoundary = 6
fault_number Tile = 7
fault_number Slice = 8
fault_number Subpicture = 9
fault_number Parameter = 10
fault_number Filter = 11
fault_number Sample = 12
fault_number Address = 13
fault_number Region = 14
fault_number Position = 15
fault_number FieldCutShort = 16
fault_number FieldUnlisted = 17
fault_number FieldOutOfPlace = 18

-- what an operation answers, or why it rejects what it was given: accepted work has the number 0
abbrev pub number_of : {A : Type 0} → Result A Fault → ℕ
number_of (Ok a) = 0
number_of (Err f) = fault_number f

-- what it answers; none where it rejects
abbrev pub answer_of : {A : Type 0} → Result A Fault → Option A
answer_of (Ok a) = some a
answer_of (Err f) = none

-- 02, card 1: "open, line, virtual boundary, tile, slice, subpicture"
abbrev pub cause_number : ClipCause → ℕ
cause_number cause.Open = 0
cause_number cause.LineBufferBoundary = 1
cause_number cause.VirtualBoundary = 2
cause_number cause.Tile = 3
cause_number cause.Slice = 4
cause_number cause.Subpicture = 5

-- 02, card 1: the same by their names, as bytes
abbrev pub cause_name : ClipCause → List ℕ
cause_name cause.Open = codes "open"
cause_name cause.LineBufferBoundary = codes "line-buffer boundary"
cause_name cause.VirtualBoundary = codes "virtual boundary"
cause_name cause.Tile = codes "tile"
cause_name cause.Slice = codes "slice"
cause_name cause.Subpicture = codes "subpicture"

-- top, bottom, left, right
abbrev pub cause_numbers : SideCauses → List ℕ
cause_numbers c = cause_number c.top ∷ cause_number c.bottom ∷ cause_number c.left ∷ cause_number c.right ∷ []

-- what stands in an output in the end, by the number that is returned: what is new where the input is accepted, else what stood there
abbrev pub kept : {A : Type 0} → ℕ → A → A → A
kept zero new old = new
kept (suc n) new old = old
