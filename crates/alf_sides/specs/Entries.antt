-- An entry of the table: a CTB's sides and corners as one number, by the causes' numbers of `alf_spec`. Assumes nothing.
use Rattle.std.specs.Prelude.{Bool, true, false, cond, ℕ, ◌+◌, ◌*◌, ◌/◌, ◌%◌, eqb}
use Rattle.alf_spec.specs.declared.ClipCause.{ClipCause}
use Rattle.alf_spec.specs.declared.ClipCause.TheVariants.{Open, LineBufferBoundary, VirtualBoundary, Tile, Slice, Subpicture}
use Rattle.alf_spec.specs.declared.Sides.{Sides}
use Rattle.alf_spec.specs.Answers.{cause_number}

-- a corner's bit: 1 where filtering across it is disabled
abbrev pub corner_bit : Bool → ℕ
corner_bit true = 1
corner_bit false = 0

-- the entry for these sides: an octal digit for each cause, and a bit for each corner above them
abbrev pub entry_of : Sides → ℕ
entry_of s =
    (cause_number s.left + 8 * cause_number s.right) + (64 * cause_number s.top + 512 * cause_number s.bottom)
    + (4096 * corner_bit s.upper_left + 8192 * corner_bit s.lower_right)

-- the cause with this number: `cause_number` backwards
unfoldable pub cause_numbered : ℕ → ClipCause
cause_numbered n =
    cond (eqb n 1) LineBufferBoundary
    (cond (eqb n 2) VirtualBoundary (cond (eqb n 3) Tile (cond (eqb n 4) Slice (cond (eqb n 5) Subpicture Open))))

-- the sides that an entry holds: `entry_of` backwards, which `proofs/EntrySides` shows
abbrev pub sides_in : ℕ → Sides
sides_in n = record {
  left = cause_numbered (n % 8);
  right = cause_numbered (n / 8 % 8);
  top = cause_numbered (n / 64 % 8);
  bottom = cause_numbered (n / 512 % 8);
  upper_left = eqb (n / 4096 % 2) 1;
  lower_right = eqb (n / 8192 % 2) 1;
}
