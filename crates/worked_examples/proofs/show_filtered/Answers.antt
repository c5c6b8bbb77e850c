-- A tap is small, so that 7 bits off it stays so. Assumes nothing.
use Rattle.std.proofs.Common.{arith, ◌≡◌, pos, w32, to_z, of_z}
use Rattle.alf_spec.specs.Arithmetic.{tap}
use Rattle.alf_math.proofs.Magnitude.{abs_tap, words, returned}
use Rattle.worked_examples.proofs.show_filtered.Given.{Over}
use Rattle.worked_examples.proofs.show_filtered.Goals as goal

result : (g : Over) (c : goal.After-tap g) → to_z w32 (of_z w32 c.tap.result) ≡ tap 10 (pos 64) c.args.c 14 10
result g c = returned w32 c.tap.type_inv (simp (words, c.ranges.c) at c.tap.ensures)

pub filtered-requires : goal.filtered-requires
filtered-requires g c =
    let small = abs_tap 10 (pos 64) c.args.c (omega arith) c.requires.small 14 10 in
    (omega arith, rw (result g c) (omega (arith, small)), omega arith, omega arith)
