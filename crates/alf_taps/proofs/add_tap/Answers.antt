-- The sum so far is at most 11 taps, and a tap is small.
use Rattle.std.proofs.Common.{◌≡◌, ◌+◌, ◌^◌, ◌≤◌, pos, get_or, arith}
use lib.IntN.{ℤ, nat_abs, ◌+ℤ◌}
use mir.Facts.{to_z-of_z}
use mir.Syntax.{w32}
use mir.Val.{SFits, to_z, of_z}
use Rattle.alf_spec.specs.Arithmetic.{tap}
use Rattle.alf_math.specs.Integers.{CoeffRange, ClipRange}
use Rattle.alf_math.proofs.Magnitude.{abs_add, abs_tap, fits_abs, returned}
use Rattle.alf_taps.specs.Spread.{clips_at}
use Rattle.alf_taps.proofs.SpreadTaps.{coefficient_fits, clip_fits}
use Rattle.alf_taps.proofs.add_tap.Goals as goal

pub tap-requires : goal.tap-requires
tap-requires c =
    let coeff : ℤ = get_or c.args.taps.now (c.args.at + c.args.x) (pos 0) in
    let f : CoeffRange coeff = c.requires.7.coefficients _ c.requires.6 in
    let g = c.requires.7.clips _ c.requires.6 in
    simp (to_z-of_z, coefficient_fits coeff f, clip_fits g) (c.requires.1, f, g, c.requires.4, c.requires.5)

-- where the tap is known
module _ (c : goal.After-tap) where
  abbrev coeff : ℤ
  coeff = get_or c.args.taps.now (c.args.at + c.args.x) (pos 0)

  abbrev clip : ℤ
  clip = get_or c.args.taps.now (clips_at + (c.args.at + c.args.x)) (pos 0)

  coeff-range : CoeffRange coeff
  coeff-range = c.requires.7.coefficients _ c.requires.6

  clip_range : ClipRange clip
  clip_range = c.requires.7.clips _ c.requires.6

  abbrev added : ℤ
  added = let a = c.args in tap a.curr coeff clip (get_or a.copy.now (a.plus + a.x + a.i) 0) (get_or a.copy.now (a.minus + a.x + a.j) 0)

  total_fits : SFits w32 (c.args.sum +ℤ added)
  total_fits =
      let small : nat_abs added ≤ 2 ^ 20 = abs_tap _ _ _ coeff-range clip_range.small _ _ in
      fits_abs (omega (arith, abs_add c.args.sum added, c.requires.0))

  valued : to_z w32 (of_z w32 c.tap.result) ≡ added
  valued = returned w32 c.tap.type_inv (simp (to_z-of_z, coefficient_fits coeff coeff-range, clip_fits clip_range) at c.tap.ensures)

pub overflow_add-result : goal.overflow_add-result
overflow_add-result c = simp (to_z-of_z, c.ranges.sum, valued c) (total_fits c)

pub returns : goal.returns
returns c = simp (to_z-of_z, c.ranges.sum, valued c, total_fits c)
