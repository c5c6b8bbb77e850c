-- After each call the sum is that of the taps so far. Assumes nothing.
use Rattle.std.proofs.Common.{◌≡◌, List, ℕ, suc, ◌+◌, ◌^◌, ◌<◌, ℤ, ◌+ℤ◌, w32, to_z, of_z, arith, rules}
use lib.Signed.{mag}
use mir.Val.{hbits}
use Rattle.alf_spec.specs.Arithmetic.{tap_sum}
use Rattle.alf_math.proofs.TapByTap.{summed_none}
use Rattle.alf_taps.specs.declared.TapSource.{TapSource}
use Rattle.alf_taps.proofs.SpreadTaps.{TapsGiven, spread_tap, SpreadSum, tap_added, tap_ready}
use Rattle.alf_luma.specs.declared.kernel.Starts.{Starts}
use Rattle.alf_luma.specs.Kernel.{RowReads, plus_samples, minus_samples}
use Rattle.alf_luma.proofs.kernel.luma_sum.Goals as goal
use Rattle.alf_luma.proofs.kernel.luma_sum.Goals.{After-add_tap-s0, After-add_tap-s1, After-add_tap-s2, After-add_tap-s3}
use Rattle.alf_luma.proofs.kernel.luma_sum.Goals.{After-add_tap-s4, After-add_tap-s5, After-add_tap-s6, After-add_tap-s7}
use Rattle.alf_luma.proofs.kernel.luma_sum.Goals.{After-add_tap-s8, After-add_tap-s9, After-add_tap-s10}

-- (1467): the first of each tap's pair
abbrev plus : TapSource Starts → ℕ → List ℕ
plus s x = plus_samples s.copy.now s.starts x

-- (1467): the second of each tap's pair
abbrev minus : TapSource Starts → ℕ → List ℕ
minus s x = minus_samples s.copy.now s.starts x

-- r, which a call returned, is the sum of the first n taps
abbrev Sum : TapSource Starts → ℕ → ℕ → ℕ → ℤ → Type 0
Sum s x curr n r = SpreadSum s.taps.now x curr (plus s x) (minus s x) n (to_z w32 (of_z w32 r))

-- what the function is given, and so the taps' numbers and the seven columns from x on of the rows, down to the lowest
module _ (s : TapSource Starts) (x curr : ℕ) (h : (RowReads s.copy.now s.starts (x + 1)) × (curr < 4096) × (x < 128)) where
  given : TapsGiven s.copy.now s.taps.now x curr (s.starts.below3 + x + 7)
  given = record {
    numbers = s.numbers;
    column = h.2;
    sample = h.1;
    room = omega (arith, h.0.room);
    samples = λ k l. h.0.samples k (omega arith);
  }

  -- the sum with one tap more
  added : {n : ℕ} {z r : ℤ} → SpreadSum s.taps.now x curr (plus s x) (minus s x) n z → n < 12 → mag r < 2 ^ hbits w32
      → r ≡ z +ℤ spread_tap s.taps.now x curr (plus s x) (minus s x) n → Sum s x curr (suc n) r
  added = tap_added given (plus s x) (minus s x)

sum-1 : (c : After-add_tap-s0) → Sum c.args.source.now c.args.x c.args.curr 1 c.add_tap-s0.result
sum-1 c = added c.args.source.now c.args.x c.args.curr c.requires summed_none (omega arith) c.add_tap-s0.type_inv c.add_tap-s0.ensures

sum-2 : (c : After-add_tap-s1) → Sum c.args.source.now c.args.x c.args.curr 2 c.add_tap-s1.result
sum-2 c =
    let last : After-add_tap-s0 = search rules in
    added c.args.source.now c.args.x c.args.curr c.requires (sum-1 last) (omega arith) c.add_tap-s1.type_inv c.add_tap-s1.ensures

sum-3 : (c : After-add_tap-s2) → Sum c.args.source.now c.args.x c.args.curr 3 c.add_tap-s2.result
sum-3 c =
    let last : After-add_tap-s1 = search rules in
    added c.args.source.now c.args.x c.args.curr c.requires (sum-2 last) (omega arith) c.add_tap-s2.type_inv c.add_tap-s2.ensures

sum-4 : (c : After-add_tap-s3) → Sum c.args.source.now c.args.x c.args.curr 4 c.add_tap-s3.result
sum-4 c =
    let last : After-add_tap-s2 = search rules in
    added c.args.source.now c.args.x c.args.curr c.requires (sum-3 last) (omega arith) c.add_tap-s3.type_inv c.add_tap-s3.ensures

sum-5 : (c : After-add_tap-s4) → Sum c.args.source.now c.args.x c.args.curr 5 c.add_tap-s4.result
sum-5 c =
    let last : After-add_tap-s3 = search rules in
    added c.args.source.now c.args.x c.args.curr c.requires (sum-4 last) (omega arith) c.add_tap-s4.type_inv c.add_tap-s4.ensures

sum-6 : (c : After-add_tap-s5) → Sum c.args.source.now c.args.x c.args.curr 6 c.add_tap-s5.result
sum-6 c =
    let last : After-add_tap-s4 = search rules in
    added c.args.source.now c.args.x c.args.curr c.requires (sum-5 last) (omega arith) c.add_tap-s5.type_inv c.add_tap-s5.ensures

sum-7 : (c : After-add_tap-s6) → Sum c.args.source.now c.args.x c.args.curr 7 c.add_tap-s6.result
sum-7 c =
    let last : After-add_tap-s5 = search rules in
    added c.args.source.now c.args.x c.args.curr c.requires (sum-6 last) (omega arith) c.add_tap-s6.type_inv c.add_tap-s6.ensures

sum-8 : (c : After-add_tap-s7) → Sum c.args.source.now c.args.x c.args.curr 8 c.add_tap-s7.result
sum-8 c =
    let last : After-add_tap-s6 = search rules in
    added c.args.source.now c.args.x c.args.curr c.requires (sum-7 last) (omega arith) c.add_tap-s7.type_inv c.add_tap-s7.ensures

sum-9 : (c : After-add_tap-s8) → Sum c.args.source.now c.args.x c.args.curr 9 c.add_tap-s8.result
sum-9 c =
    let last : After-add_tap-s7 = search rules in
    added c.args.source.now c.args.x c.args.curr c.requires (sum-8 last) (omega arith) c.add_tap-s8.type_inv c.add_tap-s8.ensures

sum-10 : (c : After-add_tap-s9) → Sum c.args.source.now c.args.x c.args.curr 10 c.add_tap-s9.result
sum-10 c =
    let last : After-add_tap-s8 = search rules in
    added c.args.source.now c.args.x c.args.curr c.requires (sum-9 last) (omega arith) c.add_tap-s9.type_inv c.add_tap-s9.ensures

sum-11 : (c : After-add_tap-s10) → Sum c.args.source.now c.args.x c.args.curr 11 c.add_tap-s10.result
sum-11 c =
    let last : After-add_tap-s9 = search rules in
    added c.args.source.now c.args.x c.args.curr c.requires (sum-10 last) (omega arith) c.add_tap-s10.type_inv c.add_tap-s10.ensures

pub add_tap-s1-requires : goal.add_tap-s1-requires
add_tap-s1-requires c =
    let s = c.args.source.now in
    let x = c.args.x in
    let r = s.starts in
    tap_ready (given s x c.args.curr c.requires) (plus s x) (minus s x) r.below2 4 r.above2 2 128 (sum-1 c) (omega (arith, c.requires.0))

pub add_tap-s2-requires : goal.add_tap-s2-requires
add_tap-s2-requires c =
    let s = c.args.source.now in
    let x = c.args.x in
    let r = s.starts in
    tap_ready (given s x c.args.curr c.requires) (plus s x) (minus s x) r.below2 3 r.above2 3 256 (sum-2 c) (omega (arith, c.requires.0))

pub add_tap-s3-requires : goal.add_tap-s3-requires
add_tap-s3-requires c =
    let s = c.args.source.now in
    let x = c.args.x in
    let r = s.starts in
    tap_ready (given s x c.args.curr c.requires) (plus s x) (minus s x) r.below2 2 r.above2 4 384 (sum-3 c) (omega (arith, c.requires.0))

pub add_tap-s4-requires : goal.add_tap-s4-requires
add_tap-s4-requires c =
    let s = c.args.source.now in
    let x = c.args.x in
    let r = s.starts in
    tap_ready (given s x c.args.curr c.requires) (plus s x) (minus s x) r.below1 5 r.above1 1 512 (sum-4 c) (omega (arith, c.requires.0))

pub add_tap-s5-requires : goal.add_tap-s5-requires
add_tap-s5-requires c =
    let s = c.args.source.now in
    let x = c.args.x in
    let r = s.starts in
    tap_ready (given s x c.args.curr c.requires) (plus s x) (minus s x) r.below1 4 r.above1 2 640 (sum-5 c) (omega (arith, c.requires.0))

pub add_tap-s6-requires : goal.add_tap-s6-requires
add_tap-s6-requires c =
    let s = c.args.source.now in
    let x = c.args.x in
    let r = s.starts in
    tap_ready (given s x c.args.curr c.requires) (plus s x) (minus s x) r.below1 3 r.above1 3 768 (sum-6 c) (omega (arith, c.requires.0))

pub add_tap-s7-requires : goal.add_tap-s7-requires
add_tap-s7-requires c =
    let s = c.args.source.now in
    let x = c.args.x in
    let r = s.starts in
    tap_ready (given s x c.args.curr c.requires) (plus s x) (minus s x) r.below1 2 r.above1 4 896 (sum-7 c) (omega (arith, c.requires.0))

pub add_tap-s8-requires : goal.add_tap-s8-requires
add_tap-s8-requires c =
    let s = c.args.source.now in
    let x = c.args.x in
    let r = s.starts in
    tap_ready (given s x c.args.curr c.requires) (plus s x) (minus s x) r.below1 1 r.above1 5 1024 (sum-8 c) (omega (arith, c.requires.0))

pub add_tap-s9-requires : goal.add_tap-s9-requires
add_tap-s9-requires c =
    let s = c.args.source.now in
    let x = c.args.x in
    let r = s.starts in
    tap_ready (given s x c.args.curr c.requires) (plus s x) (minus s x) r.here 6 r.here 0 1152 (sum-9 c) (omega (arith, c.requires.0))

pub add_tap-s10-requires : goal.add_tap-s10-requires
add_tap-s10-requires c =
    let s = c.args.source.now in
    let x = c.args.x in
    let r = s.starts in
    tap_ready (given s x c.args.curr c.requires) (plus s x) (minus s x) r.here 5 r.here 1 1280 (sum-10 c) (omega (arith, c.requires.0))

pub add_tap-requires : goal.add_tap-requires
add_tap-requires c =
    let s = c.args.source.now in
    let x = c.args.x in
    let r = s.starts in
    tap_ready (given s x c.args.curr c.requires) (plus s x) (minus s x) r.here 4 r.here 2 1408 (sum-11 c) (omega (arith, c.requires.0))

pub returns : goal.returns
unfolding tap_sum
returns c =
    let last : After-add_tap-s10 = search rules in
    (added c.args.source.now c.args.x c.args.curr c.requires (sum-11 last) (omega arith) c.add_tap.type_inv c.add_tap.ensures).is
