-- After each call the sum is that of the taps so far. Assumes nothing.
use Rattle.std.proofs.Common.{List, ℕ, ◌+◌, ◌<◌, ℤ, w32, to_z, of_z, arith, rules}
use Rattle.alf_spec.specs.Arithmetic.{tap_sum}
use Rattle.alf_math.proofs.TapByTap.{summed_none}
use Rattle.alf_taps.proofs.SpreadTaps.{TapsGiven, SpreadSum, tap_added, tap_ready}
use Rattle.alf_taps.specs.declared.TapSource.{TapSource}
use Rattle.alf_chroma.specs.declared.kernel.ChromaStarts.{ChromaStarts}
use Rattle.alf_chroma.specs.Samples.{ChromaReads, copy_plus, copy_minus}
use Rattle.alf_chroma.proofs.kernel.chroma_sum.Goals as goal
use Rattle.alf_chroma.proofs.kernel.chroma_sum.Goals.{After-add_tap-s0, After-add_tap-s1, After-add_tap-s2}
use Rattle.alf_chroma.proofs.kernel.chroma_sum.Goals.{After-add_tap-s3, After-add_tap-s4}

-- (1508): the first of each tap's pair
abbrev plus : TapSource ChromaStarts → ℕ → List ℕ
plus s x = copy_plus s.copy.now s.starts x

-- (1508): the second of each tap's pair
abbrev minus : TapSource ChromaStarts → ℕ → List ℕ
minus s x = copy_minus s.copy.now s.starts x

-- r, which a call returned, is the sum of the first n taps
abbrev Sum : TapSource ChromaStarts → ℕ → ℕ → ℕ → ℤ → Type 0
Sum s x curr n r = SpreadSum s.taps.now x curr (plus s x) (minus s x) n (to_z w32 (of_z w32 r))

-- the taps' numbers, and what stands in the copy down to the lowest row
given : (s : TapSource ChromaStarts) (x curr : ℕ) → (ChromaReads s.copy.now s.starts x) × (curr < 4096) × (x < 128)
    → TapsGiven s.copy.now s.taps.now x curr (s.starts.below2 + x + 6)
given s x curr h = record { numbers = s.numbers; column = h.2; sample = h.1; room = h.0.room; samples = h.0.samples }

sum-1 : (c : After-add_tap-s0) → Sum c.args.source.now c.args.x c.args.curr 1 c.add_tap-s0.result
unfolding copy_plus copy_minus
sum-1 c =
    let s = c.args.source.now in
    let x = c.args.x in
    tap_added (given s x c.args.curr c.requires) (plus s x) (minus s x)
    summed_none (omega arith) c.add_tap-s0.type_inv c.add_tap-s0.ensures

sum-2 : (c : After-add_tap-s1) → Sum c.args.source.now c.args.x c.args.curr 2 c.add_tap-s1.result
unfolding copy_plus copy_minus
sum-2 c =
    let s = c.args.source.now in
    let x = c.args.x in
    let last : After-add_tap-s0 = search rules in
    tap_added (given s x c.args.curr c.requires) (plus s x) (minus s x)
    (sum-1 last) (omega arith) c.add_tap-s1.type_inv c.add_tap-s1.ensures

sum-3 : (c : After-add_tap-s2) → Sum c.args.source.now c.args.x c.args.curr 3 c.add_tap-s2.result
unfolding copy_plus copy_minus
sum-3 c =
    let s = c.args.source.now in
    let x = c.args.x in
    let last : After-add_tap-s1 = search rules in
    tap_added (given s x c.args.curr c.requires) (plus s x) (minus s x)
    (sum-2 last) (omega arith) c.add_tap-s2.type_inv c.add_tap-s2.ensures

sum-4 : (c : After-add_tap-s3) → Sum c.args.source.now c.args.x c.args.curr 4 c.add_tap-s3.result
unfolding copy_plus copy_minus
sum-4 c =
    let s = c.args.source.now in
    let x = c.args.x in
    let last : After-add_tap-s2 = search rules in
    tap_added (given s x c.args.curr c.requires) (plus s x) (minus s x)
    (sum-3 last) (omega arith) c.add_tap-s3.type_inv c.add_tap-s3.ensures

sum-5 : (c : After-add_tap-s4) → Sum c.args.source.now c.args.x c.args.curr 5 c.add_tap-s4.result
unfolding copy_plus copy_minus
sum-5 c =
    let s = c.args.source.now in
    let x = c.args.x in
    let last : After-add_tap-s3 = search rules in
    tap_added (given s x c.args.curr c.requires) (plus s x) (minus s x)
    (sum-4 last) (omega arith) c.add_tap-s4.type_inv c.add_tap-s4.ensures

pub add_tap-s1-requires : goal.add_tap-s1-requires
add_tap-s1-requires c =
    let s = c.args.source.now in
    let x = c.args.x in
    let r = s.starts in
    tap_ready (given s x c.args.curr c.requires) (plus s x) (minus s x)
    r.below1 4 r.above1 2 128 (sum-1 c) (omega (arith, c.requires.0.rise))

pub add_tap-s2-requires : goal.add_tap-s2-requires
add_tap-s2-requires c =
    let s = c.args.source.now in
    let x = c.args.x in
    let r = s.starts in
    tap_ready (given s x c.args.curr c.requires) (plus s x) (minus s x)
    r.below1 3 r.above1 3 256 (sum-2 c) (omega (arith, c.requires.0.rise))

pub add_tap-s3-requires : goal.add_tap-s3-requires
add_tap-s3-requires c =
    let s = c.args.source.now in
    let x = c.args.x in
    let r = s.starts in
    tap_ready (given s x c.args.curr c.requires) (plus s x) (minus s x)
    r.below1 2 r.above1 4 384 (sum-3 c) (omega (arith, c.requires.0.rise))

pub add_tap-s4-requires : goal.add_tap-s4-requires
add_tap-s4-requires c =
    let s = c.args.source.now in
    let x = c.args.x in
    let r = s.starts in
    tap_ready (given s x c.args.curr c.requires) (plus s x) (minus s x)
    r.here 5 r.here 1 512 (sum-4 c) (omega (arith, c.requires.0.rise))

pub add_tap-requires : goal.add_tap-requires
add_tap-requires c =
    let s = c.args.source.now in
    let x = c.args.x in
    let r = s.starts in
    tap_ready (given s x c.args.curr c.requires) (plus s x) (minus s x)
    r.here 4 r.here 2 640 (sum-5 c) (omega (arith, c.requires.0.rise))

pub returns : goal.returns
unfolding copy_plus copy_minus tap_sum
returns c =
    let s = c.args.source.now in
    let x = c.args.x in
    let last : After-add_tap-s4 = search rules in
    (tap_added (given s x c.args.curr c.requires) (plus s x) (minus s x)
    (sum-5 last) (omega arith) c.add_tap.type_inv c.add_tap.ensures).is
