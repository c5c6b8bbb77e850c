-- After each call the sum is that of the taps so far. Assumes nothing.
use Rattle.std.proofs.Common.{ℕ, ◌+◌, ◌*◌, get_or, ℤ, pos, ◌-ℤ◌, ◌*ℤ◌, w32, to_z, of_z, refl, arith}
use Rattle.std.proofs.Math.Nat.{le_refl}
use Rattle.alf_spec.specs.CrossComponent.{cross_sum}
use Rattle.alf_math.proofs.TapByTap.{Summed, summed_none}
use Rattle.alf_cross.specs.declared.kernel.CrossStarts.{CrossStarts}
use Rattle.alf_cross.specs.declared.source.CrossSource.{CrossSource}
use Rattle.alf_cross.specs.Taps.{split_taps, split_sum}
use Rattle.alf_cross.proofs.TapSums.{tap_ready, tap_added}
use Rattle.alf_cross.proofs.kernel.cross_sum.Goals as goal
use Rattle.alf_cross.proofs.kernel.cross_sum.Goals.{After-cross_tap-s0, After-cross_tap-s1, After-cross_tap-s2}
use Rattle.alf_cross.proofs.kernel.cross_sum.Goals.{After-cross_tap-s3, After-cross_tap-s4, After-cross_tap-s5}

-- tap j of sample `at` of its row
abbrev tap : CrossSource → CrossStarts → ℕ → ℕ → ℤ
tap source s at j =
    get_or source.coeffs j (pos 0)
    *ℤ (pos (get_or (split_taps source.split.now s at) j 0) -ℤ pos (get_or source.split.now (s.here + at + s.own) 0))

-- r, which a call returned, is the sum of the first n taps
abbrev Sum : CrossSource → CrossStarts → ℕ → ℕ → ℤ → Type 0
Sum source s at n r = Summed (tap source s at) (128 * 4095) n (to_z w32 (of_z w32 r))

sum-1 : (c : After-cross_tap-s0) → Sum c.args.source.now c.args.s c.args.at 1 c.cross_tap-s0.result
unfolding split_taps
sum-1 c =
    let f = c.args.source.now in
    let s = c.args.s in
    tap_added c.requires (get_or f.coeffs 0 (pos 0)) (f.small.each 0) s.above1 s.own c.requires.above_first (omega arith) summed_none
    c.cross_tap-s0.ensures refl c.cross_tap-s0.type_inv

sum-2 : (c : After-cross_tap-s1) → Sum c.args.source.now c.args.s c.args.at 1 c.cross_tap-s0.result
    → Sum c.args.source.now c.args.s c.args.at 2 c.cross_tap-s1.result
unfolding split_taps
sum-2 c so_far =
    let f = c.args.source.now in
    let s = c.args.s in
    tap_added c.requires (get_or f.coeffs 1 (pos 0)) (f.small.each 1) s.here s.left c.requires.here_first (omega arith) so_far
    c.cross_tap-s1.ensures refl c.cross_tap-s1.type_inv

sum-3 : (c : After-cross_tap-s2) → Sum c.args.source.now c.args.s c.args.at 2 c.cross_tap-s1.result
    → Sum c.args.source.now c.args.s c.args.at 3 c.cross_tap-s2.result
unfolding split_taps
sum-3 c so_far =
    let f = c.args.source.now in
    let s = c.args.s in
    tap_added c.requires (get_or f.coeffs 2 (pos 0)) (f.small.each 2) s.here s.right c.requires.here_first (omega arith) so_far
    c.cross_tap-s2.ensures refl c.cross_tap-s2.type_inv

sum-4 : (c : After-cross_tap-s3) → Sum c.args.source.now c.args.s c.args.at 3 c.cross_tap-s2.result
    → Sum c.args.source.now c.args.s c.args.at 4 c.cross_tap-s3.result
unfolding split_taps
sum-4 c so_far =
    let f = c.args.source.now in
    let s = c.args.s in
    tap_added c.requires (get_or f.coeffs 3 (pos 0)) (f.small.each 3) s.below1 s.left c.requires.below_first (omega arith) so_far
    c.cross_tap-s3.ensures refl c.cross_tap-s3.type_inv

sum-5 : (c : After-cross_tap-s4) → Sum c.args.source.now c.args.s c.args.at 4 c.cross_tap-s3.result
    → Sum c.args.source.now c.args.s c.args.at 5 c.cross_tap-s4.result
unfolding split_taps
sum-5 c so_far =
    let f = c.args.source.now in
    let s = c.args.s in
    tap_added c.requires (get_or f.coeffs 4 (pos 0)) (f.small.each 4) s.below1 s.own c.requires.below_first (omega arith) so_far
    c.cross_tap-s4.ensures refl c.cross_tap-s4.type_inv

sum-6 : (c : After-cross_tap-s5) → Sum c.args.source.now c.args.s c.args.at 5 c.cross_tap-s4.result
    → Sum c.args.source.now c.args.s c.args.at 6 c.cross_tap-s5.result
unfolding split_taps
sum-6 c so_far =
    let f = c.args.source.now in
    let s = c.args.s in
    tap_added c.requires (get_or f.coeffs 5 (pos 0)) (f.small.each 5) s.below1 s.right c.requires.below_first (omega arith) so_far
    c.cross_tap-s5.ensures refl c.cross_tap-s5.type_inv

pub cross_tap-s1-requires : goal.cross_tap-s1-requires
cross_tap-s1-requires c =
    let at = goal.at.cross_tap-s1-requires c in
    let f = c.args.source.now in
    let s = c.args.s in
    tap_ready c.requires (get_or f.coeffs 1 (pos 0)) (f.small.each 1) s.here s.left c.requires.here_first (omega arith)
    (sum-1 at.After-cross_tap-s0) (omega arith)

pub cross_tap-s2-requires : goal.cross_tap-s2-requires
cross_tap-s2-requires c =
    let at = goal.at.cross_tap-s2-requires c in
    let f = c.args.source.now in
    let s = c.args.s in
    tap_ready c.requires (get_or f.coeffs 2 (pos 0)) (f.small.each 2) s.here s.right c.requires.here_first (omega arith)
    (sum-2 at.After-cross_tap-s1 (sum-1 at.After-cross_tap-s0)) (omega arith)

pub cross_tap-s3-requires : goal.cross_tap-s3-requires
cross_tap-s3-requires c =
    let at = goal.at.cross_tap-s3-requires c in
    let f = c.args.source.now in
    let s = c.args.s in
    tap_ready c.requires (get_or f.coeffs 3 (pos 0)) (f.small.each 3) s.below1 s.left c.requires.below_first (omega arith)
    (sum-3 at.After-cross_tap-s2 (sum-2 at.After-cross_tap-s1 (sum-1 at.After-cross_tap-s0))) (omega arith)

pub cross_tap-s4-requires : goal.cross_tap-s4-requires
cross_tap-s4-requires c =
    let at = goal.at.cross_tap-s4-requires c in
    let f = c.args.source.now in
    let s = c.args.s in
    tap_ready c.requires (get_or f.coeffs 4 (pos 0)) (f.small.each 4) s.below1 s.own c.requires.below_first (omega arith)
    (sum-4 at.After-cross_tap-s3 (sum-3 at.After-cross_tap-s2 (sum-2 at.After-cross_tap-s1 (sum-1 at.After-cross_tap-s0)))) (omega arith)

pub cross_tap-s5-requires : goal.cross_tap-s5-requires
cross_tap-s5-requires c =
    let at = goal.at.cross_tap-s5-requires c in
    let f = c.args.source.now in
    let s = c.args.s in
    tap_ready c.requires (get_or f.coeffs 5 (pos 0)) (f.small.each 5) s.below1 s.right c.requires.below_first (omega arith)
    (sum-5 at.After-cross_tap-s4 (sum-4 at.After-cross_tap-s3 (sum-3 at.After-cross_tap-s2
    (sum-2 at.After-cross_tap-s1 (sum-1 at.After-cross_tap-s0))))) (omega arith)

pub cross_tap-requires : goal.cross_tap-requires
cross_tap-requires c =
    let at = goal.at.cross_tap-requires c in
    let f = c.args.source.now in
    let s = c.args.s in
    tap_ready c.requires (get_or f.coeffs 6 (pos 0)) (f.small.each 6) s.below2 s.own (le_refl _) (omega arith)
    (sum-6 at.After-cross_tap-s5 (sum-5 at.After-cross_tap-s4 (sum-4 at.After-cross_tap-s3
    (sum-3 at.After-cross_tap-s2 (sum-2 at.After-cross_tap-s1 (sum-1 at.After-cross_tap-s0)))))) (omega arith)

pub returns : goal.returns
unfolding split_taps split_sum cross_sum
returns c =
    let at = goal.at.returns c in
    let f = c.args.source.now in
    let s = c.args.s in
    let so_far = sum-6 at.After-cross_tap-s5 (sum-5 at.After-cross_tap-s4 (sum-4 at.After-cross_tap-s3
    (sum-3 at.After-cross_tap-s2 (sum-2 at.After-cross_tap-s1 (sum-1 at.After-cross_tap-s0))))) in
    let all = tap_added c.requires (get_or f.coeffs 6 (pos 0)) (f.small.each 6) s.below2 s.own (le_refl _) (omega arith) so_far
    c.cross_tap.ensures refl c.cross_tap.type_inv in
    (all.is, all.small)
