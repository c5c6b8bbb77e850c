-- The isolation claim at work: two pictures that differ outside a subpicture whose switch is off, in samples, CTB parameters and list. The
-- premises hold, the luma filter changes samples inside, the two outputs differ outside, and with the switch on they would differ inside.
-- Assumes nothing.
use mathlib.Core.Path.{◌≡◌, refl, ap}
use mathlib.Core.Bool.{Bool, true, false≢true}
use mathlib.Core.List.{List, [], ◌∷◌, ◌++◌}
use Prim.Native.Nat.{ℕ, ◌+◌, ◌*◌, ◌<◌}
use native.Mathlib.Nat.{mul-one}
use lib.IntN.{ℤ, pos}
use lib.Dec.{eqb}
use lib.ListN.{get_or, replicate}
use borrow.Author.Tests.{eqb-true, ltb-true}
use Rattle.alf_spec.specs.Lists.{implies, all_below, elem, tabulate}
use Rattle.alf_spec.specs.Input.{Layout, luma, Input, luma_input}
use Rattle.alf_spec.specs.Geometry.{ctb_size, plane_of, luma_plane, index_of, ctb_at, address}
use Rattle.alf_spec.specs.Boundary.{subpic_of}
use Rattle.alf_spec.specs.Parameters.{ctb_param}
use Rattle.alf_spec.specs.Process.{result_of}
use Rattle.alf_spec.specs.Faults.{fault}
use Rattle.alf_spec.specs.Isolation.{inside, region_of, subpic_region, output_inside}
use Rattle.alf_spec.proofs.Computed.{computed_result, computed_fault}
use Rattle.alf_spec.proofs.Tests.{implied, all_at}
use Rattle.alf_spec.proofs.Examples.{repeated}
use Rattle.alf_spec.proofs.IsolatedRegions.Inside.{Inside}
use Rattle.alf_spec.proofs.IsolatedRegions.SmallRegions.{subpictures, two_subpictures, regions}
use Rattle.alf_spec.proofs.TwoRuns.{TwoRuns, isolation}

-- the left subpicture, whose switch is off
abbrev region : List ℕ
region = subpic_region two_subpictures 0

-- 8 rows: a checkerboard of 0 and 8 in the left subpicture, one value in the right one
abbrev picture : ℕ → List ℕ
picture right = repeated 4 (repeated 16 (0 ∷ 8 ∷ []) ++ replicate 32 right ++ repeated 16 (8 ∷ 0 ∷ []) ++ replicate 32 right)

-- of twelve coefficients the seventh alone is set, to 64: at transpose 3, which a checkerboard has, the taps left and right of the sample
abbrev coefficients : List ℤ
coefficients = replicate 6 (pos 0) ++ (pos 64 ∷ []) ++ replicate 5 (pos 0)

-- the left CTB is filtered; of the right one flag and set are given
abbrev input : Layout → ℕ → ℕ → ℕ → List ℕ → Input
input l right flag set list =
    let ctb_params : List ℕ = 1 ∷ 0 ∷ 0 ∷ 0 ∷ 0 ∷ 0 ∷ 0 ∷ 0 ∷ flag ∷ 0 ∷ 0 ∷ set ∷ 0 ∷ 0 ∷ 0 ∷ 0 ∷ [] in
    luma_input l (replicate 11 0) (replicate 6016 (pos 0)) ctb_params list (repeated 64 coefficients) (replicate 400 0) (picture right) 512

abbrev before : Layout → Input
before l = input l 0 0 0 (0 ∷ [])

-- other samples outside, another flag and filter set for the CTB outside, which is listed here, and the CTB inside is listed twice
abbrev after : Layout → Input
after l = input l 100 1 7 (1 ∷ 0 ∷ 0 ∷ [])

abbrev first : Input
first = before two_subpictures

abbrev second : Input
second = after two_subpictures

accepts : (fault luma first ≡ 0) × (fault luma second ≡ 0)
unfolding computed_fault
accepts = (refl, refl)

-- what a computed test of every sample inside says of one
module _ (test : ℕ → ℕ → Bool) (holds : all_below 8
    (λ y. all_below 64 (λ x. implies (inside two_subpictures region x y) (test x y))) ≡ true) where
  at : (x y : ℕ) → Inside two_subpictures region (luma_plane two_subpictures) x y → test x y ≡ true
  unfolding plane_of
  at x y s =
      let position : inside two_subpictures region x y ≡ true = simp mul-one at s.position in
      implied (inside two_subpictures region x y) (test x y) (all_at 64 _ (all_at 8 _ holds y s.row) x s.column) position

module _ (x y : ℕ) (s : Inside two_subpictures region (luma_plane two_subpictures) x y) where
  same_sample_lem : get_or (picture 0) (index_of (luma_plane two_subpictures) x y) 0 ≡ get_or (picture 100) (index_of (luma_plane two_subpictures) x y) 0
  unfolding all_below tabulate ctb_size plane_of subpic_of inside region_of subpic_region
  same_sample_lem = eqb-true _ _ (at (λ x y. eqb (get_or (picture 0) (y * 64 + x) 0) (get_or (picture 100) (y * 64 + x) 0)) refl x y s)

  -- every sample inside lies in the CTB at address 0
  left : address two_subpictures (ctb_at (luma_plane two_subpictures) x y) ≡ 0
  unfolding all_below tabulate ctb_size plane_of subpic_of inside region_of subpic_region
  left = eqb-true _ 0 (at (λ x y. eqb (address two_subpictures (ctb_at (luma_plane two_subpictures) x y)) 0) refl x y s)

  same_param : (n : ℕ) → n < 8 → ctb_param first (ctb_at (luma_plane two_subpictures) x y) n ≡ ctb_param second
      (ctb_at (luma_plane two_subpictures) x y) n
  unfolding ctb_param all_below
  same_param n h =
      rw left (eqb-true _ _ (all_at 8 (λ n. eqb (get_or first.ctb_params (8 * 0 + n) 0) (get_or second.ctb_params (8 * 0 + n) 0)) refl n h))

  same_listing : elem (address two_subpictures (ctb_at (luma_plane two_subpictures) x y)) (0 ∷ [])
      ≡ elem (address two_subpictures (ctb_at (luma_plane two_subpictures) x y)) (1 ∷ 0 ∷ 0 ∷ [])
  unfolding elem
  same_listing = rw left

pub runs : TwoRuns luma region first second
runs = record {
  first_accepted = accepts.0;
  second_accepted = accepts.1;
  region_isolated = ap (λ (judged : ℕ × Bool). judged.1) regions.0;
  layout = refl;
  slice_params = λ _. refl;
  bank = λ _. refl;
  fixed_filters = λ _. refl;
  fixed_map = λ _. refl;
  luma = λ _. same_sample_lem;
  chroma = λ e. absurd (false≢true e);
  ctb_params = λ _. same_param;
  listed = λ _. same_listing;
}

-- what the luma filter makes of the two, at places of the first row
pub record RewrittenOutside : Type 0 where
  -- it works inside, on samples 0 and 8
  pub filtered-inside : get_or (result_of luma first) 0 0 ∷ get_or (result_of luma first) 1 0 ∷ [] ≡ 4 ∷ 0 ∷ []
  -- what was rewritten has an effect outside
  pub differ_outside : get_or (result_of luma first) 32 0 ∷ get_or (result_of luma second) 32 0 ∷ [] ≡ 0 ∷ 54 ∷ []
  -- what was rewritten would have an effect inside, beside the border, were the left switch on
  pub differ_if_open : get_or (result_of luma (before (subpictures 1))) 31 0 ∷ get_or (result_of luma (after (subpictures 1))) 31 0 ∷ [] ≡ 0 ∷ 50 ∷ []

pub rewritten_outside : RewrittenOutside
unfolding computed_result
rewritten_outside = record { filtered-inside = refl; differ_outside = refl; differ_if_open = refl }

-- the left switch is off, and by the isolation claim nothing that was rewritten has an effect inside, beside the border
pub beside_border : get_or (result_of luma first) 31 0 ≡ get_or (result_of luma second) 31 0
unfolding tabulate ctb_size plane_of subpic_of inside region_of subpic_region output_inside
beside_border = isolation luma region first second runs 31 (ltb-true 31 512 refl) refl
