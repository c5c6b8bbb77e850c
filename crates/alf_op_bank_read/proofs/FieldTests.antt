-- How far a field reaches, and what the tests of its clips and bytes say by what the code has found. Assumes nothing.
use mathlib.Core.Path.{◌≡◌}
use mathlib.Core.Bool.{Bool, true, false}
use mathlib.Core.List.{List}
use Prim.Native.Nat.{ℕ, ◌+◌, ◌*◌, ◌≤◌}
use native.Mathlib.Omega.{arith}
use lib.Dec.{eqb}
use lib.ListN.{length, get_or}
use Rattle.alf_spec.specs.Lists.{all_below}
use Rattle.alf_bank.specs.declared.FilterShape.{FilterShape}
use Rattle.alf_bank.specs.Filters.{shape_of}
use Rattle.alf_bank.specs.Reading.{whole, listed, is_depth, clip_fits, clips_valid, byte_zero, zero_field}
use Rattle.alf_bank.proofs.FieldFaults.{size_small, whole_reach, filter_length_lem, has_depth}
use Rattle.alf_op_bank_read.specs.Fields.{Reaches}

-- ---- how far a field reaches

module _ (f : List ℕ) where
  pub has_head : whole f ≡ true → 3 ≤ length f
  has_head w = (whole_reach f w).0

  pub filter_reaches : whole f ≡ true → listed f ≡ true → is_depth f ≡ false → Reaches f
  filter_reaches w l n = let p = whole_reach f w in let q = filter_length_lem f l n in omega arith

  -- every filter has more bytes than the longest leading numbers
  pub has_leads : Reaches f → 6 ≤ length f
  has_leads h = let p = size_small (get_or f 0 0) in omega arith

-- what a search tries to know of how far a field reaches
pub ruleset reaches = (has_head, has_depth, filter_reaches, has_leads)

-- ---- the tests of every clip and of every byte, by the numbers that the code has

module _ (f : List ℕ) where
  -- the shape of the tag's filters
  abbrev shape : FilterShape
  shape = shape_of (get_or f 0 0)

  pub zero_from : (j : ℕ) {a : ℕ} → a ≡ shape.leads → eqb (get_or f (3 + (a + j)) 0) 0 ≡ byte_zero f j
  unfolding byte_zero
  zero_from j e = rw e

  -- n clips, or n bytes, were tested, and those are all
  pub clips_are : (limit : ℕ) {n : ℕ} {r : Bool} → n ≡ shape.clips → r ≡ all_below n (clip_fits limit f) → r ≡ clips_valid limit f
  unfolding clips_valid
  clips_are limit e q = rw e at q

  pub zeros_are : {n : ℕ} {r : Bool} → n ≡ shape.coeffs + 2 * shape.clips → r ≡ all_below n (byte_zero f) → r ≡ zero_field f
  unfolding zero_field
  zeros_are e q = rw e at q
