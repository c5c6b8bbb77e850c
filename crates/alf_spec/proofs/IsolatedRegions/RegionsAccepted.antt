-- Where the layout is accepted, the isolation test accepts every region of whole CTBs: those of slices, tiles and subpictures are
-- `region_of` of a test of their numbers. Assumes nothing.
use mathlib.Core.Path.{◌≡◌, refl}
use mathlib.Core.Bool.{Bool, true, cond}
use Prim.Native.Nat.{ℕ}
use lib.Dec.{leb}
use borrow.Author.Tests.{eq-eqb}
use Rattle.alf_spec.specs.declared.Ctb.{Ctb}
use Rattle.alf_spec.specs.Lists.{every, tabulate}
use Rattle.alf_spec.specs.Input.{Layout}
use Rattle.alf_spec.specs.Geometry.{block_plane, column_of, row_of, ctb_at}
use Rattle.alf_spec.specs.Isolation.{region_of}
use Rattle.alf_spec.specs.Faults.{region_length_valid, region_valid, unless, layout_fault, isolation_fault}
use Rattle.alf_spec.proofs.Tests.{cond_either, at_every}
use Rattle.alf_spec.proofs.Lists.{tabulate-at, tabulate-length}

-- a table of 0s and 1s
bits_valid : (n : ℕ) (test : ℕ → Bool) → every (λ v. leb v 1) (tabulate n (λ k. cond (test k) 1 0)) ≡ true
bits_valid n test =
    at_every 0 0 (λ _ v. leb v 1) (tabulate n (λ k. cond (test k) 1 0)) (λ k h.
    rw (tabulate-at n (λ k. cond (test k) 1 0) k (rw tabulate-length at h)) (cond_either (λ v. leb v 1 ≡ true) (test k) 1 0 refl refl))

module _ (l : Layout) (test : Ctb → Bool) where
  region_length : region_length_valid l (region_of l test) ≡ true
  unfolding region_length_valid region_of
  region_length = eq-eqb _ _ (tabulate-length _ _)

  region_valid_lem : region_valid (region_of l test) ≡ true
  unfolding region_valid region_of
  region_valid_lem = bits_valid _ (λ k. test (ctb_at (block_plane l) (column_of (block_plane l) k) (row_of (block_plane l) k)))

  -- the number of entries and their range, 5 and 14, are all that the region adds to the layout's causes
  pub region_accepted : layout_fault l true true 0 ≡ 0 → isolation_fault l (region_of l test) ≡ 0
  unfolding isolation_fault unless
  region_accepted q = rw (region_length, region_valid_lem) q
