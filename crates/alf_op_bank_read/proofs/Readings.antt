-- What is known of a file that is accepted, and the bank that it is stored in. Assumes nothing.
use mathlib.Core.Path.{◌≡◌, ◌∙◌}
use mathlib.Core.List.{List}
use Prim.Native.Nat.{ℕ, ◌≤◌, ◌^◌}
use native.Mathlib.Omega.{arith}
use borrow.Author.Tests.{eqb-true}
use lib.Dec.{eqb}
use lib.Pow.{pow_mono}
use lib.IntN.{ℤ, pos}
use lib.ListN.{length, get_or, drop, replicate}
use Rattle.alf_spec.specs.Faults.{unless}
use Rattle.alf_spec.proofs.Accepted.{passed}
use Rattle.alf_bank.specs.Reading.{length_of, fields, filters_fault, fields_fault, read_depth, filled, read_bank, read_fault}
use Rattle.alf_bank.proofs.AcceptedFiles.{read_faults}
use Rattle.alf_bank.proofs.FieldFaults.{depth_small}

-- the bank has the length n
module _ (file : List ℕ) (n : ℕ) (ok : read_fault file n ≡ 0) where
  accepted : (n ≡ 6016) × (read_fault file 6016 ≡ 0)
  unfolding read_fault unless
  accepted =
      let p = passed (eqb n 6016) 4 (fields_fault (fields file 0)) ok in
      (eqb-true n 6016 p.0, p.1)

  pub read-size : n ≡ 6016
  read-size = accepted.0

  -- the first field says the bit depth
  first : (4 ≤ length file) × (8 ≤ get_or file 3 0) × (get_or file 3 0 ≤ 12) × (length_of file ≡ 1)
  first = depth_small file 0 0 (read_faults file accepted.1).0

  pub read_there : 4 ≤ length file
  read_there = first.0

  -- the code has the depth d, and from it the limit of the clips
  module _ {d : ℕ} (q : d ≡ read_depth file) where
    pub read-depth : d ≤ 12
    unfolding read_depth
    read-depth = let t = first in omega arith

    module _ {limit : ℕ} (l : limit ≡ 2 ^ d) where
      pub read-limit : limit ≤ 4096
      read-limit = rw l (pow_mono read-depth)

      pub read-filters : filters_fault limit 0 (fields (drop 4 file) 0) ≡ 0
      read-filters = rw (l, q) (read_faults file accepted.1).1

  -- the bank is filled with zeros before the filters are stored
  pub read_stored : {new : List ℤ} → new ≡ filled (replicate n (pos 0)) (fields (drop 4 file) 0) → new ≡ read_bank file
  unfolding read_bank
  read_stored q = q ∙ rw read-size
