-- A bank whose numbers are in range, filter by filter. Assumes nothing.
use mathlib.Core.Path.{◌≡◌, refl}
use mathlib.Core.Bool.{true, false, ◌&&◌, false≢true}
use mathlib.Core.List.{List}
use Prim.Native.Nat.{ℕ, suc, ◌+◌, ◌-◌, ◌*◌, ◌%◌, ◌<◌, ◌≤◌, ◌^◌}
use native.Mathlib.Omega.{arith}
use native.Mathlib.Nat.{zero-add}
use borrow.Author.Tests.{lt-ltb, le-ltb, eqb-true, leb-true, le-leb, lt-leb}
use lib.Dec.{eqb, leb}
use lib.IntN.{ℤ, pos, negsuc, nat_abs, pos-ne-negsuc}
use lib.ListN.{length, get_or}
use Rattle.alf_spec.specs.Faults.{depth_valid, coeff_valid, clip_valid, is_clip, bank_number_valid, bank_numbers_valid}
use Rattle.alf_spec.proofs.Tests.{both, every-at, at_every}
use Rattle.alf_spec.proofs.Accepted.{passed}
use Rattle.alf_bank.specs.declared.FilterId.{FilterId}
use Rattle.alf_bank.specs.Filters.{shape_of, start_of}
use Rattle.alf_bank.specs.Writing.{filter_number, write_fault}
use Rattle.alf_bank.proofs.FileOrder.{Kind, luma, chroma, cross, Part, coeff, clip, part_of, start_fits, owner_at}

-- a clip: not negative, and at most the limit
abbrev pub ClipIn : ℕ → ℤ → Type 0
ClipIn limit z = (pos (nat_abs z) ≡ z) × (nat_abs z ≤ limit)

pub record Valid (limit : ℕ) (bank : List ℤ) : Type 0 where
  pub size : length bank ≡ 6016
  pub coeffs : (i : FilterId) → Kind i → (j : ℕ) → j < (shape_of i.tag).coeffs → coeff_valid (filter_number bank i j) ≡ true
  pub clips : (i : FilterId) → Kind i → (j : ℕ) → j < (shape_of i.tag).clips
      → ClipIn limit (filter_number bank i ((shape_of i.tag).coeffs + j))

-- ---- which numbers of a bank are clips

coeff_place : {i : FilterId} → Kind i → (j : ℕ) → j < (shape_of i.tag).coeffs → is_clip ((start_of i + j) % 752) ≡ false
unfolding shape_of start_of is_clip
coeff_place (luma a f p q) j h =
    let m : (752 * a + 24 * f + j) % 752 ≡ 24 * f + j = omega arith in
    rw (m, lt-ltb (24 * f + j) 600 (omega arith), lt-leb 12 ((24 * f + j) % 24) (omega arith))
coeff_place (chroma a f p q) j h =
    let m : (752 * a + (600 + 12 * f) + j) % 752 ≡ 600 + (12 * f + j) = omega arith in
    rw (m, le-ltb (600 + (12 * f + j)) 600 (omega arith), lt-ltb (600 + (12 * f + j)) 696 (omega arith))
    (lt-leb 6 ((600 + (12 * f + j) - 600) % 12) (omega arith))
coeff_place (cross a c f p r q) j h =
    let m : (752 * a + (696 + (28 * c + 7 * f)) + j) % 752 ≡ 696 + (28 * c + 7 * f + j) = omega arith in
    rw (m, le-ltb (696 + (28 * c + 7 * f + j)) 600 (omega arith), le-ltb (696 + (28 * c + 7 * f + j)) 696 (omega arith))

clip-place : {i : FilterId} → Kind i → (j : ℕ) → j < (shape_of i.tag).clips
    → is_clip ((start_of i + ((shape_of i.tag).coeffs + j)) % 752) ≡ true
unfolding shape_of start_of is_clip
clip-place (luma a f p q) j h =
    let m : (752 * a + 24 * f + (12 + j)) % 752 ≡ 24 * f + (12 + j) = omega arith in
    rw (m, lt-ltb (24 * f + (12 + j)) 600 (omega arith), le-leb 12 ((24 * f + (12 + j)) % 24) (omega arith))
clip-place (chroma a f p q) j h =
    let m : (752 * a + (600 + 12 * f) + (6 + j)) % 752 ≡ 600 + (12 * f + (6 + j)) = omega arith in
    rw (m, le-ltb (600 + (12 * f + (6 + j))) 600 (omega arith), lt-ltb (600 + (12 * f + (6 + j))) 696 (omega arith))
    (le-leb 6 ((600 + (12 * f + (6 + j)) - 600) % 12) (omega arith))
clip-place (cross a c f p r q) j h = absurd (omega arith)

-- ---- to the test of a bank's numbers, and back

clip_in : (depth : ℕ) (z : ℤ) → clip_valid depth z ≡ true → ClipIn (2 ^ depth) z
unfolding clip_valid
clip_in depth (pos n) e = (refl, leb-true n (2 ^ depth) (both (leb 0 n) (leb n (2 ^ depth)) e).1)
clip_in depth (negsuc n) e = absurd (false≢true e)

in_clip : (depth : ℕ) (z : ℤ) → ClipIn (2 ^ depth) z → clip_valid depth z ≡ true
unfolding clip_valid
in_clip depth (pos n) e = rw (le-leb 0 n (omega arith), le-leb n (2 ^ depth) e.1)
in_clip depth (negsuc n) e = absurd (pos-ne-negsuc (suc n) n e.0)

module _ (depth : ℕ) (bank : List ℤ) (size : length bank ≡ 6016) where
  pub valid_of : bank_numbers_valid depth bank ≡ true → Valid (2 ^ depth) bank
  unfolding bank_number_valid filter_number
  valid_of e =
      record {
        size = size;
        coeffs = λ i k j h. rw (coeff_place k j h) at (number k j (omega arith));
        clips = λ i k j h. clip_in depth _ (rw (clip-place k j h) at (number k ((shape_of i.tag).coeffs + j) (omega arith)));
      }
    where
      number : {i : FilterId} → Kind i → (j : ℕ) → j < (shape_of i.tag).coeffs + (shape_of i.tag).clips
          → bank_number_valid depth (start_of i + j) (get_or bank (start_of i + j) (pos 0)) ≡ true
      number {i} k j h =
          let f = start_fits k in
          rw zero-add at (every-at (pos 0) 0 (bank_number_valid depth) bank e (start_of i + j) (omega arith))

  pub of_valid : Valid (2 ^ depth) bank → bank_numbers_valid depth bank ≡ true
  unfolding bank_number_valid filter_number
  of_valid v = at_every (pos 0) 0 (bank_number_valid depth) bank (λ x h. rw zero-add (number x (omega arith)))
    where
      part : {i : FilterId} → Kind i → {j : ℕ} → Part (shape_of i.tag) j
          → bank_number_valid depth (start_of i + j) (get_or bank (start_of i + j) (pos 0)) ≡ true
      part {i} k (coeff j h) = rw (coeff_place k j h) (v.coeffs i k j h)
      part {i} k (clip j h) = rw (clip-place k j h) (in_clip depth _ (v.clips i k j h))

      number : (x : ℕ) → x < 6016 → bank_number_valid depth x (get_or bank x (pos 0)) ≡ true
      number x h =
          let o = owner_at x h in
          let n : start_of o.id + (x - start_of o.id) ≡ x = omega arith in
          rw n at (part o.kind (part_of (shape_of o.id.tag) (x - start_of o.id) (omega arith)))

-- ---- a bank that the writer accepts at a depth, for a buffer of so many bytes

pub record AcceptedBank (depth : ℕ) (bank : List ℤ) (room : ℕ) : Type 0 where
  pub deep : depth_valid depth ≡ true
  pub enough : 10508 ≤ room
  pub numbers : Valid (2 ^ depth) bank

pub accepted-bank : (depth : ℕ) (bank : List ℤ) (room : ℕ) → write_fault depth bank room ≡ 0 → AcceptedBank depth bank room
unfolding write_fault
accepted-bank depth bank room e =
    let deep = passed (depth_valid depth) 2 _ e in
    let lengths = passed (eqb (length bank) 6016 && leb 10508 room) 4 _ deep.1 in
    let numbers = passed (bank_numbers_valid depth bank) 10 0 lengths.1 in
    let long = both (eqb (length bank) 6016) (leb 10508 room) lengths.0 in
    record {
      deep = deep.0;
      enough = leb-true 10508 room long.1;
      numbers = valid_of depth bank (eqb-true (length bank) 6016 long.0) numbers.0;
    }
