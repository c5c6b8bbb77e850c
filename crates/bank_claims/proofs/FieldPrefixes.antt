-- A field that is cut off: as many bytes as the longest field has, 65,538 (tag, length and a value of 65,535), give the same fault as the
-- field with all that follows it. They hold every byte that is judged, and are enough to tell whether the field is whole. Assumes nothing.
use mathlib.Core.Path.{◌≡◌}
use mathlib.Core.Bool.{Bool, true, false}
use mathlib.Core.List.{List}
use Prim.Native.Nat.{ℕ, ◌+◌, ◌*◌, ◌≤◌, ◌<◌, min}
use native.Mathlib.Omega.{arith}
use borrow.Author.Tests.{le-leb, leb-true}
use lib.Dec.{leb}
use lib.ListN.{length, get_or, take, length-take}
use lib.Seq.{get_or-take}
use Rattle.alf_spec.proofs.Tests.{same_test, all_same}
use Rattle.alf_bank.specs.declared.FilterShape.{FilterShape}
use Rattle.alf_bank.specs.Filters.{shape_of}
use Rattle.alf_bank.specs.Reading.{tag_of, length_of, id_of, clip_at, whole, listed, is_depth, clip_fits, clips_valid, byte_zero, zero_field}
use Rattle.alf_bank.specs.Reading.{in_place, proper, field_fault}
use Rattle.alf_bank.proofs.DecodedFields.{ByteReads}
use Rattle.alf_bank.proofs.FieldFaults.{size_small}

-- whether there are a bytes among the first n of l
enough_same : (a n l : ℕ) → a ≤ n → leb a (min n l) ≡ leb a l
enough_same a n l h =
    same_test _ _ (λ t. let p = leb-true a (min n l) t in le-leb a l (omega arith))
    (λ t. let p = leb-true a l t in le-leb a (min n l) (omega arith))

-- the field f, and its first n bytes
module _ (n : ℕ) (f : List ℕ) (long : 65538 ≤ n) where
  pub same_byte : (k : ℕ) → k < 65538 → get_or (take n f) k 0 ≡ get_or f k 0
  same_byte k h = get_or-take n f k 0 (omega arith)

  same_tag : get_or (take n f) 0 0 ≡ get_or f 0 0
  same_tag = same_byte 0 (omega arith)

  pub same_length : length_of (take n f) ≡ length_of f
  unfolding length_of
  same_length = rw (same_byte 1 (omega arith), same_byte 2 (omega arith))

  pub same_id : id_of (take n f) ≡ id_of f
  unfolding id_of
  same_id = rw (same_tag, same_byte 3 (omega arith), same_byte 4 (omega arith), same_byte 5 (omega arith))

  -- two bytes state it
  length-small : ByteReads f → length_of f ≤ 65535
  unfolding length_of
  length-small small = omega (arith, small 1, small 2)

  same_whole : ByteReads f → whole (take n f) ≡ whole f
  unfolding whole
  same_whole small =
      let l = length-small small in
      rw (same_length, length-take, enough_same 3 n (length f) (omega arith), enough_same (3 + length_of f) n (length f) (omega arith))

  same-listed : listed (take n f) ≡ listed f
  unfolding listed
  same-listed = rw (same_length, same_tag)

  same_first : is_depth (take n f) ≡ is_depth f
  unfolding is_depth
  same_first = rw same_tag

  -- the shape of the field's filters
  abbrev s : FilterShape
  s = shape_of (tag_of f)

  same-clip : (j : ℕ) → j < s.clips → clip_at (take n f) j ≡ clip_at f j
  unfolding clip_at
  same-clip j h =
      let z = size_small (tag_of f) in
      let at : ℕ = s.leads + s.coeffs + 2 * j in
      rw (same_tag, same_byte (3 + at) (omega arith), same_byte (3 + (at + 1)) (omega arith))

  same-clips : (limit : ℕ) → clips_valid limit (take n f) ≡ clips_valid limit f
  unfolding clips_valid clip_fits
  same-clips limit = rw same_tag (all_same s.clips (λ j h. rw (same-clip j h)))

  same_zero : zero_field (take n f) ≡ zero_field f
  unfolding zero_field byte_zero
  same_zero =
      let z = size_small (tag_of f) in
      rw same_tag (all_same (s.coeffs + 2 * s.clips) (λ j h. rw (same_tag, same_byte (3 + (s.leads + j)) (omega arith))))

  same_place : (first : Bool) (from : ℕ) → in_place first from (take n f) ≡ in_place first from f
  unfolding in_place
  same_place true from = same_first
  same_place false from = rw (same_first, same_id, same_zero)

  pub same-fault : ByteReads f → (first : Bool) (limit from : ℕ) → field_fault first limit from (take n f) ≡ field_fault first limit from f
  unfolding field_fault proper
  same-fault small first limit from =
      rw (same_whole small, same-listed, same_first, same_byte 3 (omega arith), same-clips limit, same_id, same_place first from)
