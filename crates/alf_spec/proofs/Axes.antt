-- One axis of an accepted picture: its size, CTBs and virtual boundaries are multiples of 8; and the CTB of a position on it. Assumes
-- nothing.
use mathlib.Core.Path.{◌≡◌, sym}
use mathlib.Core.Logic.{◌≢◌, by_cases}
use mathlib.Core.Bool.{true}
use mathlib.Core.List.{List, Memᴰ}
use Prim.Native.Nat.{ℕ, suc, ◌+◌, ◌-◌, ◌*◌, ◌/◌, ◌%◌, ◌^◌, ◌≤◌, ◌<◌}
use native.Mathlib.Nat.{div-mul-le_self, lt-div-mul-add, div-eq_of_lt-le, div-add-mod'}
use native.Mathlib.Decide.{ℕ_discrete}
use native.Mathlib.Omega.{arith}
use lib.Dec.{eqb, leb}
use lib.ListN.{length}
use borrow.Author.Tests.{eqb-true}
use Rattle.alf_spec.specs.declared.Picture.{Picture}
use Rattle.alf_spec.specs.Lists.{within, all_below, every}
use Rattle.alf_spec.specs.Input.{Layout}
use Rattle.alf_spec.specs.Geometry.{Axis, ctb_size, plane_of, ctb_start, in_ctb}
use Rattle.alf_spec.specs.Faults.{size_valid, ctb_size_valid, virtual_position_valid, apart_at, virtual_list_valid}
use Rattle.alf_spec.proofs.Tests.{both, within_bounds, every_mem}
use Rattle.alf_spec.proofs.Accepted.{AcceptedLayout, sizes_valid, lists_valid}

pub not_gt : {a b : ℕ} → ¬ (b < a) → a ≤ b
not_gt h = omega arith

-- what the proofs need of an axis
pub record Regular (a : Axis) : Type 0 where
  pub big : 8 ≤ a.ctb
  pub ctb8 : a.ctb % 8 ≡ 0
  pub size8 : a.size % 8 ≡ 0
  pub virtual8 : (v : ℕ) → Memᴰ v a.virtual_boundaries → v % 8 ≡ 0

-- ---- the CTB of a position

module _ (a : Axis) where
  pub lower : (x : ℕ) → ctb_start a x ≤ x
  lower x = div-mul-le_self x a.ctb

  pub upper : Regular a → (x : ℕ) → x < ctb_start a x + a.ctb
  upper ok x = lt-div-mul-add (omega (arith, ok.big))

  pub ctb_of_lem : (q u : ℕ) → q * a.ctb ≤ u → u < q * a.ctb + a.ctb → u / a.ctb ≡ q
  ctb_of_lem q u h l = div-eq_of_lt-le a.ctb h (omega arith)

  -- a position is where its CTB begins and its place in the CTB
  pub parts : (x : ℕ) → ctb_start a x + in_ctb a x ≡ x
  parts x = div-add-mod' x a.ctb

  -- a later position in another CTB lies past this one's end
  pub past_end : (x u : ℕ) → x ≤ u → x / a.ctb ≢ u / a.ctb → ctb_start a x + a.ctb ≤ u
  past_end x u h ne = not_gt (λ l. ne (sym (ctb_of_lem (x / a.ctb) u (omega (arith, lower x)) l)))

  -- a position in another CTB, at most 7 further on, lies in the next CTB
  pub following : Regular a → (x u : ℕ) → x ≤ u → u ≤ x + 7 → x / a.ctb ≢ u / a.ctb → u / a.ctb ≡ suc (x / a.ctb)
  following ok x u h k ne = ctb_of_lem (suc (x / a.ctb)) u (omega (arith, past_end x u h ne)) (omega (arith, upper ok x, ok.big))

-- ---- acceptance

size_of : (n : ℕ) → size_valid n ≡ true → n % 8 ≡ 0
size_of n q = eqb-true (n % 8) 0 (both (eqb (n % 8) 0) (within 8 4096 n) q).0

virtual_of : (size s : ℕ) (list : List ℕ) → virtual_list_valid size s list ≡ true → (v : ℕ) → Memᴰ v list → v % 8 ≡ 0
unfolding virtual_list_valid
virtual_of size s list q v m =
    let valid = (both (every (virtual_position_valid size) list) (all_below (length list - 1) (apart_at s list))
    (both (leb (length list) 3) _ q).1).0 in
    eqb-true (v % 8) 0 (both (eqb (v % 8) 0) _ (every_mem (virtual_position_valid size) 0 list valid v m)).0

-- CTBs of 32, 64 or 128
ctb-sizes : (p : Picture) → ctb_size_valid p ≡ true → (8 ≤ ctb_size p) × (ctb_size p % 8 ≡ 0)
unfolding ctb_size_valid ctb_size
ctb-sizes p q =
    let h = within_bounds 5 7 p.ctb_log2 q in
    power p.ctb_log2 h.0 h.1
  where
    power : (n : ℕ) → 5 ≤ n → n ≤ 7 → (8 ≤ 2 ^ n) × (2 ^ n % 8 ≡ 0)
    power n lo hi =
        by_cases (ℕ_discrete n 5) (λ (e : n ≡ 5). rw e (omega arith))
        (λ n5. by_cases (ℕ_discrete n 6) (λ (e : n ≡ 6). rw e (omega arith))
        (λ n6. let e : n ≡ 7 = omega arith in rw e (omega arith)))

-- an axis of a picture
pub regular : (p : Picture) → ctb_size_valid p ≡ true → (size : ℕ) (list : List ℕ) (line ratio : ℕ)
    → size_valid size ≡ true → virtual_list_valid size (ctb_size p) list ≡ true
    → Regular (record { size = size; ctb = ctb_size p; virtual_boundaries = list; line = line; ratio = ratio })
regular p c size list line ratio s v = record {
  big = (ctb-sizes p c).0;
  ctb8 = (ctb-sizes p c).1;
  size8 = size_of size s;
  virtual8 = virtual_of size (ctb_size p) list v;
}

module _ (l : Layout) (ok : AcceptedLayout l) (column_ratio row_ratio line : ℕ) where
  pub regular_columns : Regular (plane_of l column_ratio row_ratio line).columns
  unfolding plane_of
  regular_columns =
      regular l.picture ok.ctb_size l.picture.width l.virtual_columns 0 column_ratio
      (sizes_valid l.picture ok.sizes).0 (lists_valid l ok.virtual_boundaries).0

  pub regular_rows : Regular (plane_of l column_ratio row_ratio line).rows
  unfolding plane_of
  regular_rows =
      regular l.picture ok.ctb_size l.picture.height l.virtual_rows line row_ratio
      (sizes_valid l.picture ok.sizes).1 (lists_valid l ok.virtual_boundaries).1
