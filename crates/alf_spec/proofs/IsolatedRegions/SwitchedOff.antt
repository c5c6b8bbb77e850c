-- A slice, a tile or a subpicture is an isolated region whenever, respectively, the slice switch, the tile switch or that subpicture's
-- switch is off (01: its area "is shut whenever ..", with the corner rules of the slice and subpicture maps). Assumes nothing.
use mathlib.Core.Path.{◌≡◌, refl, sym, ap, ◌∙◌}
use mathlib.Core.Bool.{Bool, true, false, not, ◌&&◌}
use Prim.Native.Nat.{ℕ}
use lib.Dec.{eqb, leb, ltb}
use lib.ListN.{get_or}
use borrow.Author.Tests.{eqb-true}
use Rattle.alf_spec.specs.declared.Ctb.{Ctb}
use Rattle.alf_spec.specs.Lists.{every}
use Rattle.alf_spec.specs.Input.{Layout}
use Rattle.alf_spec.specs.Boundary.{slice_of, subpic_of, tile_column_of, tile_row_of, tile_disables, slice_disables, subpic_disables}
use Rattle.alf_spec.specs.Boundary.{beside_ctb}
use Rattle.alf_spec.specs.Isolation.{isolated, slice_region, tile_region, subpic_region}
use Rattle.alf_spec.specs.Faults.{slice_corner, subpic_corner, corners_valid, slices_valid, subpictures_valid}
use Rattle.alf_spec.proofs.Tests.{both}
use Rattle.alf_spec.proofs.Causes.{not_disabled}
use Rattle.alf_spec.proofs.Accepted.{AcceptedLayout}
use Rattle.alf_spec.proofs.IsolatedRegions.WholeCtbs.{Kept, kept-isolated}
use Rattle.alf_spec.proofs.IsolatedRegions.CornerRules.{three_alike, slice_corner_lem, subpic_corner_lem}

-- with a switch off, what does not disable filtering is the same on both sides
alike : (same off : Bool) → (not same && off) ≡ false → off ≡ true → same ≡ true
alike true off h q = refl
alike false off h q = sym h ∙ q

module _ (l : Layout) (ok : AcceptedLayout l) where
  slice_corners : corners_valid slice_corner l l.slice_map ≡ true
  unfolding slices_valid
  slice_corners = (both (every (λ n. ltb n l.picture.slice_count) l.slice_map) _ ok.slices).1

  subpic_corners : corners_valid subpic_corner l l.subpic_map ≡ true
  unfolding subpictures_valid
  subpic_corners = (both (every (λ n. leb n 1) l.subpic_across) _ (both (every (λ n. ltb n 64) l.subpic_map) _ ok.subpictures).1).1

  module _ (off : l.picture.across_slices ≡ false) (n : ℕ) where
    same-slice : (c m : Ctb) → slice_disables l c m ≡ false → eqb (slice_of l c) n ≡ true → eqb (slice_of l m) n ≡ true
    unfolding slice_disables
    same-slice c m h p = rw (eqb-true (slice_of l c) (slice_of l m) (alike _ _ h (ap not off))) at p

    slice_kept : Kept l (λ c. eqb (slice_of l c) n)
    unfolding slice_of
    slice_kept = record {
      side = λ c m h. same-slice c m (not_disabled l c m h).1;
      corner = λ d e c h k slice p q r.
          let three = three_alike slice_corner l l.slice_map slice_corners n d e c.column c.row h k p q r in
          slice_corner_lem d e n _ three (λ s. same-slice c _ (simp s at slice) p);
    }

    pub slice-isolated : isolated l (slice_region l n) ≡ true
    unfolding slice_region
    slice-isolated = kept-isolated l ok _ slice_kept

  module _ (off : l.picture.across_tiles ≡ false) (column row : ℕ) where
    same_tile : (c m : Ctb) → tile_disables l c m ≡ false → (tile_column_of l c ≡ tile_column_of l m) × (tile_row_of l c ≡ tile_row_of l m)
    unfolding tile_disables
    same_tile c m h =
        let p = both (eqb (tile_column_of l c) (tile_column_of l m)) (eqb (tile_row_of l c) (tile_row_of l m)) (alike _ _ h (ap not off)) in
        (eqb-true (tile_column_of l c) (tile_column_of l m) p.0, eqb-true (tile_row_of l c) (tile_row_of l m) p.1)

    -- the CTB across a corner has its tile column from the CTB beside and its tile row from the one above or below
    tile_kept : Kept l (λ c. eqb (tile_column_of l c) column && eqb (tile_row_of l c) row)
    unfolding tile_column_of tile_row_of
    tile_kept = record {
      side = λ c m h p. let t = same_tile c m (not_disabled l c m h).0 in rw (t.0, t.1) at p;
      corner = λ d e c h k slice p q r. simp (
        (both (eqb (tile_column_of l (beside_ctb d c)) column) _ q).0,
        (both (eqb (tile_column_of l c) column) _ r).1,
      );
    }

    pub tile_isolated : isolated l (tile_region l column row) ≡ true
    unfolding tile_region
    tile_isolated = kept-isolated l ok _ tile_kept

  module _ (n : ℕ) (off : get_or l.subpic_across n 0 ≡ 0) where
    same-subpic : (c m : Ctb) → subpic_disables l c m ≡ false → eqb (subpic_of l c) n ≡ true → eqb (subpic_of l m) n ≡ true
    unfolding subpic_disables
    same-subpic c m h p = rw (eqb-true (subpic_of l c) (subpic_of l m) (alike _ _ h (simp (eqb-true (subpic_of l c) n p, off)))) at p

    subpic-kept : Kept l (λ c. eqb (subpic_of l c) n)
    unfolding subpic_of
    subpic-kept = record {
      side = λ c m h. same-subpic c m (not_disabled l c m h).2;
      corner = λ d e c h k slice p q r. subpic_corner_lem d e n _ (three_alike subpic_corner l l.subpic_map subpic_corners n d e c.column
          c.row h k p q r);
    }

    pub subpicture_isolated : isolated l (subpic_region l n) ≡ true
    unfolding subpic_region
    subpicture_isolated = kept-isolated l ok _ subpic-kept
