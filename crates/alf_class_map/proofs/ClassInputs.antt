-- What the functions from a piece to the whole map are given: it goes by the lengths of lists, and an accepted input has it. Assumes
-- nothing.
use mathlib.Core.Path.{◌≡◌, refl}
use mathlib.Core.List.{List}
use Prim.Native.Nat.{ℕ, ◌*◌, ◌/◌, ◌%◌, ◌<◌}
use native.Mathlib.Nat.{mul_comm, mul-le-mul_right, div-one}
use native.Mathlib.Omega.{arith}
use Rattle.alf_spec.specs.declared.Picture.{Picture}
use Rattle.alf_spec.specs.declared.Grid.{Grid}
use Rattle.alf_spec.specs.declared.Sides.{Sides}
use Rattle.alf_spec.specs.Input.{Layout, classes, classes_input}
use Rattle.alf_spec.specs.Geometry.{plane_of, plane_length, class_plane}
use Rattle.alf_spec.specs.Faults.{fault}
use Rattle.alf_spec.proofs.Accepted.{AcceptedLayout, accepted, lists_valid, luma-length, luma-samples, output_length_lem}
use Rattle.alf_math.specs.Grids.{GridOf, AcceptedPicture}
use Rattle.alf_math.proofs.Grids.{width_bounds, height_bounds, sample_bound}
use Rattle.alf_math.proofs.CtbAddresses.{ctb_in_picture}
use Rattle.alf_pieces.specs.declared.pieces.Piece.{Piece}
use Rattle.alf_pieces.specs.Pieces.{BlockPiece}
use Rattle.alf_pieces.specs.Walks.{axes_through, AlongAxes}
use Rattle.alf_pieces.proofs.PieceWalk.{walk_luma, columns_along, rows_along}
use Rattle.alf_classify.specs.PieceClasses.{MapRoom}
use Rattle.alf_class_map.specs.ClassWork.{ClassWork}
use Rattle.alf_classify.proofs.PieceRows.{blocks}

-- the picture's own map has room for a piece of it
pub own_map : {p : Picture} {g : Grid} {luma : List ℕ} {map : ℕ} {columns rows : Piece}
    → AcceptedPicture p g → ClassWork p luma map
    → BlockPiece p.width columns → BlockPiece p.height rows → MapRoom columns rows (p.width / 4) (columns.start / 4)
    (rows.start / 4) map
own_map {p} r work across down =
    let a = blocks across in
    let d = blocks down in
    record {
      narrow = omega (arith, width_bounds p r.sizes r.ctb_size);
      short = omega (arith, height_bounds p r.sizes r.ctb_size, d.last, d.upto);
      across = omega (arith, a.last, a.upto);
      down = rw (work.map_length, mul_comm (p.width / 4)) (mul-le-mul_right (p.width / 4) (omega (arith, d.last, d.upto)));
    }

-- a CTB is whole blocks
pub whole-blocks : (b : ℕ) → b % 8 ≡ 0 → b / 4 * 4 ≡ b
whole-blocks b h = omega arith

-- an accepted input of the class map
module _ (l : Layout) (luma : List ℕ) (n : ℕ) (ok : fault classes (classes_input l luma n) ≡ 0) where
  pub accepted-classes : AcceptedLayout l
  accepted-classes = (accepted classes (classes_input l luma n) ok).0

  pub map-length : n ≡ plane_length (class_plane l)
  map-length = output_length_lem classes (classes_input l luma n) ok

  module _ {g : Grid} (grid : GridOf l.picture g) where
    pub accepted-frame : AcceptedPicture l.picture g
    accepted-frame = record {
      grid = grid;
      sizes = accepted-classes.sizes;
      ctb_size = accepted-classes.ctb_size;
      depth = accepted-classes.bit_depth;
    }

    class_work : ClassWork l.picture luma n
    unfolding plane_of
    class_work = record {
      map_length = map-length;
      luma_length = rw (div-one l.picture.width, div-one l.picture.height) at (luma-length classes (classes_input l luma n) ok refl);
      samples = λ k. sample_bound l.picture accepted-classes.bit_depth (luma-samples classes (classes_input l luma n) ok refl k);
    }

    -- for the CTB at address k, whose sides are these
    pub ctb-given : (s : Sides) (k : ℕ) → k < g.columns * g.rows → let x = axes_through l g s 4 k in (ClassWork l.picture luma n)
        × (AlongAxes x) × (x.columns.size ≡ l.picture.width) × (x.rows.size ≡ l.picture.height)
    ctb-given s k below =
        let lists = lists_valid l accepted-classes.virtual_boundaries in
        let begins = ctb_in_picture grid k below in
        let picture = accepted-frame in (
          class_work,
          (columns_along picture s (k % g.columns) lists.0 begins.0, rows_along picture s (k / g.columns) walk_luma lists.1 begins.1),
          refl,
          refl,
        )
