-- Equal filtered samples give equal entries of the output planes. Assumes nothing.
use mathlib.Core.Path.{◌≡◌, sym, ◌∙◌}
use mathlib.Core.Bool.{Bool, true, ◌&&◌, cond}
use mathlib.Core.List.{List}
use Prim.Native.Nat.{ℕ, ◌<◌}
use lib.ListN.{length, get_or}
use Rattle.alf_spec.specs.declared.Ctb.{Ctb}
use Rattle.alf_spec.specs.Input.{Layout, Input}
use Rattle.alf_spec.specs.Geometry.{Plane, luma_position, plane_length, column_of, row_of, ctb_at}
use Rattle.alf_spec.specs.Process.{is_filtered, at_index, filtered_plane}
use Rattle.alf_spec.specs.Isolation.{inside}
use Rattle.alf_spec.proofs.Lists.{painted-at}
use Rattle.alf_spec.proofs.Planes.{column-below, row_below, index_place}
use Rattle.alf_spec.proofs.IsolatedRegions.Inside.{Inside, SameInside}
use Rattle.alf_spec.proofs.IsolatedRegions.Samples.{SameFilters}

module _ (l : Layout) (region : List ℕ) (g : Plane) where
  -- the luma position of the sample at index k lies inside
  abbrev pub IndexInside : ℕ → Type 0
  IndexInside k = inside l region (luma_position g.columns (column_of g k)) (luma_position g.rows (row_of g k)) ≡ true

  pub index_inside : (k : ℕ) → k < plane_length g → IndexInside k → Inside l region g (column_of g k) (row_of g k)
  index_inside k h q = record { column = column-below g k h; row = row_below g k h; position = q }

  module _ (i j : Input) (plane : Input → List ℕ) where
    -- in two inputs, a filter's output planes are equal at index k: inside, they have the same flags or indices and the same filtered
    -- samples
    abbrev pub SameOutput : Type 0
    SameOutput =
        (on : Input → Ctb → Bool) → ((c : Ctb) → SameFilters i j c → on i c ≡ on j c)
        → (sample : Input → ℕ → ℕ → ℕ) → ((x y : ℕ) → Inside l region g x y → SameFilters i j (ctb_at g x y) → sample i x y ≡ sample j x y)
        → (k : ℕ) → k < plane_length g → IndexInside k
        → get_or (filtered_plane i g (on i) (sample i) (plane i)) k 0 ≡ get_or (filtered_plane j g (on j) (sample j) (plane j)) k 0

    pub same_output : length (plane i) ≡ plane_length g → length (plane j) ≡ plane_length g → SameInside l region g (plane i) (plane j)
        → ((x y : ℕ) → Inside l region g x y → SameFilters i j (ctb_at g x y)) → SameOutput
    unfolding filtered_plane is_filtered at_index
    same_output n n' same_plane filters on same_on sample same_sample k h q =
        let x = column_of g k in
        let y = row_of g k in
        let s = index_inside k h q in
        let f = filters x y s in
        let old : get_or (plane i) k 0 ≡ get_or (plane j) k 0 = rw (index_place g k h) at (same_plane x y s) in
        painted-at (plane i) _ _ k (rw n h)
        ∙ (λ t. cond (f.listed t && same_on (ctb_at g x y) f t) (same_sample x y s f t) (old t))
        ∙ sym (painted-at (plane j) _ _ k (rw n' h))
