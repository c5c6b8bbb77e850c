-- 8.8.5.1, what each operation leaves in its output, given input that it accepts. Assumes nothing.
use Rattle.std.specs.Prelude.{Bool, not, ◌&&◌, List, ℕ, ◌+◌, ◌*◌, eqb}
use Rattle.alf_spec.specs.declared.Ctb.{Ctb}
use Rattle.alf_spec.specs.declared.Class.{Class}
use Rattle.alf_spec.specs.Lists.{elem, tabulate, painted}
use Rattle.alf_spec.specs.Input.{Layout, Operation, classes, luma, chroma, cross_component, Input}
use Rattle.alf_spec.specs.Geometry.{Plane, luma_plane, chroma_plane, class_plane, luma_position, plane_length, column_of, row_of, ctb_at}
use Rattle.alf_spec.specs.Geometry.{address}
use Rattle.alf_spec.specs.Parameters.{luma_flag, chroma_flag, cross_index}
use Rattle.alf_spec.specs.Classes.{block_class}
use Rattle.alf_spec.specs.Luma.{luma_sample}
use Rattle.alf_spec.specs.Chroma.{chroma_sample}
use Rattle.alf_spec.specs.CrossComponent.{cross_sample}

-- 01: class + 32 × transpose
abbrev pub class_number : Class → ℕ
class_number c = c.filter + 32 * c.transpose

-- 01: one byte per 4 by 4 block, row by row: entry k
unfoldable pub class_at : Layout → List ℕ → ℕ → ℕ
class_at l plane k =
    class_number
    (block_class l plane (luma_position (class_plane l).columns (column_of (class_plane l) k))
    (luma_position (class_plane l).rows (row_of (class_plane l) k)))

-- 01: for all CTBs
unfoldable pub class_map : Layout → List ℕ → List ℕ
class_map l plane = tabulate (plane_length (class_plane l)) (class_at l plane)

-- a CTB's flag or index is on: alf_ctb_flag[ 0 ] is 1
unfoldable pub luma_on : Input → Ctb → Bool
luma_on i c = eqb (luma_flag i c) 1

-- alf_ctb_flag[ 1 ] or [ 2 ] is 1
unfoldable pub chroma_on : Input → ℕ → Ctb → Bool
chroma_on i component c = eqb (chroma_flag i c component) 1

-- alf_ctb_cc_cb_idc or alf_ctb_cc_cr_idc is not 0
unfoldable pub cross_on : Input → ℕ → Ctb → Bool
cross_on i component c = not (eqb (cross_index i c component) 0)

-- the sample at index k of a plane lies in a listed CTB whose flag or index is on
unfoldable pub is_filtered : Input → Plane → (Ctb → Bool) → ℕ → Bool
is_filtered i g on k = elem (address i.layout (ctb_at g (column_of g k) (row_of g k))) i.ctb_list
    && on (ctb_at g (column_of g k) (row_of g k))

-- what a function of column and row gives at index k
unfoldable pub at_index : Plane → (ℕ → ℕ → ℕ) → ℕ → ℕ
at_index g sample k = sample (column_of g k) (row_of g k)

-- a filter's output is its input, then each listed CTB whose flag or index is on: neither order nor repeats have an effect
unfoldable pub filtered_plane : Input → Plane → (Ctb → Bool) → (ℕ → ℕ → ℕ) → List ℕ → List ℕ
filtered_plane i g on sample plane = painted plane (is_filtered i g on) (at_index g sample)

-- what an operation leaves in its output
unfoldable pub result_of : Operation → Input → List ℕ
result_of classes i = class_map i.layout i.luma
result_of luma i = filtered_plane i (luma_plane i.layout) (luma_on i) (luma_sample i) i.luma
result_of (chroma component) i = filtered_plane i (chroma_plane i.layout) (chroma_on i component) (chroma_sample i component) i.chroma
result_of (cross_component component) i = filtered_plane i (chroma_plane i.layout) (cross_on i component) (cross_sample i component) i.chroma

-- the plane that the output is
abbrev pub output_plane : Operation → Layout → Plane
output_plane classes l = class_plane l
output_plane luma l = luma_plane l
output_plane (chroma component) l = chroma_plane l
output_plane (cross_component component) l = chroma_plane l
