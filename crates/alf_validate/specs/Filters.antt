-- What a filter is judged by beside what the filters share. Assumes nothing.
use Rattle.std.specs.Prelude.{Bool, ◌&&◌, eqb, length}
use Rattle.alf_spec.specs.declared.Filter.{Filter}
use Rattle.alf_spec.specs.Lists.{implies}
use Rattle.alf_spec.specs.Input.{given, Input}
use Rattle.alf_spec.specs.Filters.{operation_of}
use Rattle.alf_spec.specs.Geometry.{luma_plane, chroma_plane, plane_length}
use Rattle.alf_spec.specs.Process.{output_plane}
use Rattle.alf_spec.specs.Faults.{fixed_lengths_valid}

-- of cause 5, the lengths of the fixed tables and planes that a filter is given, and of its output
unfoldable pub own_lengths_valid : Filter → Input → Bool
own_lengths_valid f i =
    implies (given (operation_of f)).fixed (fixed_lengths_valid i)
    && (implies (given (operation_of f)).luma (eqb (length i.luma) (plane_length (luma_plane i.layout)))
    && (implies (given (operation_of f)).chroma (eqb (length i.chroma) (plane_length (chroma_plane i.layout)))
    && eqb i.output_length (plane_length (output_plane (operation_of f) i.layout))))
