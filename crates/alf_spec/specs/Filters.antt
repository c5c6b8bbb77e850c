-- The three filters among the operations. Assumes nothing.
use Rattle.alf_spec.specs.declared.Filter.{Filter}
use Rattle.alf_spec.specs.declared.Filter.TheVariants.{Luma, Chroma, CrossComponent}
use Rattle.alf_spec.specs.Input.{Operation, luma, chroma, cross_component}

-- a filter's operation
abbrev pub operation_of : Filter → Operation
operation_of Luma = luma
operation_of (Chroma component) = chroma component
operation_of (CrossComponent component) = cross_component component
