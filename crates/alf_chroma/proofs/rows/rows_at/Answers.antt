-- Table 46 at a row is what the line rule and the distance from the bottom say there. Assumes nothing.
use Rattle.std.proofs.Common.{refl, [], ◌∙◌}
use Rattle.alf_spec.specs.Geometry.{bottom_distance, axis_of}
use Rattle.alf_chroma.proofs.rows.rows_at.Goals as goal

pub returns : goal.returns
unfolding bottom_distance
returns c =
    let a = c.args in
    let line = c.line_rule.ensures (axis_of a.height a.ctb [] 0 a.ratio) refl refl in
    c.chroma_rows.ensures ∙ rw (line, c.bottom_distance.ensures)
