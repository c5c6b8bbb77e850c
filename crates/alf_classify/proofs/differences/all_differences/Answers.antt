use Rattle.alf_lists.proofs.Painted.{paint_of}
use Rattle.alf_classify.proofs.DifferenceLists.{all_length, all_written}
use Rattle.alf_classify.proofs.differences.all_differences.Goals as goal

-- a run leaves what the runs before it have written
pub returns : goal.returns
returns c =
    let v = paint_of c.second_differences.ensures in
    let h = paint_of c.second_differences-2.ensures in
    let d0 = paint_of c.second_differences-3.ensures in
    let d1 = paint_of c.second_differences-4.ensures in
    (all_length _ _ _ c.requires.2 c.requires.3 v h d0 d1, all_written _ _ _ c.requires.2 c.requires.3 v h d0 d1)
