-- Pictures that are accepted and filtered whole, worked out by the definitions. The samples were found by a separate model of H.266 and
-- paper 01 that goes sample by sample. Assumes nothing.
use mathlib.Core.Path.{◌≡◌, refl}
use mathlib.Core.List.{[], ◌∷◌, ◌++◌, map}
use lib.ListN.{replicate}
use Rattle.alf_spec.specs.Input.{luma, chroma, cross_component}
use Rattle.alf_spec.specs.Process.{result_of}
use Rattle.alf_spec.specs.Faults.{fault}
use Rattle.alf_spec.proofs.Computed.{computed_result, computed_fault}
use Rattle.alf_spec.proofs.WorkedExamples.{input}
use Rattle.alf_spec.proofs.SmallPictures.{ctb420, ctb422, ctb444}

-- the pictures whose samples `WorkedExamples` and `SmallPictures` work out are accepted
pub record AcceptedPictures : Type 0 where
  pub p12 : fault luma (input 16 3) ≡ 0
  pub texture_chroma : map (fault (chroma 0)) (ctb420 ∷ ctb422 ∷ ctb444 ∷ []) ≡ replicate 3 0
  pub texture_cross : map (fault (cross_component 1)) (ctb420 ∷ ctb422 ∷ ctb444 ∷ []) ≡ replicate 3 0

pub accepted_pictures : AcceptedPictures
unfolding computed_fault
accepted_pictures = record { p12 = refl; texture_chroma = refl; texture_cross = refl }

-- P12's picture, its luma plane filtered with clip 3
pub luma_plane_lem : result_of luma (input 16 3)
    ≡ (10 ∷ 10 ∷ 10 ∷ 10 ∷ 12 ∷ 10 ∷ 10 ∷ 10 ∷ [])
    ++ (10 ∷ 10 ∷ 10 ∷ 12 ∷ 11 ∷ 10 ∷ 10 ∷ 10 ∷ [])
    ++ (29 ∷ 12 ∷ 10 ∷ 10 ∷ 12 ∷ 10 ∷ 10 ∷ 10 ∷ [])
    ++ (29 ∷ 12 ∷ 10 ∷ 10 ∷ 10 ∷ 10 ∷ 10 ∷ 10 ∷ [])
    ++ replicate 32 10
unfolding computed_result
luma_plane_lem = refl
