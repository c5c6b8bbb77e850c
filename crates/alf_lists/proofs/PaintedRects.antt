-- A rectangle of a plane that is written strip by strip, side by side or one above the other. Assumes nothing.
use mathlib.Core.Path.{◌≡◌, refl}
use mathlib.Core.List.{List}
use Prim.Native.Nat.{ℕ, ◌≤◌}
use Rattle.alf_spec.specs.Lists.{painted}
use Rattle.alf_lists.specs.Regions.{in_rect}
use Rattle.alf_lists.proofs.Painted.{Paint, paint_call}
use Rattle.alf_lists.proofs.Regions.{rect_beside, rect_stacked}

-- on by a strip from the column m on
pub paint_beside : {xs ys zs : List ℕ} {v : ℕ → ℕ} (columns x m x' y y' : ℕ) {from : ℕ} → Paint xs (in_rect columns x m y y') v ys
    → zs ≡ painted ys (in_rect columns from x' y y') v → from ≡ m → x ≤ m → m ≤ x' → Paint xs (in_rect columns x x' y y') v zs
paint_beside columns x m x' y y' P e here low high =
    paint_call (in_rect columns m x' y y') _ P (rw here at e) (λ k h t. refl) (λ k h. rect_beside columns x m x' y y' low high k)

-- on by a strip from the row m on
pub paint_stacked : {xs ys zs : List ℕ} {v : ℕ → ℕ} (columns x x' y m y' : ℕ) {from : ℕ} → Paint xs (in_rect columns x x' y m) v ys
    → zs ≡ painted ys (in_rect columns x x' from y') v → from ≡ m → y ≤ m → m ≤ y' → Paint xs (in_rect columns x x' y y') v zs
paint_stacked columns x x' y m y' P e here low high =
    paint_call (in_rect columns x x' m y') _ P (rw here at e) (λ k h t. refl) (λ k h. rect_stacked columns x x' y m y' low high k)
