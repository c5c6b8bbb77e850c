-- What the worked examples, the small pictures and the rejections are made from. Assumes nothing.
use mathlib.Core.Bool.{true, false}
use mathlib.Core.List.{List, [], ◌++◌}
use Prim.Native.Nat.{ℕ, zero, suc}
use Rattle.alf_spec.specs.declared.Picture.{Picture}
use Rattle.alf_spec.specs.Input.{Layout, picture_of, layout_of}

-- filtering goes across tiles, and not across slices
abbrev pub picture : ℕ → ℕ → ℕ → ℕ → ℕ → ℕ → Picture
picture width height log2 depth format count = picture_of width height log2 depth format count true false

-- with virtual columns and no virtual rows
abbrev pub layout : Picture → List ℕ → List ℕ → List ℕ → List ℕ → List ℕ → List ℕ → Layout
layout p columns tile_columns tile_rows slices subpics switches = layout_of p columns [] tile_columns tile_rows slices subpics switches

-- a list n times
abbrev pub repeated : {A : Type 0} → ℕ → List A → List A
repeated zero xs = []
repeated (suc n) xs = xs ++ repeated n xs
