-- A list of which code writes one part by a method of std, as `fill` and `copy_from_slice`: it is another list written over that part.
-- Assumes nothing.
use mathlib.Core.Path.{◌≡◌, refl, sym, ◌∙◌}
use mathlib.Core.Bool.{Bool, true, false, cond, true≢false}
use mathlib.Core.List.{List}
use Prim.Native.Nat.{ℕ, ◌+◌, ◌-◌, ◌<◌, ◌≤◌}
use native.Mathlib.Omega.{arith}
use lib.ListN.{length, get_or}
use lib.Seq.{drop-drop}
use borrow.Rule.Slice.PartMut.{put_mid}
use Rattle.alf_lists.specs.Overwrite.{overwrite}
use Rattle.alf_lists.specs.Regions.{between}
use Rattle.alf_lists.specs.Filled.{Filled}
use Rattle.alf_lists.proofs.Overwritten.{overwrite-length, overwrite_in, overwrite_outside}
use Rattle.alf_lists.proofs.Regions.{in_run, run_facts}

module _ {A : Type 0} (d : A) (at n : ℕ) (value : ℕ → A) (old new : List A) (fits : at + n ≤ length old) (len : length new ≡ n)
    (is : (j : ℕ) → j < n → get_or new j d ≡ value (at + j)) where
  entry : (k : ℕ) (t : Bool) → between at n k ≡ t → get_or (overwrite at new old) k d ≡ cond t (value k) (get_or old k d)
  entry k true e =
      let r = run_facts at n k e in
      let back : at + (k - at) ≡ k = omega arith in
      let j : ℕ = k - at in
      let inside : j < n = omega arith in
      let here : get_or (overwrite at new old) (at + j) d ≡ value (at + j) =
      overwrite_in at new old (omega arith) d j (omega arith) ∙ is j inside in
      rw back at here
  entry k false e =
      overwrite_outside at new old (omega arith) d k (λ l m. true≢false (sym (in_run at n k (l, omega arith)) ∙ e))

  pub overwrite_fills : Filled d old (between at n) value (overwrite at new old)
  overwrite_fills = record { len = overwrite-length at new old (omega arith); at = λ k h. entry k (between at n k) refl }

  pub part_fills : {k : ℕ} → k ≡ n → Filled d old (between at n) value (put_mid at k old new)
  unfolding overwrite
  part_fills {k} e =
      let same-end : at + k ≡ at + length new = omega arith in
      rw (drop-drop k at old, same-end) overwrite_fills
