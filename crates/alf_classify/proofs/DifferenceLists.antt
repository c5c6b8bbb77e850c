-- The list of the second differences of a copy: what one run over the copy writes and what it leaves, and how large an entry can be.
-- Assumes nothing.
use mathlib.Core.Path.{◌≡◌, ◌∙◌, ap}
use mathlib.Core.List.{List}
use Prim.Native.Nat.{ℕ, ◌+◌, ◌-◌, ◌*◌, ◌≤◌, ◌<◌}
use native.Mathlib.Nat.{zero-add}
use native.Mathlib.Omega.{arith}
use lib.ListN.{length, get_or, take}
use Rattle.std.proofs.lemmas.List.{get_or-take}
use Rattle.alf_spec.specs.Arithmetic.{distance}
use Rattle.alf_spec.proofs.Tests.{never}
use Rattle.alf_lists.specs.Regions.{between}
use Rattle.alf_pieces.specs.Copies.{area}
use Rattle.alf_lists.proofs.Painted.{Paint, paint_in, paint_out}
use Rattle.alf_lists.proofs.Regions.{in_run, run_facts}
use Rattle.alf_classify.specs.Windows.{difference_at, difference_from, Differences, SmallRun, SmallRuns}

-- a run over the first n samples of the copy, but for m of them at each end, that writes from index `at` on
abbrev Run : List ℕ → ℕ → ℕ → ℕ → ℕ → List ℕ → List ℕ → Type 0
Run copy n m step at xs ys = Paint xs (between (at + m) (n - (m + m))) (difference_from copy step at) ys

module _ (copy : List ℕ) (n m step at : ℕ) {xs ys : List ℕ} (run : Run copy n m step at xs ys) where
  pub written : (k : ℕ) → m ≤ k → k + m < n → at + n ≤ length xs → get_or ys (at + k) 0 ≡ difference_at copy step k
  written k low high room =
      let here : at + k - at ≡ k = omega arith in
      paint_in run (at + k) (omega (arith, room)) (in_run (at + m) (n - (m + m)) (at + k) (omega arith))
      ∙ ap (λ (j : ℕ). difference_at copy step j) here

  -- what stands before index `at`
  pub kept : (k : ℕ) → k < at → at ≤ length xs → get_or ys k 0 ≡ get_or xs k 0
  kept k h room =
      paint_out run k (omega arith) (never _ (λ t. let f = run_facts (at + m) (n - (m + m)) k t in omega arith))

-- the runs in the four directions
module _ (copy : List ℕ) (pitch n : ℕ) {xs v h d0 d1 : List ℕ} (small : n ≤ area) (room : 4 * area ≤ length xs)
    (a : Run copy n (pitch + 1) pitch 0 xs v) (b : Run copy n (pitch + 1) 1 area v h)
    (c : Run copy n (pitch + 1) (pitch + 1) (2 * area) h d0) (d : Run copy n (pitch + 1) (pitch - 1) (3 * area) d0 d1) where
  lengths : (length v ≡ length xs) × (length h ≡ length xs) × (length d0 ≡ length xs)
  lengths = omega (arith, a.len, b.len, c.len)

  pub all_length : length d1 ≡ length xs
  all_length = d.len ∙ lengths.2

  last-kept : (k : ℕ) → k < 3 * area → get_or d1 k 0 ≡ get_or d0 k 0
  last-kept k h = kept copy n (pitch + 1) (pitch - 1) (3 * area) d k h (omega (arith, lengths))

  two_kept : (k : ℕ) → k < 2 * area → get_or d1 k 0 ≡ get_or h k 0
  two_kept k l = last-kept k (omega arith) ∙ kept copy n (pitch + 1) (pitch + 1) (2 * area) c k l (omega (arith, lengths))

  pub all_written : Differences copy pitch n d1
  all_written = record {
    v = λ k low high.
        two_kept k (omega arith) ∙ kept copy n (pitch + 1) 1 area b k (omega arith) (omega (arith, lengths))
        ∙ rw zero-add at (written copy n (pitch + 1) pitch 0 a k low high (omega arith));
    h = λ k low high. two_kept (area + k) (omega arith) ∙ written copy n (pitch + 1) 1 area b k low high (omega (arith, lengths));
    d0 = λ k low high. last-kept (2 * area + k) (omega arith) ∙ written copy n (pitch + 1) (pitch + 1) (2 * area) c k low high
        (omega (arith, lengths));
    d1 = λ k low high. written copy n (pitch + 1) (pitch - 1) (3 * area) d k low high (omega (arith, lengths));
  }

-- the differences of the first n samples of a copy are those of the copy
module _ (copy : List ℕ) (pitch n : ℕ) where
  part_same : (step k : ℕ) → step ≤ pitch + 1 → k + (pitch + 1) < n → difference_at (take n copy) step k ≡ difference_at copy step k
  unfolding difference_at
  part_same step k h inside =
      rw (
        get_or-take n copy k 0 (omega arith),
        get_or-take n copy (k - step) 0 (omega arith),
        get_or-take n copy (k + step) 0 (omega arith),
      )

  pub of_part : {m : ℕ} (d : List ℕ) → m ≡ n → 1 ≤ pitch → Differences (take n copy) pitch m d → Differences copy pitch n d
  of_part d e wide D = record {
    v = λ k l h. D.v k l (rw e h) ∙ part_same pitch k (omega arith) h;
    h = λ k l h. D.h k l (rw e h) ∙ part_same 1 k (omega arith) h;
    d0 = λ k l h. D.d0 k l (rw e h) ∙ part_same (pitch + 1) k (omega arith) h;
    d1 = λ k l h. D.d1 k l (rw e h) ∙ part_same (pitch - 1) k (omega arith) h;
  }

-- ---- how large they are

-- where samples are below 4096
module _ (copy : List ℕ) (pitch n : ℕ) (samples : (k : ℕ) → k < n → get_or copy k 0 < 4096) where
  difference_small : (step k : ℕ) → step ≤ pitch + 1 → k + (pitch + 1) < n → difference_at copy step k ≤ 8190
  unfolding difference_at distance
  difference_small step k h inside =
      omega (arith, samples k (omega arith), samples (k - step) (omega arith), samples (k + step) (omega arith))

  -- the entries of one direction are small; its differences stand from index `at` of the list on
  small_run : (d : List ℕ) (step at from m reach : ℕ)
      → ((k : ℕ) → pitch + 1 ≤ k → k + (pitch + 1) < n → get_or d (at + k) 0 ≡ difference_at copy step k)
      → step ≤ pitch + 1 → pitch + 1 ≤ from → from + m + reach + (pitch + 1) ≤ n → SmallRun d (at + from) (at + from + m + reach)
  small_run d step at from m reach e h low high k l u =
      let here : at + (k - at) ≡ k = omega arith in
      let small : get_or d (at + (k - at)) 0 ≤ 8190 =
      rw (e (k - at) (omega arith) (omega arith)) (difference_small step (k - at) h (omega arith)) in
      rw here at small

  pub small_runs : (d : List ℕ) (from m reach : ℕ) → Differences copy pitch n d → 1 ≤ pitch → pitch + 1 ≤ from
      → from + m + reach + (pitch + 1) ≤ n
      → SmallRuns d from m reach
  small_runs d from m reach D wide low high = (
    rw zero-add at (small_run d pitch 0 from m reach (λ k l u. rw zero-add (D.v k l u)) (omega arith) low high),
    small_run d 1 area from m reach D.h (omega arith) low high,
    small_run d (pitch + 1) (2 * area) from m reach D.d0 (omega arith) low high,
    small_run d (pitch - 1) (3 * area) from m reach D.d1 (omega arith) low high,
  )
