-- A filter's numbers put into the columns of one tap more. Assumes nothing.
use mathlib.Core.Path.{◌≡◌, ◌∙◌}
use mathlib.Core.Bool.{true, false, cond}
use mathlib.Core.List.{List}
use mathlib.Core.Logic.{◌⊎◌, inl, inr, by_cases}
use Prim.Native.Nat.{ℕ, ◌+◌, ◌*◌, ◌≤◌, ◌<◌}
use native.Mathlib.Decide.{ℕ_discrete}
use native.Mathlib.Omega.{arith}
use lib.IntN.{ℤ, pos}
use lib.ListN.{get_or}
use Rattle.alf_spec.proofs.Tests.{never, same_test, cond_either}
use Rattle.alf_math.specs.Integers.{CoeffRange, ClipRange}
use Rattle.alf_lists.specs.Regions.{between}
use Rattle.alf_lists.specs.Filled.{Filled, same}
use Rattle.alf_lists.proofs.Painted.{fill_out}
use Rattle.alf_lists.proofs.Regions.{in_run, run_facts}
use Rattle.alf_taps.specs.Spread.{clips_at, TapNumbers}
use Rattle.alf_chroma.specs.Pieces.{Spread}

-- an index before a run, or after it, is not in it
outside : (f n k : ℕ) → (k < f) ⊎ (f + n ≤ k) → between f n k ≡ false
outside f n k (inl h) = never _ (λ t. let z = run_facts f n k t in omega arith)
outside f n k (inr h) = never _ (λ t. let z = run_facts f n k t in omega arith)

-- tap j: its coefficient v goes into n columns of `taps`, which gives `one`, and then its clip w, which gives `two`
module _ (filters : List ℤ) (j : ℕ) {n : ℕ} {taps one two : List ℤ} (T : TapNumbers taps) (few : n ≤ 128) (tap : j < 6)
    (first : Filled (pos 0) taps (between (128 * j) n) (same (get_or filters j (pos 0))) one)
    (second : Filled (pos 0) one (between (clips_at + 128 * j) n) (same (get_or filters (6 + j) (pos 0))) two) where
  abbrev v : ℤ
  v = get_or filters j (pos 0)

  abbrev w : ℤ
  w = get_or filters (6 + j) (pos 0)

  coefficient_at : (k : ℕ) → k < clips_at → get_or two k (pos 0) ≡ cond (between (128 * j) n k) v (get_or taps k (pos 0))
  coefficient_at k h =
      fill_out second k (omega (arith, first.len, T.room)) (outside (clips_at + 128 * j) n k (inl (omega arith)))
      ∙ first.at k (omega (arith, T.room))

  clip-at : (k : ℕ) → k < clips_at → get_or two (clips_at + k) (pos 0) ≡ cond (between (128 * j) n k) w (get_or taps (clips_at + k) (pos 0))
  clip-at k h =
      let moved : between (clips_at + 128 * j) n (clips_at + k) ≡ between (128 * j) n k =
      same_test (between (clips_at + 128 * j) n (clips_at + k)) (between (128 * j) n k)
      (λ t. let z = run_facts (clips_at + 128 * j) n (clips_at + k) t in in_run (128 * j) n k (omega arith))
      (λ t. let z = run_facts (128 * j) n k t in in_run (clips_at + 128 * j) n (clips_at + k) (omega arith)) in
      second.at (clips_at + k) (omega (arith, first.len, T.room))
      ∙ rw (moved, fill_out first (clips_at + k) (omega (arith, T.room)) (outside (128 * j) n (clips_at + k) (inr (omega arith))))

  pub numbers_more : CoeffRange v → ClipRange w → TapNumbers two
  numbers_more hv hw = record {
    room = omega (arith, first.len, second.len, T.room);
    coefficients = λ k h. rw (coefficient_at k h) (cond_either CoeffRange (between (128 * j) n k) _ _ hv (T.coefficients k h));
    clips = λ k h. rw (clip-at k h) (cond_either ClipRange (between (128 * j) n k) _ _ hw (T.clips k h));
  }

  -- column x of tap j is written, and that of a tap before it is not
  here : (x : ℕ) → x < n → between (128 * j) n (128 * j + x) ≡ true
  here x h = in_run (128 * j) n (128 * j + x) (omega arith)

  apart : (i x : ℕ) → i < j → x < n → between (128 * j) n (128 * i + x) ≡ false
  apart i x h l = outside (128 * j) n (128 * i + x) (inl (omega arith))

  pub spread_more : Spread filters j n taps → Spread filters (j + 1) n two
  spread_more S = record {
    coefficients = λ i x h l.
        coefficient_at (128 * i + x) (omega arith)
        ∙ by_cases (ℕ_discrete i j) (λ (e : i ≡ j). rw (e, here x l))
        (λ ne. rw (apart i x (omega arith) l) (S.coefficients i x (omega arith) l));
    clips = λ i x h l.
        clip-at (128 * i + x) (omega arith)
        ∙ by_cases (ℕ_discrete i j) (λ (e : i ≡ j). rw (e, here x l)) (λ ne. rw (apart i x (omega arith) l) (S.clips i x (omega arith) l));
  }
