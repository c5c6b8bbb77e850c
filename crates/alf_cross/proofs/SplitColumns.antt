-- The split copy: where a column stands, and how the part that is split grows, by two columns or by a row. Assumes nothing.
use mathlib.Core.Path.{◌≡◌, subst, ◌∙◌}
use mathlib.Core.List.{List}
use mathlib.Core.Logic.{◌⊎◌, inl, inr, ⊎_elim, ◌≢◌}
use Prim.Native.Nat.{ℕ, ◌+◌, ◌-◌, ◌*◌, ◌/◌, ◌%◌, ◌≤◌, ◌<◌}
use native.Mathlib.Nat.{mod-lt, div-add-mod', div-lt_iff_lt-mul, mul-le-mul_right}
use native.Mathlib.Omega.{arith}
use lib.ListN.{length, get_or, set, length-set}
use lib.Seq.{get_or-set_same, get_or-set_other}
use borrow.Author.Count.{below_more}
use borrow.Author.Tests.{ne_eqb}
use Rattle.alf_spec.proofs.Ratios.{Ratio, whole, half}
use Rattle.alf_lists.proofs.Regions.{order, row_room}
use Rattle.alf_cross.specs.Taps.{split_index, SplitRow, Split}
use Rattle.alf_cross.specs.Pieces.{SmallCopy}

-- ---- where a column stands

even : (pitch i : ℕ) → split_index pitch 2 (2 * i) ≡ i
unfolding split_index
even pitch i = let e : 2 * i % 2 ≡ 0 = omega arith in rw e (omega arith)

odd : (pitch i : ℕ) → split_index pitch 2 (2 * i + 1) ≡ pitch / 2 + i
unfolding split_index
odd pitch i = let e : (2 * i + 1) % 2 ≡ 1 = omega arith in rw e (omega arith)

-- in the first half of its row, or in the second
halves : (pitch c : ℕ) → ((c ≡ 2 * (c / 2)) × (split_index pitch 2 c ≡ c / 2))
    ⊎ ((c ≡ 2 * (c / 2) + 1) × (split_index pitch 2 c ≡ pitch / 2 + c / 2))
unfolding split_index
halves pitch c =
    ⊎_elim (λ (h : c % 2 < 1). let e : c % 2 ≡ 0 = omega arith in inl (omega arith, rw e (omega arith)))
    (λ (h : 1 ≤ c % 2). let e : c % 2 ≡ 1 = omega arith in inr (omega arith, rw e (omega arith))) (order (c % 2) 1)

-- the columns of the x-th sample, from those of the first
pub index_next : (step : ℕ) → Ratio step → (pitch x c : ℕ) → split_index pitch step (step * x + c) ≡ split_index pitch step c + x
unfolding split_index
index_next _ whole pitch x c = omega arith
index_next _ half pitch x c = let e : (2 * x + c) % 2 ≡ c % 2 = omega arith in rw e (omega arith)

-- what holds where each column stands holds everywhere in the row
each_index : (step : ℕ) → Ratio step → (pitch : ℕ) → pitch % 2 ≡ 0 → (P : ℕ → Type 0) → ((c : ℕ) → c < pitch → P (split_index pitch step c))
    → (i : ℕ) → i < pitch → P i
unfolding split_index
each_index _ whole pitch wide P h i l = h i l
each_index _ half pitch wide P h i l =
    ⊎_elim (λ low. subst P (even pitch i) (h (2 * i) (omega arith)))
    (λ high.
    let j : ℕ = i - pitch / 2 in
    let e : pitch / 2 + j ≡ i = omega arith in
    subst P (odd pitch j ∙ e) (h (2 * j + 1) (omega arith))) (order i (pitch / 2))

-- ---- two columns more

module _ (copy split : List ℕ) (pitch at i : ℕ) (fits : at + pitch ≤ length split) (inside : i < pitch / 2) where
  -- the next even column
  abbrev once : List ℕ
  once = set split (at + i) (get_or copy (at + 2 * i) 0)

  -- the next odd column after it
  abbrev twice : List ℕ
  twice = set once (at + pitch / 2 + i) (get_or copy (at + 2 * i + 1) 0)

  pub others : (k : ℕ) → k ≢ at + i → k ≢ at + pitch / 2 + i → get_or twice k 0 ≡ get_or split k 0
  others k n m =
      get_or-set_other once (at + pitch / 2 + i) k (get_or copy (at + 2 * i + 1) 0) 0 m
      ∙ get_or-set_other split (at + i) k (get_or copy (at + 2 * i) 0) 0 n

  earlier : (c : ℕ) → c < 2 * i → (at + split_index pitch 2 c ≢ at + i) × (at + split_index pitch 2 c ≢ at + pitch / 2 + i)
  earlier c h = ⊎_elim (λ e. (λ q. omega arith, λ q. omega arith)) (λ e. (λ q. omega arith, λ q. omega arith)) (halves pitch c)

  pub row_more : SplitRow copy split pitch 2 at (2 * i) → SplitRow copy twice pitch 2 at (2 * (i + 1))
  row_more r = record { same = λ c h. pick c (order c (2 * i)) (order c (2 * i + 1)) h }
    where
      pick : (c : ℕ) → (c < 2 * i) ⊎ (2 * i ≤ c) → (c < 2 * i + 1) ⊎ (2 * i + 1 ≤ c) → c < 2 * (i + 1)
          → get_or twice (at + split_index pitch 2 c) 0 ≡ get_or copy (at + c) 0
      pick c (inl l) m h = let e = earlier c l in others (at + split_index pitch 2 c) e.0 e.1 ∙ r.same c l
      pick c (inr l) (inl m) h =
          let e : c ≡ 2 * i = omega arith in
          rw (e, even pitch i)
          (get_or-set_other once (at + pitch / 2 + i) (at + i) (get_or copy (at + 2 * i + 1) 0) 0 (λ q. omega arith)
          ∙ get_or-set_same split (at + i) (get_or copy (at + 2 * i) 0) 0 (omega arith))
      pick c (inr l) (inr m) h =
          let e : c ≡ 2 * i + 1 = omega arith in
          let own : at + split_index pitch 2 c ≡ at + pitch / 2 + i = rw e (omega (arith, odd pitch i)) in
          let read : at + c ≡ at + 2 * i + 1 = omega arith in
          rw (own, read) (get_or-set_same once (at + pitch / 2 + i) (get_or copy (at + 2 * i + 1) 0) 0 (simp length-set (omega arith)))

-- ---- a row more

pub rows_more : {copy split next : List ℕ} {pitch j : ℕ} → pitch % 2 ≡ 0 → Split copy split pitch 2 j
    → SplitRow copy next pitch 2 (j * pitch) pitch
    → ((k : ℕ) → k < j * pitch → get_or next k 0 ≡ get_or split k 0) → Split copy next pitch 2 (j + 1)
rows_more {pitch = pitch} {j = j} wide r s kept = record {
  row = below_more _ j (λ q h.
      let above : (q + 1) * pitch ≤ j * pitch = mul-le-mul_right pitch (omega arith) in
      record { same = λ c l. kept _ (⊎_elim (λ e. omega arith) (λ e. omega arith) (halves pitch c)) ∙ (r.row q h).same c l }) s;
}

-- ---- all rows as they are

pub unsplit : (copy : List ℕ) (pitch step rows : ℕ) → step ≢ 2 → Split copy copy pitch step rows
unfolding split_index
unsplit copy pitch step rows ne = record { row = λ j h. record { same = λ c l. rw (ne_eqb step 2 ne) } }

-- ---- the entries are samples

pub split_small : {copy split : List ℕ} {pitch step rows : ℕ} → Ratio step → 0 < pitch → pitch % 2 ≡ 0 → Split copy split pitch step rows
    → SmallCopy copy (rows * pitch) → rows * pitch ≤ length split → SmallCopy split (rows * pitch)
split_small {copy} {split} {pitch} {step} {rows} ratio some wide s held room = record {
  room = room;
  small = λ k h.
      let q = k / pitch in
      let above : q < rows = (div-lt_iff_lt-mul some).1 h in
      let all = row_room q rows pitch (rows * pitch) above (omega arith) in
      subst (λ (n : ℕ). get_or split n 0 < 4096) (div-add-mod' k pitch)
      (each_index step ratio pitch wide (λ i. get_or split (q * pitch + i) 0 < 4096)
      (λ c l. rw ((s.row q above).same c l) (held.small (q * pitch + c) (omega arith))) (k % pitch) (mod-lt k some));
}
