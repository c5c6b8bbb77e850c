use Rattle.std.proofs.Common.{◌≡◌, ℕ, ◌+◌, ◌*◌, ◌/◌, ◌≤◌, true, pos, get_or, sym, ap, ◌∙◌, inr, arith}
use mir.Facts.{to_z-of_z}
use mir.Syntax.{w16}
use Rattle.alf_math.proofs.Magnitude.{fits_abs}
use Rattle.alf_lists.specs.Regions.{between}
use Rattle.alf_lists.proofs.Painted.{fill_none, fill_call}
use Rattle.alf_lists.proofs.Regions.{rect_none, rect_more, run_facts, row_of}
use Rattle.alf_luma.proofs.spread.put_filter.Goals as goal

-- the columns that a turn fills belong to number j
row_is : (to j k : ℕ) → to + 4 ≤ 128 → (between (j * 128 + to) 4 k) ≡ true → j ≡ k / 128
row_is to j k fits t =
    let h = run_facts (j * 128 + to) 4 k t in
    sym (row_of 128 j k (omega arith) (omega arith)).0

pub loop-j-init : goal.loop-j-init
loop-j-init c = fill_none (λ k. rect_none _ _ _ _ _ k (inr (omega arith)))

pub bounds-filters-from : goal.bounds-filters-from
bounds-filters-from c = omega (arith, c.requires.4 c.loop-j.j (omega arith))

pub offset_bounds-filters-from : goal.offset_bounds-filters-from
offset_bounds-filters-from c = omega (arith, c.requires.4 c.loop-j.j (omega arith))

pub loop-j-preserved : goal.loop-j-preserved
loop-j-preserved c =
    let a = c.args in
    let j = c.loop-j.j in
    fill_call c.loop-j.invariant c.fill.ensures
    (λ k h t. to_z-of_z {w = w16} (fits_abs (omega (arith, c.requires.5 (a.from + get_or a.orders.now (a.at + j) 0))))
    ∙ ap (λ (n : ℕ). get_or a.filters.now (a.from + get_or a.orders.now (a.at + n) 0) (pos 0)) (row_is a.to j k c.requires.2 t))
    (λ k h. rect_more 128 a.to 4 0 j c.requires.2 (omega arith) k)

pub returns : goal.returns
returns c = let done : c.loop-j.j ≡ 24 = omega arith in rw done at c.loop-j.invariant
