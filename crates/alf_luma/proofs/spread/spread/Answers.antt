use Rattle.std.proofs.Common.{◌≡◌, ℕ, ◌+◌, ◌*◌, ◌/◌, ◌%◌, true, get_or, ap, inl, arith}
use Rattle.alf_lists.specs.Regions.{in_rect}
use Rattle.alf_lists.proofs.Painted.{fill_none, fill_call}
use Rattle.alf_lists.proofs.Regions.{rect_none, rect_beside, rect_facts}
use Rattle.alf_luma.specs.SpreadFilters.{class_from}
use Rattle.alf_luma.proofs.spread.spread.Goals as goal

-- the columns that a turn fills belong to block b
block-is : (b k : ℕ) → in_rect 128 (4 * b) (4 * b + 4) 0 24 k ≡ true → b ≡ k % 128 / 4
block-is b k t = let h = rect_facts 128 (4 * b) (4 * b + 4) 0 24 k t in omega arith

pub loop-b-init : goal.loop-b-init
loop-b-init c = fill_none (λ k. rect_none _ _ _ _ _ k (inl (omega arith)))

pub put_class-requires : goal.put_class-requires
put_class-requires c =
    let number = c.requires.3 c.loop-b.b (omega arith) in
    (c.requires.0, c.requires.1, number.0, number.1, omega arith, omega (arith, c.loop-b.invariant.len))

pub loop-b-preserved : goal.loop-b-preserved
loop-b-preserved c =
    let a = c.args in
    let b = c.loop-b.b in
    let next : 4 * b + 4 ≡ 4 * (b + 1) = omega arith in
    fill_call c.loop-b.invariant c.put_class.ensures
    (λ k h t. ap (λ (n : ℕ). class_from a.filters.now a.orders.now (get_or a.map.now (a.at + n) 0) k) (block-is b k t))
    (λ k h. rw (← next) (rect_beside 128 0 (4 * b) (4 * b + 4) 0 24 (omega arith) (omega arith) k))

pub returns : goal.returns
returns c = let done : c.loop-b.b ≡ c.args.count = omega arith in rw done at c.loop-b.invariant
