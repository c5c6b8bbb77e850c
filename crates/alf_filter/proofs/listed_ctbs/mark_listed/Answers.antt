use Rattle.std.proofs.Common.{◌≡◌, ◌<◌, Bool, true, false, List, ℕ, length, get_or, refl, ap, ◌∙◌, arith}
use native.Mathlib.Nat.{div-add-mod'}
use lib.Seq.{take-length}
use mir.Val.{bool_byte}
use Rattle.alf_spec.specs.Input.{Input}
use Rattle.alf_spec.specs.Geometry.{ctb_columns, ctb_of}
use Rattle.alf_lists.proofs.Painted.{paint_is, paint_none, paint_set}
use Rattle.alf_filter.specs.FilteredCtbs.{mark_of}
use Rattle.alf_filter.proofs.ListedCtbs.{none_listed, one_listed}
use Rattle.alf_filter.proofs.listed_ctbs.mark_listed.Goals as goal

-- a flag as a number is its CTB's mark
flag_mark : (on : Bool) → bool_byte on ≡ mark_of on
flag_mark true = refl
flag_mark false = refl

pub loop-address-init : goal.loop-address-init
loop-address-init c = λ i e. paint_none none_listed

pub loop-address-preserved : goal.loop-address-preserved
loop-address-preserved c = λ i e.
    let j = c.loop-address.address-index in
    let k = get_or c.input.inside.ctb_list.now j 0 in
    let list : c.input.inside.ctb_list.now ≡ c.args.input.now.ctb_list = ap (λ (i : Input). i.ctb_list) c.input.view_is in
    let below : j < length c.args.input.now.ctb_list = rw list at c.loop-address-test.true in
    let same : k ≡ get_or c.args.input.now.ctb_list j 0 = ap (λ (xs : List ℕ). get_or xs j 0) list in
    let room : k < length c.loop-address.marks = omega (arith, (c.requires.1 j below).0, same) in
    paint_set _ _ (c.loop-address.invariant i e) room
    (c.from.ensures ∙ flag_mark c.is_on.result
    ∙ ap mark_of (c.is_on.ensures i (ctb_of i.layout k) e (div-add-mod' k (ctb_columns i.layout))))
    (λ n h. one_listed _ j below same n)

pub returns : goal.returns
returns c =
    let list : c.input.inside.ctb_list.now ≡ c.args.input.now.ctb_list = ap (λ (i : Input). i.ctb_list) c.input.view_is in
    let done : c.loop-address.address-index ≡ length c.args.input.now.ctb_list = omega (arith, ap length list) in
    (c.loop-address.auto.marks, λ i e. paint_is (rw (done, take-length) at (c.loop-address.invariant i e)))
