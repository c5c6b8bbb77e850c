-- The part that std fills has n places.
use Rattle.std.proofs.Common.{◌≡◌, ◌+◌, ◌-◌, pos, length, take, drop, arith, rules}
use lib.ListN.{replicate}
use mir.Facts.{to_z-of_z}
use Rattle.std.proofs.lemmas.List.{length-replicate, get_or-replicate}
use Rattle.alf_lists.proofs.Parts.{part_fills}
use Rattle.alf_lists.proofs.fill.Goals as goal

pub returns : goal.returns
returns c =
    let a = c.args in
    let places : length (take (a.at + a.n - a.at) (drop a.at a.list.now)) ≡ a.n = search rules in
    let is : c.fill.new.self ≡ replicate a.n a.v = simp (to_z-of_z, c.ranges.v, places) at (c.fill.ensures.after (λ y h. h)) in
    part_fills (pos 0) a.at a.n _ a.list.now c.fill.new.self c.requires (rw is (length-replicate a.n a.v))
    (λ j h. rw is (get_or-replicate a.n j a.v (pos 0) h)) (omega arith)
