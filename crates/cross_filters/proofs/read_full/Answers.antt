-- What a read adds to the room stands behind what was there. Assumes nothing.
use Rattle.std.proofs.Common.{◌≡◌, ℕ, ◌+◌, ◌-◌, ◌≤◌, List, ◌++◌, rules, length, take, drop, sym, ap, ◌∙◌, subst, le_refl}
use Rattle.std.proofs.Common.{drop_at, length-take-le}
use Rattle.std.proofs.lemmas.Slice.{take-put_mid_below}
use Rattle.std.specs.Io.KnownBytes.{Consumes}
use Rattle.std.proofs.KnownBytes.{Consumes-trans}
use borrow.Rule.Slice.PartMut.{put_mid, post_of}
use lib.Seq.{take-add, take-append-le}
use Rattle.cross_filters.proofs.read_full.Goals as goal

-- the front with what was read into the part behind it
grown : (n k read : ℕ) (room part : List ℕ) → n ≤ length room → read ≤ length part
    → take n room ++ take read part ≡ take (n + read) (put_mid n k room part)
grown n k read room part within fits =
    let filled = put_mid n k room part in
    let after = post_of n k room in
    let behind : take read (drop n filled) ≡ take read part =
    ap (take read) (drop_at (take n room) (part ++ after) n (length-take-le n room within)) ∙ take-append-le read part after fits in
    let front : take n filled ≡ take n room = take-put_mid_below _ _ _ _ _ (le_refl _) within in
    sym (take-add n read filled ∙ ap (λ l. l ++ take read (drop n filled)) front ∙ ap (λ l. take n room ++ l) behind)

pub loop-n-preserved : goal.loop-n-preserved
loop-n-preserved g c =
    let n = c.loop-n.n in
    let room = c.loop-n.room in
    let read = c.in_ok-read in
    let front = grown n (length room - n) read.read room c.read.new.buf c.loop-n.invariant.1 read.ensures.bound.0 in
    let taken = Consumes-trans _ _ _ _ _ c.loop-n.invariant.2 read.ensures.bytes.0 in
    (search rules, search rules, subst (Consumes _ _) front taken)
