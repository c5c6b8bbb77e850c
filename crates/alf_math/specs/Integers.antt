-- What a filter's numbers may be. Assumes nothing.
use Rattle.std.specs.Prelude.{◌≡◌, ◌≤◌, ℤ, pos, nat_abs}

-- a coefficient is −128 to 127; what overflow needs of it is this
abbrev pub CoeffRange : ℤ → Type 0
CoeffRange z = nat_abs z ≤ 128

-- a clip is not negative, and at most 2^12
pub record ClipRange (z : ℤ) : Type 0 where
  pub level : z ≡ pos (nat_abs z)
  pub small : nat_abs z ≤ 4096
