-- Four sums that are passed one by one. Assumes nothing.
use Rattle.std.specs.Prelude.{Bool, ◌&&◌, ℕ, ◌^◌, ltb}
use Rattle.alf_spec.specs.declared.Sums.{Sums}

abbrev pub sums_of : ℕ → ℕ → ℕ → ℕ → Sums
sums_of v h d0 d1 = record { v = v; h = h; d0 = d0; d1 = d1 }

-- all are below 2^18, as those of a picture are
abbrev pub sums_fit : (v h d0 d1 : ℕ) → Bool
sums_fit v h d0 d1 = (ltb v (2 ^ 18) && ltb h (2 ^ 18)) && (ltb d0 (2 ^ 18) && ltb d1 (2 ^ 18))

-- the factor is at most 3, the depth 8 to 12
abbrev pub scale_fits : (factor depth : ℕ) → Bool
scale_fits factor depth = ltb factor 4 && (ltb 7 depth && ltb depth 13)

unfoldable pub has_class : (v h d0 d1 factor depth : ℕ) → Bool
has_class v h d0 d1 factor depth = sums_fit v h d0 d1 && scale_fits factor depth
