-- The numbers of an input's tables, by the address of a CTB. Assumes nothing.
use mathlib.Core.Path.{◌≡◌, refl, sym, ap, ap₂, ◌∙◌}
use mathlib.Core.Bool.{true, not, true≢false}
use mathlib.Core.List.{List}
use Prim.Native.Nat.{ℕ, ◌+◌, ◌*◌, ◌<◌}
use native.Mathlib.Nat.{pos_of_ne-zero}
use lib.Dec.{eqb}
use lib.IntN.{ℤ, pos}
use lib.ListN.{get_or}
use Rattle.alf_spec.specs.declared.Ctb.{Ctb}
use Rattle.alf_spec.specs.Input.{Input}
use Rattle.alf_spec.specs.Geometry.{address}
use Rattle.alf_spec.specs.Boundary.{slice_of}
use Rattle.alf_spec.specs.Parameters.{ctb_param, slice_param, bank_number}
use Rattle.alf_spec.specs.Process.{cross_on}
use Rattle.alf_params.specs.Tables.{slice_number, ctb_number, TablesGiven, FixedOf}

pub ctb_param_lem : (i : Input) (c : Ctb) {ctb_params : List ℕ} {k : ℕ} → i.ctb_params ≡ ctb_params → address i.layout c ≡ k
    → (n : ℕ) → ctb_param i c n ≡ ctb_number ctb_params k n
unfolding ctb_param
ctb_param_lem i c p q n = ap₂ (λ (xs : List ℕ) (a : ℕ). ctb_number xs a n) p q

module _ {i : Input} {c : Ctb} {slice_map slice_params : List ℕ} {bank : List ℤ} {ctb_params : List ℕ} {k : ℕ}
    (t : TablesGiven i c slice_map slice_params bank ctb_params k) where
  pub own_number : (n : ℕ) → ctb_param i c n ≡ ctb_number ctb_params k n
  own_number = ctb_param_lem i c t.same_ctb_params t.at_address

  pub slice-number : (n : ℕ) → slice_param i c n ≡ slice_number slice_map slice_params k n
  unfolding slice_param slice_of
  slice-number n = rw (t.at_address, t.same_slice_map, t.same_slice_params)

  pub bank-number : (aps n : ℕ) → bank_number i aps n ≡ get_or bank (752 * aps + n) (pos 0)
  unfolding bank_number
  bank-number aps n = rw t.same_bank

  -- a cross-component filter that is on has an index
  pub index_on : (component : ℕ) → cross_on i component c ≡ true → 0 < ctb_number ctb_params k (6 + component)
  unfolding cross_on
  index_on component e =
      pos_of_ne-zero (λ z. true≢false (sym e ∙ ap (λ (n : ℕ). not (eqb n 0)) (own_number (6 + component) ∙ z)))

-- an input's own tables
pub own_tables : (i : Input) (c : Ctb) {k : ℕ} → address i.layout c ≡ k
    → TablesGiven i c i.layout.slice_map i.slice_params i.bank i.ctb_params k
own_tables i c e = record { same_slice_map = refl; same_slice_params = refl; same_bank = refl; same_ctb_params = refl; at_address = e }

pub own_fixed : (i : Input) → FixedOf i i.layout.picture.bit_depth i.fixed_filters i.fixed_map
own_fixed i = record { same_depth = refl; same_filters = refl; same_map = refl }
