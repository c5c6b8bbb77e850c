-- How an operation's judge comes to its answer: from that of the layout, and from what comes after it where the layout is accepted.
-- Assumes nothing.
use Rattle.std.proofs.Common.{◌≡◌, refl, sym, ◌∙◌, ap, true, false, ◌&&◌, ℕ, ◌*◌, ◌/◌, Bool, List, length, eqb, ltb}
use Rattle.std.proofs.Math.Bool.{and-true}
use borrow.Author.Tests.{eqb-true}
use Rattle.alf_spec.specs.declared.Fault.{Fault}
use Rattle.alf_spec.specs.declared.Filter.{Filter}
use Rattle.alf_spec.specs.declared.Filter.TheVariants.{Luma, Chroma, CrossComponent}
use Rattle.alf_spec.specs.Lists.{every}
use Rattle.alf_spec.specs.Input.{Layout, Operation, classes, Input, classes_input, with_output}
use Rattle.alf_spec.specs.Filters.{operation_of}
use Rattle.alf_spec.specs.Geometry.{plane_of, total_ctbs}
use Rattle.alf_spec.specs.Boundary.{slice_of}
use Rattle.alf_spec.specs.Parameters.{ctb_param, slice_param}
use Rattle.alf_spec.specs.Answers.{fault_number}
use Rattle.alf_spec.specs.Faults.{bit_depth_valid, layout_lengths_valid, filter_lengths_valid, lengths_valid, corners_valid, slice_corner}
use Rattle.alf_spec.specs.Faults.{slices_valid, slice_params_valid, ctb_ranges_valid, ctb_chroma_zero, ctb_params_valid_at}
use Rattle.alf_spec.specs.Faults.{parameters_valid, bank_valid, fixed_valid, samples_valid, addresses_valid, component_valid, unless}
use Rattle.alf_spec.specs.Faults.{layout_fault, tables_fault, fault}
use Rattle.alf_spec.proofs.Tests.{and_same, both}
use Rattle.alf_spec.proofs.Accepted.{AcceptedLayout, table_lengths, chain}
use Rattle.alf_spec.proofs.Answers.{numbered}
use Rattle.alf_spec.proofs.Faults.{layout_rejects, layout_accepts}
use Rattle.alf_validate_tables.specs.Tables.{filter_tables_fault, TablesFit}
use Rattle.alf_validate_tables.proofs.Tables.{tables_fault_lem}
use Rattle.alf_validate.specs.Filters.{own_lengths_valid}

module _ (l : Layout) (component lengths : Bool) where
  module _ (rest : ℕ) where
    -- the layout is rejected, and what comes after it is not judged
    pub layout_stops : (f : Fault) → fault_number f ≡ layout_fault l component lengths 0
        → layout_fault l component lengths rest ≡ fault_number f
    layout_stops f e = let n = numbered f in layout_rejects l component lengths rest (sym e ∙ n) ∙ sym n

    -- the layout is accepted, and what comes after it decides
    pub layout_goes_on : 0 ≡ layout_fault l component lengths 0 → layout_fault l component lengths rest ≡ rest
    layout_goes_on e = layout_accepts l component lengths rest (sym e)

  passed : 0 ≡ layout_fault l component lengths 0 → AcceptedLayout l × (component ≡ true) × (lengths ≡ true)
  passed e = let p = chain l component lengths 0 (sym e) in (p.0, p.1, p.2)

  -- an accepted layout has a bit depth of 12 at most
  pub accepted_depth : 0 ≡ layout_fault l component lengths 0 → bit_depth_valid l.picture ≡ true
  accepted_depth e = (passed e).0.bit_depth

pub ruleset judged = (layout_stops, layout_goes_on, accepted_depth)

-- ---- the class map's judge

-- of the causes after the layout's it has 12 alone
pub classes_by_tests : (l : Layout) (plane : List ℕ) (n : ℕ) → fault classes (classes_input l plane n)
    ≡ layout_fault l true
    (eqb (length plane) (l.picture.width / 1 * (l.picture.height / 1)) && eqb n (l.picture.width / 4 * (l.picture.height / 4)))
    (unless (samples_valid l.picture plane) 12 0)
unfolding fault component_valid lengths_valid tables_fault unless plane_of
classes_by_tests l plane n = rw and-true refl

pub ruleset classes_judged = (classes_by_tests, layout_stops, layout_goes_on, accepted_depth)

-- ---- a filter's judge

-- its own lengths and those of the tables that the filters share are all that its operation asks for
own_lengths_lem : (f : Filter) (i : Input) → (filter_lengths_valid i && own_lengths_valid f i) ≡ lengths_valid (operation_of f) i
unfolding own_lengths_valid lengths_valid
own_lengths_lem Luma i = refl
own_lengths_lem (Chroma component) i = refl
own_lengths_lem (CrossComponent component) i = refl

-- causes 10 to 13 do not look at the output
module _ (i : Input) (n : ℕ) where
  parameters_same : parameters_valid (with_output n i) ≡ parameters_valid i
  unfolding parameters_valid slice_params_valid ctb_params_valid_at ctb_ranges_valid ctb_chroma_zero ctb_param slice_param slice_of plane_of
  parameters_same = refl

  tables_same : (op : Operation) → tables_fault op (with_output n i) ≡ tables_fault op i
  unfolding tables_fault bank_valid fixed_valid addresses_valid plane_of
  tables_same op = rw parameters_same refl

-- a test that counts only where the one before it passes
beside : (a b c : Bool) → (a ≡ true → b ≡ c) → (a && b) ≡ (a && c)
beside true b c f = f refl
beside false b c f = refl

-- what an accepted layout and the lengths of a filter's tables say
tables_fit : (i : Input) → AcceptedLayout i.layout → filter_lengths_valid i ≡ true → TablesFit i
unfolding filter_lengths_valid slices_valid
tables_fit i ok lengths =
    let l = i.layout in
    let full = (table_lengths l ok.lengths).slice_map in
    let slices = both (eqb (length i.slice_params) (11 * l.picture.slice_count)) _ lengths in
    let ctbs = both (eqb (length i.bank) (8 * 752)) (eqb (length i.ctb_params) (8 * total_ctbs l)) slices.1 in
    let params = eqb-true (length i.ctb_params) (8 * total_ctbs l) ctbs.1 in
    record {
      depth = ok.bit_depth;
      parameters = record {
        slices = (both (every (λ n. ltb n l.picture.slice_count) l.slice_map) (corners_valid slice_corner l l.slice_map)
            ok.slices).0;
        slice_length = eqb-true (length i.slice_params) (11 * l.picture.slice_count) slices.0;
        ctb_length = params ∙ ap (λ (n : ℕ). 8 * n) (sym full);
      };
      full = full;
    }

-- the code has the answer r of the tables that the filters share, which counts only where the slice map has an entry for each CTB
module _ (i : Input) (component r own : Bool) (fit : length i.layout.slice_map ≡ total_ctbs i.layout → r ≡ filter_lengths_valid i) where
  -- where the layout is accepted, the judge of the tables may be asked
  pub filter_fits : 0 ≡ layout_fault i.layout component (r && own) 0 → TablesFit i
  filter_fits e =
      let p = passed i.layout component (r && own) e in
      tables_fit i p.0 (sym (fit (table_lengths i.layout p.0.lengths).slice_map) ∙ (both r own p.2).0)

  module _ (f : Filter) (n : ℕ) (chosen : component ≡ component_valid (operation_of f) i.layout.picture)
      (lengths : own ≡ own_lengths_valid f (with_output n i)) where
    filter_same : layout_fault i.layout component (r && own) (filter_tables_fault f i) ≡ fault (operation_of f) (with_output n i)
    unfolding fault layout_fault filter_lengths_valid plane_of
    filter_same =
        rw (
          beside (layout_lengths_valid i.layout) (r && own) (filter_lengths_valid i && own)
              (λ e. and_same (fit (table_lengths i.layout e).slice_map) refl),
          chosen,
          lengths,
          own_lengths_lem f (with_output n i),
          tables_fault_lem f i,
          ← tables_same i n (operation_of f),
        )

    pub filter_stops : (e : Fault) → fault_number e ≡ layout_fault i.layout component (r && own) 0
        → fault (operation_of f) (with_output n i) ≡ fault_number e
    filter_stops e judged = sym filter_same ∙ layout_stops i.layout component (r && own) (filter_tables_fault f i) e judged

    pub filter_goes_on : 0 ≡ layout_fault i.layout component (r && own) 0
        → fault (operation_of f) (with_output n i) ≡ filter_tables_fault f i
    filter_goes_on judged = sym filter_same ∙ layout_goes_on i.layout component (r && own) (filter_tables_fault f i) judged

pub ruleset filter_then = (filter_fits, filter_stops, filter_goes_on)
