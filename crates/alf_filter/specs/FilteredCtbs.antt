-- Which CTBs of a picture are filtered, by a mark for each, and what a filter leaves in its output. Assumes nothing.
use Rattle.std.specs.Prelude.{◌≡◌, Bool, true, false, List, ℕ, ◌<◌, eqb, length, get_or}
use Rattle.alf_spec.specs.Lists.{elem, painted}
use Rattle.alf_spec.specs.Input.{Input}
use Rattle.alf_spec.specs.Geometry.{ctb_of}
use Rattle.alf_spec.specs.Process.{at_index, output_plane}
use Rattle.alf_pieces.specs.CtbRegions.{of_ctb_if, in_ctb_if}
use Rattle.alf_spec.specs.declared.Filter.{Filter}
use Rattle.alf_spec.specs.Filters.{operation_of}
use Rattle.alf_ctb.specs.Filters.{is_on, sample_of}
use Rattle.alf_ctb.specs.Tables.{Switched}

-- the address k stands in the list
unfoldable pub is_listed : List ℕ → ℕ → Bool
is_listed list k = elem k list

-- the mark of a CTB, by whether its flag or index is on
abbrev pub mark_of : Bool → ℕ
mark_of true = 1
mark_of false = 0

-- the mark of the CTB at address k, where it is listed
abbrev pub on_mark : Filter → Input → ℕ → ℕ
on_mark f i k = mark_of (is_on f i (ctb_of i.layout k))

-- the CTB at address k is marked
abbrev pub is_marked : List ℕ → ℕ → Bool
is_marked marks k = eqb (get_or marks k 0) 1

-- each CTB that is marked has a filter
abbrev pub MarksOn : Filter → List ℕ → List ℕ → Type 0
MarksOn f ctb_params marks = (k : ℕ) → k < length marks → is_marked marks k ≡ true → Switched f ctb_params k

-- `new` is `old` with the samples of the CTB at address k filtered, where it is marked
abbrev pub CtbFiltered : Filter → Input → List ℕ → ℕ → List ℕ → List ℕ → Type 0
CtbFiltered f i marks k old new =
    let plane = output_plane (operation_of f) i.layout in
    new ≡ painted old (of_ctb_if i.layout plane (is_marked marks) k) (at_index plane (sample_of f i))

-- `new` is `old` with the samples of all marked CTBs filtered
abbrev pub MarkedFiltered : Filter → Input → List ℕ → List ℕ → List ℕ → Type 0
MarkedFiltered f i marks old new =
    let plane = output_plane (operation_of f) i.layout in
    new ≡ painted old (in_ctb_if i.layout plane (is_marked marks)) (at_index plane (sample_of f i))
