-- Lists of which a part is written anew: the form of a loop's invariant, and how the part grows, by a store or by a call. Assumes nothing.
use mathlib.Core.Path.{◌≡◌, refl, sym, ap, ◌∙◌}
use mathlib.Core.Bool.{Bool, true, false, ◌||◌, cond}
use mathlib.Core.List.{List}
use Prim.Native.Nat.{ℕ, ◌<◌}
use native.Mathlib.Omega.{arith}
use native.Mathlib.Decide.{ℕ_discrete}
use lib.Dec.{eqb}
use lib.ListN.{length, get_or, set, length-set}
use lib.Seq.{ext_get_or, get_or-set_same, get_or-set_other}
use borrow.Author.Tests.{eq-eqb, ne_eqb}
use Rattle.alf_spec.specs.Lists.{tabulate, painted}
use Rattle.alf_spec.proofs.Lists.{tabulate-at, tabulate-length, painted-at, painted-length}
use Rattle.alf_lists.specs.Filled.{Filled}

-- ---- lists of every kind of entry

over : {A : Type 0} (p r : Bool) (w v x : A) → (r ≡ true → w ≡ v) → cond r w (cond p v x) ≡ cond (p || r) v x
over true true w v x e = e refl
over true false w v x e = refl
over false true w v x e = e refl
over false false w v x e = refl

module _ {A : Type 0} {d : A} where
  pub fill_in : {xs ys : List A} {p : ℕ → Bool} {v : ℕ → A} → Filled d xs p v ys → (k : ℕ) → k < length xs → p k ≡ true → get_or ys k d ≡ v k
  fill_in P k h e = P.at k h ∙ rw e

  pub fill_out : {xs ys : List A} {p : ℕ → Bool} {v : ℕ → A} → Filled d xs p v ys
      → (k : ℕ) → k < length xs → p k ≡ false → get_or ys k d ≡ get_or xs k d
  fill_out P k h e = P.at k h ∙ rw e

  -- nothing is written yet
  pub fill_none : {xs : List A} {p : ℕ → Bool} {v : ℕ → A} → ((k : ℕ) → p k ≡ false) → Filled d xs p v xs
  fill_none h = record { len = refl; at = λ k l. rw (h k) }

  -- one more call, which writes the part r with values that agree there; q is the part in all
  pub fill_call : {xs ys zs : List A} {p q r : ℕ → Bool} {v w : ℕ → A} → Filled d xs p v ys → Filled d ys r w zs
      → ((k : ℕ) → k < length xs → r k ≡ true → w k ≡ v k) → ((k : ℕ) → k < length xs → q k ≡ (p k || r k)) → Filled d xs q v zs
  fill_call {xs} {ys} {zs} {p} {q} {r} {v} {w} P R agree grows = record {
    len = R.len ∙ P.len;
    at = λ k h.
        R.at k (omega (arith, P.len)) ∙ ap (λ (x : A). cond (r k) (w k) x) (P.at k h)
        ∙ over (p k) (r k) (w k) (v k) (get_or xs k d) (agree k h)
        ∙ ap (λ (b : Bool). cond b (v k) (get_or xs k d)) (sym (grows k h));
  }

  -- a store writes one entry
  store : (xs : List A) (j : ℕ) (w : A) (v : ℕ → A) → j < length xs → w ≡ v j → Filled d xs (eqb j) v (set xs j w)
  store xs j w v h e = record { len = length-set xs j w; at = λ k l. here k (ℕ_discrete j k) }
    where
      here : (k : ℕ) → Dec (j ≡ k) → get_or (set xs j w) k d ≡ cond (eqb j k) (v k) (get_or xs k d)
      here k (yes q) = rw (eq-eqb j k q) (rw (← q) (get_or-set_same xs j w d h ∙ e))
      here k (no q) = rw (ne_eqb j k q) (get_or-set_other xs j k w d (λ z. q (sym z)))

  -- one more store
  pub fill_set : {xs ys : List A} {p q : ℕ → Bool} {v : ℕ → A} (j : ℕ) (w : A) → Filled d xs p v ys → j < length ys → w ≡ v j
      → ((k : ℕ) → k < length xs → q k ≡ (p k || eqb j k)) → Filled d xs q v (set ys j w)
  fill_set {ys = ys} {v = v} j w P h e grows = fill_call P (store ys j w v h e) (λ k l r. refl) grows

  -- the part that is written may be told by another test and other values
  pub fill_same : {xs ys : List A} {p q : ℕ → Bool} {v w : ℕ → A} → Filled d xs p v ys → ((k : ℕ) → k < length xs → q k ≡ p k)
      → ((k : ℕ) → k < length xs → q k ≡ true → v k ≡ w k) → Filled d xs q w ys
  fill_same {xs} {ys} {p} {q} {v} {w} P same agree = record {
    len = P.len;
    at = λ k h. P.at k h ∙ ap (λ (b : Bool). cond b (v k) (get_or xs k d)) (sym (same k h)) ∙ pick (q k) (get_or xs k d) (agree k h);
  }
    where
      pick : {m n : A} (b : Bool) (x : A) → (b ≡ true → m ≡ n) → cond b m x ≡ cond b n x
      pick true x e = e refl
      pick false x e = refl

-- ---- lists of numbers

-- ys is xs with the entries at which the test passes written anew. A loop's invariant has this form: unification finds its arguments, and
-- `omega` the length.
abbrev pub Paint : List ℕ → (ℕ → Bool) → (ℕ → ℕ) → List ℕ → Type 0
Paint = Filled 0

-- ---- to the equation of a contract, and back

pub paint_is : {xs ys : List ℕ} {p : ℕ → Bool} {v : ℕ → ℕ} → Paint xs p v ys → ys ≡ painted xs p v
paint_is {xs} {ys} {p} {v} P =
    ext_get_or 0 ys (painted xs p v) (P.len ∙ sym (painted-length xs p v)) (λ k h.
    let below : k < length xs = omega (arith, P.len) in
    P.at k below ∙ sym (painted-at xs p v k below))

pub paint_of : {xs ys : List ℕ} {p : ℕ → Bool} {v : ℕ → ℕ} → ys ≡ painted xs p v → Paint xs p v ys
paint_of {xs} {ys} {p} {v} e = record {
  len = ap length e ∙ painted-length xs p v;
  at = λ k h. ap (λ (zs : List ℕ). get_or zs k 0) e ∙ painted-at xs p v k h;
}

-- the whole list is written
pub paint_all : {xs ys : List ℕ} {p : ℕ → Bool} {v : ℕ → ℕ} → Paint xs p v ys
    → ((k : ℕ) → k < length xs → p k ≡ true) → ys ≡ tabulate (length xs) v
paint_all {xs} {ys} {p} {v} P h =
    ext_get_or 0 ys (tabulate (length xs) v) (P.len ∙ sym (tabulate-length (length xs) v)) (λ k l.
    let below : k < length xs = omega (arith, P.len) in
    P.at k below ∙ rw (h k below) (sym (tabulate-at (length xs) v k below)))

-- ---- what stands in it

pub paint_in : {xs ys : List ℕ} {p : ℕ → Bool} {v : ℕ → ℕ} → Paint xs p v ys → (k : ℕ) → k < length xs → p k ≡ true → get_or ys k 0 ≡ v k
paint_in = fill_in

pub paint_out : {xs ys : List ℕ} {p : ℕ → Bool} {v : ℕ → ℕ} → Paint xs p v ys
    → (k : ℕ) → k < length xs → p k ≡ false → get_or ys k 0 ≡ get_or xs k 0
paint_out = fill_out

-- ---- how it grows

pub paint_none : {xs : List ℕ} {p : ℕ → Bool} {v : ℕ → ℕ} → ((k : ℕ) → p k ≡ false) → Paint xs p v xs
paint_none = fill_none

pub paint_call : {xs ys zs : List ℕ} {p q : ℕ → Bool} {v : ℕ → ℕ} (r : ℕ → Bool) (w : ℕ → ℕ) → Paint xs p v ys → zs ≡ painted ys r w
    → ((k : ℕ) → k < length xs → r k ≡ true → w k ≡ v k) → ((k : ℕ) → k < length xs → q k ≡ (p k || r k)) → Paint xs q v zs
paint_call r w P e agree grows = fill_call P (paint_of e) agree grows

pub paint_set : {xs ys : List ℕ} {p q : ℕ → Bool} {v : ℕ → ℕ} (j w : ℕ) → Paint xs p v ys → j < length ys → w ≡ v j
    → ((k : ℕ) → k < length xs → q k ≡ (p k || eqb j k)) → Paint xs q v (set ys j w)
paint_set = fill_set

-- a part that is written twice holds what the second writing gives
pub paint_again : {xs ys zs : List ℕ} {p : ℕ → Bool} {v w u : ℕ → ℕ} → Paint xs p v ys → Paint ys p w zs
    → ((k : ℕ) → k < length xs → p k ≡ true → w k ≡ u k) → Paint xs p u zs
paint_again {xs} {ys} {zs} {p} {v} {w} {u} P Q agree = record {
  len = Q.len ∙ P.len;
  at = λ k h. Q.at k (omega (arith, P.len))
      ∙ pick k h (p k) refl;
}
  where
    pick : (k : ℕ) → k < length xs → (b : Bool) → p k ≡ b → cond b (w k) (get_or ys k 0) ≡ cond b (u k) (get_or xs k 0)
    pick k h true e = agree k h e
    pick k h false e = paint_out P k h e

pub paint_same : {xs ys : List ℕ} {p q : ℕ → Bool} {v w : ℕ → ℕ} → Paint xs p v ys → ((k : ℕ) → k < length xs → q k ≡ p k)
    → ((k : ℕ) → k < length xs → q k ≡ true → v k ≡ w k) → Paint xs q w ys
paint_same = fill_same
