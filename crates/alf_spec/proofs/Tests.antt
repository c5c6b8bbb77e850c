-- Laws of tests: of their connectives, and what a test of every number, or of every entry of a list, says of one of them. Assumes nothing.
use mathlib.Core.Path.{◌≡◌, refl, sym, ◌∙◌, ap}
use mathlib.Core.Bool.{Bool, true, false, ◌&&◌, ◌||◌, cond, true≢false, false≢true}
use mathlib.Core.List.Memᴰ
use mathlib.Core.List.{List, [], ◌∷◌, Memᴰ}
use mathlib.Core.Logic.{◌⊎◌, ⊎_elim}
use Prim.Native.Nat.{ℕ, zero, suc, ◌+◌, ◌≤◌, ◌<◌, suc-le-suc}
use native.Mathlib.Nat.{add-zero, add-suc, suc-add, not-suc-le-zero, le_of_suc-le-suc, zero-lt-suc, eq-or-lt_of_le}
use native.Mathlib.Omega.{arith}
use lib.Dec.{leb}
use lib.ListN.{length, get_or}
use borrow.Author.Tests.{leb-true}
use Rattle.alf_spec.specs.Lists.{within, implies, all_below, every_from}

-- ---- connectives

-- the two parts of a conjunction
pub both : (a b : Bool) → (a && b) ≡ true → (a ≡ true) × (b ≡ true)
both true b e = (refl, e)
both false b e = absurd (false≢true e)

-- two conjunctions whose parts are the same
pub and_same : {a b c d : Bool} → a ≡ c → b ≡ d → (a && b) ≡ (c && d)
and_same p q = rw (p, q)

-- a conjunction that fails, though its first part holds
pub and_no : (a b : Bool) → (a && b) ≡ false → a ≡ true → b ≡ false
and_no true b e h = e
and_no false b e h = absurd (false≢true h)

-- the two parts of a disjunction that fails
pub neither : (a b : Bool) → (a || b) ≡ false → (a ≡ false) × (b ≡ false)
neither true b e = absurd (true≢false e)
neither false b e = (refl, e)

pub implied : (a b : Bool) → implies a b ≡ true → a ≡ true → b ≡ true
implied true b e h = e
implied false b e h = absurd (false≢true h)

pub imply : (a b : Bool) → (a ≡ true → b ≡ true) → implies a b ≡ true
imply true b f = f refl
imply false b f = refl

-- a test that can't pass
pub never : (q : Bool) → (q ≡ true → ⊥) → q ≡ false
never true f = absurd (f refl)
never false f = refl

-- two tests that pass in the same cases
pub same_test : (a b : Bool) → (a ≡ true → b ≡ true) → (b ≡ true → a ≡ true) → a ≡ b
same_test true b f g = sym (f refl)
same_test false true f g = g refl
same_test false false f g = refl

-- q is `p or r`
pub one_of : (q p r : Bool) → (p ≡ true → q ≡ true) → (r ≡ true → q ≡ true) → (q ≡ true → (p ≡ true) ⊎ (r ≡ true)) → q ≡ (p || r)
one_of q true r f g h = f refl
one_of q false true f g h = g refl
one_of q false false f g h = never q (λ t. ⊎_elim false≢true false≢true (h t))

-- what holds of both branches
pub cond_either : {A : Type 0} (P : A → Type 0) (b : Bool) (x y : A) → P x → P y → P (cond b x y)
cond_either P true x y p q = p
cond_either P false x y p q = q

-- what holds of each of three that two tests choose from
pub cond_three : {A : Type 0} (P : A → Type 0) (a b : Bool) (x y z : A) → P x → P y → P z → P (cond a x (cond b y z))
cond_three P a b x y z p q r = cond_either P a x (cond b y z) p (cond_either P b y z q r)

pub within_bounds : (low high n : ℕ) → within low high n ≡ true → (low ≤ n) × (n ≤ high)
within_bounds low high n e = let h = both (leb low n) (leb n high) e in (leb-true low n h.0, leb-true n high h.1)

-- ---- every number, every entry

pub all_at : (n : ℕ) (test : ℕ → Bool) → all_below n test ≡ true → (k : ℕ) → k < n → test k ≡ true
unfolding all_below
all_at zero test e k h = absurd (not-suc-le-zero h)
all_at (suc n) test e k h =
    let parts = both (all_below n test) (test n) e in
    ⊎_elim (λ (q : k ≡ n). ap test q ∙ parts.1) (λ l. all_at n test parts.0 k l) (eq-or-lt_of_le (le_of_suc-le-suc h))

pub at_all : (n : ℕ) (test : ℕ → Bool) → ((k : ℕ) → k < n → test k ≡ true) → all_below n test ≡ true
unfolding all_below
at_all zero test f = refl
at_all (suc n) test f = simp (at_all n test (λ k h. f k (omega arith)), f n (omega arith))

-- two tests that agree at each of these numbers
pub all_same : (n : ℕ) {t u : ℕ → Bool} → ((k : ℕ) → k < n → t k ≡ u k) → all_below n t ≡ all_below n u
all_same n e = same_test _ _ (λ p. at_all n _ (λ k h. sym (e k h) ∙ all_at n _ p k h)) (λ p. at_all n _ (λ k h. e k h ∙ all_at n _ p k h))

pub every-at : {A : Type 0} (d : A) (k : ℕ) (test : ℕ → A → Bool) (xs : List A) → every_from k test xs ≡ true
    → (j : ℕ) → j < length xs → test (k + j) (get_or xs j d) ≡ true
unfolding every_from
every-at d k test [] e j h = absurd (not-suc-le-zero h)
every-at d k test (x ∷ xs) e zero h = rw add-zero (both (test k x) (every_from (suc k) test xs) e).0
every-at d k test (x ∷ xs) e (suc j) h =
    rw (add-suc, ← suc-add) (every-at d (suc k) test xs (both (test k x) (every_from (suc k) test xs) e).1 j (le_of_suc-le-suc h))

pub at_every : {A : Type 0} (d : A) (k : ℕ) (test : ℕ → A → Bool) (xs : List A)
    → ((j : ℕ) → j < length xs → test (k + j) (get_or xs j d) ≡ true)
    → every_from k test xs ≡ true
unfolding every_from
at_every d k test [] f = refl
at_every d k test (x ∷ xs) f =
    simp (
      rw add-zero at (f zero (zero-lt-suc (length xs))),
      at_every d (suc k) test xs (λ j h. rw (suc-add, ← add-suc) (f (suc j) (suc-le-suc h))),
    )

-- what every entry passes, and the default, each read passes
pub every_entry : {A : Type 0} (test : A → Bool) (d : A) → test d ≡ true → (j : ℕ) (xs : List A) → every_from j (λ _ x. test x) xs ≡ true
    → (k : ℕ) → test (get_or xs k d) ≡ true
unfolding every_from
every_entry test d p j [] e k = p
every_entry test d p j (x ∷ xs) e zero = (both (test x) (every_from (suc j) (λ _ x. test x) xs) e).0
every_entry test d p j (x ∷ xs) e (suc k) = every_entry test d p (suc j) xs (both (test x) (every_from (suc j) (λ _ x. test x) xs) e).1 k

pub every_mem : (test : ℕ → Bool) (k : ℕ) (xs : List ℕ) → every_from k (λ _ x. test x) xs ≡ true → (v : ℕ) → Memᴰ v xs → test v ≡ true
unfolding every_from
every_mem test k [] q v m = absurd (Memᴰ.not-nil m)
every_mem test k (x ∷ xs) q v m =
    let h = both (test x) (every_from (suc k) (λ _ x. test x) xs) q in
    ⊎_elim (λ (e : v ≡ x). ap test e ∙ h.0) (λ n. every_mem test (suc k) xs h.1 v n) (Memᴰ.cases_cons m)
