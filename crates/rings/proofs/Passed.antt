-- Laws of a list up to the first place of a number. Assumes nothing.
use mathlib.Core.Path.{◌≡◌, refl, sym, ap, ◌∙◌}
use mathlib.Core.Bool.{true, false}
use mathlib.Core.List.{List, [], ◌∷◌}
use Prim.Native.Nat.{ℕ, zero, suc, ◌+◌, ◌-◌, ◌≤◌, ◌<◌}
use native.Mathlib.Nat.{not-suc-le-zero, le_of_suc-le-suc, lt_irrefl}
use native.Mathlib.Omega.{arith}
use lib.Dec.{eqb}
use lib.ListN.{length, get_or, take, drop, length-drop}
use lib.Seq.{length-take-le, take-suc, take_all, get_or-drop}
use borrow.Author.Tests.{eq-eqb, ne_eqb}
use Rattle.lists.specs.Lists.{memb, Distinct}
use Rattle.lists.proofs.Cases.{on, on_same, clash, or-false-left, or-false-right}
use Rattle.lists.proofs.Memb.{memb-getD, memb-snoc-other}
use Rattle.rings.specs.Search.{up_through}
use Rattle.rings.specs.State.{passed}

-- up to the first place of x
pub through-at : (x : ℕ) (w : List ℕ) (k : ℕ) → k < length w → memb x (take k w) ≡ false → get_or w k 0 ≡ x → up_through x w ≡ take (suc k) w
unfolding up_through
through-at x [] k h m e = absurd (not-suc-le-zero h)
through-at x (y ∷ w) zero h m e = rw (eq-eqb x y (sym e))
through-at x (y ∷ w) (suc k) h m e =
    rw (or-false-left (eqb x y) (memb x (take k w)) m)
    (ap (λ (l : List ℕ). y ∷ l) (through-at x w k (le_of_suc-le-suc h) (or-false-right (eqb x y) (memb x (take k w)) m) e))

-- the first place of x
pub first-place : (x : ℕ) (w : List ℕ) → memb x w ≡ true → (k : ℕ) × (k < length w) × (memb x (take k w) ≡ false) × (get_or w k 0 ≡ x)
first-place x [] e = clash e refl
first-place x (y ∷ w) e =
    on_same x y
    (λ s. (0, omega arith, refl, sym s))
    (λ ne.
    let n : eqb x y ≡ false = ne_eqb x y ne in
    let r = first-place x w (rw n at e) in
    (suc r.0, omega (arith, r.1), rw n r.2, r.3))

-- what is in no part of a list
memb-take : (x : ℕ) (w : List ℕ) (k : ℕ) → memb x w ≡ false → memb x (take k w) ≡ false
memb-take x w zero e = refl
memb-take x [] (suc k) e = refl
memb-take x (y ∷ w) (suc k) e = rw (or-false-left (eqb x y) (memb x w) e) (memb-take x w k (or-false-right (eqb x y) (memb x w) e))

pub distinct-take : (w : List ℕ) (k : ℕ) → Distinct w → Distinct (take k w)
distinct-take w zero d = tt
distinct-take [] (suc k) d = tt
distinct-take (y ∷ w) (suc k) d = (memb-take y w k d.0, distinct-take w k d.1)

module _ (y : ℕ) (w : List ℕ) where
  pub passed-yes : memb y w ≡ true → passed y w ≡ up_through y w
  unfolding passed
  passed-yes e = rw e

  pub passed-no : memb y w ≡ false → passed y w ≡ []
  unfolding passed
  passed-no e = rw e

  -- y was passed: the part up to its first place
  pub passed-part : memb y w ≡ true → (k : ℕ) × (k < length w) × (get_or w k 0 ≡ y) × (passed y w ≡ take (suc k) w)
  passed-part e = let r = first-place y w e in (r.0, r.1, r.3, passed-yes e ∙ through-at y w r.0 r.1 r.2 r.3)

  pub passed_none : 0 ≡ length (passed y w) → memb y w ≡ false
  passed_none e =
      on (memb y w)
      (λ m.
      let r = passed-part m in
      absurd (lt_irrefl 0 (omega (arith, e, ap length r.3, length-take-le (suc r.0) w r.1))))
      (λ m. m)

-- ---- the search in the path from place a on: the places before i don't have y

module _ (path : List ℕ) (a y i : ℕ) (long : length path ≡ 256) (le : a ≤ i) (before : memb y (take (i - a) (drop a path)) ≡ false) where
  rest : length (drop a path) ≡ 256 - a
  rest = length-drop a path ∙ ap (λ (k : ℕ). k - a) long

  here : get_or (drop a path) (i - a) 0 ≡ get_or path i 0
  here = let e : a + (i - a) ≡ i = omega arith in get_or-drop a path (i - a) 0 ∙ ap (λ (k : ℕ). get_or path k 0) e

  -- v is the word at place i
  pub met-here : i < 256 → (v : ℕ) → v ≡ get_or path i 0 → v ≡ y → i + 1 - a ≡ length (passed y (drop a path))
  met-here h v ev ey =
      let e : get_or path i 0 ≡ y = sym ev ∙ ey in
      let w = drop a path in
      let k : i - a < length w = omega (arith, rest) in
      let m : memb y w ≡ true = ap (λ (z : ℕ). memb z w) (sym (here ∙ e)) ∙ memb-getD w (i - a) k in
      let s : i + 1 - a ≡ suc (i - a) = omega arith in
      s ∙ sym (ap length (passed-yes y w m ∙ through-at y w (i - a) k before (here ∙ e)) ∙ length-take-le (suc (i - a)) w k)

  pub met-on : i < 256 → (v : ℕ) → v ≡ get_or path i 0 → (v ≡ y → ⊥) → memb y (take (i + 1 - a) (drop a path)) ≡ false
  met-on h v ev ny =
      let ne : get_or path i 0 ≡ y → ⊥ = λ q. ny (ev ∙ q) in
      let w = drop a path in
      let s : i + 1 - a ≡ suc (i - a) = omega arith in
      rw (s, take-suc w (i - a) 0 (omega (arith, rest)))
      (memb-snoc-other y (get_or w (i - a) 0) (take (i - a) w) (λ q. ne (sym here ∙ sym q)) ∙ before)

  pub met-none : 256 ≤ i → 0 ≡ length (passed y (drop a path))
  met-none h =
      let w = drop a path in
      sym (ap length (passed-no y w (ap (memb y) (sym (take_all (i - a) w (omega (arith, rest)))) ∙ before)))

pub met-first : (path : List ℕ) (a y : ℕ) → memb y (take (a - a) (drop a path)) ≡ false
met-first path a y = let z : a - a ≡ 0 = omega arith in rw z
