-- The names: the table of the code, a line that opens with one, the first of them that a line opens with. Assumes nothing.
use Rattle.std.specs.Prelude.{Option, Some, None}
use mathlib.Core.Path.{◌≡◌, refl, sym, ap, ◌∙◌}
use mathlib.Core.Bool.{Bool, true, false, not}
use mathlib.Core.List.{List, [], ◌∷◌}
use Prim.Native.Nat.{ℕ, zero, suc, ◌+◌, ◌-◌, ◌≤◌, ◌<◌, suc-le-suc}
use native.Mathlib.Nat.{zero-lt-suc}
use native.Mathlib.Omega.{arith}
use lib.Dec.{eqb, ltb}
use lib.ListN.{length, get_or, take, drop, replicate, length-append, length-take}
use lib.Pointwise.{pointwise}
use lib.Seq.{take_at, take_all}
use borrow.Author.Tests.{ltb-true, not-true, not-false, le-leb, lt-leb, eq-eqb, ne_eqb}
use Rattle.lists.specs.Tests.{◌and◌, every}
use Rattle.lists.specs.Lists.{same_list, tab}
use Rattle.lists.proofs.Cases.{on, on_same, on_below, and_both, and_left, and-false-left, and-false-right}
use Rattle.lists.proofs.Every.{every-at}
use Rattle.lists.proofs.Tab.{length-tab, getD-tab}
use Rattle.edits.specs.Results.{first_passing, first_passing_from}
use Rattle.edits.proofs.Identical.{same-not-long}
use Rattle.edits.proofs.Passing.{passing-on, passing-here, passing-none}
use Rattle.commands.specs.Words.{blank}
use Rattle.commands.specs.Commands.{forms, command_count, names, form_at, name_at, ends_at, opens_with, named}
use Rattle.commands.specs.Inner.{opened, widest, padded, Opens}

-- ---- `==` on bytes

pub pointwise-same : (a b : List ℕ) (r : Bool) → r ≡ pointwise eqb a b → r ≡ same_list a b
unfolding same_list ◌and◌
pointwise-same [] [] r e = e
pointwise-same [] (y ∷ ys) r e = e
pointwise-same (x ∷ xs) [] r e = e
pointwise-same (x ∷ xs) (y ∷ ys) r e = on (eqb x y)
    (λ q. rw q (pointwise-same xs ys r (rw q at e)))
    (λ q. rw q (rw q at e))

-- ---- a line that opens with a name

module _ (line name : List ℕ) where
  opens_not : opens_with line name ≡ false → 0 ≡ opened line name
  unfolding opened
  opens_not e = rw e

  opens-so : opens_with line name ≡ true → length name ≡ opened line name
  unfolding opened
  opens-so e = rw e

  pub opens-short : length line < length name → 0 ≡ opened line name
  unfolding opens_with
  opens-short h =
      opens_not
      (and-false-left _ _
      (sym (same-not-long (take (length name) line) name (λ e. omega (arith, length-take (length name) line)))))

  module _ (r : Bool) (e : r ≡ same_list (take (length name) line) name) where
    pub opens-other : not r ≡ true → 0 ≡ opened line name
    unfolding opens_with
    opens-other q = opens_not (and-false-left _ _ (sym e ∙ not-true r q))

    pub opens-whole : not r ≡ false → length line ≡ length name → length name ≡ opened line name
    unfolding opens_with ends_at
    opens-whole q l = opens-so (and_both _ _ (sym e ∙ not-false r q) (rw (le-leb (length line) (length name) (omega arith))))

    pub opens-on : length name ≤ length line → (length line ≡ length name → ⊥) → (get_or line (length name) 0 ≡ blank → ⊥) → 0 ≡ opened line name
    unfolding opens_with ends_at
    opens-on h ne nb =
        opens_not
        (and-false-right _ _
        (rw (lt-leb (length line) (length name) (omega arith), ne_eqb (get_or line (length name) 0) blank nb)))

    pub opens-blank : not r ≡ false → length name ≤ length line → (length line ≡ length name → ⊥) → get_or line (length name) 0 ≡ blank → length name ≡ opened line name
    unfolding opens_with ends_at
    opens-blank q h ne b =
        opens-so
        (and_both _ _ (sym e ∙ not-false r q)
        (rw (lt-leb (length line) (length name) (omega arith), eq-eqb (get_or line (length name) 0) blank b)))

-- ---- the table of the code

module _ (k : ℕ) (h : k < command_count) where
  some : ℕ → Bool
  some i = ltb 0 (length (name_at i))

  some-all : every some command_count ≡ true
  unfolding every ◌and◌ some forms form_at name_at
  some-all = refl

  name-some : 0 < length (name_at k)
  unfolding some
  name-some = ltb-true 0 (length (name_at k)) (every-at some command_count k some-all h)

  module _ (name : List ℕ) (n : ℕ) (e : name ≡ padded k) (l : n ≡ length (name_at k)) where
    pub prefix-is : take n name ≡ name_at k
    unfolding padded
    prefix-is = rw e (take_at (name_at k) (replicate (widest - length (name_at k)) blank) n (sym l))

    pub prefix-fits : n ≤ length name
    unfolding padded
    prefix-fits = rw e (omega (arith, length-append (name_at k) (replicate (widest - length (name_at k)) blank)))

    pub prefix-length : n ≡ length (take n name)
    prefix-length = l ∙ ap length (sym prefix-is)

    pub opened-by : (line : List ℕ) (r : ℕ) → r ≡ opened line (take n name) → r ≡ opened line (name_at k)
    opened-by line r q = q ∙ ap (opened line) prefix-is

-- ---- the first of the names

names-tab : tab name_at command_count ≡ names
unfolding tab forms names form_at name_at
names-tab = refl

pub names-first : (p : List ℕ → Bool) → first_passing_from p 0 (tab name_at command_count) ≡ first_passing p names
unfolding first_passing
names-first p = ap (first_passing_from p 0) names-tab

pub names-none : (p : List ℕ → Bool) (k : ℕ) (whole : Option ℕ) → first_passing_from p k (drop k (tab name_at command_count)) ≡ whole → command_count ≤ k → None ≡ whole
names-none p k whole inv h = passing-none p name_at command_count k whole inv command_count refl h

-- that a line opens with: r is the length of name k, or 0
module _ (line : List ℕ) (k r : ℕ) (e : r ≡ opened line (name_at k)) where
  opens-if : (r ≡ 0 → ⊥) → opens_with line (name_at k) ≡ true
  opens-if ne = on (opens_with line (name_at k)) (λ q. q) (λ q. absurd (ne (e ∙ sym (opens_not line (name_at k) q))))

  opens-unless : k < command_count → r ≡ 0 → opens_with line (name_at k) ≡ false
  opens-unless h z = on (opens_with line (name_at k)) (λ q. absurd (omega (arith, name-some k h, opens-so line (name_at k) q))) (λ q. q)

  module _ (whole : Option ℕ) (inv : first_passing_from (opens_with line) k (drop k (tab name_at command_count)) ≡ whole) (h : k < command_count) where
    pub name-here : (r ≡ 0 → ⊥) → Some k ≡ whole
    name-here ne = passing-here (opens_with line) name_at command_count k whole inv command_count refl (opens_with line (name_at k)) refl h (opens-if ne)

    pub name-on : r ≡ 0 → first_passing_from (opens_with line) (k + 1) (drop (k + 1) (tab name_at command_count)) ≡ whole
    name-on z = passing-on (opens_with line) name_at command_count k whole inv command_count refl (opens_with line (name_at k)) refl h (opens-unless h z)

-- that is the bytes
pub exact_none : (bytes : List ℕ) → length bytes ≡ 0 → None ≡ first_passing (same_list bytes) names
unfolding forms names same_list first_passing first_passing_from
exact_none [] e = refl
exact_none (x ∷ xs) e = absurd (omega arith)

module _ (bytes name : List ℕ) (r : ℕ) (e : r ≡ opened bytes name) where
  exact-if : 0 < length bytes → r ≡ length bytes → same_list bytes name ≡ true
  unfolding opens_with
  exact-if h q = on (opens_with bytes name)
      (λ o.
      let s : length name ≡ length bytes = opens-so bytes name o ∙ sym e ∙ q in
      rw (take_all (length name) bytes (omega arith)) at (and_left _ _ o))
      (λ o. absurd (omega (arith, opens_not bytes name o)))

  exact-unless : (r ≡ length bytes → ⊥) → same_list bytes name ≡ false
  unfolding opens_with ends_at
  exact-unless ne = on_same (length bytes) (length name)
      (λ l. on (same_list bytes name)
      (λ s. absurd (ne (e ∙ sym (opens-so bytes name (and_both _ _ (rw (take_all (length name) bytes (omega arith)) s) (rw (le-leb (length bytes) (length name) (omega arith))))) ∙ sym l)))
      (λ s. s))
      (λ l. sym (same-not-long bytes name l))

module _ (bytes : List ℕ) (k r : ℕ) (e : r ≡ opened bytes (name_at k)) (whole : Option ℕ)
    (inv : first_passing_from (same_list bytes) k (drop k (tab name_at command_count)) ≡ whole) (h : k < command_count) where
  pub exact-here : 0 < length bytes → r ≡ length bytes → Some k ≡ whole
  exact-here s q = passing-here (same_list bytes) name_at command_count k whole inv command_count refl (same_list bytes (name_at k)) refl h (exact-if bytes (name_at k) r e s q)

  pub exact-on : (r ≡ length bytes → ⊥) → first_passing_from (same_list bytes) (k + 1) (drop (k + 1) (tab name_at command_count)) ≡ whole
  exact-on ne = passing-on (same_list bytes) name_at command_count k whole inv command_count refl (same_list bytes (name_at k)) refl h (exact-unless bytes (name_at k) r e ne)

-- ---- a name that was found

found_at : {A : Type 0} (p : A → Bool) (d : A) (i : ℕ) (xs : List A) (k : ℕ) → first_passing_from p i xs ≡ Some k
    → (j : ℕ) × (k ≡ i + j) × (j < length xs) × (p (get_or xs j d) ≡ true)
unfolding first_passing_from
found_at p d i [] k e = absurd (let z : ◌≡◌ {A = ℕ} 0 1 = cc in omega arith)
found_at p d i (x ∷ xs) k e = on (p x)
    (λ m. let f : Some i ≡ Some k = rw m at e in let g : i ≡ k = cc in (zero, omega arith, zero-lt-suc (length xs), m))
    (λ m. let q = found_at p d (suc i) xs k (rw m at e) in (suc q.0, omega (arith, q.1), suc-le-suc q.2, q.3))

pub opens-found : (line : List ℕ) (f : Option ℕ) (k : ℕ) → f ≡ named line → f ≡ Some k → Opens line k
unfolding named
opens-found line f k e q =
    let s = found_at (opens_with line) [] 0 (tab name_at command_count) k (names-first (opens_with line) ∙ sym e ∙ q) in
    let i : k ≡ s.0 = omega (arith, s.1) in
    let h : k < command_count = rw i (rw length-tab at s.2) in
    let o : opens_with line (name_at k) ≡ true = rw (← getD-tab name_at command_count k [] h, i) s.3 in
    record {
      one = h;
      long = on_below (length line) (length (name_at k))
          (λ l. absurd (omega (arith, name-some k h, opens-short line (name_at k) l, opens-so line (name_at k) o)))
          (λ l. l);
    }
