-- Which refusal applies, from what the code found; number and detail determine the answer. Assumes nothing.
use Rattle.std.specs.Prelude.{Option, Some, None, ok_or, Ok, Err, IsErrAnd}
use Rattle.std.proofs.lemmas.Result.{err_from_is_err_and}
use mathlib.Core.Path.{◌≡◌, refl, sym, ap, ap₂, ◌∙◌}
use mathlib.Core.Bool.{Bool, true, false, not, cond}
use mathlib.Core.List.{List, [], ◌∷◌}
use Prim.Native.Nat.{ℕ, zero, suc, ◌+◌, ◌≤◌, ◌<◌, suc-le-suc}
use native.Mathlib.Nat.{zero-add, zero-lt-suc}
use native.Mathlib.Omega.{arith}
use lib.Dec.{eqb}
use lib.ListN.{length, get_or}
use borrow.Author.Tests.{not-true, not-false, le-leb, lt-leb}
use Rattle.lists.specs.Lists.{over}
use Rattle.lists.proofs.Cases.{on}
use Rattle.layout.specs.Answers.{Answer}
use Rattle.layout.specs.declared.Refusal.{Refusal}
use Rattle.layout.specs.declared.Refusal.TheVariants.{NotWellFormed, NoMembers, VertexNotLive, HyperedgeNotLive, SameMembers, TooManyMembers, Full, NumbersSpent, ClosedWalk, TooFewHyperedges, NoRoom, BadText, SameVertex, SideBySide, BadRecord, NotReviewed, UpstreamHeld, BadOrder, EqualNeighbours}
use Rattle.layout.specs.Content.{Table, position, is_live}
use Rattle.layout.specs.Layout.{limit, size, read}
use Rattle.layout.specs.WellFormed.{well_formed}
use Rattle.layout.specs.Inner.{Formed, first_missing, first_missing_from}
use Rattle.layout.specs.Answers.{number, detail, Result, result_of, on_formed, on_live, listed}
use Rattle.layout.proofs.Position.{found-live, missing-dead}
use Rattle.layout.proofs.Read.{formed-of}

-- ---- 1: r is what `well_formed` returned, and the code tested `!r`

module _ (ws : List ℕ) (r : Bool) (e : r ≡ well_formed limit ws) where
  pub formed-by : not r ≡ false → Formed limit ws
  formed-by h = formed-of limit ws (sym e ∙ not-false r h)

  pub sized-by : not r ≡ false → length ws ≡ size limit
  sized-by h = (formed-by h).shape.sized

  pub on-unformed : (lent : List ℕ) (f : Table → Result) → not r ≡ true → result_of (Err NotWellFormed) lent ≡ on_formed ws lent f
  unfolding on_formed
  on-unformed lent f h = rw (← e, not-true r h)

  pub on-formed : (lent : List ℕ) (f : Table → Result) (x : Result) → not r ≡ false → x ≡ f (read limit ws) → x ≡ on_formed ws lent f
  unfolding on_formed
  on-formed lent f x h q = rw (← e, not-false r h) q

-- a call on a table is what its result says of the content
pub formed-result : (ws lent : List ℕ) (f : Table → Result) → well_formed limit ws ≡ true → on_formed ws lent f ≡ f (read limit ws)
unfolding on_formed
formed-result ws lent f e = rw e

-- ---- 3 and 4: p is what a find of v returned

module _ (live : List ℕ) (refusal : ℕ → Answer) (v : ℕ) (lent : List ℕ) (r : Result) (p : Option ℕ) (e : p ≡ position v live) where
  pub on-missing : p ≡ None → result_of (refusal v) lent ≡ on_live live refusal (v ∷ []) lent r
  unfolding on_live
  on-missing h = rw (missing-dead v live (sym e ∙ h))

  pub on-found : (i : ℕ) → p ≡ Some i → r ≡ on_live live refusal (v ∷ []) lent r
  unfolding on_live
  on-found i h = rw (found-live v live i (sym e ∙ h))

-- ---- what `?` returns of a refusal f

pub passed_on : (f : Refusal) (x : Answer) → IsErrAnd x (λ y. y ≡ f) → x ≡ Err f
passed_on f x by = let b = err_from_is_err_and x by in b.1 ∙ ap Err b.2

-- ---- `ok_or(..)?` on what a find returned: q is what `ok_or` made of p, and x is what `?` returns

module _ (p : Option ℕ) (e : Refusal) (q : Answer) (made : q ≡ ok_or p e) where
  pub taken : (i : ℕ) → q ≡ Ok i → p ≡ Some i
  taken i h = grind arith

  pub untaken : (f : Refusal) → q ≡ Err f → p ≡ None
  untaken f h = grind arith

  pub refused-by : (f : Refusal) (x : Answer) → q ≡ Err f → IsErrAnd x (λ y. y ≡ f) → x ≡ Err e
  refused-by f x h by =
      let g : f ≡ e = grind arith in passed_on f x by ∙ ap Err g

-- 3 and 4 by `?`: z is the refusal that `ok_or` was handed
module _
    (live : List ℕ) (refusal : ℕ → Answer) (v : ℕ) (lent : List ℕ) (r : Result) (p : Option ℕ) (e : p ≡ position v live)
    (z : Refusal) (q : Answer) (made : q ≡ ok_or p z)
  where
    pub asked-missing : (f : Refusal) (x : Answer) → q ≡ Err f → IsErrAnd x (λ y. y ≡ f) → Err z ≡ refusal v → result_of x lent ≡ on_live live refusal (v ∷ []) lent r
    asked-missing f x h by s = ap (λ (a : Answer). result_of a lent) (refused-by p z q made f x h by ∙ s) ∙ on-missing live refusal v lent r p e (untaken p z q made f h)

    pub asked-found : (i : ℕ) → q ≡ Ok i → (x : Result) → x ≡ r → x ≡ on_live live refusal (v ∷ []) lent r
    asked-found i h x s = s ∙ on-found live refusal v lent r p e i (taken p z q made i h)

-- a search for the first missing one of a list
module _ (live : List ℕ) (refusal : ℕ → Answer) (lent : List ℕ) (r : Result) where
  from_first : (k : ℕ) (xs : List ℕ) (i : ℕ) → first_missing_from k live xs ≡ Some i
      → (j : ℕ) × (i ≡ k + j) × (j < length xs) × (result_of (refusal (get_or xs j 0)) lent ≡ on_live live refusal xs lent r)
  unfolding first_missing_from on_live
  from_first k [] i e = absurd (let z : ◌≡◌ {A = ℕ} 0 1 = cc in omega arith)
  from_first k (x ∷ xs) i e = on (is_live live x)
      (λ m. let q = from_first (suc k) xs i (rw m at e) in (suc q.0, omega (arith, q.1), suc-le-suc q.2, rw m q.3))
      (λ m. let f : Some k ≡ Some i = rw m at e in let g : k ≡ i = cc in (zero, omega arith, zero-lt-suc (length xs), rw m))

  pub on-first-missing : (xs : List ℕ) (i : ℕ) → first_missing live xs ≡ Some i
      → (i < length xs) × (result_of (refusal (get_or xs i 0)) lent ≡ on_live live refusal xs lent r)
  unfolding first_missing
  on-first-missing xs i e =
      let q = from_first zero xs i e in let s : i ≡ q.0 = q.1 ∙ zero-add q.0 in (rw s q.2, rw s q.3)

  from-none : (k : ℕ) (xs : List ℕ) → first_missing_from k live xs ≡ None → r ≡ on_live live refusal xs lent r
  unfolding first_missing_from on_live
  from-none k [] e = refl
  from-none k (x ∷ xs) e = on (is_live live x)
      (λ m. rw m (from-none (suc k) xs (rw m at e)))
      (λ m. absurd (let f : Some k ≡ None = rw m at e in let z : ◌≡◌ {A = ℕ} 0 1 = cc in omega arith))

  pub on-none-missing : (xs : List ℕ) → first_missing live xs ≡ None → r ≡ on_live live refusal xs lent r
  unfolding first_missing
  on-none-missing xs e = from-none zero xs e

-- ---- 11, or the listing

module _ (xs lent : List ℕ) (c : ℕ) (e : c ≡ length xs) where
  pub listed-over : length lent < c → result_of (Err (NoRoom c)) lent ≡ listed xs lent
  unfolding listed
  listed-over h = rw (← e, lt-leb c (length lent) h)

  pub listed-fits : (exit : List ℕ) → c ≤ length lent → exit ≡ over xs lent → result_of (Ok c) exit ≡ listed xs lent
  unfolding listed
  listed-fits exit h q = rw (← e, le-leb c (length lent) h, q)

-- ---- the reply to an answer: a is the case b, and x is the number, or the detail, of that case

pub tells-number : {a b : Answer} {x n : ℕ} → a ≡ b → x ≡ n → n ≡ number b → x ≡ number a
tells-number e p q = p ∙ q ∙ ap number (sym e)

pub tells-detail : {a b : Answer} {x d : ℕ} → a ≡ b → x ≡ d → d ≡ detail b → x ≡ detail a
tells-detail e p q = p ∙ q ∙ ap detail (sym e)

-- ---- number and detail determine the answer

decode : ℕ → ℕ → Answer
decode n d =
    cond (eqb n 0) (Ok d) (cond (eqb n 1) (Err NotWellFormed) (cond (eqb n 2) (Err (NoMembers d))
    (cond (eqb n 3) (Err (VertexNotLive (record { 0 = d }))) (cond (eqb n 4) (Err (HyperedgeNotLive (record { 0 = d })))
    (cond (eqb n 5) (Err (SameMembers (record { 0 = d }))) (cond (eqb n 6) (Err (TooManyMembers d)) (cond (eqb n 7) (Err Full)
    (cond (eqb n 8) (Err NumbersSpent) (cond (eqb n 9) (Err ClosedWalk) (cond (eqb n 10) (Err TooFewHyperedges)
    (cond (eqb n 11) (Err (NoRoom d)) (cond (eqb n 12) (Err (BadText d)) (cond (eqb n 13) (Err (SameVertex (record { 0 = d })))
    (cond (eqb n 14) (Err (SideBySide (record { 0 = d }))) (cond (eqb n 15) (Err (BadRecord d)) (cond (eqb n 17) (Err (NotReviewed (record { 0 = d })))
    (cond (eqb n 18) (Err (UpstreamHeld (record { 0 = d }))) (cond (eqb n 19) (Err (BadOrder d)) (Err (EqualNeighbours (record { 0 = d })))))))))))))))))))))

decoded : (a : Answer) → decode (number a) (detail a) ≡ a
unfolding decode
decoded (Ok d) = refl
decoded (Err NotWellFormed) = refl
decoded (Err (NoMembers d)) = refl
decoded (Err (VertexNotLive v)) = refl
decoded (Err (HyperedgeNotLive e)) = refl
decoded (Err (SameMembers e)) = refl
decoded (Err (TooManyMembers k)) = refl
decoded (Err Full) = refl
decoded (Err NumbersSpent) = refl
decoded (Err ClosedWalk) = refl
decoded (Err TooFewHyperedges) = refl
decoded (Err (NoRoom k)) = refl
decoded (Err (BadText line)) = refl
decoded (Err (SameVertex v)) = refl
decoded (Err (SideBySide e)) = refl
decoded (Err (BadRecord i)) = refl
decoded (Err (NotReviewed v)) = refl
decoded (Err (UpstreamHeld v)) = refl
decoded (Err (BadOrder i)) = refl
decoded (Err (EqualNeighbours v)) = refl

-- any two results that keep one promise agree in answer and lent words
pub agree : (promised : Result) {a b : Answer} {x y : List ℕ} → result_of a x ≡ promised → result_of b y ≡ promised → (a ≡ b) × (x ≡ y)
agree promised {a} {b} p q = (
  sym (decoded a) ∙ ap₂ decode (ap (λ (r : Result). r.number) (p ∙ sym q)) (ap (λ (r : Result). r.detail) (p ∙ sym q)) ∙ decoded b,
  ap (λ (r : Result). r.lent) (p ∙ sym q),
)
