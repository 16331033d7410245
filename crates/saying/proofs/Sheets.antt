-- From what a call answered, and what was then written on a page, to the sheet. Assumes nothing.
use Rattle.std.specs.Prelude.{Ok, Err, IsErrAnd}
use mathlib.Core.Path.{◌≡◌, refl, sym, ap, ◌∙◌}
use mathlib.Core.Bool.{false}
use mathlib.Core.List.{List}
use Prim.Native.Nat.{ℕ}
use lib.Dec.{eqb}
use lib.ListN.{take}
use Rattle.layout.specs.declared.Refusal.{Refusal}
use Rattle.layout.specs.declared.Refusal.TheVariants.{NotWellFormed, NoMembers, VertexNotLive, HyperedgeNotLive, SameMembers, TooManyMembers, Full, NumbersSpent, ClosedWalk, TooFewHyperedges, NoRoom, BadText, SameVertex, SideBySide, BadRecord, NotReviewed, UpstreamHeld, BadOrder, EqualNeighbours}
use Rattle.layout.specs.Answers.{Answer, number, Result, result_of}
use Rattle.layout.proofs.Answers.{passed_on}
use Rattle.wording.specs.Pages.{Page, page, write}
use Rattle.saying.specs.Saying.{sheet_on, word_on}

-- ---- what `?` passes on of a call that answered a

refusal-number : (f : Refusal) → eqb (number (Err f)) 0 ≡ false
refusal-number NotWellFormed = refl
refusal-number (NoMembers d) = refl
refusal-number (VertexNotLive v) = refl
refusal-number (HyperedgeNotLive e) = refl
refusal-number (SameMembers e) = refl
refusal-number (TooManyMembers k) = refl
refusal-number Full = refl
refusal-number NumbersSpent = refl
refusal-number ClosedWalk = refl
refusal-number TooFewHyperedges = refl
refusal-number (NoRoom k) = refl
refusal-number (BadText line) = refl
refusal-number (SameVertex v) = refl
refusal-number (SideBySide e) = refl
refusal-number (BadRecord i) = refl
refusal-number (NotReviewed v) = refl
refusal-number (UpstreamHeld v) = refl
refusal-number (BadOrder i) = refl
refusal-number (EqualNeighbours v) = refl

module _ (a : Answer) (f : Refusal) (e : a ≡ Err f) where
  pub refused-number : eqb (number a) 0 ≡ false
  refused-number = ap (λ (z : Answer). eqb (number z) 0) e ∙ refusal-number f

  pub passed-back : (x : Answer) → IsErrAnd x (λ y. y ≡ f) → x ≡ a
  passed-back x by = passed_on f x by ∙ sym e

-- ---- the call answered a and left the words ws

module _ (a : Answer) (ws : List ℕ) (f : List ℕ → List ℕ) (bytes : List ℕ) (at : ℕ) where
  pub refused-unwritten : (r : Refusal) → a ≡ Err r → (x : Answer) → IsErrAnd x (λ y. y ≡ r) → result_of x bytes ≡ sheet_on (result_of a ws) f (page bytes at)
  unfolding sheet_on
  refused-unwritten r e x by = rw (passed-back a r e x by, refused-number a r e)

  pub done-written : (d : ℕ) → a ≡ Ok d → (vs exit : List ℕ) (next : ℕ) → vs ≡ take d ws → page exit next ≡ write (f vs) (page bytes at)
      → result_of (Ok next) exit ≡ sheet_on (result_of a ws) f (page bytes at)
  unfolding sheet_on
  done-written d e vs exit next t w = rw (e, ← t, ← w)

-- a sheet of what a call promises
pub promised-sheet : (x y s : Result) (f : List ℕ → List ℕ) (p : Page) → x ≡ y → s ≡ sheet_on x f p → s ≡ sheet_on y f p
promised-sheet x y s f p e h = rw e at h

-- ---- the sheet of a call that answers with a number alone

module _ (a : Answer) (ws : List ℕ) (q : Result) (e : result_of a ws ≡ q) (f : ℕ → List ℕ) where
  pub word-refused : (r : Refusal) → a ≡ Err r → (x : Answer) → IsErrAnd x (λ y. y ≡ r) → (bytes : List ℕ) (at : ℕ)
      → result_of x bytes ≡ word_on q f (page bytes at)
  unfolding word_on
  word-refused r h x by bytes at = rw (passed-back a r h x by, ← e, refused-number a r h)

  pub word-written : (d : ℕ) → a ≡ Ok d → (p : Page) (xs exit : List ℕ) (next : ℕ) → xs ≡ f d → page exit next ≡ write xs p
      → result_of (Ok next) exit ≡ word_on q f p
  unfolding word_on
  word-written d h p xs exit next g w = rw (← e, h, ← g, ← w)
