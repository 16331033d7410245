-- What a call on a table that is formed answers, and the words of a listing that fits. Assumes nothing.
use Rattle.std.specs.Prelude.{Ok}
use mathlib.Core.Path.{◌≡◌, ap, ap₂, ◌∙◌}
use mathlib.Core.List.{List}
use Prim.Native.Nat.{ℕ, ◌+◌, ◌-◌, ◌≤◌}
use native.Mathlib.Nat.{sub-zero}
use native.Mathlib.Omega.{arith}
use lib.ListN.{length, take, drop, length-append}
use lib.Seq.{take-append_seam}
use borrow.Author.Tests.{le-leb}
use Rattle.lists.specs.Lists.{over}
use Rattle.lists.proofs.Cases.{and_both}
use Rattle.layout.specs.Answers.{Answer}
use Rattle.layout.specs.Content.{Table}
use Rattle.layout.specs.Layout.{limit, read}
use Rattle.layout.specs.WellFormed.{well_formed}
use Rattle.layout.specs.Inner.{Formed}
use Rattle.layout.specs.Answers.{number, detail, Result, result_of, on_formed, listed}
use Rattle.layout.proofs.Shape.{shaped-by}
use Rattle.layout.proofs.Answers.{formed-result}

-- the answer is of the content
pub on-content : (ws lent : List ℕ) (g : Table → Result) → Formed limit ws → on_formed ws lent g ≡ g (read limit ws)
unfolding well_formed
on-content ws lent g f = formed-result ws lent g (and_both _ _ (shaped-by limit ws f.shape) f.content)

-- the same answer, with other words lent
pub relent : (a b : Answer) (w v z : List ℕ) → result_of a w ≡ result_of b v → result_of a z ≡ result_of b z
relent a b w v z e = ap (λ (r : Result). record { number = r.number; detail = r.detail; lent = z }) e

-- ---- a listing that fits: a is the answer, w the words that are left

module _ (xs lent : List ℕ) (h : length xs ≤ length lent) (a : Answer) (w : List ℕ) (e : result_of a w ≡ listed xs lent) where
  fitted : result_of a w ≡ result_of (Ok (length xs)) (over xs lent)
  unfolding listed
  fitted = rw (le-leb (length xs) (length lent) h) at e

  pub listing-done : number a ≡ 0
  listing-done = ap (λ (r : Result). r.number) fitted

  -- d is the answer's detail
  module _ (d : ℕ) (m : d ≡ detail a) where
    pub listing-words : take (d - 0) (drop 0 w) ≡ xs
    unfolding over
    listing-words =
        rw sub-zero
        (ap₂ take (m ∙ ap (λ (r : Result). r.detail) fitted) (ap (λ (r : Result). r.lent) fitted) ∙ take-append_seam xs (drop (length xs) lent))

    pub listing-within : d ≤ length w
    unfolding over
    listing-within =
        let k : detail a ≡ length xs = ap (λ (r : Result). r.detail) fitted in
        let l : length w ≡ length xs + length (drop (length xs) lent) = ap (λ (r : Result). length r.lent) fitted ∙ length-append xs (drop (length xs) lent) in
        omega arith
