-- What the call that lists a path answered, and the answer of the sheet. Assumes nothing.
use Rattle.std.specs.Prelude.{Ok, Err, IsErrAnd}
use mathlib.Core.Path.{◌≡◌, refl, sym, ap, ◌∙◌}
use mathlib.Core.Bool.{Bool, true}
use mathlib.Core.List.{List, [], ◌∷◌}
use mathlib.Core.Option.{Option, none, some}
use Prim.Native.Nat.{ℕ, ◌-◌, ◌≤◌}
use native.Mathlib.Omega.{arith}
use lib.ListN.{length, take, drop, replicate, length-replicate}
use borrow.Author.Tests.{eq-eqb}
use Rattle.lists.proofs.Cases.{on, clash}
use Rattle.layout.specs.declared.Refusal.{Refusal}
use Rattle.layout.specs.Answers.{Answer}
use Rattle.layout.specs.Content.{live_vertices, is_live}
use Rattle.layout.specs.Layout.{limit, read}
use Rattle.layout.specs.Inner.{Formed}
use Rattle.layout.specs.Answers.{number, detail, Result, result_of, on_formed, on_live, vertex_missing, listed}
use Rattle.paths.specs.Paths.{best_path, path_words, pair_result}
use Rattle.paths.proofs.Theorems.{path-is-best, best-steps, count-of-entries}
use Rattle.wording.specs.Pages.{Page, page, write}
use Rattle.saying.specs.Saying.{paged}
use Rattle.saying.proofs.Sheets.{refused-number, passed-back}
use Rattle.saying.proofs.Listings.{on-content, relent, listing-done, listing-words, listing-within}
use Rattle.path_sheets.specs.Path.{path_sheet, path_result}

-- the words lent for it
unfoldable pub path_room : List ℕ
path_room = replicate 515 0

room-length : length path_room ≡ 515
unfolding path_room
room-length = length-replicate {A = ℕ} 515 0

path-fits : (ws : List ℕ) → Formed limit ws → (x y : ℕ) → is_live (live_vertices (read limit ws)) x ≡ true → (p : Option (List ℕ)) → best_path (read limit ws) x y ≡ p
    → length (path_words (read limit ws) x p) ≤ length path_room
unfolding path_words
path-fits ws f x y live none e = omega (arith, room-length)
path-fits ws f x y live (some l) e =
    omega (arith, room-length, count-of-entries (read limit ws) x (some l), best-steps f x y live l (path-is-best f x y live l e))

-- a is what the call answered, w the words that it left
module _ (ws : List ℕ) (f : Formed limit ws) (x y : ℕ) (a : Answer) (w : List ℕ) (e : result_of a w ≡ on_formed ws path_room (pair_result x y path_room)) where
  live : List ℕ
  live = live_vertices (read limit ws)

  words : List ℕ
  words = path_words (read limit ws) x (best_path (read limit ws) x y)

  answered : result_of a w ≡ on_live live vertex_missing (x ∷ y ∷ []) path_room (listed words path_room)
  unfolding pair_result live words
  answered = e ∙ on-content ws path_room (pair_result x y path_room) f

  both : is_live live x ≡ true → is_live live y ≡ true → result_of a w ≡ listed words path_room
  unfolding on_live
  both hx hy = rw (hx, hy) at answered

  fits : is_live live x ≡ true → length words ≤ length path_room
  unfolding live words
  fits hx = path-fits ws f x y hx (best_path (read limit ws) x y) refl

  pub path-refused : (r : Refusal) → a ≡ Err r → (o : Answer) → IsErrAnd o (λ y. y ≡ r) → (plain : Bool) (b : List ℕ) (at : ℕ)
      → result_of o b ≡ path_result plain x y (page b at) (read limit ws)
  unfolding path_result on_live live
  path-refused r h o by plain b at =
      ap (λ (q : Answer). result_of q b) (passed-back a r h o by)
      ∙ on (is_live live x)
      (λ hx. on (is_live live y)
      (λ hy. clash (eq-eqb (number a) 0 (listing-done words path_room (fits hx) a w (both hx hy))) (refused-number a r h))
      (λ hy. rw (hx, hy) (relent a (vertex_missing y) w path_room b (rw (hx, hy) at answered))))
      (λ hx. rw hx (relent a (vertex_missing x) w path_room b (rw hx at answered)))

  -- d is the answer's detail
  module _ (d : ℕ) (z : a ≡ Ok d) where
    refused : (v : ℕ) → result_of a w ≡ result_of (vertex_missing v) path_room → ⊥
    refused v q = let c : number a ≡ 3 = ap (λ (r : Result). r.number) q in let o : number a ≡ 0 = ap number z in omega arith

    live_both : (is_live live x ≡ true) × (is_live live y ≡ true)
    unfolding on_live
    live_both =
        on (is_live live x)
        (λ hx. on (is_live live y) (λ hy. (hx, hy)) (λ hy. absurd (refused y (rw (hx, hy) at answered))))
        (λ hx. absurd (refused x (rw hx at answered)))

    pub path-within : d ≤ length w
    path-within = listing-within words path_room (fits live_both.0) a w (both live_both.0 live_both.1) d (sym (ap detail z))

    pub path-words : take (d - 0) (drop 0 w) ≡ path_words (read limit ws) x (best_path (read limit ws) x y)
    unfolding words
    path-words = listing-words words path_room (fits live_both.0) a w (both live_both.0 live_both.1) d (sym (ap detail z))

    pub path-done : (plain : Bool) (p : Page) (c : List ℕ) (q : ℕ) → page c q ≡ write (path_sheet plain x y (read limit ws)) p
        → result_of (Ok q) c ≡ path_result plain x y p (read limit ws)
    unfolding path_result on_live live
    path-done plain p c q h = rw (live_both.0, live_both.1) (ap paged h)
