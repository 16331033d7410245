-- Going back: the numbers passed, as the path holds them, and what is left of the search. Assumes nothing.
use mathlib.Core.Path.{◌≡◌, refl, sym, ap, ◌∙◌}
use mathlib.Core.Bool.{Bool, true, false}
use mathlib.Core.List.{List, [], ◌∷◌}
use Prim.Native.Nat.{ℕ, suc, ◌+◌, ◌-◌, ◌≤◌, ◌<◌}
use native.Mathlib.Nat.{not-suc-le-zero}
use native.Mathlib.Omega.{arith}
use lib.ListN.{length, get_or, take, drop, set, replicate, length-set, length-drop, length-replicate, drop_of_length-le}
use lib.Seq.{drop-cons, drop-set-lt, get_or-set_same, length-take-le}
use borrow.Author.Tests.{lt-ltb, le-ltb}
use Rattle.lists.specs.Lists.{memb}
use Rattle.lists.proofs.Cases.{on}
use Rattle.lists.proofs.Count.{pigeon, room}
use Rattle.lists.proofs.Parts.{part_ext}
use Rattle.lists.proofs.Store.{store-more}
use Rattle.graph.specs.Bfs.{bfs}
use Rattle.graph.specs.Held.{Marks}
use Rattle.components.specs.Classes.{reached}
use Rattle.components.specs.Parts.{flagged}
use Rattle.rings.specs.Search.{before, comes_back, up_through, go_back, ring_from, ring_of}
use Rattle.rings.specs.State.{Begun, passed, Going, Copied, Stands}
use Rattle.rings.proofs.Passed.{passed-yes, passed-no, passed-part, passed_none}
use Rattle.rings.proofs.Back.{before-marked, before-below, before-kept, reached-self}

-- ---- the copy

pub copied-first : (path : List ℕ) (a : ℕ) → Copied path a (replicate 256 0) 0
copied-first path a = record { long = length-replicate {A = ℕ} 256 0; is = λ i l. absurd (not-suc-le-zero l) }

module _ {path : List ℕ} {a : ℕ} {front : List ℕ} {j : ℕ} (h : Copied path a front j) where
  pub copied_more : (c : ℕ) → j < c → a + c ≤ 256 → (x : ℕ) → x ≡ get_or path (a + j) 0 → Copied path a (set front j x) (j + 1)
  copied_more c l b x e = record {
    long = length-set front j x ∙ h.long;
    is = store-more (λ i y. y ≡ get_or path (a + i) 0) front j x (omega (arith, h.long)) h.is e;
  }

  pub copied-end : (c : ℕ) → c ≤ j → a + c ≤ 256 → length path ≡ 256 → take c front ≡ take c (drop a path)
  copied-end c l b e = part_ext front path 0 a c (omega (arith, h.long)) (omega arith) (λ r s. let z : 0 + r ≡ r = omega arith in rw z (h.is r (omega arith)))

-- ---- the search

module _ (g : ℕ → ℕ) (f : ℕ) (w : List ℕ) (x : ℕ) where
  pub go_on : memb x w ≡ false → go_back g (suc f) w x ≡ go_back g f (x ∷ w) (g x)
  unfolding go_back
  go_on e = rw e

  pub go-end : memb x w ≡ true → go_back g (suc f) w x ≡ up_through x w
  unfolding go_back
  go-end e = rw e

-- one more number in the path
path-more : (path : List ℕ) (k y : ℕ) → k < length path → drop k (set path k y) ≡ y ∷ drop (suc k) path
path-more path k y l =
    drop-cons (set path k y) k 0 (rw (length-set path k y) l)
    ∙ rw (get_or-set_same path k y 0 l, drop-set-lt (suc k) path k y (omega arith))

module _ (E : ℕ → ℕ → Bool) (n x : ℕ) (small : n ≤ 256) (l : x < n) where
  begun : (path : List ℕ) → path ≡ replicate 256 0 → Going E n x path 256 x 0
  begun path e =
      let none : drop 256 path ≡ [] = drop_of_length-le path {i = 256} (omega (arith, ap length e, length-replicate {A = ℕ} 256 0)) in
      record {
        long = ap length e ∙ length-replicate {A = ℕ} 256 0;
        within = omega arith;
        once = rw none tt;
        below = rw none tt;
        next = l;
        kept = reached-self E n x l;
        met = rw none (sym (ap length (passed-no x [] refl)));
        left = let z : suc n - (256 - 256) ≡ suc n = omega arith in rw (none, z) refl;
      }

  pub going-first : Going E n x (replicate 256 0) 256 x 0
  going-first = begun (replicate 256 0) refl

  module _ {path : List ℕ} {a y c : ℕ} (h : Going E n x path a y c) where
    rest : length (drop a path) ≡ 256 - a
    rest = length-drop a path ∙ ap (λ (k : ℕ). k - a) h.long

    module _ (z : c ≡ 0) where
      new : memb y (drop a path) ≡ false
      new = passed_none y (drop a path) (sym z ∙ h.met)

      pub going-room : 256 - a < n
      going-room = omega (arith, rest, room (drop a path) n y h.once h.below h.next new)

      pub going-some : 1 ≤ a
      going-some = omega (arith, going-room)

      pub going-place : a - 1 < 256
      going-place = omega (arith, going-some, h.within)

      pub going_before : a - 1 ≤ 256
      going_before = omega (arith, h.within)

      pub going_less : a - 1 < a
      going_less = omega (arith, going-some)

      -- m is what `met` counted
      pub going_more : (marks : List ℕ) → Marks n marks (bfs E n x) → comes_back E n x ≡ true → (b : ℕ) → b ≡ before E n (flagged marks) y
          → (m : ℕ) → m ≡ length (passed b (drop (a - 1) (set path (a - 1) y))) → Going E n x (set path (a - 1) y) (a - 1) b m
      going_more marks mk back b e m em =
          let g : ℕ → ℕ = before E n (reached E n x) in
          let same : b ≡ g y = e ∙ before-marked E n x marks mk y in
          let s : suc (a - 1) ≡ a = omega (arith, going-some) in
          let more : drop (a - 1) (set path (a - 1) y) ≡ y ∷ drop a path =
          path-more path (a - 1) y (omega (arith, h.long, h.within, going-some)) ∙ ap (λ (k : ℕ). y ∷ drop k path) s in
          let fuel : suc n - (256 - a) ≡ suc (suc n - (256 - (a - 1))) = omega (arith, going-room, going-some, h.within) in
          record {
            long = length-set path (a - 1) y ∙ h.long;
            within = omega (arith, h.within);
            once = rw more (new, h.once);
            below = rw more (h.next, h.below);
            next = rw same (before-below E n x l back y h.kept);
            kept = rw same (before-kept E n x l back y h.kept);
            met = em;
            left = rw (more, same) (sym (ap (λ (k : ℕ). go_back g k (drop a path) y) fuel ∙ go_on g _ (drop a path) y new) ∙ h.left);
          }

    module _ (z : c ≡ 0 → ⊥) where
      old : memb y (drop a path) ≡ true
      old = on (memb y (drop a path)) (λ e. e) (λ e. absurd (z (h.met ∙ ap length (passed-no y (drop a path) e))))

      pub going-within : a + c ≤ 256
      going-within =
          let r = passed-part y (drop a path) old in
          omega (arith, h.within, rest, h.met, ap length r.3, length-take-le (suc r.0) (drop a path) r.1, r.1)

      -- order is what `to_front` left
      pub going_end : (order : List ℕ) → take c order ≡ take c (drop a path) → Stands (ring_from E n x) order c
      going_end order e =
          let w : List ℕ = drop a path in
          let r = passed-part y w old in
          let g : ℕ → ℕ = before E n (reached E n x) in
          let count : c ≡ suc r.0 = h.met ∙ ap length r.3 ∙ length-take-le (suc r.0) w r.1 in
          let short : 256 - a ≤ n = omega (arith, rest, pigeon w n h.once h.below) in
          let fuel : suc n - (256 - a) ≡ suc (n - (256 - a)) = omega (arith, short) in
          let is : passed y w ≡ ring_from E n x =
          passed-yes y w old ∙ sym (ap (λ (k : ℕ). go_back g k w y) fuel ∙ go-end g (n - (256 - a)) w y old) ∙ h.left in
          record {
            first = e ∙ ap (λ (k : ℕ). take k w) count ∙ sym r.3 ∙ is;
            count = h.met ∙ ap length is;
          }

-- ---- the answer: x is what `lowest` found

module _ (E : ℕ → ℕ → Bool) (n x : ℕ) (marks : List ℕ) (h : Begun E n x marks) where
  pub ring-none : n ≤ x → (order : List ℕ) → Stands (ring_of E n) order 0
  unfolding ring_of
  ring-none l order = record { first = rw (← h.is, le-ltb x n l); count = rw (← h.is, le-ltb x n l) }

  pub begun-marked : x < n → Marks n marks (bfs E n x)
  begun-marked l = h.marked l

  pub begun-back : x < n → comes_back E n x ≡ true
  begun-back l = h.back l

  pub ring-stands : x < n → (order : List ℕ) (c : ℕ) → Stands (ring_from E n x) order c → Stands (ring_of E n) order c
  unfolding ring_of
  ring-stands l order c s = rw (← h.is, lt-ltb x n l) s
