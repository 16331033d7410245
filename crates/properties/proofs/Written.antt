-- Laws of one list written after another, and of a list with its count before it. Assumes nothing.
use Rattle.std.specs.Prelude.{Ok, Err}
use mathlib.Core.Path.{◌≡◌, refl, sym, ap, ap₂, ◌∙◌}
use mathlib.Core.Bool.{Bool}
use mathlib.Core.List.{List, [], ◌∷◌, ◌++◌, map}
use Prim.Native.Nat.{ℕ, ◌+◌, ◌-◌, ◌≤◌, ◌<◌}
use native.Mathlib.Omega.{arith}
use lib.ListN.{length, take, drop, set, length-set, length-drop, length-append}
use Rattle.lists.specs.Tests.{count, chosen}
use Rattle.lists.specs.Lists.{over, counted, word_at}
use Rattle.lists.proofs.Parts.{part-tail, back-tail}
use Rattle.lists.proofs.Chosen.{over_none, over-more, over-part, over-length}
use Rattle.layout.specs.declared.Refusal.TheVariants.{NoRoom}
use Rattle.layout.specs.Content.{live_vertices}
use Rattle.layout.specs.Layout.{vertex_count, read}
use Rattle.layout.specs.Answers.{result_of, listed}
use Rattle.layout.proofs.Answers.{listed-over, listed-fits}
use Rattle.marks.specs.Marks.{is_marked, marked}
use Rattle.marks.proofs.Marked.{picked-length, marked-are}
use Rattle.properties.specs.Properties.{twice}

-- ys written into the part from k on, where the k words of xs end; the part was lent as exit
pub over-after : (xs ys out mid exit : List ℕ) (k : ℕ) → k ≡ length xs → mid ≡ over xs out → exit ≡ over ys (take (length mid - k) (drop k mid))
    → take k mid ++ (exit ++ drop (length mid - k) (drop k mid)) ≡ over (xs ++ ys) out
over-after xs ys out mid exit k e m w =
    back-tail k mid exit ∙ ap (λ (y : List ℕ). take k mid ++ y) (w ∙ ap (over ys) (part-tail k mid))
    ∙ ap (λ (y : List ℕ). take k y ++ over ys (drop k y)) m ∙ over-part xs ys out k (sym e)

-- the part from k on has room for what is left
pub part_room : (mid : List ℕ) (k r : ℕ) → k + r ≤ length mid → r ≤ length (take (length mid - k) (drop k mid))
part_room mid k r l = rw (part-tail, length-drop) (omega arith)

-- n is what `vertex_count` found, c what `count_marked` found
module _ (L : ℕ) (ws : List ℕ) (marks : List Bool) (n c : ℕ) (e : n ≡ vertex_count ws) (q : c ≡ count (is_marked marks) n) where
  pub marked-count : c ≡ length (marked marks (live_vertices (read L ws)))
  marked-count = q ∙ sym (picked-length (is_marked marks) (word_at (live_vertices (read L ws))) n) ∙ ap length (marked-are L ws marks n e)

  pub counted-length : c + 1 ≡ length (counted (marked marks (live_vertices (read L ws))))
  counted-length = omega (arith, marked-count)

  module _ (out : List ℕ) (l : length (counted (marked marks (live_vertices (read L ws)))) ≤ length out) where
    pub counted-some : 0 < length out
    counted-some = omega (arith, counted-length)

    pub counted_start : 1 ≤ length (set out 0 c)
    counted_start = rw length-set counted-some

    pub counted-room : count (is_marked marks) n ≤ length (take (length (set out 0 c) - 1) (drop 1 (set out 0 c)))
    counted-room = part_room (set out 0 c) 1 (count (is_marked marks) n) (rw length-set (omega (arith, counted-length)))

    pub counted-wrote : (exit : List ℕ) → exit ≡ over (map (word_at (live_vertices (read L ws))) (chosen (is_marked marks) n)) (take (length (set out 0 c) - 1) (drop 1 (set out 0 c)))
        → take 1 (set out 0 c) ++ (exit ++ drop (length (set out 0 c) - 1) (drop 1 (set out 0 c))) ≡ over (counted (marked marks (live_vertices (read L ws)))) out
    counted-wrote exit w =
        over-after (c ∷ []) _ out (set out 0 c) exit 1 refl (ap (λ (d : List ℕ). set d 0 c) (sym (over_none out)) ∙ over-more [] out c 0 refl counted-some) w
        ∙ ap₂ (λ (k : ℕ) (xs : List ℕ). over (k ∷ xs) out) marked-count (marked-are L ws marks n e)

    pub counted_same : (exit : List ℕ) → exit ≡ over (map (word_at (live_vertices (read L ws))) (chosen (is_marked marks) n)) (take (length (set out 0 c) - 1) (drop 1 (set out 0 c)))
        → length (take 1 (set out 0 c) ++ (exit ++ drop (length (set out 0 c) - 1) (drop 1 (set out 0 c)))) ≡ length out
    counted_same exit w = ap length (counted-wrote exit w) ∙ over-length (counted (marked marks (live_vertices (read L ws)))) out l

-- ---- two lists: x and y are what `count_marked` found of a and of b

module _ (L : ℕ) (ws : List ℕ) (a b : List Bool) (n x y : ℕ) (e : n ≡ vertex_count ws) (p : x ≡ count (is_marked a) n) (q : y ≡ count (is_marked b) n) (out : List ℕ) where
  two-length : x + y + 2 ≡ length (twice (marked a (live_vertices (read L ws))) (marked b (live_vertices (read L ws))))
  unfolding twice
  two-length = omega (
    arith,
    length-append (counted (marked a (live_vertices (read L ws)))) (counted (marked b (live_vertices (read L ws)))),
    counted-length L ws a n x e p,
    counted-length L ws b n y e q,
  )

  pub two-over : length out < x + y + 2 → result_of (Err (NoRoom (x + y + 2))) out ≡ listed (twice (marked a (live_vertices (read L ws))) (marked b (live_vertices (read L ws)))) out
  two-over h = listed-over _ out (x + y + 2) two-length h

  module _ (h : x + y + 2 ≤ length out) where
    pub two-first : length (counted (marked a (live_vertices (read L ws)))) ≤ length out
    two-first = omega (arith, counted-length L ws a n x e p)

    -- mid is what `write_counted` left of a, and k what it returned
    module _ (k : ℕ) (mid : List ℕ) (d : k ≡ length (counted (marked a (live_vertices (read L ws))))) (w : mid ≡ over (counted (marked a (live_vertices (read L ws)))) out) where
      mid-length : length mid ≡ length out
      mid-length = ap length w ∙ over-length (counted (marked a (live_vertices (read L ws)))) out two-first

      pub two-part : k ≤ length mid
      two-part = omega (arith, mid-length, two-first)

      pub two-second : length (counted (marked b (live_vertices (read L ws)))) ≤ length (take (length mid - k) (drop k mid))
      two-second = part_room mid k _ (omega (arith, mid-length, counted-length L ws a n x e p, counted-length L ws b n y e q))

      pub two_fits : (exit : List ℕ) → exit ≡ over (counted (marked b (live_vertices (read L ws)))) (take (length mid - k) (drop k mid))
          → result_of (Ok (x + y + 2)) (take k mid ++ (exit ++ drop (length mid - k) (drop k mid))) ≡ listed (twice (marked a (live_vertices (read L ws))) (marked b (live_vertices (read L ws)))) out
      unfolding twice
      two_fits exit v = listed-fits _ out (x + y + 2) two-length _ h (over-after _ _ out mid exit k d w v)
