-- The marks of a search without its start, and the vertices that they pick. Assumes nothing.
use Rattle.std.specs.Prelude.{Option, Some}
use mathlib.Core.Path.{◌≡◌, refl, sym, ap, ap₂, ◌∙◌}
use mathlib.Core.Bool.{Bool, false, not}
use mathlib.Core.List.{List}
use Prim.Native.Nat.{ℕ, ◌+◌, ◌≤◌, ◌<◌}
use native.Mathlib.Omega.{arith}
use lib.Dec.{eqb}
use lib.ListN.{length, get_or, set, length-set}
use lib.Seq.{get_or-set_same, get_or-set_other}
use borrow.Author.Tests.{eq-eqb, ne_eqb}
use Rattle.lists.specs.Tests.{◌and◌, bit}
use Rattle.lists.proofs.Cases.{on, on_same, and-true, and-false-right}
use Rattle.layout.specs.Content.{live_vertices, position}
use Rattle.layout.specs.Layout.{limit, vertex_limit, vertex_count, read}
use Rattle.layout.specs.Inner.{Formed}
use Rattle.layout.specs.Answers.{Result, vertex_missing, listed}
use Rattle.layout.proofs.Position.{position-found}
use Rattle.layout.proofs.Read.{live-length, vertex-found}
use Rattle.marks.specs.Marks.{is_marked, marked}
use Rattle.marks.proofs.Marked.{marked-filter}
use Rattle.lookups.specs.declared.Direction.{Direction}
use Rattle.lookups.specs.State.{no_marks}
use Rattle.lookups.proofs.Marking.{no-marks-length}
use Rattle.lookups.proofs.Found.{found-same}
use Rattle.steps.specs.Matrices.{number_of}
use Rattle.steps.proofs.Records.{record-once}
use Rattle.reached_vertices.specs.Reached.{is_other_reached, reached_vertices, reached_result}
use Rattle.reached_vertices.specs.Inner.{SeenAlong, seen_beside}

-- ---- a loop over k that marks the records that were seen

pub record Noted (seen : List ℕ) (k : ℕ) (marks : List Bool) : Type 0 where
  pub sized : length marks ≡ vertex_limit
  pub each : (j : ℕ) → j < k → is_marked marks j ≡ eqb (get_or seen j 0) 1

pub noted-none : (seen : List ℕ) → Noted seen 0 no_marks
noted-none seen = record { sized = no-marks-length; each = λ j h. absurd (let z : ◌≡◌ {A = ℕ} 0 1 = omega arith in omega arith) }

module _ {seen : List ℕ} {k : ℕ} {marks : List Bool} (w : Noted seen k marks) where
  pub noted_more : k < vertex_limit → Noted seen (k + 1) (set marks k (eqb (get_or seen k 0) 1))
  noted_more h = record {
    sized = length-set marks k (eqb (get_or seen k 0) 1) ∙ w.sized;
    each = λ j l. on_same j k
        (λ q. rw (q, get_or-set_same marks k (eqb (get_or seen k 0) 1) false (omega (arith, w.sized))))
        (λ ne. get_or-set_other marks k j (eqb (get_or seen k 0) 1) false ne ∙ w.each j (omega arith));
  }

  -- the mark of record i is taken away
  pub noted-end : (n i : ℕ) → n ≤ k → i < vertex_limit → (j : ℕ) → j < n → is_marked (set marks i false) j ≡ seen_beside seen i j
  unfolding seen_beside
  noted-end n i h li j l =
      on_same j i
      (λ q. rw (q, get_or-set_same marks i false false (omega (arith, w.sized))) (sym (and-false-right (eqb (get_or seen i 0) 1) (not (eqb i i)) (ap not (eq-eqb i i refl)))))
      (λ ne. get_or-set_other marks i j false false ne ∙ w.each j (omega arith) ∙ sym (ap (λ (b : Bool). eqb (get_or seen j 0) 1 and not b) (ne_eqb j i ne) ∙ and-true (eqb (get_or seen j 0) 1)))

-- ---- the listing: n is what `vertex_count` returned, marks what `others` returned, x what `list_marked` answered and left

bit_is : (b : Bool) → eqb (bit b) 1 ≡ b
bit_is b = on b (λ e. rw e) (λ e. rw e)

module _ (ws : List ℕ) (f : Formed limit ws) (dir : Direction) (i : ℕ) (hi : i < vertex_count ws) (seen : List ℕ) (s : SeenAlong dir ws i seen) where
  same-record : (k : ℕ) → k < vertex_count ws → eqb k i ≡ eqb (number_of (read limit ws) k) (number_of (read limit ws) i)
  same-record k h =
      on_same k i
      (λ q. eq-eqb k i q ∙ sym (eq-eqb _ _ (ap (number_of (read limit ws)) q)))
      (λ ne. ne_eqb k i ne ∙ sym (ne_eqb _ _ (λ q. ne (record-once f k i h hi q))))

  beside-is : (k : ℕ) → k < vertex_count ws → seen_beside seen i k ≡ is_other_reached dir (read limit ws) (number_of (read limit ws) i) (number_of (read limit ws) k)
  unfolding seen_beside is_other_reached
  beside-is k h = ap₂ (λ (a b : Bool). a and not b) (ap (λ (c : ℕ). eqb c 1) (s k h) ∙ bit_is _) (same-record k h)

  pub reached-listed : (n : ℕ) → n ≡ vertex_count ws → (marks : List Bool) → ((k : ℕ) → k < n → is_marked marks k ≡ seen_beside seen i k)
      → (out : List ℕ) (x : Result) → x ≡ listed (marked marks (live_vertices (read limit ws))) out
      → x ≡ listed (reached_vertices dir (number_of (read limit ws) i) (read limit ws)) out
  unfolding reached_vertices
  reached-listed n e marks m out x q =
      q ∙ ap (λ (xs : List ℕ). listed xs out)
      (marked-filter (is_other_reached dir (read limit ws) (number_of (read limit ws) i)) marks (live_vertices (read limit ws)) (λ k h.
      let l : k < vertex_count ws = rw live-length at h in
      m k (rw e l) ∙ beside-is k l))

-- ---- p is what `find_vertex` returned, x what `list_reached` answered and left

module _ (ws : List ℕ) (v i : ℕ) (p : Option ℕ) (e : p ≡ position v (live_vertices (read limit ws))) (h : p ≡ Some i) where
  pub start-within : i < vertex_count ws
  start-within = (vertex-found limit ws v i (sym e ∙ h)).0

  pub reached-told : (dir : Direction) (out : List ℕ) (x : Result) → x ≡ listed (reached_vertices dir (number_of (read limit ws) i) (read limit ws)) out
      → x ≡ reached_result dir v out (read limit ws)
  unfolding reached_result
  reached-told dir out x q =
      found-same (live_vertices (read limit ws)) vertex_missing v out p i e h x _
      (q ∙ ap (λ (y : ℕ). listed (reached_vertices dir y (read limit ws)) out) (position-found v (live_vertices (read limit ws)) i (sym e ∙ h)).1)
