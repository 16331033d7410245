-- What a merge that is not refused leaves; two merges into one vertex, in either order. Assumes nothing.
use mathlib.Core.Path.{◌≡◌, refl, sym, ap, ◌∙◌}
use mathlib.Core.Bool.{true}
use mathlib.Core.Logic.{inr}
use mathlib.Core.List.{List}
use Prim.Native.Nat.{ℕ}
use Rattle.lists.specs.Lists.{filter, other_than}
use Rattle.walks.proofs.Walks.{reach-map}
use Rattle.layout.specs.Content.{Table, vertex_number}
use Rattle.layout.specs.Layout.{limit, words}
use Rattle.layout.specs.WellFormed.{well_formed, holdable}
use Rattle.layout.specs.Steps.{has_step, StepIn}
use Rattle.layout.proofs.Back.{read-holdable}
use Rattle.edits.specs.Edits.{merge_vertices}
use Rattle.edits.proofs.Merged.{Mergeable, merge-is}
use Rattle.edits.proofs.StaysFormed.{merge-stays}
use Rattle.merges.specs.Merges.{merged, Accepted, content_before, content_after, merged_both, BothAccepted, StepReadAs, has_number, Merges}
use Rattle.merges.proofs.Walks.{reach-one, one-reach}
use Rattle.merges.proofs.Apart.{self-step}
use Rattle.merges.proofs.Content.{left, kept_same, apart_of, step_left, left_step, first-mergeable, then-mergeable, merges-swap}
use Rattle.merges.proofs.Calls.{mergeable-accepted, accepted-mergeable, merged-words, merged-read}

module _ (v w : ℕ) (ws : List ℕ) (formed : well_formed limit ws ≡ true) (a : Accepted v w ws) where
  held : holdable limit (content_before ws) ≡ true
  held = read-holdable limit ws formed

  two : v ≡ w → ⊥
  two = (accepted-mergeable v w ws formed a).two

  after_is : content_after v w ws ≡ merge_vertices v w (content_before ws)
  after_is = merged-read v w ws formed a

  closed_is : content_after v w ws ≡ left v w (content_before ws)
  closed_is = after_is ∙ merge-is limit v w (content_before ws) held two

  vertices-left : (content_after v w ws).vertices ≡ filter (other_than vertex_number w) (content_before ws).vertices
  vertices-left = ap (λ (t : Table). t.vertices) closed_is

  was-step : (x y : ℕ) → StepIn (content_after v w ws) x y → StepReadAs v w (StepIn (content_before ws)) x y
  was-step x y s = step_left limit v w (content_before ws) held two x y (sym (ap (λ (t : Table). has_step t x y) after_is) ∙ s)

  stays_step : (x y : ℕ) → StepReadAs v w (StepIn (content_before ws)) x y → StepIn (content_after v w ws) x y
  stays_step x y s = ap (λ (t : Table). has_step t x y) after_is ∙ left_step limit v w (content_before ws) held two x y s

  pub merge-leaves : Merges v w ws
  merge-leaves = record {
    formed = merge-stays ws formed v w;
    words_are = merged-words v w ws formed a;
    next-vertex = ap (λ (t : Table). t.next_vertex) closed_is;
    next-hyperedge = ap (λ (t : Table). t.next_hyperedge) closed_is;
    vertices-are = vertices-left;
    kept-is = ap (filter (has_number v)) vertices-left ∙ kept_same v w two (content_before ws).vertices;
    hyperedges-are = ap (λ (t : Table). t.hyperedges) closed_is;
    step-was = was-step;
    step_stays = stays_step;
    reach-was = λ x y k. one-reach v w (StepIn (content_before ws)) (reach-map was-step k) x y refl refl;
    reach-stays = λ x y k. reach-map stays_step (reach-one v w (StepIn (content_before ws)) k);
    self-was = λ x s. inr (self-step (StepIn (content_before ws)) v w (apart_of v w (content_before ws) (accepted-mergeable v w ws formed a).apart) x (was-step x x s));
  }

-- ---- w and then x merged into v

module _ (v w x : ℕ) (ws : List ℕ) (formed : well_formed limit ws ≡ true) where
  left-formed : well_formed limit (merged v w ws) ≡ true
  left-formed = merge-stays ws formed v w

  module _ (a : BothAccepted v w x ws) where
    both_words : merged_both v w x ws ≡ words limit (merge_vertices v x (merge_vertices v w (content_before ws)))
    both_words =
        merged-words v x (merged v w ws) left-formed a.second
        ∙ ap (λ (t : Table). words limit (merge_vertices v x t)) (merged-read v w ws formed a.first)

    then-so : Mergeable v x (merge_vertices v w (content_before ws))
    then-so = rw (merged-read v w ws formed a.first) at (accepted-mergeable v x (merged v w ws) left-formed a.second)

-- where neither order is refused, both end in the same words
pub merges-commute : (v w x : ℕ) (ws : List ℕ) → well_formed limit ws ≡ true → BothAccepted v w x ws → BothAccepted v x w ws → merged_both v w x ws ≡ merged_both v x w ws
merges-commute v w x ws formed a b =
    both_words v w x ws formed a
    ∙ ap (words limit) (merges-swap limit v w x (content_before ws) (read-holdable limit ws formed)
    (accepted-mergeable v w ws formed a.first) (accepted-mergeable v x ws formed b.first))
    ∙ sym (both_words v x w ws formed b)

-- where one order is not refused, neither is the other
pub one-order-enough : (v w x : ℕ) (ws : List ℕ) → well_formed limit ws ≡ true → BothAccepted v w x ws → BothAccepted v x w ws
one-order-enough v w x ws formed a =
    let h = read-holdable limit ws formed in
    let m = accepted-mergeable v w ws formed a.first in
    let n = then-so v w x ws formed a in
    let c : Accepted v x ws = mergeable-accepted v x ws formed (first-mergeable limit v w x (content_before ws) h m n) in
    record {
      first = c;
      second = mergeable-accepted v w (merged v x ws) (left-formed v x w ws formed)
          (rw (merged-read v x ws formed c) (then-mergeable limit v w x (content_before ws) h m n));
    }
