-- An addition, an update or a merge leaves a well-formed table well formed. Assumes nothing.
use mathlib.Core.Path.{◌≡◌, refl, sym, ap, ◌∙◌}
use mathlib.Core.Bool.{true}
use mathlib.Core.List.{List, [], ◌++◌}
use Prim.Native.Nat.{ℕ, ◌+◌, ◌*◌, ◌-◌}
use native.Mathlib.Omega.{arith}
use lib.ListN.{length, replicate, replicate-append-replicate}
use borrow.Author.Tests.{eq-eqb}
use Rattle.lists.specs.Tests.{◌and◌}
use Rattle.lists.specs.Lists.{all, flat, ascending}
use Rattle.layout.specs.Content.{Table, numbered, valid}
use Rattle.layout.specs.Layout.{limit, hyperedge_limit, vertex_limit, vertex_size, record_size, vertices_at, size, read, words}
use Rattle.layout.specs.WellFormed.{well_formed, holdable}
use Rattle.layout.specs.Answers.{Result, on_formed}
use Rattle.layout.proofs.Back.{words-formed, read-holdable}
use Rattle.edits.specs.Results.{add_vertex_result, add_hyperedge_result, update_result, merge_result, clear_result}
use Rattle.edits.proofs.Merged.{merge-holdable}
use Rattle.edits.proofs.Outcomes.{add-vertex-goes, add-hyperedge-goes, update-goes, merge-goes}

-- the lent words of a result are a table
Leaves : Result → Type 0
Leaves r = well_formed limit r.lent ≡ true

module _ (ws : List ℕ) (h : well_formed limit ws ≡ true) where
  pub add-vertex-stays : (w : ℕ) → well_formed limit (on_formed ws ws (add_vertex_result w ws)).lent ≡ true
  unfolding Leaves
  add-vertex-stays w = add-vertex-goes Leaves ws h (λ a n. h) w (λ k. words-formed limit _ k)

  pub add-hyperedge-stays : (ms : List ℕ) (w : ℕ) → well_formed limit (on_formed ws ws (add_hyperedge_result ms w ws)).lent ≡ true
  unfolding Leaves
  add-hyperedge-stays ms w = add-hyperedge-goes Leaves ws h (λ a n. h) ms w (λ unequal found x. h) (λ unequal new k. words-formed limit _ k)

  pub update-stays : (x : ℕ) (ms : List ℕ) → well_formed limit (on_formed ws ws (update_result x ms ws)).lent ≡ true
  unfolding Leaves
  update-stays x ms = update-goes Leaves ws h (λ a n. h) x ms (λ unequal k. words-formed limit _ k)

  pub merge-stays : (v w : ℕ) → well_formed limit (on_formed ws ws (merge_result v w ws)).lent ≡ true
  unfolding Leaves
  merge-stays v w =
      merge-goes Leaves ws h (λ a n. h) v w (λ m. words-formed limit _ (merge-holdable limit v w (read limit ws) (read-holdable limit ws h) m.kept-live))

-- ---- clear: the words of the empty table

abbrev nothing : Table
nothing = record { next_vertex = 0; next_hyperedge = 0; vertices = []; hyperedges = [] }

three-runs : (a b c : ℕ) → (replicate {A = ℕ} a 0 ++ replicate b 0) ++ replicate c 0 ≡ replicate (a + b + c) 0
three-runs a b c = ap (λ (l : List ℕ). l ++ replicate c 0) (replicate-append-replicate a b 0) ∙ replicate-append-replicate (a + b) c 0

cleared : (L : ℕ) → replicate (size L) 0 ≡ words L nothing
unfolding words flat
cleared L =
    let z : hyperedge_limit * record_size L ≡ hyperedge_limit * record_size L - 0 = omega arith in
    sym (rw (← z) (three-runs vertices_at (vertex_limit * vertex_size) (hyperedge_limit * record_size L)))

pub clear_stays : (ws : List ℕ) → length ws ≡ size limit → well_formed limit (clear_result ws).lent ≡ true
unfolding clear_result holdable valid numbered ascending all ◌and◌
clear_stays ws e = rw (eq-eqb (length ws) (size limit) e, cleared limit) (words-formed limit nothing refl)
