-- The record of a vertex, and its state by that record. Assumes nothing.
use Rattle.std.specs.Prelude.{Option, Some}
use mathlib.Core.Path.{◌≡◌, sym, ap, ◌∙◌}
use mathlib.Core.List.{List}
use Prim.Native.Nat.{ℕ, ◌<◌}
use native.Mathlib.Omega.{arith}
use lib.Dec.{eqb}
use lib.ListN.{length, get_or, set}
use Rattle.lists.specs.Lists.{Ascending, word_at}
use Rattle.layout.specs.Content.{Table, live_vertices, position}
use Rattle.layout.specs.Layout.{limit, vertex_limit, read}
use Rattle.layout.specs.Inner.{Formed}
use Rattle.layout.proofs.Read.{vertex-found}
use Rattle.desk.specs.States.{state_in, state_of, in_state, with_state}
use Rattle.desk.proofs.States.{state-at}

-- ---- p is what `find_vertex` returned

module _ (ws : List ℕ) (v i : ℕ) (p : Option ℕ) (e : p ≡ position v (live_vertices (read limit ws))) (h : p ≡ Some i) where
  pub record-here : position v (live_vertices (read limit ws)) ≡ Some i
  record-here = sym e ∙ h

  pub record-within : Formed limit ws → i < vertex_limit
  record-within f = omega (arith, (vertex-found limit ws v i record-here).0, f.shape.vertices-le)

  pub state-within : (ss : List ℕ) → Formed limit ws → length ss ≡ vertex_limit → i < length ss
  state-within ss f n = omega (arith, record-within f)

-- ---- the record of v is i

module _ (t : Table) (ss : List ℕ) (v i : ℕ) (e : position v (live_vertices t) ≡ Some i) where
  pub state-found : state_of t ss v ≡ word_at ss i
  unfolding state_in
  state-found = rw e

  pub in-state-found : (x : ℕ) → in_state t ss x v ≡ eqb (word_at ss i) x
  unfolding in_state
  in-state-found x = ap (λ (y : ℕ). eqb y x) state-found

  pub with-state-found : (x : ℕ) → with_state t v x ss ≡ set ss i x
  unfolding with_state
  with-state-found x = rw e

-- ---- the vertex of record k

pub in-state-at : (t : Table) (ss : List ℕ) (k : ℕ) → Ascending (live_vertices t) → k < length (live_vertices t) → (x : ℕ)
    → in_state t ss x (get_or (live_vertices t) k 0) ≡ eqb (word_at ss k) x
unfolding in_state
in-state-at t ss k asc h x = ap (λ (y : ℕ). eqb y x) (state-at (live_vertices t) ss k asc h)
