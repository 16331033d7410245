-- Which answer the reading gives. Assumes nothing.
use Rattle.std.specs.Prelude.{Ok, Err}
use mathlib.Core.Path.{◌≡◌}
use mathlib.Core.List.{List}
use Prim.Native.Nat.{ℕ}
use lib.ListN.{length}
use borrow.Author.Tests.{eq-eqb, ne_eqb}
use Rattle.layout.specs.declared.Refusal.TheVariants.{BadText, NotWellFormed}
use Rattle.layout.specs.Content.{Table}
use Rattle.layout.specs.Layout.{vertex_limit}
use Rattle.layout.specs.Answers.{result_of}
use Rattle.states_text.specs.Reading.{read_states_result}
use Rattle.read_states.specs.Noting.{LinesRead}

module _ (t : Table) (text s : List ℕ) where
  pub read-unsized : (length s ≡ vertex_limit → ⊥) → result_of (Err NotWellFormed) s ≡ read_states_result text s t
  unfolding read_states_result
  read-unsized ne = rw (ne_eqb (length s) vertex_limit ne)

  -- line and ss are what `read_lines` gave
  module _ (e : length s ≡ vertex_limit) (ss : List ℕ) (line : ℕ) (r : LinesRead t text ss line) where
    pub read-bad : (line ≡ 0 → ⊥) → result_of (Err (BadText line)) s ≡ read_states_result text s t
    unfolding read_states_result
    read-bad ne = rw (eq-eqb (length s) vertex_limit e, ← r.is, ne_eqb line 0 ne)

    pub read-good : line ≡ 0 → (exit : List ℕ) → exit ≡ ss → result_of (Ok 0) exit ≡ read_states_result text s t
    unfolding read_states_result
    read-good z exit q = rw (eq-eqb (length s) vertex_limit e, ← r.is, eq-eqb line 0 z, q, r.states z)
