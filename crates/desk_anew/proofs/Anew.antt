-- A table cleared or read through the desk: 1 for states of a wrong length, and every record waits where it is done. Assumes nothing.
use Rattle.std.specs.Prelude.{Err}
use mathlib.Core.Path.{◌≡◌, ap, ◌∙◌}
use mathlib.Core.Bool.{cond}
use mathlib.Core.List.{List}
use Prim.Native.Nat.{ℕ}
use lib.Dec.{eqb}
use lib.ListN.{length}
use borrow.Author.Tests.{eq-eqb, ne_eqb}
use Rattle.layout.specs.Answers.{Answer}
use Rattle.layout.specs.declared.Refusal.TheVariants.{NotWellFormed}
use Rattle.layout.specs.Layout.{vertex_limit}
use Rattle.layout.specs.Answers.{number, Result, result_of}
use Rattle.desk.specs.States.{all_waiting}
use Rattle.desk.specs.Desk.{desk_of, outcome, answering, renewed, replaced}

module _ (r : Result) (ws ss : List ℕ) where
  pub states-unsized : (length ss ≡ vertex_limit → ⊥) → outcome (Err NotWellFormed) (desk_of ws ss) ≡ replaced r (desk_of ws ss)
  unfolding replaced
  states-unsized h = rw (ne_eqb _ _ h)

  -- the call on the table answered a and left the words left
  pub states-anew : (a : Answer) (left ss' : List ℕ) → length ss ≡ vertex_limit → result_of a left ≡ r → ss' ≡ cond (eqb (number a) 0) all_waiting ss
      → outcome a (desk_of left ss') ≡ replaced r (desk_of ws ss)
  unfolding replaced renewed
  states-anew a left ss' len q es =
      rw (eq-eqb _ _ len) (ap (λ (s : List ℕ). outcome a (desk_of left s)) es ∙ ap (λ (r : Result). answering r (renewed r (desk_of ws ss))) q)
