-- `batches::run` meets its contract. Assumes nothing.
use mathlib.Core.Path.{sym, ◌∙◌}
use Prim.Native.Nat.{ℕ}
use lib.ListN.{length-replicate}
use Rattle.layout.specs.Layout.{limit, size, vertex_limit}
use Rattle.batches.proofs.Carrying.{run-misused, run-carried, table-length, states-length, batch-short}
use Rattle.batches.proofs.run.Goals as goal

pub returns-then-not-has_lengths : goal.returns-then-not-has_lengths
returns-then-not-has_lengths c = search run-misused

pub run_copied-requires : goal.run_copied-requires
run_copied-requires c = (
  length-replicate {A = ℕ} (size limit) 0 ∙ sym (search table-length),
  length-replicate {A = ℕ} vertex_limit 0 ∙ sym (search states-length),
  search batch-short,
)

pub returns : goal.returns
returns c = search run-carried
