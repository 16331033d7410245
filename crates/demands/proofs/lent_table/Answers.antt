-- `demands::lent_table` meets its contract. Assumes nothing.
use mathlib.Core.Path.{◌≡◌}
use mathlib.Core.Bool.{true}
use mathlib.Core.List.{List}
use Prim.Native.Nat.{ℕ}
use lib.ListN.{get_or}
use mir.Syntax.{w32}
use mir.Val.{Fits}
use borrow.Author.Rules.{rules}
use borrow.Author.Tests.{lt-ltb}
use Rattle.lists.specs.Lists.{all}
use Rattle.lists.proofs.All.{all_of}
use Rattle.frames.specs.Faulty.{is_word}
use Rattle.demands.proofs.lent_table.Goals as goal

words-fit : (ws : List ℕ) → ((i : ℕ) → Fits w32 (get_or ws i 0)) → all is_word ws ≡ true
unfolding is_word
words-fit ws h = all_of is_word ws 0 (λ i _. lt-ltb _ _ (h i).fits)

pub returns : goal.returns
returns c = (search rules, words-fit _ c.shared_slice_known-1.given)
