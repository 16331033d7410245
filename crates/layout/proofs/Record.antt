-- A hyperedge record is its words: where two records have the same words, they hold the same hyperedge. Assumes nothing.
use mathlib.Core.Path.{◌≡◌, sym, ap, ◌∙◌}
use mathlib.Core.List.{List}
use Prim.Native.Nat.{ℕ, ◌+◌, ◌-◌, ◌≤◌, ◌<◌}
use native.Mathlib.Nat.{add-zero, add_assoc}
use native.Mathlib.Omega.{arith}
use lib.ListN.{length, get_or, take, drop}
use Rattle.lists.proofs.Parts.{part_ext}
use Rattle.layout.specs.Layout.{record_size, hyperedge_word, count_at, hyperedge_at}
use Rattle.layout.specs.WellFormed.{record_shaped}

module _ (L : ℕ) (E ws : List ℕ) (i j : ℕ) (hE : hyperedge_word L i + record_size L ≤ length E) (hw : hyperedge_word L j + record_size L ≤ length ws)
    (word : (r : ℕ) → r < record_size L → get_or E (hyperedge_word L i + r) 0 ≡ get_or ws (hyperedge_word L j + r) 0) where
  number-moved : get_or E (hyperedge_word L i) 0 ≡ get_or ws (hyperedge_word L j) 0
  number-moved = ap (λ (p : ℕ). get_or E p 0) (sym (add-zero _)) ∙ word 0 (omega arith) ∙ ap (λ (p : ℕ). get_or ws p 0) (add-zero _)

  count-moved : count_at L E i ≡ count_at L ws j
  count-moved = word 2 (omega arith)

  -- a part of the record
  part_moved : (r c : ℕ) → r + c ≤ record_size L → take c (drop (hyperedge_word L i + r) E) ≡ take c (drop (hyperedge_word L j + r) ws)
  part_moved r c h = part_ext E ws (hyperedge_word L i + r) (hyperedge_word L j + r) c (omega arith) (omega arith) (λ q l.
      ap (λ (p : ℕ). get_or E p 0) (add_assoc _ r q) ∙ word (r + q) (omega arith) ∙ ap (λ (p : ℕ). get_or ws p 0) (sym (add_assoc _ r q)))

  pub hyperedge-moved : count_at L ws j ≤ L → hyperedge_at L E i ≡ hyperedge_at L ws j
  hyperedge-moved h = rw (number-moved, word 1 (omega arith), count-moved, part_moved 3 (count_at L ws j) (omega arith))

  pub record-moved : count_at L ws j ≤ L → record_shaped L E i ≡ record_shaped L ws j
  unfolding record_shaped
  record-moved h =
      rw (count-moved, add_assoc (hyperedge_word L i) 3 (count_at L ws j), add_assoc (hyperedge_word L j) 3 (count_at L ws j), part_moved (3 + count_at L ws j) (L - count_at L ws j) (omega arith))
