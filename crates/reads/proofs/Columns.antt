-- Laws of the loop that writes a column of words, and the columns that are listed. Assumes nothing.
use Rattle.std.specs.Prelude.{Ok, Err}
use mathlib.Core.Path.{◌≡◌, sym, ap, ◌∙◌}
use mathlib.Core.List.{List}
use Prim.Native.Nat.{ℕ, ◌+◌, ◌*◌, ◌≤◌, ◌<◌}
use native.Mathlib.Nat.{mul-one}
use native.Mathlib.Omega.{arith}
use lib.ListN.{length, get_or, set}
use Rattle.lists.specs.Lists.{over}
use Rattle.lists.proofs.Tab.{length-tab, getD-tab, tab-ext}
use Rattle.lists.proofs.Parts.{part-words}
use Rattle.layout.specs.declared.Refusal.TheVariants.{NoRoom}
use Rattle.layout.specs.Content.{live_vertices, live_hyperedges}
use Rattle.layout.specs.Layout.{limit, vertex_size, record_size, vertices_at, hyperedges_at, hyperedge_word, vertex_count, hyperedge_count, count_at, members_at, read}
use Rattle.layout.specs.Inner.{column, Formed}
use Rattle.layout.specs.Answers.{Result, result_of, listed}
use Rattle.layout.proofs.Answers.{listed-over, listed-fits}
use Rattle.layout.proofs.Read.{live-vertices, live-hyperedges}
use Rattle.lookups.proofs.Laid.{Copied, copied_more, copied-end}

-- ---- the loop over i

module _ (ws : List ℕ) (base step n : ℕ) {out₀ out : List ℕ} {i : ℕ} (c : Copied (column ws base step n) out₀ i out) where
  pub column-more : i < n → n ≤ length out₀ → Copied (column ws base step n) out₀ (i + 1) (set out i (get_or ws (base + i * step) 0))
  column-more h l = copied_more c _ (sym (getD-tab (λ (k : ℕ). get_or ws (base + k * step) 0) n i 0 h)) (rw length-tab h) (rw length-tab l)

  pub column-end : n ≤ i → out ≡ over (column ws base step n) out₀
  column-end h = copied-end c (rw length-tab h)

-- ---- 11, or the listing

module _ (ws : List ℕ) (base step n : ℕ) (out : List ℕ) where
  pub column-over : length out < n → result_of (Err (NoRoom n)) out ≡ listed (column ws base step n) out
  column-over h = listed-over _ out n (sym (length-tab _ n)) h

  pub column_fits : (exit : List ℕ) → n ≤ length out → exit ≡ over (column ws base step n) out → result_of (Ok n) exit ≡ listed (column ws base step n) out
  column_fits exit h e = listed-fits _ out n (sym (length-tab _ n)) exit h e

-- ---- which columns: n and m are what `vertex_count` and `hyperedge_count` returned, r what `list_column` answered and left

module _ (ws : List ℕ) (out : List ℕ) (r : Result) where
  pub vertices-listed : (n : ℕ) → n ≡ vertex_count ws → r ≡ listed (column ws vertices_at vertex_size n) out → r ≡ listed (live_vertices (read limit ws)) out
  vertices-listed n e q = q ∙ ap (λ (xs : List ℕ). listed xs out) (rw e (sym (live-vertices limit ws)))

  pub hyperedges-listed : (m : ℕ) → m ≡ hyperedge_count ws → r ≡ listed (column ws hyperedges_at (record_size limit) m) out
      → r ≡ listed (live_hyperedges (read limit ws)) out
  hyperedges-listed m e q = q ∙ ap (λ (xs : List ℕ). listed xs out) (rw e (sym (live-hyperedges limit ws)))

-- record j has its members within the words; n is what `member_count` returned
module _ (ws : List ℕ) (f : Formed limit ws) (j n : ℕ) (h : j < hyperedge_count ws) (e : n ≡ count_at limit ws j) where
  pub members-within : hyperedge_word limit j + 3 + n * 1 ≤ length ws
  members-within = omega (arith, f.counts j h, f.shape.sized, f.shape.hyperedges-le)

  pub members-listed : (out : List ℕ) (r : Result) → r ≡ listed (column ws (hyperedge_word limit j + 3) 1 n) out → r ≡ listed (members_at limit ws j) out
  members-listed out r q =
      q ∙ ap (λ (xs : List ℕ). listed xs out)
      (tab-ext _ (λ (i : ℕ). get_or ws (hyperedge_word limit j + 3 + i) 0) n (λ i l. rw (mul-one i))
      ∙ part-words n (hyperedge_word limit j + 3) ws (omega (arith, members-within)) ∙ rw e)
