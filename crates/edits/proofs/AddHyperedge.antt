-- The stores of `put_hyperedge` give the words of the table with one hyperedge more. Assumes nothing.
use Rattle.std.specs.Prelude.{Ok, Err}
use mathlib.Core.Path.{◌≡◌, refl, sym, ap, ap₂, ◌∙◌}
use mathlib.Core.Bool.{cond}
use mathlib.Core.List.{List, [], ◌∷◌, ◌++◌}
use Prim.Native.Nat.{ℕ, ◌+◌, ◌≤◌, ◌<◌}
use native.Mathlib.Numerals.{add-one}
use native.Mathlib.Omega.{arith}
use lib.ListN.{length, set}
use lib.Dec.{eqb}
use borrow.Author.Tests.{eq-eqb, ne_eqb}
use Rattle.lists.specs.Lists.{tab}
use Rattle.lists.specs.Inner.{over_at}
use Rattle.lists.proofs.Cases.{on_below}
use Rattle.lists.proofs.Tab.{tab-ext, tab-suc, length-tab}
use Rattle.layout.specs.declared.Refusal.{Refusal}
use Rattle.layout.specs.declared.Refusal.TheVariants.{Full, NumbersSpent}
use Rattle.layout.specs.Content.{Hyperedge, hyperedge_of}
use Rattle.layout.specs.Layout.{hyperedge_limit, size, hyperedge_word, next_hyperedge_in, hyperedge_count, hyperedge_at, read_hyperedges, read, words, limit}
use Rattle.layout.specs.Inner.{Formed}
use Rattle.layout.specs.Answers.{Result, result_of}
use Rattle.edits.specs.Stages.{Judgement}
use Rattle.edits.specs.Edits.{add_hyperedge}
use Rattle.edits.specs.Records.{member_words, put_hyperedge}
use Rattle.edits.specs.Results.{last_number, add_hyperedge_result}
use Rattle.edits.specs.Stages.{JudgedBy, add_new_result, add_judged_result}
use Rattle.lists.proofs.OverAt.{over-at-two}
use Rattle.edits.proofs.Refusals.{on-full, on_room_lem, on-spent, on-number, on-refused, on_fine}
use Rattle.edits.proofs.Put.{put-words}

module _ (L : ℕ) (ws : List ℕ) (m x w : ℕ) (ms : List ℕ) (f : Formed L ws) (pos : 0 < length ms) (le : length ms ≤ L)
    (em : m ≡ hyperedge_count ws) (ex : x ≡ next_hyperedge_in ws) (hm : m < hyperedge_limit) where
  e : Hyperedge
  e = hyperedge_of x w ms

  then : ℕ → Hyperedge
  then i = cond (eqb i m) e (hyperedge_at L ws i)

  there : (i : ℕ) → (i ≡ m → ⊥) → then i ≡ hyperedge_at L ws i
  unfolding then
  there i ne = rw (ne_eqb i m ne)

  here : (i : ℕ) → i ≡ m → then i ≡ e
  unfolding then
  here i q = rw (eq-eqb i m q)

  all_then : tab then (m + 1) ≡ read_hyperedges L ws ++ (hyperedge_of (next_hyperedge_in ws) w ms ∷ [])
  unfolding e
  all_then =
      ap (tab then) (add-one m) ∙ tab-suc then m
      ∙ ap₂ (λ (hs : List Hyperedge) (h : Hyperedge). hs ++ (h ∷ []))
      (tab-ext then (hyperedge_at L ws) m (λ i h. there i (omega arith)) ∙ ap (tab (hyperedge_at L ws)) em)
      (here m refl ∙ ap (λ (y : ℕ). hyperedge_of y w ms) ex)

  pub put-hyperedge-words : put_hyperedge L m (hyperedge_of x w ms) (x + 1) (m + 1) ws ≡ words L (add_hyperedge ms w (read L ws))
  unfolding add_hyperedge e
  put-hyperedge-words =
      put-words L ws m e (x + 1) (m + 1) f pos le (omega arith) (omega arith) (omega arith) (λ i h ne. before i h ne) then (λ i h q. here i q) (λ i h ne. there i ne)
      ∙ rw (all_then, ex)
    where
      before : (i : ℕ) → i < m + 1 → (i ≡ m → ⊥) → i < hyperedge_count ws
      before i h ne = on_below i m (λ l. omega arith) (λ l. absurd (ne (omega arith)))

-- ---- for `search`: T is the words after `put_members`

pub hyperedge-stored : (ws : List ℕ) (m x w : ℕ) (ms T : List ℕ) → length ws ≡ size limit → m < hyperedge_limit
    → T ≡ over_at (hyperedge_word limit m + 2) (member_words limit ms) (set (set ws (hyperedge_word limit m) x) (hyperedge_word limit m + 1) w)
    → set (set T 1 (x + 1)) 3 (m + 1) ≡ put_hyperedge limit m (hyperedge_of x w ms) (x + 1) (m + 1) ws
hyperedge-stored ws m x w ms T len h e =
    ap (λ (l : List ℕ). set (set l 1 (x + 1)) 3 (m + 1)) (e ∙ over-at-two ws (hyperedge_word limit m) x w (member_words limit ms) (omega arith))

-- m is what `hyperedge_count` found, x what `next_hyperedge` did

module _ (ms : List ℕ) (w : ℕ) (ws : List ℕ) (m : ℕ) (em : m ≡ hyperedge_count ws) where
  live : length (read limit ws).hyperedges ≡ m
  live = length-tab (hyperedge_at limit ws) (hyperedge_count ws) ∙ sym em

  pub add-hyperedge-full : hyperedge_limit ≤ m → result_of (Err Full) ws ≡ add_new_result ms w ws (read limit ws)
  unfolding add_new_result
  add-hyperedge-full h = on-full _ hyperedge_limit ws _ (rw live h)

  module _ (x : ℕ) (ex : x ≡ next_hyperedge_in ws) (h : m < hyperedge_limit) where
    pub add-hyperedge-spent : x ≡ last_number → result_of (Err NumbersSpent) ws ≡ add_new_result ms w ws (read limit ws)
    unfolding add_new_result
    add-hyperedge-spent q = on-spent (next_hyperedge_in ws) ws _ (sym ex ∙ q) ∙ on_room_lem _ hyperedge_limit ws _ (rw live h)

    pub add-hyperedge-done : (exit : List ℕ) → Formed limit ws → 0 < length ms → length ms ≤ limit → (x ≡ last_number → ⊥)
        → exit ≡ put_hyperedge limit m (hyperedge_of x w ms) (x + 1) (m + 1) ws → result_of (Ok x) exit ≡ add_new_result ms w ws (read limit ws)
    unfolding add_new_result
    add-hyperedge-done exit f pos le q e =
        ap₂ (λ (y : ℕ) (l : List ℕ). result_of (Ok y) l) ex (e ∙ put-hyperedge-words limit ws m x w ms f pos le em ex h)
        ∙ on-number (next_hyperedge_in ws) ws _ (λ p. q (ex ∙ p)) ∙ on_room_lem _ hyperedge_limit ws _ (rw live h)

-- j is what `judge_members` said
module _ (ms : List ℕ) (w : ℕ) (ws : List ℕ) (j : Judgement) (by : JudgedBy j ms w (read limit ws)) where
  pub add-hyperedge-refused : (a : Refusal) → j ≡ Err a → result_of (Err a) ws ≡ add_hyperedge_result ms w ws (read limit ws)
  unfolding add_hyperedge_result
  add-hyperedge-refused a h = on-refused j ms w (read limit ws) by a ws _ h

  pub add-hyperedge-fine : (y : Result) → j ≡ Ok tt → y ≡ add_judged_result ms w ws (read limit ws) → y ≡ add_hyperedge_result ms w ws (read limit ws)
  unfolding add_hyperedge_result add_judged_result add_new_result
  add-hyperedge-fine y h q = on_fine j ms w (read limit ws) by ws _ y h q
