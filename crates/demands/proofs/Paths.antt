-- The answer for a pair held against `is_reachable`, and the answer for a vertex and itself. Assumes nothing.
use Rattle.std.specs.Prelude.{Ok}
use mathlib.Core.Path.{◌≡◌, refl, sym, ◌∙◌}
use mathlib.Core.Bool.{Bool, true, false}
use mathlib.Core.Logic.{inl, inr}
use mathlib.Core.List.{List, [], ◌∷◌}
use mathlib.Core.Option.{Option, none, some}
use Prim.Native.Nat.{ℕ, suc, ◌≤◌}
use native.Mathlib.Nat.{zero-lt-suc}
use native.Mathlib.Omega.{arith}
use lib.Dec.{eqb, leb}
use lib.ListN.{length}
use borrow.Author.Tests.{lt-ltb, le-leb}
use Rattle.lists.specs.Tests.{◌and◌, bit}
use Rattle.lists.specs.Lists.{over}
use Rattle.lists.proofs.Cases.{on, on_below}
use Rattle.layout.specs.Content.{live_vertices, is_live}
use Rattle.layout.specs.Layout.{limit, read}
use Rattle.layout.specs.WellFormed.{well_formed}
use Rattle.layout.specs.Inner.{Formed}
use Rattle.layout.specs.Answers.{result_of, on_formed, on_live, listed}
use Rattle.layout.specs.Steps.{StepIn}
use Rattle.layout.proofs.Read.{formed-of}
use Rattle.distance.specs.Best.{total, Ahead}
use Rattle.distance.proofs.Reached.{reached-by}
use Rattle.traversal.specs.Traversal.{reachable, reachable_result}
use Rattle.traversal.proofs.Walks.{reachable-walk, walk-reachable}
use Rattle.paths.specs.Paths.{step_cost, best_path, path_words, entries_after, pair_result}
use Rattle.paths.proofs.Theorems.{path-is-best, best-is-path, none-unreachable}
use Rattle.demands.specs.Paths.{has_entries, says_yes}

-- ---- the best walk and reachability

module _ {ws : List ℕ} (f : Formed limit ws) (x y : ℕ) (live : is_live (live_vertices (read limit ws)) x ≡ true) where
  -- the answer for a walk, or for none, has entries exactly when y is reachable from x
  entries_by : (lent : List ℕ) (p : Option (List ℕ)) → best_path (read limit ws) x y ≡ p
      → has_entries (result_of (Ok (length (path_words (read limit ws) x p))) (over (path_words (read limit ws) x p) lent)) ≡ reachable (read limit ws) x y
  unfolding has_entries path_words over
  entries_by lent none e =
      on (reachable (read limit ws) x y)
      (λ r. let k = (reached-by (StepIn (read limit ws)) x y).0 (reachable-walk f x live y r) in absurd (none-unreachable f x y live e k.0 k.1))
      (λ r. sym r)
  entries_by lent (some l) e =
      let b = path-is-best f x y live l e in
      lt-ltb 0 (suc (length l)) (zero-lt-suc (length l)) ∙ sym (walk-reachable f x live y ((reached-by (StepIn (read limit ws)) x y).1 (l, b.walk)))

-- ---- entries and the answer of `is_reachable`

-- where the pair is answered, the table is well formed, both vertices are live and the words fit
where-answered : {C : Type 0} (ws lent : List ℕ) (x y : ℕ) → (on_formed ws lent (pair_result x y lent)).number ≡ 0
    → (well_formed limit ws ≡ true → is_live (live_vertices (read limit ws)) x ≡ true → is_live (live_vertices (read limit ws)) y ≡ true
    → leb (length (path_words (read limit ws) x (best_path (read limit ws) x y))) (length lent) ≡ true → C) → C
unfolding on_formed pair_result on_live listed
where-answered ws lent x y e f =
    on (well_formed limit ws)
    (λ w. on (is_live (live_vertices (read limit ws)) x)
    (λ a. on (is_live (live_vertices (read limit ws)) y)
    (λ b. on (leb (length (path_words (read limit ws) x (best_path (read limit ws) x y))) (length lent))
    (λ r. f w a b r)
    (λ r. absurd (let z : ◌≡◌ {A = ℕ} 11 0 = rw (w, a, b, r) at e in omega arith)))
    (λ b. absurd (let z : ◌≡◌ {A = ℕ} 3 0 = rw (w, a, b) at e in omega arith)))
    (λ a. absurd (let z : ◌≡◌ {A = ℕ} 3 0 = rw (w, a) at e in omega arith)))
    (λ w. absurd (let z : ◌≡◌ {A = ℕ} 1 0 = rw w at e in omega arith))

yes-bit : (b : Bool) → eqb (bit b) 1 ≡ b
yes-bit true = refl
yes-bit false = refl

-- where the pair is answered, it has entries exactly when `is_reachable` answers yes
pub entries-reachable : (ws lent : List ℕ) (x y : ℕ) → (on_formed ws lent (pair_result x y lent)).number ≡ 0
    → has_entries (on_formed ws lent (pair_result x y lent)) ≡ says_yes (on_formed ws [] (reachable_result x y))
unfolding on_formed pair_result reachable_result on_live listed says_yes ◌and◌
entries-reachable ws lent x y e =
    where-answered ws lent x y e (λ w a b r.
    rw (w, a, b, r) (entries_by (formed-of limit ws w) x y a lent (best_path (read limit ws) x y) refl ∙ sym (yes-bit (reachable (read limit ws) x y))))

-- ---- from a vertex to itself

-- no walk is ahead of staying
stay-ahead : (W : ℕ → ℕ → ℕ) (v : ℕ) (k : List ℕ) → Ahead W v [] k
stay-ahead W v [] = inr (refl, inr (refl, tt))
stay-ahead W v (u ∷ k) = on_below 0 (total W v (u ∷ k)) (λ l. inl l) (λ l. inr (omega arith, inl (zero-lt-suc (length k))))

own-path : (ws : List ℕ) (v : ℕ) → well_formed limit ws ≡ true → is_live (live_vertices (read limit ws)) v ≡ true → best_path (read limit ws) v v ≡ some []
own-path ws v w a = best-is-path (formed-of limit ws w) v v a [] (record { walk = refl; first = λ k _. stay-ahead (step_cost (read limit ws)) v k })

-- a vertex to itself costs 0, with that one entry: exactly these words are written, and the rest is kept
pub own-entry : (ws lent : List ℕ) (v : ℕ) → well_formed limit ws ≡ true → is_live (live_vertices (read limit ws)) v ≡ true → 5 ≤ length lent
    → on_formed ws lent (pair_result v v lent) ≡ result_of (Ok 5) (over (0 ∷ 0 ∷ 1 ∷ v ∷ 4294967295 ∷ []) lent)
unfolding on_formed pair_result on_live listed path_words entries_after
own-entry ws lent v w a room = rw (w, a, own-path ws v w a, le-leb 5 (length lent) room)
