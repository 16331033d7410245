-- What co-membership and the live vertices are after a vertex is removed. Assumes nothing.
use mathlib.Core.Path.{◌≡◌, refl, ap, ap₂, ◌∙◌}
use mathlib.Core.Bool.{Bool, true, false, not, ◌||◌}
use mathlib.Core.List.{List, [], ◌∷◌, map}
use Prim.Native.Nat.{ℕ, suc}
use native.Mathlib.Nat.{zero-lt-suc}
use lib.Dec.{eqb, ltb}
use lib.ListN.{length}
use borrow.Author.Tests.{lt-ltb}
use Rattle.lists.specs.Tests.{◌and◌}
use Rattle.lists.specs.Lists.{any, memb, filter, other_than, itself}
use Rattle.lists.proofs.Cases.{on, clash, and_left}
use Rattle.lists.proofs.Kept.{any-map, filter_map, memb-filter}
use Rattle.layout.specs.Content.{Hyperedge, Table, vertex_number, live_vertices, is_live}
use Rattle.edits.specs.Edits.{without, has_members, remove_vertex}
use Rattle.steps.specs.Matrices.{lists_both, together}

-- ---- a test over a list

any_none : {A : Type 0} (xs : List A) → any (λ _. false) xs ≡ false
unfolding any
any_none [] = refl
any_none (x ∷ xs) = any_none xs

module _ {A : Type 0} (f : A → Bool) where
  -- a filter that keeps what passes
  any-filter : (p : A → Bool) → ((x : A) → f x ≡ true → p x ≡ true) → (xs : List A) → any f (filter p xs) ≡ any f xs
  unfolding any filter
  any-filter p h [] = refl
  any-filter p h (x ∷ xs) =
      on (p x)
      (λ e. rw e (ap (λ (b : Bool). f x || b) (any-filter p h xs)))
      (λ e. rw (e, on {C = f x ≡ false} (f x) (λ q. clash (h x q) e) (λ q. q)) (any-filter p h xs))

  -- a test joined to each
  any-joined : (c : Bool) (xs : List A) → any (λ x. c and f x) xs ≡ (c and any f xs)
  unfolding ◌and◌
  any-joined true xs = refl
  any-joined false xs = any_none xs

any_same : {A : Type 0} (f g : A → Bool) → ((x : A) → f x ≡ g x) → (xs : List A) → any f xs ≡ any g xs
unfolding any
any_same f g h [] = refl
any_same f g h (x ∷ xs) = ap₂ ◌||◌ (h x) (any_same f g h xs)

-- ---- co-membership

both-join : (a b c d : Bool) → ((a and c) and (b and d)) ≡ ((a and b) and (c and d))
unfolding ◌and◌
both-join true true c d = refl
both-join true false true d = refl
both-join true false false d = refl
both-join false b c d = refl

module _ (v x y : ℕ) where
  -- a list without v has both where it had both, and neither is v
  lists-without : (e : Hyperedge) → lists_both x y (without v e) ≡ ((not (eqb x v) and not (eqb y v)) and lists_both x y e)
  unfolding lists_both without other_than
  lists-without e =
      ap₂ ◌and◌ (memb-filter (other_than itself v) x e.members) (memb-filter (other_than itself v) y e.members)
      ∙ both-join (not (eqb x v)) (not (eqb y v)) (memb x e.members) (memb y e.members)

  lists-some : (e : Hyperedge) → lists_both x y e ≡ true → has_members e ≡ true
  unfolding lists_both has_members
  lists-some e h = some e.members (and_left _ _ h)
    where
      some : (ms : List ℕ) → memb x ms ≡ true → ltb 0 (length ms) ≡ true
      some [] q = clash q refl
      some (m ∷ ms) q = lt-ltb 0 (suc (length ms)) (zero-lt-suc (length ms))

  pub removed-together : (t : Table) → together (remove_vertex v t) x y ≡ ((not (eqb x v) and not (eqb y v)) and together t x y)
  unfolding together remove_vertex
  removed-together t =
      any-filter (lists_both x y) has_members lists-some (map (without v) t.hyperedges)
      ∙ any-map (without v) (lists_both x y) t.hyperedges
      ∙ any_same (λ e. lists_both x y (without v e)) (λ e. (not (eqb x v) and not (eqb y v)) and lists_both x y e) lists-without t.hyperedges
      ∙ any-joined (lists_both x y) (not (eqb x v) and not (eqb y v)) t.hyperedges

-- ---- the live vertices: the others
pub removed-live : (v : ℕ) (t : Table) (x : ℕ) → is_live (live_vertices (remove_vertex v t)) x ≡ (not (eqb x v) and is_live (live_vertices t) x)
unfolding remove_vertex other_than
removed-live v t x =
    rw (← filter_map vertex_number (other_than itself v) t.vertices) (memb-filter (other_than itself v) x (map vertex_number t.vertices))
