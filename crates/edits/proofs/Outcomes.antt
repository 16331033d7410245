-- The ways that an addition, an update or a merge of a well-formed table can go: refused, with the words as they were, or done. Assumes nothing.
use Rattle.std.specs.Prelude.{Ok, Err}
use mathlib.Core.Path.{◌≡◌, refl}
use mathlib.Core.Bool.{Bool, true, false}
use mathlib.Core.List.{List, [], ◌∷◌}
use Prim.Native.Nat.{ℕ, ◌≤◌, ◌<◌}
use lib.Dec.{eqb, ltb, leb}
use lib.ListN.{length}
use borrow.Author.Tests.{ltb-true, leb-true, eqb-false}
use Rattle.lists.specs.Lists.{all, any, same_list}
use Rattle.lists.proofs.Cases.{on, and_left, and_right, and_both, or_right}
use Rattle.layout.specs.Answers.{Answer}
use Rattle.layout.specs.declared.Refusal.TheVariants.{NoMembers, SameMembers, TooManyMembers, Full, NumbersSpent, SameVertex}
use Rattle.layout.specs.Content.{Table, is_live}
use Rattle.layout.specs.Layout.{limit, vertex_limit, hyperedge_limit, read, words}
use Rattle.layout.specs.WellFormed.{well_formed, holdable}
use Rattle.layout.specs.Steps.{steps_of, same_ends, equal_neighbours}
use Rattle.layout.specs.Answers.{number, Result, result_of, on_formed, on_live}
use Rattle.layout.proofs.Back.{read-holdable}
use Rattle.edits.specs.Edits.{add_vertex, add_hyperedge, update_hyperedge, merge_vertices}
use Rattle.edits.specs.Results.{last_number, on_some, on_short, on_room, on_number, identical, on_first, by_number, twiceInARow, on_unequal, on_changed, members_of, on_other, side_by_side, side_by_side_in, add_vertex_result, add_hyperedge_result, update_result, merge_result}
use Rattle.edits.proofs.AddHoldable.{add-vertex-holdable, add-hyperedge-holdable, update-holdable}
use Rattle.edits.proofs.Merged.{Mergeable}

-- what holds of every refusal, and of r where the refusal does not apply; f is what is known there
module _ (P : Result → Type 0) (ws : List ℕ) (refused : (a : Answer) → eqb (number a) 0 ≡ false → P (result_of a ws)) (r : Result) where
  some_or : (ms : List ℕ) (d : ℕ) → (0 < length ms → P r) → P (on_some ms d ws r)
  unfolding on_some
  some_or ms d f = on (ltb 0 (length ms)) (λ e. rw e (f (ltb-true _ _ e))) (λ e. rw e (refused (Err (NoMembers d)) refl))

  short-or : (ms : List ℕ) → (length ms ≤ limit → P r) → P (on_short ms ws r)
  unfolding on_short
  short-or ms f = on (leb (length ms) limit) (λ e. rw e (f (leb-true _ _ e))) (λ e. rw e (refused (Err (TooManyMembers (length ms))) refl))

  live-or : (live : List ℕ) (refusal : ℕ → Answer) → ((x : ℕ) → eqb (number (refusal x)) 0 ≡ false) → (xs : List ℕ) → (all (is_live live) xs ≡ true → P r) → P (on_live live refusal xs ws r)
  unfolding on_live all
  live-or live refusal n [] f = f refl
  live-or live refusal n (x ∷ xs) f =
      on (is_live live x) (λ e. rw e (live-or live refusal n xs (λ a. f (and_both _ _ e a)))) (λ e. rw e (refused (refusal x) (n x)))

  changed-or : (x : ℕ) (ms : List ℕ) (t : Table) → P r → P (on_changed x ms t ws r)
  unfolding on_changed
  changed-or x ms t p = on (same_list ms (members_of x t.hyperedges)) (λ q. rw q (refused (Err (SameMembers (record { 0 = x }))) refl)) (λ q. rw q p)

  room-or : (live most : ℕ) → (live < most → P r) → P (on_room live most ws r)
  unfolding on_room
  room-or live most f = on (ltb live most) (λ e. rw e (f (ltb-true _ _ e))) (λ e. rw e (refused (Err Full) refl))

  number-or : (next : ℕ) → P r → P (on_number next ws r)
  unfolding on_number
  number-or next p = on (eqb next last_number) (λ e. rw e (refused (Err NumbersSpent) refl)) (λ e. rw e p)

  other-or : (v w : ℕ) → ((v ≡ w → ⊥) → P r) → P (on_other v w ws r)
  unfolding on_other
  other-or v w f = on (eqb v w) (λ e. rw e (refused (Err (SameVertex (record { 0 = v }))) refl)) (λ e. rw e (f (eqb-false v w e)))

-- the first that passes the test gives its answer, and the words are as they were
first-or : {A : Type 0} (P : Result → Type 0) (ws : List ℕ) (r : Result) (p : A → Bool) (answer : A → Answer) (xs : List A)
    → (any p xs ≡ true → (x : A) → P (result_of (answer x) ws)) → (any p xs ≡ false → P r) → P (on_first p answer xs ws r)
unfolding on_first any
first-or P ws r p answer [] found f = f refl
first-or P ws r p answer (x ∷ xs) found f =
    on (p x)
    (λ q. rw q (found (rw q) x))
    (λ q. rw q (first-or P ws r p answer xs (λ h. found (or_right (p x) (any p xs) h)) (λ h. f (rw (q, h)))))

-- 20, or the list has no equal neighbours
unequal-or : (P : Result → Type 0) (ws : List ℕ) → ((a : Answer) → eqb (number a) 0 ≡ false → P (result_of a ws))
    → (r : Result) (ms : List ℕ) → (equal_neighbours ms ≡ false → P r) → P (on_unequal ms ws r)
unfolding equal_neighbours
unequal-or P ws refused r ms f = first-or P ws r same_ends twiceInARow (steps_of ms) (λ h s. refused (twiceInARow s) refl) f

-- ---- the calls: P holds of every refusal, and of what is done

module _ (P : Result → Type 0) (ws : List ℕ) (formed : well_formed limit ws ≡ true) (refused : (a : Answer) → eqb (number a) 0 ≡ false → P (result_of a ws)) where
  held : holdable limit (read limit ws) ≡ true
  held = read-holdable limit ws formed

  formed-or : (f : Table → Result) → P (f (read limit ws)) → P (on_formed ws ws f)
  unfolding on_formed
  formed-or f p = rw formed p

  pub add-vertex-goes : (w : ℕ)
      → (holdable limit (add_vertex w (read limit ws)) ≡ true → P (result_of (Ok (read limit ws).next_vertex) (words limit (add_vertex w (read limit ws)))))
      → P (on_formed ws ws (add_vertex_result w ws))
  unfolding add_vertex_result
  add-vertex-goes w done =
      formed-or (add_vertex_result w ws) (room-or P ws refused _ _ vertex_limit (λ room. number-or P ws refused _ _
      (done (add-vertex-holdable limit w (read limit ws) held room))))

  pub add-hyperedge-goes : (ms : List ℕ) (w : ℕ)
      → (equal_neighbours ms ≡ false → any (identical ms w) (read limit ws).hyperedges ≡ true → (x : ℕ) → P (result_of (Ok x) ws))
      → (equal_neighbours ms ≡ false → any (identical ms w) (read limit ws).hyperedges ≡ false → holdable limit (add_hyperedge ms w (read limit ws)) ≡ true
      → P (result_of (Ok (read limit ws).next_hyperedge) (words limit (add_hyperedge ms w (read limit ws)))))
      → P (on_formed ws ws (add_hyperedge_result ms w ws))
  unfolding add_hyperedge_result
  add-hyperedge-goes ms w found done =
      formed-or (add_hyperedge_result ms w ws) (some_or P ws refused _ ms w (λ pos. short-or P ws refused _ ms (λ le. live-or P ws refused _ _ _ (λ x. refl) ms (λ live.
      unequal-or P ws refused _ ms (λ unequal. first-or P ws _ (identical ms w) (by_number Ok) _ (λ h e. found unequal h e.number) (λ new.
      room-or P ws refused _ _ hyperedge_limit (λ room. number-or P ws refused _ _
      (done unequal new (add-hyperedge-holdable limit ms (read limit ws) held pos le live w room)))))))))

  pub update-goes : (x : ℕ) (ms : List ℕ)
      → (equal_neighbours ms ≡ false → holdable limit (update_hyperedge x ms (read limit ws)) ≡ true → P (result_of (Ok 0) (words limit (update_hyperedge x ms (read limit ws)))))
      → P (on_formed ws ws (update_result x ms ws))
  unfolding update_result
  update-goes x ms done =
      formed-or (update_result x ms ws) (some_or P ws refused _ ms x (λ pos. short-or P ws refused _ ms (λ le. live-or P ws refused _ _ _ (λ v. refl) ms (λ live.
      unequal-or P ws refused _ ms (λ unequal. live-or P ws refused _ _ _ (λ e. refl) (x ∷ []) (λ found. changed-or P ws refused _ x ms _
      (done unequal (update-holdable limit ms (read limit ws) held pos le live x))))))))

  pub merge-goes : (v w : ℕ) → (Mergeable v w (read limit ws) → P (result_of (Ok 0) (words limit (merge_vertices v w (read limit ws))))) → P (on_formed ws ws (merge_result v w ws))
  unfolding merge_result all
  merge-goes v w done =
      formed-or (merge_result v w ws) (live-or P ws refused _ _ _ (λ x. refl) (v ∷ w ∷ []) (λ live. other-or P ws refused _ v w (λ two.
      first-or P ws _ (side_by_side v w) (by_number side_by_side_in) _ (λ found e. refused (side_by_side_in e.number) refl) (λ apart.
      done (record { kept-live = and_left _ _ live; gone-live = and_left _ _ (and_right _ _ live); two = two; apart = apart })))))
