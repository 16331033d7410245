-- Which refusal of an edit applies, from what the code found. Assumes nothing.
use Rattle.std.specs.Prelude.{Option, Some, None, Ok, Err}
use mathlib.Core.Path.{◌≡◌, sym, ap, ◌∙◌}
use mathlib.Core.List.{List, []}
use Prim.Native.Nat.{ℕ, ◌≤◌, ◌<◌}
use native.Mathlib.Omega.{arith}
use lib.ListN.{length, get_or, replicate}
use borrow.Author.Tests.{lt-ltb, le-ltb, le-leb, lt-leb, eq-eqb, ne_eqb}
use Rattle.lists.proofs.Cases.{not_none}
use Rattle.lists.proofs.Tab.{length-tab}
use Rattle.layout.specs.declared.Refusal.{Refusal}
use Rattle.layout.specs.declared.Refusal.TheVariants.{NotWellFormed, NoMembers, VertexNotLive, TooManyMembers, Full, NumbersSpent, EqualNeighbours}
use Rattle.layout.specs.Content.{Table, live_vertices}
use Rattle.layout.specs.Layout.{limit, size, vertex_count, vertex_at, read}
use Rattle.layout.specs.Answers.{Result, result_of, vertex_missing, on_live_vertices}
use Rattle.layout.specs.Inner.{first_missing, step_at}
use Rattle.layout.specs.Steps.{steps_of, same_ends}
use Rattle.layout.proofs.Answers.{on-first-missing, on-none-missing}
use Rattle.layout.proofs.Steps.{step_from}
use Rattle.edits.specs.Stages.{Judgement}
use Rattle.lists.specs.Inner.{over_at}
use Rattle.edits.specs.Results.{last_number, on_some, on_short, twiceInARow, on_unequal, on_room, on_number, clear_result, empty_result, first_passing}
use Rattle.edits.specs.Stages.{on_members, or_else, NeighboursJudged, JudgedBy}
use Rattle.edits.proofs.Stored.{zeros-all}
use Rattle.edits.proofs.Passing.{on-first-passing, on-none-first}

-- ---- clear: 1 only for a wrong length

pub clear-wrong : (ws : List ℕ) → (length ws ≡ size limit → ⊥) → result_of (Err NotWellFormed) ws ≡ clear_result ws
unfolding clear_result
clear-wrong ws h = rw (ne_eqb (length ws) (size limit) h)

pub clear-done : (ws exit : List ℕ) → length ws ≡ size limit → exit ≡ over_at 0 (replicate (size limit) 0) ws → result_of (Ok 0) exit ≡ clear_result ws
unfolding clear_result
clear-done ws exit h e = rw (eq-eqb (length ws) (size limit) h, e, zeros-all (size limit) ws h)

-- ---- is_empty: n is what `vertex_count` found

module _ (ws : List ℕ) (n : ℕ) (e : n ≡ vertex_count ws) where
  pub is-empty-yes : n ≡ 0 → result_of (Ok 1) [] ≡ empty_result (read limit ws)
  unfolding empty_result
  is-empty-yes h = rw (length-tab (vertex_at ws) (vertex_count ws), eq-eqb (vertex_count ws) 0 (sym e ∙ h))

  pub is-empty-no : (n ≡ 0 → ⊥) → result_of (Ok 0) [] ≡ empty_result (read limit ws)
  unfolding empty_result
  is-empty-no h = rw (length-tab (vertex_at ws) (vertex_count ws), ne_eqb (vertex_count ws) 0 (λ q. h (e ∙ q)))

-- ---- 2, 6, 3 and 20: what `judge_members` says

module _ (ms : List ℕ) (d : ℕ) (lent : List ℕ) (r : Result) where
  on-empty : length ms ≡ 0 → result_of (Err (NoMembers d)) lent ≡ on_some ms d lent r
  unfolding on_some
  on-empty h = rw (le-ltb 0 (length ms) (omega arith))

  on_some_lem : 0 < length ms → r ≡ on_some ms d lent r
  unfolding on_some
  on_some_lem h = rw (lt-ltb 0 (length ms) h)

module _ (ms : List ℕ) (lent : List ℕ) (r : Result) where
  on-long : limit < length ms → result_of (Err (TooManyMembers (length ms))) lent ≡ on_short ms lent r
  unfolding on_short
  on-long h = rw (lt-leb (length ms) limit h)

  on-short : length ms ≤ limit → r ≡ on_short ms lent r
  unfolding on_short
  on-short h = rw (le-leb (length ms) limit h)

refused-fine {ℓ} : {A : Type ℓ} (a : Refusal) → ◌≡◌ {A = Judgement} (Err a) (Ok tt) → A
refused-fine a q = absurd (let z : ◌≡◌ {A = ℕ} 0 1 = cc in omega arith)

module _ (ms : List ℕ) (d : ℕ) (t : Table) where
  pub judged-empty : length ms ≡ 0 → JudgedBy (Err (NoMembers d)) ms d t
  judged-empty h = record { says = λ lent r. on-empty ms d lent _ h; some = λ q. refused-fine _ q; short = λ q. refused-fine _ q }

  module _ (some : length ms ≡ 0 → ⊥) where
    pub judged-long : limit < length ms → JudgedBy (Err (TooManyMembers (length ms))) ms d t
    judged-long h = record {
      says = λ lent r. on-long ms lent _ h ∙ on_some_lem ms d lent _ (not_none _ some);
      some = λ q. refused-fine _ q;
      short = λ q. refused-fine _ q;
    }

    -- p is what `first_missing_vertex` found
    module _ (short : length ms ≤ limit) (p : Option ℕ) (e : p ≡ first_missing (live_vertices t) ms) where
      listed : (lent : List ℕ) (r x : Result) → x ≡ on_live_vertices t ms lent (on_unequal ms lent r) → x ≡ on_members ms d t lent r
      listed lent r x q = q ∙ on-short ms lent _ short ∙ on_some_lem ms d lent _ (not_none _ some)

      pub judged-missing : (i : ℕ) → p ≡ Some i → JudgedBy (Err (VertexNotLive (record { 0 = get_or ms i 0 }))) ms d t
      judged-missing i h = record {
        says = λ lent r. listed lent r _ (on-first-missing (live_vertices t) vertex_missing lent (on_unequal ms lent r) ms i (sym e ∙ h)).1;
        some = λ q. refused-fine _ q;
        short = λ q. refused-fine _ q;
      }

      -- j is what `judge_neighbours` said
      pub judged-live : p ≡ None → (j : Judgement) → NeighboursJudged j ms → JudgedBy j ms d t
      judged-live h j by = record {
        says = λ lent r. listed lent r _ (by lent r ∙ on-none-missing (live_vertices t) vertex_missing lent (on_unequal ms lent r) ms (sym e ∙ h));
        some = λ q. not_none _ some;
        short = λ q. short;
      }

-- the place of the first missing one is one of the list's
pub missing-within : (live ms : List ℕ) (p : Option ℕ) (i : ℕ) → p ≡ first_missing live ms → p ≡ Some i → i < length ms
missing-within live ms p i e h = (on-first-missing live vertex_missing [] (result_of (Err Full) []) ms i (sym e ∙ h)).0

-- p is what `first_equal_neighbour` found
module _ (ms : List ℕ) (p : Option ℕ) (e : p ≡ first_passing same_ends (steps_of ms)) where
  pub neighbour-within : (i : ℕ) → p ≡ Some i → i < length ms
  neighbour-within i h =
      (step_from (step_at ms 0) ms i (on-first-passing same_ends twiceInARow [] (result_of (Err Full) []) (step_at ms 0) (steps_of ms) i (sym e ∙ h)).0).0

  pub neighbours-equal : (i : ℕ) → p ≡ Some i → NeighboursJudged (Err (EqualNeighbours (record { 0 = get_or ms i 0 }))) ms
  neighbours-equal i h lent r =
      let q = on-first-passing same_ends twiceInARow lent r (step_at ms 0) (steps_of ms) i (sym e ∙ h) in
      ap (λ (v : ℕ). result_of (Err (EqualNeighbours (record { 0 = v }))) lent) (sym (step_from (step_at ms 0) ms i q.0).1) ∙ q.1

  pub neighbours-fine : p ≡ None → NeighboursJudged (Ok tt) ms
  neighbours-fine h lent r = on-none-first same_ends twiceInARow lent r (steps_of ms) (sym e ∙ h)

-- j is what `judge_members` said
module _ (j : Judgement) (ms : List ℕ) (d : ℕ) (t : Table) (by : JudgedBy j ms d t) where
  pub on-refused : (a : Refusal) (lent : List ℕ) (r : Result) → j ≡ Err a → result_of (Err a) lent ≡ on_members ms d t lent r
  on-refused a lent r h = ap (λ (k : Judgement). or_else k lent r) (sym h) ∙ by.says lent r

  pub on_fine : (lent : List ℕ) (r x : Result) → j ≡ Ok tt → x ≡ r → x ≡ on_members ms d t lent r
  on_fine lent r x h q = q ∙ ap (λ (k : Judgement). or_else k lent r) (sym h) ∙ by.says lent r

  pub fine-some : j ≡ Ok tt → 0 < length ms
  fine-some h = by.some h

  pub fine-short : j ≡ Ok tt → length ms ≤ limit
  fine-short h = by.short h

-- ---- 7 and 8

module _ (live most : ℕ) (lent : List ℕ) (r : Result) where
  pub on-full : most ≤ live → result_of (Err Full) lent ≡ on_room live most lent r
  unfolding on_room
  on-full h = rw (le-ltb live most h)

  pub on_room_lem : live < most → r ≡ on_room live most lent r
  unfolding on_room
  on_room_lem h = rw (lt-ltb live most h)

module _ (next : ℕ) (lent : List ℕ) (r : Result) where
  pub on-spent : next ≡ last_number → result_of (Err NumbersSpent) lent ≡ on_number next lent r
  unfolding on_number
  on-spent h = rw (eq-eqb next last_number h)

  pub on-number : (next ≡ last_number → ⊥) → r ≡ on_number next lent r
  unfolding on_number
  on-number h = rw (ne_eqb next last_number h)
