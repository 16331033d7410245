-- What a release answers and leaves. Assumes nothing.
use Rattle.std.specs.Prelude.{Option, Some, None, Ok, Err}
use mathlib.Core.Path.{◌≡◌, refl, sym, ap, ap₂, ◌∙◌}
use mathlib.Core.Bool.{Bool, true, false, not, ◌||◌}
use mathlib.Core.List.{List, []}
use Prim.Native.Nat.{ℕ, ◌+◌, ◌≤◌, ◌<◌}
use native.Mathlib.Omega.{arith}
use lib.Dec.{eqb}
use lib.ListN.{length, get_or, drop, set}
use borrow.Author.Tests.{eq-eqb, ne_eqb, not-true, not-false}
use Rattle.lists.specs.Tests.{◌and◌}
use Rattle.lists.specs.Lists.{up_to, word_at}
use Rattle.lists.proofs.Tab.{length-tab}
use Rattle.lists.proofs.Flat.{tab-getD}
use Rattle.layout.specs.declared.VertexIndex.{VertexIndex}
use Rattle.layout.specs.declared.Refusal.TheVariants.{NotReviewed, UpstreamHeld}
use Rattle.layout.specs.Content.{Table, live_vertices, position}
use Rattle.layout.specs.Layout.{limit, vertex_limit, vertex_count, vertex_at, read}
use Rattle.layout.specs.Inner.{Formed}
use Rattle.layout.specs.Steps.{has_step}
use Rattle.layout.specs.Answers.{Result, result_of}
use Rattle.layout.proofs.Read.{live-length, live_at, live-ascends}
use Rattle.edits.specs.Results.{first_passing_from, first_passing}
use Rattle.edits.proofs.Passing.{passing-on, passing-here, passing-none}
use Rattle.edits.proofs.Passing.{on-first-passing, on-none-first}
use Rattle.marks.specs.Marks.{is_marked}
use Rattle.lookups.specs.declared.Direction.TheVariants.{To}
use Rattle.lookups.specs.declared.Relation.TheVariants.{Along}
use Rattle.lookups.specs.Lookups.{relates, is_related}
use Rattle.lookups.specs.State.{no_marks, MarkedBy}
use Rattle.lookups.proofs.Marking.{no-mark}
use Rattle.desk.specs.States.{reviewed, released, with_state}
use Rattle.desk.specs.Releases.{holds, upstream_held, on_reviewed, on_unheld, releasing}
use Rattle.desk_fits.proofs.Looked.{in-state-found, in-state-at, with-state-found}
use Rattle.desk_fits.proofs.Passing.{first-same}
use Rattle.desk_release.specs.Held.{held_at, release_reviewed_result, release_live_result}

-- ---- a record, by its mark and its state

pub unmarked : (mark : Bool) (x : ℕ) → not mark ≡ true → false ≡ (mark and not (eqb x released))
unfolding ◌and◌
unmarked mark x h = rw (not-true mark h)

pub marked-held : (mark : Bool) (x : ℕ) → not mark ≡ false → not (eqb x released) ≡ (mark and not (eqb x released))
unfolding ◌and◌
marked-held mark x h = rw (not-false mark h)

-- ---- a loop over the n records, with `drop k` of them left; r is what `is_held` found of record k

module _ (ss : List ℕ) (marks : List Bool) (n k : ℕ) (whole : Option ℕ)
    (inv : first_passing_from (held_at ss marks) k (drop k (up_to n)) ≡ whole) where
  module _ (r : Bool) (e : r ≡ (is_marked marks k and not (eqb (word_at ss k) released))) (h : k < n) where
    pub held_on : r ≡ false → first_passing_from (held_at ss marks) (k + 1) (drop (k + 1) (up_to n)) ≡ whole
    unfolding held_at
    held_on q = passing-on (held_at ss marks) (λ i. i) n k whole inv n refl r e h q

    pub held-here : r ≡ true → Some k ≡ whole
    unfolding held_at
    held-here q = passing-here (held_at ss marks) (λ i. i) n k whole inv n refl r e h q

  pub held_none : n ≤ k → None ≡ whole
  held_none h = passing-none (held_at ss marks) (λ i. i) n k whole inv n refl h

-- n is what `vertex_count` returned, s what `first_held` returned
pub upstream-within : (ws : List ℕ) (p : ℕ → Bool) (n : ℕ) (s : Option ℕ) (k : ℕ) → Formed limit ws → n ≡ vertex_count ws
    → s ≡ first_passing p (up_to n) → s ≡ Some k → k < vertex_limit
upstream-within ws p n s k f q e h =
    let l : k < n = rw length-tab at (on-first-passing p Ok [] (result_of (Ok 0) []) 0 (up_to n) k (sym e ∙ h)).0 in omega (arith, f.shape.vertices-le)

-- ---- the first that holds: marks are those of the vertices with a step into v

module _ (ws ss : List ℕ) (v : ℕ) (f : Formed limit ws) (marks : List Bool)
    (b : MarkedBy (live_vertices (read limit ws)) (is_related (Along To) (read limit ws) v) no_marks marks) where
  steps-into : (u : ℕ) → is_related (Along To) (read limit ws) v u ≡ has_step (read limit ws) u v
  unfolding is_related relates has_step
  steps-into u = refl

  held-holds : (k : ℕ) → k < vertex_count ws → held_at ss marks k ≡ holds (read limit ws) ss v (get_or (live_vertices (read limit ws)) k 0)
  unfolding held_at holds
  held-holds k h =
      let l : k < length (live_vertices (read limit ws)) = rw live-length h in
      let u = get_or (live_vertices (read limit ws)) k 0 in
      ap₂ (λ (m x : Bool). m and not x)
      (b.each k l ∙ ap (λ (m : Bool). m || is_related (Along To) (read limit ws) v u) (no-mark k (omega (arith, f.shape.vertices-le))) ∙ steps-into u)
      (sym (in-state-at (read limit ws) ss k (live-ascends limit ws f) l released))

  -- n is what `vertex_count` returned, s what `first_held` returned
  module _ (n : ℕ) (s : Option ℕ) (q : n ≡ vertex_count ws) (e : s ≡ first_passing (held_at ss marks) (up_to n)) where
    first_holds : s ≡ first_passing (holds (read limit ws) ss v) (live_vertices (read limit ws))
    first_holds =
        e ∙ ap (λ (k : ℕ). first_passing (held_at ss marks) (up_to k)) (q ∙ sym (live-length limit ws))
        ∙ first-same (held_at ss marks) (holds (read limit ws) ss v) (λ (k : ℕ). k) (word_at (live_vertices (read limit ws))) (length (live_vertices (read limit ws)))
        (λ k h. held-holds k (rw live-length at h))
        ∙ ap (first_passing (holds (read limit ws) ss v)) (tab-getD (live_vertices (read limit ws)) 0)

    module _ (k : ℕ) (h : s ≡ Some k) where
      found : (r : Result) → (k < length (live_vertices (read limit ws)))
          × (result_of (upstream_held (get_or (live_vertices (read limit ws)) k 0)) ss ≡ on_unheld (read limit ws) v ss r)
      found r = on-first-passing (holds (read limit ws) ss v) upstream_held ss r 0 (live_vertices (read limit ws)) k (sym first_holds ∙ h)

      -- x is what `vertex_number` returned
      pub upstream-named : (x : ℕ) → x ≡ (vertex_at ws k).number → result_of (Err (UpstreamHeld (record { 0 = x }))) ss ≡ release_reviewed_result v ss (read limit ws)
      unfolding release_reviewed_result
      upstream-named x w =
          let r = found (result_of (Ok 0) (with_state (read limit ws) v released ss)) in
          ap (λ (y : ℕ). result_of (upstream_held y) ss) (w ∙ sym (live_at limit ws k (rw live-length at r.0))) ∙ r.1

    -- none holds, and the record of v is i
    pub release-done : (i : ℕ) → position v (live_vertices (read limit ws)) ≡ Some i → s ≡ None
        → result_of (Ok 0) (set ss i released) ≡ release_reviewed_result v ss (read limit ws)
    unfolding release_reviewed_result
    release-done i p h =
        ap (λ (xs : List ℕ). result_of (Ok 0) xs) (sym (with-state-found (read limit ws) ss v i p released))
        ∙ on-none-first (holds (read limit ws) ss v) upstream_held ss _ (live_vertices (read limit ws)) (sym first_holds ∙ h)

-- ---- the state of a live vertex: its record is i

module _ (t : Table) (ss : List ℕ) (v : VertexIndex) (i : ℕ) (e : position v.0 (live_vertices t) ≡ Some i) where
  pub released-stays : get_or ss i 0 ≡ released → result_of (Ok 0) ss ≡ release_live_result v.0 ss t
  unfolding release_live_result
  released-stays h = rw (in-state-found t ss v.0 i e released, eq-eqb (get_or ss i 0) released h)

  module _ (n : get_or ss i 0 ≡ released → ⊥) where
    pub not-reviewed : (get_or ss i 0 ≡ reviewed → ⊥) → result_of (Err (NotReviewed v)) ss ≡ release_live_result v.0 ss t
    unfolding release_live_result releasing on_reviewed
    not-reviewed h =
        rw (in-state-found t ss v.0 i e released, ne_eqb (get_or ss i 0) released n, in-state-found t ss v.0 i e reviewed, ne_eqb (get_or ss i 0) reviewed h)

    -- x is what `release_reviewed` answered and left
    pub released-now : get_or ss i 0 ≡ reviewed → (x : Result) → x ≡ release_reviewed_result v.0 ss t → x ≡ release_live_result v.0 ss t
    unfolding release_live_result release_reviewed_result releasing on_reviewed
    released-now h x q =
        rw (in-state-found t ss v.0 i e released, ne_eqb (get_or ss i 0) released n, in-state-found t ss v.0 i e reviewed, eq-eqb (get_or ss i 0) reviewed h) q
