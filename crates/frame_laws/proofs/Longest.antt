-- The longest written text. Assumes nothing.
use mathlib.Core.Path.{◌≡◌, refl, ap, ◌∙◌}
use mathlib.Core.Bool.{true}
use mathlib.Core.List.{List}
use Prim.Native.Nat.{ℕ, zero, suc, ◌+◌, ◌-◌, ◌*◌, ◌≤◌, ◌<◌}
use native.Mathlib.Nat.{add-zero}
use native.Mathlib.Omega.{arith}
use lib.ListN.{length, get_or, replicate}
use Rattle.lists.specs.Tests.{◌and◌}
use Rattle.lists.specs.Lists.{all, tab}
use Rattle.lists.proofs.Cases.{on_below, and_both}
use Rattle.lists.proofs.All.{all_of}
use Rattle.lists.proofs.Tab.{length-tab, getD-tab, map-tab}
use Rattle.lists.proofs.Memb.{memb-getD}
use Rattle.layout.specs.Content.{Hyperedge, Table, vertex_number, hyperedge_number, live_vertices, is_live, members_live, vertex_of, hyperedge_of, no_vertex, no_hyperedge}
use Rattle.layout.specs.Layout.{vertex_limit, hyperedge_limit, limit, read}
use Rattle.layout.specs.WellFormed.{count_fits}
use Rattle.layout.proofs.Back.{read-holdable}
use Rattle.layout.proofs.Holdable.{Holdable, holdable-of, members-le}
use Rattle.frames.specs.Frames.{hyperedge_length, frame_text}
use Rattle.frames.specs.Reading.{vertex_place, accepted}
use Rattle.frames.specs.Faulty.{Written}
use Rattle.frame_laws.specs.Longest.{longest}
use Rattle.frame_laws.proofs.Rows.{rows, place_at, vertex-place, hyperedge-next, text-length}
use Rattle.frame_laws.proofs.Held.{Worded, all_none}
use Rattle.frame_laws.proofs.Fill.{numbered-tab}
use Rattle.frame_laws.proofs.Accepted.{text-written, accepted-written}

-- where line k begins, behind lines that are no longer than they can be
module _ (t : Table) (d : Holdable limit t) where
  hyperedges-end : (j : ℕ) → j ≤ length t.hyperedges → place_at t (suc (length t.vertices + j)) ≤ vertex_place (length t.vertices) + j * hyperedge_length limit
  hyperedges-end zero h = rw (add-zero (length t.vertices)) (omega (arith, vertex-place t (length t.vertices) (omega arith)))
  hyperedges-end (suc j) h = omega (arith, hyperedge-next t j, members-le d no_hyperedge j h, hyperedges-end j (omega arith))

  pub place-le : (k : ℕ) → k ≤ rows t → place_at t k ≤ longest
  unfolding place_at
  place-le zero h = omega arith
  place-le (suc k) h =
      let n : ℕ = length t.vertices in
      on_below k n
      (λ l. omega (arith, vertex-place t k (omega arith), d.vertices-le))
      (λ l.
      let e : n + (k - n) ≡ k = omega arith in
      rw e at (bound n (k - n) d.vertices-le (omega (arith, d.hyperedges-le)) (hyperedges-end (k - n) (omega arith))))
    where
      bound : (n j : ℕ) → n ≤ 256 → j ≤ 192 → place_at t (suc (length t.vertices + j)) ≤ vertex_place n + j * hyperedge_length limit
          → place_at t (suc (length t.vertices + j)) ≤ longest
      bound n j a b c = omega arith

-- no accepted text is longer
pub accepted-short : (text : List ℕ) → accepted text ≡ true → length text ≤ longest
accepted-short text e =
    let w : Written text = accepted-written text e in
    let t : Table = read limit w.table in
    omega (arith, ap length w.gives, text-length t, place-le t (holdable-of (read-holdable limit w.table w.formed)) (rows t) (omega arith))

-- a table with 256 vertices and 192 hyperedges of 32 members has a text as long
abbrev pub full_hyperedge : ℕ → Hyperedge
full_hyperedge j = hyperedge_of j 0 (replicate limit 0)

abbrev pub full : Table
full = record {
  next_vertex = vertex_limit;
  next_hyperedge = hyperedge_limit;
  vertices = tab (λ i. vertex_of i 0) vertex_limit;
  hyperedges = tab full_hyperedge hyperedge_limit;
}

full-vertices : length full.vertices ≡ vertex_limit
full-vertices = length-tab (λ (i : ℕ). vertex_of i 0) vertex_limit

full-hyperedges : length full.hyperedges ≡ hyperedge_limit
full-hyperedges = length-tab full_hyperedge hyperedge_limit

full-vertex : (i : ℕ) → i < length full.vertices → get_or full.vertices i no_vertex ≡ vertex_of i 0
full-vertex i h = getD-tab (λ (i : ℕ). vertex_of i 0) vertex_limit i no_vertex (rw full-vertices at h)

full-hyperedge : (j : ℕ) → j < length full.hyperedges → get_or full.hyperedges j no_hyperedge ≡ full_hyperedge j
full-hyperedge j h = getD-tab full_hyperedge hyperedge_limit j no_hyperedge (rw full-hyperedges at h)

zero-live : is_live (live_vertices full) 0 ≡ true
zero-live =
    rw (map-tab vertex_number (λ (i : ℕ). vertex_of i 0) vertex_limit) (
    rw (getD-tab (λ (i : ℕ). i) vertex_limit 0 0 (omega arith)) at (memb-getD (tab (λ i. i) vertex_limit) 0 (rw length-tab (omega arith))))

full-live : (n : ℕ) → all (is_live (live_vertices full)) (replicate n 0) ≡ true
unfolding all
full-live zero = refl
full-live (suc n) = and_both _ _ zero-live (full-live n)

full-held : Holdable limit full
unfolding count_fits members_live
full-held = record {
  vertices-le = rw full-vertices (omega arith);
  hyperedges-le = rw full-hyperedges (omega arith);
  vertices-numbered = rw (map-tab vertex_number (λ (i : ℕ). vertex_of i 0) vertex_limit) (numbered-tab (λ i. i) vertex_limit vertex_limit (λ i h. omega arith) (λ i h. h));
  hyperedges-numbered = rw (map-tab hyperedge_number full_hyperedge hyperedge_limit) (numbered-tab (λ j. j) hyperedge_limit hyperedge_limit (λ j h. omega arith) (λ j h. h));
  counts = all_of (count_fits limit) full.hyperedges no_hyperedge (λ j h. rw (full-hyperedge j h) (and_both _ _ refl refl));
  members-live = all_of (members_live (live_vertices full)) full.hyperedges no_hyperedge (λ j h. rw (full-hyperedge j h) (full-live limit));
}

full-worded : Worded full
full-worded = record {
  next-vertex = omega arith;
  next-hyperedge = omega arith;
  vertex-number = λ i h. rw (full-vertex i h) (omega (arith, full-vertices));
  vertex-weight = λ i h. rw (full-vertex i h) (omega arith);
  hyperedge-number = λ j h. rw (full-hyperedge j h) (omega (arith, full-hyperedges));
  hyperedge-weight = λ j h. rw (full-hyperedge j h) (omega arith);
  members = λ j h. rw (full-hyperedge j h) (all_none limit);
}

full-end : (j : ℕ) → j ≤ length full.hyperedges → place_at full (suc (length full.vertices + j)) ≡ vertex_place (length full.vertices) + j * hyperedge_length limit
full-end zero h = rw (add-zero (length full.vertices)) (omega (arith, vertex-place full (length full.vertices) (omega arith)))
full-end (suc j) h = omega (arith, hyperedge-next full j, ap (λ (e : Hyperedge). length e.members) (full-hyperedge j h), full-end j (omega arith))

pub longest-written : Written (frame_text full) × (length (frame_text full) ≡ longest)
longest-written = (text-written full full-held full-worded, text-length full ∙ full-end (length full.hyperedges) (omega arith) ∙ omega (arith, full-vertices, full-hyperedges))
