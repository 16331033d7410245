-- Laws of the marks of all lists, and of the vertices that are left unmarked. Assumes nothing.
use mathlib.Core.Path.{◌≡◌, refl, sym, ap, ap₂, ◌∙◌}
use mathlib.Core.Bool.{Bool, false, not, ◌||◌}
use mathlib.Core.List.{List, [], ◌∷◌}
use Prim.Native.Nat.{ℕ, suc, ◌+◌, ◌-◌, ◌≤◌, ◌<◌}
use native.Mathlib.Nat.{lt_irrefl}
use native.Mathlib.Omega.{arith}
use lib.Dec.{eqb}
use lib.ListN.{length, get_or, take, drop, set, length-set, length-drop, get_or-replicate}
use lib.Seq.{get_or-set_same, get_or-set_other, take_all}
use Rattle.lists.proofs.Memb.{any-memb}
use Rattle.lists.specs.Lists.{any, memb, filter}
use Rattle.lists.proofs.Cases.{on_same, eqb_comm}
use Rattle.layout.specs.Content.{Table, live_vertices, lists}
use Rattle.layout.specs.Layout.{vertex_limit, hyperedge_at, members_at, read}
use Rattle.layout.specs.Inner.{Formed}
use Rattle.layout.specs.Answers.{Result, listed}
use Rattle.layout.specs.Steps.{steps_of}
use Rattle.layout.proofs.Read.{live-length}
use Rattle.marks.specs.Marks.{is_marked, marked}
use Rattle.marks.proofs.Marked.{marked-filter}
use Rattle.lookups.specs.declared.Direction.TheVariants.{From, To}
use Rattle.lookups.specs.Lookups.{has_end}
use Rattle.lookups.specs.State.{some_of, with, no_marks, MarkedBy}
use Rattle.lookups.proofs.Marking.{marked-as, no-marks-length}
use Rattle.properties.specs.Properties.{is_orphan, orphan_vertices, steps_at, is_endpoint, sources, sinks, twice, endpoints}
use Rattle.properties.specs.State.{trimmed, in_trimmed}

any-ext : {A : Type 0} (f g : A → Bool) (xs : List A) → ((x : A) → f x ≡ g x) → any f xs ≡ any g xs
unfolding any
any-ext f g [] h = refl
any-ext f g (x ∷ xs) h = ap₂ ◌||◌ (h x) (any-ext f g xs h)

-- ---- a record: ms is what `members_formed` returned

pub trimmed-marked : (L : ℕ) (ws ms : List ℕ) (j front back : ℕ) (live : List ℕ) (old new : List Bool) → ms ≡ members_at L ws j
    → MarkedBy live (some_of eqb (take (length ms - back - front) (drop front ms))) old new → MarkedBy live (with (in_trimmed front back) (hyperedge_at L ws j)) old new
unfolding some_of in_trimmed
trimmed-marked L ws ms j front back live old new e b =
    marked-as (λ y. any-memb y (trimmed front back ms) ∙ ap (λ (l : List ℕ). memb y (trimmed front back l)) e) b

-- ---- which vertices are in what is left of some list

trimmed-whole : (ms : List ℕ) → trimmed 0 0 ms ≡ ms
trimmed-whole ms = take_all (length ms - 0 - 0) ms (omega arith)

-- the members after the first are stepped to
trimmed-later : (v : ℕ) (ms : List ℕ) → memb v (drop 1 ms) ≡ any (has_end To v) (steps_of ms)
unfolding any steps_of has_end
trimmed-later v [] = refl
trimmed-later v (x ∷ []) = refl
trimmed-later v (x ∷ y ∷ ms) = ap₂ ◌||◌ (eqb_comm v y) (trimmed-later v (y ∷ ms))

-- the members before the last are stepped from
trimmed-earlier : (v : ℕ) (ms : List ℕ) → memb v (take (length ms - 1) ms) ≡ any (has_end From v) (steps_of ms)
unfolding any steps_of has_end
trimmed-earlier v [] = refl
trimmed-earlier v (x ∷ []) = refl
trimmed-earlier v (x ∷ y ∷ ms) =
    let a : length (x ∷ y ∷ ms) - 1 ≡ suc (length ms) = omega arith in
    let b : length (y ∷ ms) - 1 ≡ length ms = omega arith in
    ap (λ (k : ℕ). memb v (take k (x ∷ y ∷ ms))) a
    ∙ ap₂ ◌||◌ (eqb_comm v x) (ap (λ (k : ℕ). memb v (take k (y ∷ ms))) (sym b) ∙ trimmed-earlier v (y ∷ ms))

module _ (t : Table) (v : ℕ) where
  listed-some : any (in_trimmed 0 0 v) t.hyperedges ≡ any (lists v) t.hyperedges
  unfolding in_trimmed
  listed-some = any-ext (in_trimmed 0 0 v) (lists v) t.hyperedges (λ e. ap (memb v) (trimmed-whole e.members))

  stepped-to : any (in_trimmed 1 0 v) t.hyperedges ≡ any (steps_at To v) t.hyperedges
  unfolding in_trimmed steps_at
  stepped-to = any-ext (in_trimmed 1 0 v) (steps_at To v) t.hyperedges (λ e.
      ap (memb v) (take_all (length e.members - 0 - 1) (drop 1 e.members) (rw length-drop (omega arith))) ∙ trimmed-later v e.members)

  stepped-from : any (in_trimmed 0 1 v) t.hyperedges ≡ any (steps_at From v) t.hyperedges
  unfolding in_trimmed steps_at
  stepped-from = any-ext (in_trimmed 0 1 v) (steps_at From v) t.hyperedges (λ e.
      let q : length e.members - 1 - 0 ≡ length e.members - 1 = omega arith in
      ap (λ (k : ℕ). memb v (take k e.members)) q ∙ trimmed-earlier v e.members)

-- ---- the loop over k that turns the marks

pub record Turned (marks : List Bool) (k : ℕ) (rest : List Bool) : Type 0 where
  pub sized : length rest ≡ vertex_limit
  pub each : (i : ℕ) → i < k → is_marked rest i ≡ not (is_marked marks i)

pub turned_none : (marks : List Bool) → Turned marks 0 no_marks
turned_none marks = record { sized = no-marks-length; each = λ i h. absurd (lt_irrefl 0 (omega arith)) }

module _ {marks : List Bool} {k : ℕ} {rest : List Bool} (w : Turned marks k rest) where
  pub turned_more : k < vertex_limit → Turned marks (k + 1) (set rest k (not (is_marked marks k)))
  turned_more h = record {
    sized = length-set rest k (not (is_marked marks k)) ∙ w.sized;
    each = λ i l. on_same i k
        (λ s. rw (s, get_or-set_same rest k (not (is_marked marks k)) false (omega (arith, w.sized))))
        (λ ne. get_or-set_other rest k i (not (is_marked marks k)) false ne ∙ w.each i (omega arith));
  }

  pub turned-end : vertex_limit ≤ k → (i : ℕ) → i < vertex_limit → is_marked rest i ≡ not (is_marked marks i)
  turned-end h i l = w.each i (omega arith)

-- from no marks on
pub marks-are : (live : List ℕ) (p : ℕ → Bool) (old : List Bool) → MarkedBy live p no_marks old → (k : ℕ) → k < vertex_limit → k < length live → is_marked old k ≡ p (get_or live k 0)
unfolding no_marks
marks-are live p old b k h l = b.each k l ∙ ap (λ (t : Bool). t || p (get_or live k 0)) (get_or-replicate vertex_limit k false false h)

-- ---- what is left unmarked: old is what `listed_marks` left, rest what `others` made of it

module _ (L : ℕ) (ws : List ℕ) (f : Formed L ws) (old rest : List Bool) (w : (k : ℕ) → k < vertex_limit → is_marked rest k ≡ not (is_marked old k)) where
  rest-filter : (p q : ℕ → Bool) → MarkedBy (live_vertices (read L ws)) p no_marks old → ((v : ℕ) → not (p v) ≡ q v) → marked rest (live_vertices (read L ws)) ≡ filter q (live_vertices (read L ws))
  rest-filter p q b h =
      marked-filter q rest (live_vertices (read L ws)) (λ k l.
      w k (omega (arith, live-length L ws, f.shape.vertices-le))
      ∙ ap not (marks-are (live_vertices (read L ws)) p old b k (omega (arith, live-length L ws, f.shape.vertices-le)) l) ∙ h _)

  pub orphans-are : MarkedBy (live_vertices (read L ws)) (some_of (in_trimmed 0 0) (read L ws).hyperedges) no_marks old
      → marked rest (live_vertices (read L ws)) ≡ orphan_vertices (read L ws)
  unfolding some_of orphan_vertices is_orphan
  orphans-are b = rest-filter _ _ b (λ v. ap not (listed-some (read L ws) v))

  pub orphans-listed : (out : List ℕ) (x : Result) → MarkedBy (live_vertices (read L ws)) (some_of (in_trimmed 0 0) (read L ws).hyperedges) no_marks old
      → x ≡ listed (marked rest (live_vertices (read L ws))) out → x ≡ listed (orphan_vertices (read L ws)) out
  orphans-listed out x b e = e ∙ ap (λ (xs : List ℕ). listed xs out) (orphans-are b)

  pub sources-are : MarkedBy (live_vertices (read L ws)) (some_of (in_trimmed 1 0) (read L ws).hyperedges) no_marks old
      → marked rest (live_vertices (read L ws)) ≡ sources (read L ws)
  unfolding some_of sources is_endpoint
  sources-are b = rest-filter _ _ b (λ v. ap not (stepped-to (read L ws) v))

  pub sinks-are : MarkedBy (live_vertices (read L ws)) (some_of (in_trimmed 0 1) (read L ws).hyperedges) no_marks old
      → marked rest (live_vertices (read L ws)) ≡ sinks (read L ws)
  unfolding some_of sinks is_endpoint
  sinks-are b = rest-filter _ _ b (λ v. ap not (stepped-from (read L ws) v))

-- the two marks that `others` made, of those stepped to and of those stepped from
pub endpoints-listed : (L : ℕ) (ws : List ℕ) → Formed L ws → (to from a b : List Bool) (out : List ℕ) (x : Result)
    → MarkedBy (live_vertices (read L ws)) (some_of (in_trimmed 1 0) (read L ws).hyperedges) no_marks to
    → MarkedBy (live_vertices (read L ws)) (some_of (in_trimmed 0 1) (read L ws).hyperedges) no_marks from
    → ((k : ℕ) → k < vertex_limit → is_marked a k ≡ not (is_marked to k)) → ((k : ℕ) → k < vertex_limit → is_marked b k ≡ not (is_marked from k))
    → x ≡ listed (twice (marked a (live_vertices (read L ws))) (marked b (live_vertices (read L ws)))) out → x ≡ listed (endpoints (read L ws)) out
unfolding endpoints
endpoints-listed L ws f to from a b out x p q v w e =
    e ∙ ap₂ (λ (xs ys : List ℕ). listed (twice xs ys) out) (sources-are L ws f to a v p) (sinks-are L ws f from b w q)
