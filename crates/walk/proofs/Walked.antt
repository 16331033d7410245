-- Laws of a move and of the walk. Assumes nothing.
use Rattle.std.specs.Prelude.{Option, Some, None, Ok, Err}
use Rattle.std.proofs.Common.{◌≡◌, ℕ, zero, suc, ◌+◌, ◌-◌, ◌<◌, ◌≤◌, true, false, List, [], ◌∷◌, ◌++◌, map, length, get_or, set, sym, refl, ap, ◌∙◌, append_assoc, append-nil, suc-ne-zero, arith, length-append, length-set, eq-eqb, ne_eqb, le-leb}
use borrow.Author.Tests.{lt-leb}
use Rattle.lists.specs.Lists.{all, filter, over}
use Rattle.lists.proofs.Cases.{on, clash, and_left, and_right}
use Rattle.lists.proofs.Memb.{memb-at}
use Rattle.lists.proofs.All.{all-at}
use Rattle.lists.proofs.Chosen.{over_none, over-more}
use Rattle.layout.specs.declared.Refusal.TheVariants.{NoRoom}
use Rattle.layout.specs.Content.{Hyperedge, Table, live_vertices, is_live, lists, hyperedges_of, members_live, valid, position}
use Rattle.layout.specs.Layout.{limit, vertex_count, members_at, hyperedge_at, read_hyperedges, read}
use Rattle.layout.specs.Inner.{Formed}
use Rattle.layout.specs.Answers.{result_of, listed}
use Rattle.layout.proofs.Position.{position-found, missing-dead}
use Rattle.layout.proofs.Read.{vertex-found}
use Rattle.layout.proofs.Answers.{listed-over, listed-fits}
use Rattle.steps.specs.Matrices.{number_of}
use Rattle.walk.specs.declared.Walker.{Walker}
use Rattle.walk.specs.Walk.{xorshift, sample, total_weight, last_of, first_greater, other_members, to_one_of, walker, move_along, move, walk_from, step_limit, cut, first_state, walk}
use Rattle.walk.specs.Passes.{listers_of, records_at, TakenBy}
use Rattle.walk.proofs.Listing.{hyperedges-are}

-- ---- a move

last-at : (f : ℕ → Hyperedge) (j : ℕ) (js : List ℕ) → last_of (f j) (map f js) ≡ f (get_or (j ∷ js) (length js) 0)
unfolding last_of
last-at f j [] = refl
last-at f j (k ∷ js) = last-at f k js

-- along the records at the places js, of which there is one
along : (ws : List ℕ) (w : Walker) (js : List ℕ) → (length js ≡ 0 → ⊥) → move_along w (records_at ws js)
    ≡ to_one_of w.at (xorshift w.state) (other_members w.at (first_greater (sample (xorshift w.state) (total_weight (records_at ws js))) (hyperedge_at limit ws (get_or js (length js - 1) 0)) 0 (records_at ws js)).members)
unfolding move_along
along ws w [] h = absurd (h refl)
along ws w (j ∷ js) h =
    let s : suc (length js) - 1 ≡ length js = omega arith in
    rw (last-at (hyperedge_at limit ws) j js, s)

nowhere : (w : Walker) → w ≡ move_along w []
unfolding move_along
nowhere w = refl

-- the walker stands at the vertex of record i
module _ (ws : List ℕ) (w : Walker) (i : ℕ) (p : position w.at (live_vertices (read limit ws)) ≡ Some i) where
  pub stands : i < vertex_count ws
  stands = (vertex-found limit ws w.at i p).0

  number_is : number_of (read limit ws) i ≡ w.at
  number_is = (position-found w.at (live_vertices (read limit ws)) i p).1

  along-here : move_along w (records_at ws (listers_of ws i)) ≡ move (read limit ws) w
  unfolding move
  along-here = ap (move_along w) (hyperedges-are ws i ∙ ap (hyperedges_of (read limit ws)) number_is)

  -- n of the records list it
  module _ (n : ℕ) (e : n ≡ length (listers_of ws i)) where
    pub move-none : n ≡ 0 → w ≡ move (read limit ws) w
    move-none q = none (listers_of ws i) (sym e ∙ q) ∙ along-here
      where
        none : (js : List ℕ) → length js ≡ 0 → w ≡ move_along w (records_at ws js)
        none [] z = nowhere w
        none (j ∷ js) z = absurd (suc-ne-zero (length js) z)

    pub move-one : (n ≡ 0 → ⊥) → (draw j : ℕ) → draw ≡ xorshift w.state → TakenBy ws (listers_of ws i) draw j
        → (r : Walker) → r ≡ to_one_of w.at draw (other_members w.at (members_at limit ws j)) → r ≡ move (read limit ws) w
    move-one h draw j d g r q =
        q ∙ rw (ap (λ (e : Hyperedge). e.members) g.taken, d) (sym (along ws w (listers_of ws i) (λ z. h (e ∙ z)))) ∙ along-here

member-live : (live : List ℕ) (e : Hyperedge) (i : ℕ) → members_live live e ≡ true → i < length e.members → is_live live (get_or e.members i 0) ≡ true
unfolding members_live
member-live live e i h l = all-at (is_live live) e.members i 0 h l

-- a vertex that is not live stands in no list
unlisted : (live : List ℕ) (v : ℕ) → is_live live v ≡ false → (es : List Hyperedge) → all (members_live live) es ≡ true → filter (lists v) es ≡ []
unfolding filter all
unlisted live v d [] h = refl
unlisted live v d (e ∷ es) h =
    on (lists v e)
    (λ q. let k = memb-at v e.members q in clash (rw k.2 at (member-live live e k.0 (and_left _ _ h) k.1)) d)
    (λ q. rw q (unlisted live v d es (and_right _ _ h)))

-- p is what `find_vertex` returned
module _ (ws : List ℕ) (w : Walker) (p : Option ℕ) (e : p ≡ position w.at (live_vertices (read limit ws))) where
  pub move-dead : Formed limit ws → p ≡ None → w ≡ move (read limit ws) w
  unfolding move move_along hyperedges_of valid
  move-dead f h =
      rw (unlisted (live_vertices (read limit ws)) w.at (missing-dead w.at (live_vertices (read limit ws)) (sym e ∙ h)) (read_hyperedges limit ws) (and_right _ _ (and_right _ _ f.content)))

  pub found_here : (i : ℕ) → p ≡ Some i → position w.at (live_vertices (read limit ws)) ≡ Some i
  found_here i h = sym e ∙ h

-- ---- the loop that writes the vertices: i are written, and the walk goes on from the vertex with the state

pub record Wrote (t : Table) (w : Walker) (n : ℕ) (out₀ : List ℕ) (v state i : ℕ) (out : List ℕ) : Type 0 where
  pub within : i ≤ n
  pub done : List ℕ
  pub goes : done ++ walk_from t (walker v state) (n - i) ≡ walk_from t w n
  pub many : length done ≡ i
  pub wrote : out ≡ over done out₀
  pub same : length out ≡ length out₀

pub wrote_none : (t : Table) (w : Walker) (n : ℕ) (out₀ : List ℕ) → Wrote t w n out₀ w.at w.state 0 out₀
wrote_none t w n out₀ = record { within = omega arith; done = []; goes = let s : n - 0 ≡ n = omega arith in rw s; many = refl; wrote = sym (over_none out₀); same = refl }

turn : (t : Table) (n v state i : ℕ) (next : Walker) → i < n → next ≡ move t (walker v state) → walk_from t (walker v state) (n - i) ≡ v ∷ walk_from t next (n - (i + 1))
unfolding walk_from
turn t n v state i next h e = let s : n - i ≡ suc (n - (i + 1)) = omega arith in rw (s, e)

pub wrote-more : (t : Table) (w : Walker) (n : ℕ) (out₀ : List ℕ) (v state i : ℕ) (out : List ℕ) → Wrote t w n out₀ v state i out
    → (next : Walker) → i < n → n ≤ length out₀ → next ≡ move t (walker v state) → Wrote t w n out₀ next.at next.state (i + 1) (set out i v)
wrote-more t w n out₀ v state i out inv next h l e = record {
  within = omega arith;
  done = inv.done ++ (v ∷ []);
  goes = append_assoc inv.done (v ∷ []) (walk_from t next (n - (i + 1))) ∙ ap (λ (xs : List ℕ). inv.done ++ xs) (sym (turn t n v state i next h e)) ∙ inv.goes;
  many = omega (arith, length-append inv.done (v ∷ []), inv.many);
  wrote = ap (λ (o : List ℕ). set o i v) inv.wrote ∙ over-more inv.done out₀ v i inv.many (omega arith);
  same = length-set out i v ∙ inv.same;
}

pub wrote-end : (t : Table) (w : Walker) (n : ℕ) (out₀ : List ℕ) (v state i : ℕ) (out : List ℕ) → Wrote t w n out₀ v state i out → n ≤ i → out ≡ over (walk_from t w n) out₀
unfolding walk_from
wrote-end t w n out₀ v state i out inv h =
    let s : n - i ≡ 0 = omega (arith, inv.within) in
    inv.wrote ∙ ap (λ (xs : List ℕ). over xs out₀) (sym (append-nil inv.done) ∙ (rw s at inv.goes))

-- ---- the answer

pub cut_short : (steps : ℕ) → steps ≤ step_limit → steps ≡ cut steps
unfolding cut
cut_short steps h = rw (le-leb steps step_limit h)

pub cut-long : (steps : ℕ) → step_limit < steps → step_limit ≡ cut steps
unfolding cut
cut-long steps h = rw (lt-leb steps step_limit h)

pub state-one : (seed : ℕ) → seed ≡ 0 → 1 ≡ first_state seed
unfolding first_state
state-one seed e = rw (eq-eqb seed 0 e)

pub state-seed : (seed : ℕ) → (seed ≡ 0 → ⊥) → seed ≡ first_state seed
unfolding first_state
state-seed seed h = rw (ne_eqb seed 0 h)

walk-from-length : (t : Table) (w : Walker) (n : ℕ) → length (walk_from t w n) ≡ n
unfolding walk_from
walk-from-length t w zero = refl
walk-from-length t w (suc n) = ap suc (walk-from-length t (move t w) n)

-- n is the cut step count and one more
module _ (t : Table) (start steps seed n k : ℕ) (out : List ℕ) (ek : k ≡ cut steps) (en : n ≡ k + 1) where
  counted : n ≡ length (walk t start steps seed)
  unfolding walk
  counted = en ∙ ap (λ (i : ℕ). i + 1) ek ∙ sym (walk-from-length t (walker start (first_state seed)) (cut steps + 1))

  pub walk-over : length out < n → result_of (Err (NoRoom n)) out ≡ listed (walk t start steps seed) out
  walk-over h = listed-over _ out n counted h

  pub walk-fits : (state : ℕ) (exit : List ℕ) → n ≤ length out → state ≡ first_state seed → exit ≡ over (walk_from t (walker start state) n) out
      → result_of (Ok n) exit ≡ listed (walk t start steps seed) out
  unfolding walk
  walk-fits state exit h s q = listed-fits _ out n counted exit h (q ∙ rw (s, en, ek))
