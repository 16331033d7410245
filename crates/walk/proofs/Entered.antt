-- Laws of the rows of the records that list each vertex. Assumes nothing.
use Rattle.std.specs.Prelude.{Option, Some, None}
use Rattle.std.proofs.Common.{◌≡◌, ℕ, ◌+◌, ◌*◌, ◌<◌, ◌≤◌, Bool, true, false, cond, not, List, [], ◌∷◌, ◌++◌, length, get_or, take, set, replicate, sym, refl, ap, ◌∙◌, subst, add-one, arith, take_all, take-suc}
use borrow.Author.Tests.{not-true, not-false}
use Rattle.lists.specs.Lists.{memb}
use Rattle.lists.proofs.Cases.{on, on_same}
use Rattle.lists.proofs.Memb.{memb-snoc-self, memb-snoc-other, memb-getD, below-memb}
use Rattle.lists.proofs.Ascend.{ascending-apart}
use Rattle.lists.proofs.Count.{count-le}
use Rattle.lists.proofs.Chosen.{chosen-in, chosen-out, chosen_none, chosen-count}
use Rattle.layout.specs.Content.{live_vertices, position}
use Rattle.layout.specs.Layout.{limit, vertex_limit, vertex_count, hyperedge_count, members_at, read}
use Rattle.layout.specs.Inner.{Formed}
use Rattle.layout.proofs.Position.{position-found, position-missing}
use Rattle.layout.proofs.Read.{live-length, live-ascends}
use Rattle.graph.proofs.Outside.{chosen-below}
use Rattle.steps.specs.Matrices.{number_of}
use Rattle.steps.specs.Inner.{cell}
use Rattle.walk.specs.Passes.{is_first, Firsts, lists_at, listers, entering, Entering, Listers, listers_of}
use Rattle.walk.proofs.Rows.{rows_none, rows_ext, rows_append}

-- ---- the places of the records that list a vertex

module _ (ws : List ℕ) (k i : ℕ) where
  pub listers-few : length (listers ws k i) ≤ k
  unfolding listers
  listers-few = rw chosen-count (count-le (lists_at ws (number_of (read limit ws) i)) k)

  pub listers-below : (q : ℕ) → q < length (listers ws k i) → get_or (listers ws k i) q 0 < k
  unfolding listers
  listers-below q h =
      let js : List ℕ = listers ws k i in
      below-memb k js (chosen-below (lists_at ws (number_of (read limit ws) i)) k k (omega arith)) (get_or js q 0) (memb-getD js q h)

  pub listers-in : lists_at ws (number_of (read limit ws) i) k ≡ true → listers ws (k + 1) i ≡ listers ws k i ++ (k ∷ [])
  unfolding listers
  listers-in e = chosen-in (lists_at ws (number_of (read limit ws) i)) k e

  pub listers-out : lists_at ws (number_of (read limit ws) i) k ≡ false → listers ws (k + 1) i ≡ listers ws k i
  unfolding listers
  listers-out e = chosen-out (lists_at ws (number_of (read limit ws) i)) k e

pub listers-none : (ws : List ℕ) (i : ℕ) → listers ws 0 i ≡ []
unfolding listers
listers-none ws i = chosen_none _

-- ---- while record k is gone through: p of its members are entered

-- the test decides the row
entering-as : (ws : List ℕ) (k p i : ℕ) (b : Bool) → memb (number_of (read limit ws) i) (take p (members_at limit ws k)) ≡ b
    → entering ws k p i ≡ cond b (listers ws k i ++ (k ∷ [])) (listers ws k i)
unfolding entering
entering-as ws k p i b e = ap (λ (b : Bool). cond b (listers ws k i ++ (k ∷ [])) (listers ws k i)) e

-- the row is the same where the test is
entering-same : (ws : List ℕ) (k p r i : ℕ) → memb (number_of (read limit ws) i) (take p (members_at limit ws k)) ≡ memb (number_of (read limit ws) i) (take r (members_at limit ws k))
    → entering ws k p i ≡ entering ws k r i
entering-same ws k p r i e = entering-as ws k p i _ e ∙ sym (entering-as ws k r i _ refl)

module _ (ws : List ℕ) (k p x : ℕ) (h : p < length (members_at limit ws k)) (ex : x ≡ get_or (members_at limit ws k) p 0) where
  abbrev ms : List ℕ
  ms = members_at limit ws k

  memb-here : (v : ℕ) → v ≡ x → memb v (take (p + 1) ms) ≡ true
  memb-here v e = rw (add-one, take-suc ms p 0 h, e, ← ex) (memb-snoc-self x (take p ms))

  memb-other : (v : ℕ) → (v ≡ x → ⊥) → memb v (take (p + 1) ms) ≡ memb v (take p ms)
  memb-other v ne = rw (add-one, take-suc ms p 0 h, ← ex) (memb-snoc-other v x (take p ms) ne)

  before-not : is_first ms p ≡ true → memb x (take p ms) ≡ false
  unfolding is_first
  before-not e = not-true _ (ap (λ (y : ℕ). not (memb y (take p ms))) ex ∙ e)

  before-yes : is_first ms p ≡ false → memb x (take p ms) ≡ true
  unfolding is_first
  before-yes e = not-false _ (ap (λ (y : ℕ). not (memb y (take p ms))) ex ∙ e)

  -- a member that stood before: no row changes
  pub entering-again : {rows counts : List ℕ} → Entering ws k p rows counts → k < hyperedge_count ws → {firsts : List Bool} → Firsts ws firsts → not (get_or firsts (cell k p) false) ≡ true
      → Entering ws k (p + 1) rows counts
  entering-again w lk m n =
      let e : is_first ms p ≡ false = sym (m.before k p lk h) ∙ not-true _ n in
      rows_ext w (entering ws k (p + 1))
      (λ i l. entering-same ws k (p + 1) p i
      (on_same (number_of (read limit ws) i) x
      (λ q. memb-here _ q ∙ sym (rw q (before-yes e)))
      (λ q. memb-other _ q)))

  -- a member that did not: its row has one place more
  module _ (f : Formed limit ws) {rows counts : List ℕ} (w : Entering ws k p rows counts) (lk : k < hyperedge_count ws) {firsts : List Bool} (m : Firsts ws firsts)
      (n : not (get_or firsts (cell k p) false) ≡ false) (fd : Option ℕ) (efd : fd ≡ position x (live_vertices (read limit ws))) where
    first : is_first ms p ≡ true
    first = sym (m.before k p lk h) ∙ not-false _ n

    pub enter-none : fd ≡ None → Entering ws k (p + 1) rows counts
    enter-none q =
        rows_ext w (entering ws k (p + 1))
        (λ i l. entering-same ws k (p + 1) p i (memb-other _ (position-missing x (live_vertices (read limit ws)) (sym efd ∙ q) i (rw (live-length limit ws) l))))

    module _ (a : ℕ) (q : fd ≡ Some a) where
      place : (a < length (live_vertices (read limit ws))) × (number_of (read limit ws) a ≡ x)
      place = position-found x (live_vertices (read limit ws)) a (sym efd ∙ q)

      low : a < vertex_count ws
      low = rw (live-length limit ws) at place.0

      row : entering ws k p a ≡ listers ws k a
      row = entering-as ws k p a false (rw place.1 (before-not first))

      short : length (entering ws k p a) < vertex_limit
      short = omega (arith, ap length row, listers-few ws k a, f.shape.hyperedges-le)

      pub enter-in : a < vertex_limit
      enter-in = omega (arith, low, f.shape.vertices-le)

      pub enter-room : get_or counts a 0 < vertex_limit
      enter-room = omega (arith, w.many a low, short)

      pub enter_one : (rows' counts' : List ℕ) → rows' ≡ set rows (cell a (get_or counts a 0)) k → counts' ≡ set counts a (get_or counts a 0 + 1) → Entering ws k (p + 1) rows' counts'
      enter_one rows' counts' er ec =
          rw (er, ec, w.many a low)
          (rows_append w (entering ws k (p + 1)) a k f.shape.vertices-le low short
          (entering-as ws k (p + 1) a true (memb-here _ place.1) ∙ sym (ap (λ (js : List ℕ). js ++ (k ∷ [])) row))
          (λ i l ne. entering-same ws k (p + 1) p i (memb-other _ (λ e. ascending-apart (live_vertices (read limit ws)) (live-ascends limit ws f) i a (rw (live-length limit ws) l) place.0 ne (e ∙ sym place.1)))))

pub entering-none : (ws : List ℕ) (k : ℕ) {rows counts : List ℕ} → Listers ws k rows counts → Entering ws k 0 rows counts
entering-none ws k w = rows_ext w (entering ws k 0) (λ i l. entering-as ws k 0 i false refl)

pub entering-all : (ws : List ℕ) (k p : ℕ) (ms : List ℕ) → ms ≡ members_at limit ws k → length ms ≤ p → {rows counts : List ℕ}
    → Entering ws k p rows counts → Listers ws (k + 1) rows counts
entering-all ws k p ms em h w =
    rows_ext w (listers ws (k + 1))
    (λ i l. let e : take p (members_at limit ws k) ≡ members_at limit ws k = take_all p (members_at limit ws k) (rw (ap length em) at h) in
    on (lists_at ws (number_of (read limit ws) i) k)
    (λ q. listers-in ws k i q ∙ sym (entering-as ws k p i true (ap (memb (number_of (read limit ws) i)) e ∙ q)))
    (λ q. listers-out ws k i q ∙ sym (entering-as ws k p i false (ap (memb (number_of (read limit ws) i)) e ∙ q))))

-- ms are the members of record k
module _ (ws : List ℕ) (k p : ℕ) (ms : List ℕ) (em : ms ≡ members_at limit ws k) where
  pub listed_in_lem : p < length ms → p < length (members_at limit ws k)
  listed_in_lem h = subst (λ (xs : List ℕ). p < length xs) em h

  pub listed_at : get_or ms p 0 ≡ get_or (members_at limit ws k) p 0
  listed_at = ap (λ (xs : List ℕ). get_or xs p 0) em

-- ---- all records

pub listed-none : (ws : List ℕ) → Formed limit ws → Listers ws 0 (replicate (vertex_limit * vertex_limit) 0) (replicate vertex_limit 0)
listed-none ws f = rows_none (vertex_count ws) (listers ws 0) f.shape.vertices-le (listers-none ws)

pub listed-all : (ws : List ℕ) (j k : ℕ) → k ≡ hyperedge_count ws → j ≤ k → k ≤ j → {rows counts : List ℕ} → Listers ws j rows counts → Listers ws (hyperedge_count ws) rows counts
listed-all ws j k e a b {rows} {counts} w = let q : j ≡ hyperedge_count ws = omega arith in subst (λ (z : ℕ). Listers ws z rows counts) q w

-- ---- what the code reads

module _ (ws : List ℕ) (f : Formed limit ws) {rows counts : List ℕ} (w : Listers ws (hyperedge_count ws) rows counts) (i : ℕ) (l : i < vertex_count ws) where
  pub lister-in : (k : ℕ) → k < length (listers_of ws i) → cell i k < vertex_limit * vertex_limit
  lister-in k h = omega (arith, w.fits i l, f.shape.vertices-le)

  module _ (k r : ℕ) (h : k < length (listers_of ws i)) (e : r ≡ get_or rows (cell i k) 0) where
    pub lister-is : r ≡ get_or (listers_of ws i) k 0
    lister-is = e ∙ w.entry i k l h

    pub lister-low : r < hyperedge_count ws
    lister-low = rw lister-is (listers-below ws (hyperedge_count ws) i k h)
