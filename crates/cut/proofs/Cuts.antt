-- The vertices listed are those that are live and cut; what the search finds by record is the same. Assumes nothing.
use mathlib.Core.Path.{◌≡◌, refl, sym, ap, ap₂, ◌∙◌, subst}
use mathlib.Core.Bool.{Bool, true, false, not}
use mathlib.Core.Logic.{◌⊎◌, inl, inr, ⊎_elim}
use mathlib.Core.List.{List}
use Prim.Native.Nat.{ℕ, ◌<◌}
use lib.Dec.{eqb}
use lib.ListN.{get_or}
use borrow.Author.Tests.{eq-eqb, ne_eqb, eqb-false, not-true}
use Rattle.lists.specs.Tests.{◌and◌}
use Rattle.lists.specs.Lists.{any, memb}
use Rattle.lists.proofs.Cases.{on, on_same, clash, test-ext, and_left, and_right, and_both}
use Rattle.lists.proofs.Memb.{memb-at, memb-getD}
use Rattle.lists.proofs.Kept.{memb-filter}
use Rattle.walks.specs.Walks.{Reach, here, step}
use Rattle.layout.specs.Content.{Table, live_vertices, is_live, valid}
use Rattle.layout.specs.Layout.{limit, vertex_count, read, words}
use Rattle.layout.specs.WellFormed.{holdable}
use Rattle.layout.specs.Inner.{Formed}
use Rattle.layout.specs.Answers.{Result, listed}
use Rattle.layout.proofs.Read.{live-length, live-ascends, formed-of}
use Rattle.layout.proofs.Back.{read-words, words-formed, formed-holdable}
use Rattle.graph.specs.Reach.{matrix, Symmetric}
use Rattle.graph.proofs.Bfs.{bfs-sound, bfs-complete}
use Rattle.edits.specs.Edits.{remove_vertex}
use Rattle.edits.proofs.Holdable.{remove-vertex-holdable}
use Rattle.steps.specs.Matrices.{together, TogetherIn, number_of, between}
use Rattle.steps.specs.Inner.{Holds}
use Rattle.lists.proofs.Any.{any_at, any_of}
use Rattle.steps.proofs.Among.{Among, together-swap, together-among}
use Rattle.steps.proofs.Records.{Agrees, record-once, record_of_lem, holds-agrees, reach-numbers, reach-records}
use Rattle.marks.specs.Marks.{marked}
use Rattle.marks.proofs.Marked.{marked-filter}
use Rattle.cut.specs.Cut.{Separated, Cut, record_of, is_linked, parts, other_vertices, parts_some, is_cut, cut_vertices, cut_vertices_result}
use Rattle.cut.specs.State.{together_between, avoiding, CutIn, Decides, CutsMarked}
use Rattle.cut.proofs.Gathering.{record-at}
use Rattle.cut.proofs.Removed.{removed-together, removed-live}

-- ---- walks and their ends

-- the ends of a walk of one step or more have what the ends of each step have
ends : {R : ℕ → ℕ → Type 0} (P : ℕ → Type 0) → ((x y : ℕ) → R x y → P x × P y) → {x y : ℕ} → Reach R x y → (x ≡ y) ⊎ (P x × P y)
ends P h here = inl refl
ends P h {x} (step {y = u} {z = z} w r) =
    ⊎_elim
    (λ (e : x ≡ u). inr (subst P (sym e) (h u z r).0, (h u z r).1))
    (λ (p : P x × P u). inr (p.0, (h u z r).1))
    (ends P h w)

parted-ends : {R S : ℕ → ℕ → Type 0} {v : ℕ} (P : ℕ → Type 0) → ((x y : ℕ) → R x y → P x × P y) → (c : Separated R S v) → P c.a × P c.b
parted-ends {R} {S} P h c =
    ⊎_elim
    (λ (e : c.a ≡ c.b). absurd (c.parted (subst (λ (z : ℕ). Reach S c.a z) e here)))
    (λ (p : P c.a × P c.b). p)
    (ends P h c.linked)

-- ---- what is computed of a link

-- of live vertices, the test is whether a walk links them
pub record Linking (t : Table) : Type 0 where
  pub walk : (a b : ℕ) → is_live (live_vertices t) a ≡ true → is_live (live_vertices t) b ≡ true → is_linked t a b ≡ true → Reach (TogetherIn t) a b
  pub test : (a b : ℕ) → is_live (live_vertices t) a ≡ true → is_live (live_vertices t) b ≡ true → Reach (TogetherIn t) a b → is_linked t a b ≡ true

linking-read : {ws : List ℕ} → Formed limit ws → Linking (read limit ws)
unfolding is_linked
linking-read {ws} f =
    let t : Table = read limit ws in
    let n : ℕ = vertex_count ws in
    let at : (x : ℕ) → is_live (live_vertices t) x ≡ true → (record_of (live_vertices t) x < n) × (number_of t (record_of (live_vertices t) x) ≡ x) =
    λ x l. let r = record-at (live_vertices t) (live-ascends limit ws f) x l in (rw live-length at r.0, r.1) in
    record {
      walk = λ a b la lb e.
          let w = bfs-sound (between t (together t)) n (record_of (live_vertices t) a) (at a la).0 (record_of (live_vertices t) b) (rw (live-length limit ws) at e) in
          rw ((at a la).1, (at b lb).1) at (reach-numbers f (together t) (together-among t f.content) (between t (together t)) (λ i j _ _. refl) w);
      test = λ a b la lb w.
          rw (live-length limit ws)
          (bfs-complete (between t (together t)) n (record_of (live_vertices t) a) (at a la).0 (record_of (live_vertices t) b)
          (reach-records f (together t) (together-among t f.content) (between t (together t)) (λ i j _ _. refl) (record_of (live_vertices t) a) (record_of (live_vertices t) b) (at a la).0 (at b lb).0 (rw ((at a la).1, (at b lb).1) w)));
    }

linking : (t : Table) → holdable limit t ≡ true → Linking t
linking t h = subst Linking (read-words limit t h) (linking-read (formed-of limit (words limit t) (words-formed limit t h)))

-- ---- the test of a cut vertex: both directions

module _ (t : Table) (h : holdable limit t ≡ true) (v : ℕ) where
  content : valid t ≡ true
  unfolding holdable
  content = and_right _ _ (and_right _ _ (and_right _ _ h))

  removed : Linking (remove_vertex v t)
  removed = linking (remove_vertex v t) (remove-vertex-holdable limit v t h)

  -- another live vertex
  other-live : (x : ℕ) → is_live (other_vertices t v) x ≡ true → (x ≡ v → ⊥) × (is_live (live_vertices t) x ≡ true)
  other-live x e =
      let r = sym (removed-live v t x) ∙ e in
      (eqb-false x v (not-true (eqb x v) (and_left _ _ r)), and_right (not (eqb x v)) (is_live (live_vertices t) x) r)

  live-other : (x : ℕ) → (x ≡ v → ⊥) → is_live (live_vertices t) x ≡ true → is_live (other_vertices t v) x ≡ true
  live-other x ne e = removed-live v t x ∙ and_both _ _ (ap not (ne_eqb x v ne)) e

  pub cut-is : is_cut t v ≡ true → Cut t v
  unfolding is_cut parts_some parts
  cut-is e =
      let p = any_at (parts_some t v) (other_vertices t v) 0 e in
      let q = any_at (parts t v (get_or (other_vertices t v) p.0 0)) (other_vertices t v) 0 p.2 in
      let a : ℕ = get_or (other_vertices t v) p.0 0 in
      let b : ℕ = get_or (other_vertices t v) q.0 0 in
      let la : is_live (other_vertices t v) a ≡ true = memb-getD (other_vertices t v) p.0 p.1 in
      let lb : is_live (other_vertices t v) b ≡ true = memb-getD (other_vertices t v) q.0 q.1 in
      record {
        a = a;
        b = b;
        a-other = (other-live a la).0;
        b-other = (other-live b lb).0;
        linked = (linking t h).walk a b (other-live a la).1 (other-live b lb).1 (and_left _ _ q.2);
        parted = λ w. clash (removed.test a b la lb w) (not-true (is_linked (remove_vertex v t) a b) (and_right _ _ q.2));
      }

  any-live : (p : ℕ → Bool) (x : ℕ) → is_live (other_vertices t v) x ≡ true → p x ≡ true → any p (other_vertices t v) ≡ true
  any-live p x l e = let r = memb-at x (other_vertices t v) l in any_of p (other_vertices t v) 0 r.0 r.1 (ap p r.2 ∙ e)

  pub is_cut_lem : Cut t v → is_cut t v ≡ true
  unfolding is_cut parts_some parts
  is_cut_lem c =
      let l = parted-ends (λ x. is_live (live_vertices t) x ≡ true) (together-among t content) c in
      let la : is_live (other_vertices t v) c.a ≡ true = live-other c.a c.a-other l.0 in
      let lb : is_live (other_vertices t v) c.b ≡ true = live-other c.b c.b-other l.1 in
      any-live (parts_some t v) c.a la
      (any-live (parts t v c.a) c.b lb
      (and_both _ _ ((linking t h).test c.a c.b l.0 l.1 c.linked)
      (ap not (on {C = is_linked (remove_vertex v t) c.a c.b ≡ false} (is_linked (remove_vertex v t) c.a c.b) (λ e. absurd (c.parted (removed.walk c.a c.b la lb e))) (λ e. e)))))

  -- what is listed is live and cut
  pub listed-cut : memb v (cut_vertices t) ≡ true → (is_live (live_vertices t) v ≡ true) × Cut t v
  unfolding cut_vertices
  listed-cut e = let r = sym (memb-filter (is_cut t) v (live_vertices t)) ∙ e in (and_right (is_cut t v) (is_live (live_vertices t) v) r, cut-is (and_left _ _ r))

  -- and what is live and cut is listed
  pub cut-listed : is_live (live_vertices t) v ≡ true → Cut t v → memb v (cut_vertices t) ≡ true
  unfolding cut_vertices
  cut-listed l c = memb-filter (is_cut t) v (live_vertices t) ∙ and_both _ _ (is_cut_lem c) l

-- ---- by record: m is what `together_matrix` made

module _ {ws : List ℕ} (f : Formed limit ws) {m : List ℕ} (w : Holds (together_between (read limit ws)) (vertex_count ws) m) where
  agrees : Agrees ws (together (read limit ws)) (matrix m)
  agrees = holds-agrees f (together (read limit ws)) w

  turned-mark : (i j : ℕ) → i < vertex_count ws → j < vertex_count ws → matrix m i j ≡ true → matrix m j i ≡ true
  turned-mark i j li lj e =
      agrees j i lj li ∙ together-swap (read limit ws) (number_of (read limit ws) i) (number_of (read limit ws) j) (sym (agrees i j li lj) ∙ e)

  matrix-symmetric : Symmetric (matrix m) (vertex_count ws)
  matrix-symmetric i j li lj = test-ext (matrix m i j) (matrix m j i) (turned-mark i j li lj) (turned-mark j i lj li)

  held : holdable limit (read limit ws) ≡ true
  held = formed-holdable limit ws f

  module _ (k : ℕ) (lk : k < vertex_count ws) where
    abbrev v : ℕ
    v = number_of (read limit ws) k

    same-other : (i : ℕ) → i < vertex_count ws → not (eqb i k) ≡ not (eqb (number_of (read limit ws) i) v)
    same-other i li =
        on_same i k
        (λ s. ap not (eq-eqb i k s ∙ sym (eq-eqb (number_of (read limit ws) i) v (ap (number_of (read limit ws)) s))))
        (λ s. ap not (ne_eqb i k s ∙ sym (ne_eqb (number_of (read limit ws) i) v (λ e. s (record-once f i k li lk e)))))

    -- the matrix without record k is co-membership after the vertex is removed
    agrees-removed : Agrees ws (together (remove_vertex v (read limit ws))) (avoiding (matrix m) k)
    unfolding avoiding
    agrees-removed i j li lj =
        ap₂ ◌and◌ (ap₂ ◌and◌ (same-other i li) (same-other j lj)) (agrees i j li lj)
        ∙ sym (removed-together v (number_of (read limit ws) i) (number_of (read limit ws) j) (read limit ws))

    among-removed : Among (live_vertices (read limit ws)) (together (remove_vertex v (read limit ws)))
    among-removed x y e = together-among (read limit ws) f.content x y (and_right _ _ (sym (removed-together v x y (read limit ws)) ∙ e))

    numbers-cut : CutIn (matrix m) (vertex_count ws) k → Cut (read limit ws) v
    numbers-cut c =
        let b = parted-ends (λ x. x < vertex_count ws) (λ x y e. (e.0, e.1)) c in
        record {
          a = number_of (read limit ws) c.a;
          b = number_of (read limit ws) c.b;
          a-other = λ e. c.a-other (record-once f c.a k b.0 lk e);
          b-other = λ e. c.b-other (record-once f c.b k b.1 lk e);
          linked = reach-numbers f (together (read limit ws)) (together-among (read limit ws) f.content) (matrix m) agrees c.linked;
          parted = λ p. c.parted (reach-records f (together (remove_vertex v (read limit ws))) among-removed (avoiding (matrix m) k) agrees-removed c.a c.b b.0 b.1 p);
        }

    records-cut : Cut (read limit ws) v → CutIn (matrix m) (vertex_count ws) k
    records-cut c =
        let l = parted-ends (λ x. is_live (live_vertices (read limit ws)) x ≡ true) (together-among (read limit ws) f.content) c in
        let i = record_of_lem ws c.a l.0 in
        let j = record_of_lem ws c.b l.1 in
        record {
          a = i.0;
          b = j.0;
          a-other = λ e. c.a-other (sym i.2 ∙ ap (number_of (read limit ws)) e);
          b-other = λ e. c.b-other (sym j.2 ∙ ap (number_of (read limit ws)) e);
          linked = reach-records f (together (read limit ws)) (together-among (read limit ws) f.content) (matrix m) agrees i.0 j.0 i.1 j.1 (rw (i.2, j.2) c.linked);
          parted = λ p. c.parted (rw (i.2, j.2) at (reach-numbers f (together (remove_vertex v (read limit ws))) among-removed (avoiding (matrix m) k) agrees-removed p));
        }

    decided : {r : Bool} → Decides r (CutIn (matrix m) (vertex_count ws) k) → r ≡ is_cut (read limit ws) v
    decided {r} d =
        test-ext r (is_cut (read limit ws) v)
        (λ e. is_cut_lem (read limit ws) held v (numbers-cut (d.yes e)))
        (λ e. on r (λ q. q) (λ q. absurd (d.no q (records-cut (cut-is (read limit ws) held v e)))))

  -- n is what `vertex_count` found, cuts what `judge` marked
  module _ (n : ℕ) (e : n ≡ vertex_count ws) where
    pub symmetric-by : Symmetric (matrix m) n
    symmetric-by = rw e matrix-symmetric

    pub cuts-listed : (cuts : List Bool) → CutsMarked (matrix m) n n cuts → (out : List ℕ) (x : Result) → x ≡ listed (marked cuts (live_vertices (read limit ws))) out → x ≡ cut_vertices_result out (read limit ws)
    unfolding cut_vertices_result cut_vertices
    cuts-listed cuts j out x q =
        q ∙ ap (λ (l : List ℕ). listed l out) (marked-filter (is_cut (read limit ws)) cuts (live_vertices (read limit ws))
        (λ k l. let lk : k < vertex_count ws = rw live-length at l in decided k lk (rw e at (j.each k (rw e lk)))))
