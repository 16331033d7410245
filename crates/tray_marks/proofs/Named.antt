-- What the records of a tray name is marked, or the first faulty one is found, where the table is well formed. Assumes nothing.
use Rattle.std.specs.Prelude.{Option, Some, None}
use mathlib.Core.Path.{◌≡◌, refl, sym, ap, ◌∙◌}
use mathlib.Core.Bool.{Bool, true, false, not, ◌||◌, or_assoc}
use mathlib.Core.List.{List, [], ◌∷◌, map}
use Prim.Native.Nat.{ℕ, zero, suc, ◌≤◌, ◌<◌}
use native.Mathlib.Omega.{arith}
use lib.Dec.{eqb}
use lib.ListN.{length, get_or, set, replicate, length-set, length-replicate, get_or-replicate, get_or-eq_default}
use borrow.Author.Tests.{not-true, not-false, ne_eqb}
use Rattle.lists.specs.Lists.{any, Ascending}
use Rattle.lists.proofs.Cases.{on, on_below, clash, and_both, or-false}
use Rattle.lists.proofs.Maps.{map-length}
use Rattle.layout.specs.Content.{Table, live_vertices, live_hyperedges, is_live, position}
use Rattle.layout.specs.Layout.{limit, read}
use Rattle.layout.specs.WellFormed.{well_formed}
use Rattle.layout.proofs.Back.{read-holdable}
use Rattle.layout.proofs.Holdable.{Holdable, holdable-of}
use Rattle.layout.proofs.Position.{found-live, missing-dead}
use Rattle.layout.proofs.Read.{numbered-ascends}
use Rattle.edits.specs.Results.{first_passing, first_passing_from}
use Rattle.marks.specs.Marks.{is_marked}
use Rattle.marks.proofs.Marked.{marking-at}
use Rattle.removals.specs.Removals.{Removal, vertex, hyperedge, is_vertex, is_hyperedge}
use Rattle.trays.specs.declared.Withdrawal.{Withdrawal}
use Rattle.trays.specs.Trays.{vertex_kind, hyperedge_kind, names_live, is_faulty, asked}
use Rattle.tray_marks.specs.declared.Tray.{Tray}
use Rattle.tray_marks.specs.Marking.{no_marks, opened, refused_at, vertex_marked, hyperedge_marked, judged_first, judged, tray_from, tray_of}
use Rattle.tray_marks.proofs.Judging.{faulty-kept}

-- ---- the marks of one kind

-- of the live numbers those are newly marked that a removal of the list names, and it names no other number
pub record Named (live : List ℕ) (names : ℕ → Removal → Bool) (rs : List Removal) (old new : List Bool) : Type 0 where
  pub sized : length new ≡ length old
  pub each : (k : ℕ) → k < length live → is_marked new k ≡ (is_marked old k || any (names (get_or live k 0)) rs)
  pub others : (x : ℕ) → is_live live x ≡ false → any (names x) rs ≡ false

pub none-marked : (n k : ℕ) → is_marked (no_marks n) k ≡ false
unfolding no_marks
none-marked n k =
    on_below k n
    (λ h. get_or-replicate n k false false h)
    (λ h. get_or-eq_default (replicate n false) false (rw length-replicate h))

module _ {live : List ℕ} {names : ℕ → Removal → Bool} where
  named_none : (old : List Bool) → Named live names [] old old
  unfolding any
  named_none old = record { sized = refl; each = λ k h. sym (or-false (is_marked old k)); others = λ x d. refl }

  -- the one removal names nothing of the kind
  named_other : (r : Removal) (old : List Bool) → ((x : ℕ) → names x r ≡ false) → Named live names (r ∷ []) old old
  unfolding any
  named_other r old n = record {
    sized = refl;
    each = λ k h. rw (n (get_or live k 0)) (sym (or-false (is_marked old k)));
    others = λ x d. rw (n x);
  }

  -- it names the number n, which stands at place j
  named-one : (r : Removal) (old : List Bool) (n j : ℕ) → Ascending live → length live ≤ length old → ((x : ℕ) → names x r ≡ eqb x n) → position n live ≡ Some j
      → Named live names (r ∷ []) old (set old j true)
  unfolding any
  named-one r old n j asc le e p = record {
    sized = length-set old j true;
    each = λ k h. rw (e (get_or live k 0), or-false (eqb (get_or live k 0) n)) (rw p at (marking-at live n old asc le k h));
    others = λ x d. rw (e x, or-false (eqb x n)) (ne_eqb x n (λ q. clash (found-live n live j p) (ap (is_live live) (sym q) ∙ d)));
  }

  named_more : {r : Removal} {rs : List Removal} {old new next : List Bool} → Named live names (r ∷ []) old new → Named live names rs new next → Named live names (r ∷ rs) old next
  unfolding any
  named_more {r} {rs} {old} a b = record {
    sized = b.sized ∙ a.sized;
    each = λ k h. b.each k h ∙ rw (a.each k h, or-false (names (get_or live k 0) r)) (or_assoc (is_marked old k) (names (get_or live k 0) r) (any (names (get_or live k 0)) rs));
    others = λ x d. rw (sym (or-false (names x r)) ∙ a.others x d) (b.others x d);
  }

-- ---- a number is live exactly where its place is found

live-found : (x : ℕ) (live : List ℕ) → is_live live x ≡ true → (k : ℕ) × (position x live ≡ Some k)
live-found x live l = go (position x live) refl
  where
    go : (p : Option ℕ) → position x live ≡ p → (k : ℕ) × (position x live ≡ Some k)
    go (Some k) e = (k, e)
    go None e = clash l (missing-dead x live e)

dead-missing : (x : ℕ) (live : List ℕ) → is_live live x ≡ false → position x live ≡ None
dead-missing x live d = go (position x live) refl
  where
    go : (p : Option ℕ) → position x live ≡ p → position x live ≡ None
    go (Some k) e = clash (found-live x live k e) d
    go None e = e

-- ---- one record

-- a tray on a well-formed table, with no faulty record so far, and with a mark for every live number
record Ready (t : Table) (tray : Tray) : Type 0 where
  formed : tray.formed ≡ true
  faultless : tray.faulty ≡ false
  vertices-room : length (live_vertices t) ≤ length tray.vertices
  hyperedges-room : length (live_hyperedges t) ≤ length tray.hyperedges

-- what the removals name is newly marked, and no record is newly faulty
pub record AllNamed (t : Table) (rs : List Removal) (old new : Tray) : Type 0 where
  pub formed : new.formed ≡ old.formed
  pub faulty : new.faulty ≡ old.faulty
  pub vertices : Named (live_vertices t) is_vertex rs old.vertices new.vertices
  pub hyperedges : Named (live_hyperedges t) is_hyperedge rs old.hyperedges new.hyperedges

module _ {t : Table} where
  ready-more : {rs : List Removal} {old new : Tray} → Ready t old → AllNamed t rs old new → Ready t new
  ready-more r a = record {
    formed = a.formed ∙ r.formed;
    faultless = a.faulty ∙ r.faultless;
    vertices-room = rw a.vertices.sized r.vertices-room;
    hyperedges-room = rw a.hyperedges.sized r.hyperedges-room;
  }

  all_none : (old : Tray) → AllNamed t [] old old
  all_none old = record { formed = refl; faulty = refl; vertices = named_none old.vertices; hyperedges = named_none old.hyperedges }

  all_more : {r : Removal} {rs : List Removal} {old new next : Tray} → AllNamed t (r ∷ []) old new → AllNamed t rs new next → AllNamed t (r ∷ rs) old next
  all_more a b = record {
    formed = b.formed ∙ a.formed;
    faulty = b.faulty ∙ a.faulty;
    vertices = named_more a.vertices b.vertices;
    hyperedges = named_more a.hyperedges b.hyperedges;
  }

module _ (t : Table) (tray : Tray) (i : ℕ) (w : Withdrawal) where
  first-faulty : is_faulty t w ≡ true → judged_first t tray i w ≡ refused_at tray i
  unfolding is_faulty names_live judged_first vertex_marked hyperedge_marked
  first-faulty e =
      on (eqb w.kind vertex_kind)
      (λ a. rw (a, dead-missing w.number (live_vertices t) (not-true _ (rw a at e))))
      (λ a. on (eqb w.kind hyperedge_kind)
      (λ b. rw (a, b, dead-missing w.number (live_hyperedges t) (not-true _ (rw (a, b) at e))))
      (λ b. rw (a, b)))

  module _ (va : Ascending (live_vertices t)) (ha : Ascending (live_hyperedges t)) (r : Ready t tray) where
    vertex-fine : is_live (live_vertices t) w.number ≡ true → AllNamed t (vertex w.number ∷ []) tray (vertex_marked (position w.number (live_vertices t)) tray i)
    unfolding vertex_marked is_vertex is_hyperedge
    vertex-fine l = let p = live-found w.number (live_vertices t) l in rw p.1 (record {
      formed = refl;
      faulty = refl;
      vertices = named-one (vertex w.number) tray.vertices w.number p.0 va r.vertices-room (λ x. refl) p.1;
      hyperedges = named_other (vertex w.number) tray.hyperedges (λ x. refl);
    })

    hyperedge-fine : is_live (live_hyperedges t) w.number ≡ true → AllNamed t (hyperedge w.number ∷ []) tray (hyperedge_marked (position w.number (live_hyperedges t)) tray i)
    unfolding hyperedge_marked is_vertex is_hyperedge
    hyperedge-fine l = let p = live-found w.number (live_hyperedges t) l in rw p.1 (record {
      formed = refl;
      faulty = refl;
      vertices = named_other (hyperedge w.number) tray.vertices (λ x. refl);
      hyperedges = named-one (hyperedge w.number) tray.hyperedges w.number p.0 ha r.hyperedges-room (λ x. refl) p.1;
    })

    first_fine : is_faulty t w ≡ false → AllNamed t (asked w ∷ []) tray (judged_first t tray i w)
    unfolding is_faulty names_live asked judged_first
    first_fine e =
        on (eqb w.kind vertex_kind)
        (λ a. rw a (vertex-fine (not-false _ (rw a at e))))
        (λ a. on (eqb w.kind hyperedge_kind)
        (λ b. rw (a, b) (hyperedge-fine (not-false _ (rw (a, b) at e))))
        (λ b. clash refl (rw (a, b) at e)))

-- ---- one record after the other

module _ (ws : List ℕ) where
  abbrev t : Table
  t = read limit ws

  judged-first : (tray : Tray) (i : ℕ) (w : Withdrawal) → Ready t tray → judged ws tray i w ≡ judged_first t tray i w
  unfolding judged
  judged-first tray i w r = rw (and_both tray.formed (not tray.faulty) r.formed (ap not r.faultless))

  -- after a faulty record nothing changes
  from-faulty : (i : ℕ) (tray : Tray) (rs : List Withdrawal) → tray.faulty ≡ true → tray_from ws i tray rs ≡ tray
  unfolding tray_from
  from-faulty i tray [] f = refl
  from-faulty i tray (w ∷ rs) f = rw (← faulty-kept ws tray i w f) (from-faulty (suc i) tray rs f)

  module _ (va : Ascending (live_vertices t)) (ha : Ascending (live_hyperedges t)) where
    judged-fine : (tray : Tray) (i : ℕ) (w : Withdrawal) → Ready t tray → is_faulty t w ≡ false → AllNamed t (asked w ∷ []) tray (judged ws tray i w)
    judged-fine tray i w r e = rw (judged-first tray i w r) (first_fine t tray i w va ha r e)

    from_first : (i : ℕ) (tray : Tray) (rs : List Withdrawal) → Ready t tray → (k : ℕ) → first_passing_from (is_faulty t) i rs ≡ Some k
        → ((tray_from ws i tray rs).faulty ≡ true) × ((tray_from ws i tray rs).place ≡ k)
    unfolding tray_from first_passing_from refused_at
    from_first i tray [] r k e = absurd (let z : ◌≡◌ {A = ℕ} 0 1 = cc in omega arith)
    from_first i tray (w ∷ rs) r k e =
        on (is_faulty t w)
        (λ f. let g : Some i ≡ Some k = rw f at e in let h : i ≡ k = cc in
        let q : tray_from ws (suc i) (judged ws tray i w) rs ≡ refused_at tray i = rw (judged-first tray i w r, first-faulty t tray i w f) (from-faulty (suc i) (refused_at tray i) rs refl) in
        (ap (λ (x : Tray). x.faulty) q, ap (λ (x : Tray). x.place) q ∙ h))
        (λ f. from_first (suc i) (judged ws tray i w) rs (ready-more r (judged-fine tray i w r f)) k (rw f at e))

    from-none : (i : ℕ) (tray : Tray) (rs : List Withdrawal) → Ready t tray → first_passing_from (is_faulty t) i rs ≡ None → AllNamed t (map asked rs) tray (tray_from ws i tray rs)
    unfolding tray_from first_passing_from
    from-none i tray [] r e = all_none tray
    from-none i tray (w ∷ rs) r e =
        on (is_faulty t w)
        (λ f. absurd (let g : Some i ≡ None = rw f at e in let z : ◌≡◌ {A = ℕ} 0 1 = cc in omega arith))
        (λ f. let a = judged-fine tray i w r f in all_more a (from-none (suc i) (judged ws tray i w) rs (ready-more r a) (rw f at e)))

-- ---- a whole tray on a well-formed table

module _ (ws : List ℕ) (formed : well_formed limit ws ≡ true) where
  held : Holdable limit (read limit ws)
  held = holdable-of (read-holdable limit ws formed)

  ready-first : Ready (read limit ws) (opened ws)
  unfolding opened no_marks
  ready-first = record {
    formed = formed;
    faultless = refl;
    vertices-room = rw (map-length, length-replicate) held.vertices-le;
    hyperedges-room = rw (map-length, length-replicate) held.hyperedges-le;
  }

  -- the first faulty record is found
  pub tray-first : (rs : List Withdrawal) (k : ℕ) → first_passing (is_faulty (read limit ws)) rs ≡ Some k → ((tray_of ws rs).faulty ≡ true) × ((tray_of ws rs).place ≡ k)
  unfolding tray_of first_passing
  tray-first rs k e = from_first ws (numbered-ascends _ _ held.vertices-numbered) (numbered-ascends _ _ held.hyperedges-numbered) zero (opened ws) rs ready-first k e

  -- where none is faulty, what they name is marked
  pub tray-named : (rs : List Withdrawal) → first_passing (is_faulty (read limit ws)) rs ≡ None → AllNamed (read limit ws) (map asked rs) (opened ws) (tray_of ws rs)
  unfolding tray_of first_passing
  tray-named rs e = from-none ws (numbered-ascends _ _ held.vertices-numbered) (numbered-ascends _ _ held.hyperedges-numbered) zero (opened ws) rs ready-first e
