-- Laws of loops that mark, and of what they leave marked. Assumes nothing.
use Rattle.std.specs.Prelude.{Option, Some, None}
use mathlib.Core.Path.{◌≡◌, refl, sym, ap, ◌∙◌}
use mathlib.Core.Bool.{Bool, true, false, not, ◌||◌, or_assoc}
use mathlib.Core.List.{List, [], ◌∷◌}
use Prim.Native.Nat.{ℕ, ◌+◌, ◌≤◌, ◌<◌}
use native.Mathlib.Numerals.{add-one}
use native.Mathlib.Omega.{arith}
use lib.Dec.{eqb}
use lib.ListN.{length, get_or, drop, length-set, drop_of_length-le, length-replicate, get_or-replicate}
use lib.Seq.{drop-cons}
use borrow.Author.Tests.{eq-eqb, ne_eqb}
use Rattle.lists.specs.Tests.{◌and◌}
use Rattle.lists.specs.Lists.{any, memb, filter}
use Rattle.lists.proofs.Cases.{on_same, or_right, or-false, or-absorb, and-true, and-false-left, and-false-right, eqb_comm}
use Rattle.layout.specs.Content.{live_vertices, position}
use Rattle.layout.specs.Layout.{vertex_limit, hyperedge_at, members_at, read}
use Rattle.layout.specs.Inner.{Formed}
use Rattle.layout.specs.Answers.{Result, listed}
use Rattle.layout.specs.Steps.{Step, steps_of, is_step, makes_step}
use Rattle.layout.proofs.Read.{live-length, live-ascends}
use Rattle.marks.specs.Marks.{is_marked, marking, marked}
use Rattle.marks.proofs.Marked.{marking-at, marked-filter}
use Rattle.lookups.specs.declared.Direction.{Direction}
use Rattle.lookups.specs.declared.Direction.TheVariants.{From, To}
use Rattle.lookups.specs.declared.Ends.{Ends}
use Rattle.lookups.specs.declared.Relation.{Relation}
use Rattle.lookups.specs.declared.Relation.TheVariants.{Along, Around}
use Rattle.lookups.specs.Lookups.{oriented, co_member, relates}
use Rattle.lookups.specs.State.{ends_of, some_of, with, is_other, no_marks, MarkedBy}

-- ---- one mark more

marking-length : (p : Option ℕ) (marks : List Bool) → length (marking p marks) ≡ length marks
marking-length (Some i) marks = length-set marks i true
marking-length None marks = refl

-- new is what `mark` left, of the number x
pub mark-one : (L : ℕ) (ws : List ℕ) (x : ℕ) {old new : List Bool} → Formed L ws → length old ≡ vertex_limit
    → new ≡ marking (position x (live_vertices (read L ws))) old → MarkedBy (live_vertices (read L ws)) (with eqb x) old new
mark-one L ws x {old} f n e = record {
  sized = ap length e ∙ marking-length (position x (live_vertices (read L ws))) old;
  each = λ k h. ap (λ (m : List Bool). is_marked m k) e
      ∙ marking-at (live_vertices (read L ws)) x old (live-ascends L ws f) (omega (arith, live-length L ws, f.shape.vertices-le)) k h;
}

-- ---- a loop: what is marked, or is to be marked by the elements that are left, is what was marked or is to be by all

pub record Marking {A : Type 0} (live : List ℕ) (r : ℕ → A → Bool) (whole left : List A) (old new : List Bool) : Type 0 where
  pub sized : length new ≡ length old
  pub each : (k : ℕ) → k < length live → (is_marked new k || any (r (get_or live k 0)) left) ≡ (is_marked old k || any (r (get_or live k 0)) whole)

pub marking-none : {A : Type 0} (live : List ℕ) (r : ℕ → A → Bool) (whole : List A) (old : List Bool) → Marking live r whole whole old old
marking-none live r whole old = record { sized = refl; each = λ k h. refl }

module _ {A : Type 0} {live : List ℕ} {r : ℕ → A → Bool} {whole left : List A} {old new : List Bool} (m : Marking live r whole left old new) where
  -- x was next, and a turn marked what passes with it
  pub marking-more : {x : A} {rest : List A} {next : List Bool} → left ≡ x ∷ rest → MarkedBy live (with r x) new next → Marking live r whole rest old next
  unfolding any
  marking-more {x} {rest} {next} e b = record {
    sized = b.sized ∙ m.sized;
    each = λ k h. rw (b.each k h) (or_assoc (is_marked new k) (r (get_or live k 0) x) (any (r (get_or live k 0)) rest) ∙ (rw e at (m.each k h)));
  }

  -- x was next, and nothing passes with it
  pub marking-skip : {x : A} {rest : List A} {next : List Bool} → left ≡ x ∷ rest → ((y : ℕ) → r y x ≡ false) → next ≡ new → Marking live r whole rest old next
  unfolding any
  marking-skip {x} {rest} {next} e n q = rw q (record {
    sized = m.sized;
    each = λ k h. ap (λ (b : Bool). is_marked new k || (b || any (r (get_or live k 0)) rest)) (sym (n (get_or live k 0))) ∙ (rw e at (m.each k h));
  })

  pub marking-end : left ≡ [] → MarkedBy live (some_of r whole) old new
  unfolding any some_of
  marking-end e = record { sized = m.sized; each = λ k h. sym (or-false (is_marked new k)) ∙ (rw e at (m.each k h)) }

-- a test that agrees marks the same
pub marked-as : {live : List ℕ} {p q : ℕ → Bool} {old new : List Bool} → ((y : ℕ) → p y ≡ q y) → MarkedBy live p old new → MarkedBy live q old new
marked-as {live} {p} {q} {old} h b = record { sized = b.sized; each = λ k l. b.each k l ∙ ap (λ (t : Bool). is_marked old k || t) (h (get_or live k 0)) }

pub marked-same : {live : List ℕ} {p : ℕ → Bool} {old : List Bool} → ((y : ℕ) → p y ≡ false) → MarkedBy live p old old
marked-same {live} {p} {old} h = record { sized = refl; each = λ k l. sym (or-false (is_marked old k)) ∙ ap (λ (t : Bool). is_marked old k || t) (sym (h (get_or live k 0))) }

-- ---- the step at a place: x is its ends, and the code compared the near one with v

module _ (v : ℕ) (s : Step) where
  pub step-yes : (dir : Direction) {x : Ends} → x ≡ ends_of dir s → x.near ≡ v → (y : ℕ) → eqb y x.far ≡ oriented dir is_step v y s
  unfolding is_step ◌and◌
  step-yes From {x} e h y = rw (eq-eqb s.from v (ap (λ (z : Ends). z.near) (sym e) ∙ h), e) (eqb_comm y s.to)
  step-yes To {x} e h y = rw (eq-eqb s.to v (ap (λ (z : Ends). z.near) (sym e) ∙ h), e) (eqb_comm y s.from ∙ sym (and-true (eqb s.from y)))

  pub step-no : (dir : Direction) {x : Ends} → x ≡ ends_of dir s → (x.near ≡ v → ⊥) → (y : ℕ) → oriented dir is_step v y s ≡ false
  unfolding is_step
  step-no From {x} e h y = and-false-left _ _ (ne_eqb s.from v (λ q. h (ap (λ (z : Ends). z.near) e ∙ q)))
  step-no To {x} e h y = and-false-right _ _ (ne_eqb s.to v (λ q. h (ap (λ (z : Ends). z.near) e ∙ q)))

-- ---- the member at a place

pub drop_more : (ms : List ℕ) (i : ℕ) → i < length ms → drop i ms ≡ get_or ms i 0 ∷ drop (i + 1) ms
drop_more ms i h = rw (add-one, drop-cons ms i 0 h)

pub drop-none : (ms : List ℕ) (i : ℕ) → length ms ≤ i → drop i ms ≡ []
drop-none ms i h = drop_of_length-le ms h

-- a search for v that looks at every place: v was met, or it stands in what is left
pub record Met (v : ℕ) (ms : List ℕ) (i : ℕ) (found : Bool) : Type 0 where
  pub whole : (found || memb v (drop i ms)) ≡ memb v ms

pub met-none : (v : ℕ) (ms : List ℕ) → Met v ms 0 false
met-none v ms = record { whole = refl }

module _ {v : ℕ} {ms : List ℕ} {i : ℕ} {found : Bool} (m : Met v ms i found) where
  module _ {more : Bool} (h : i < length ms) where
    pub met-here : get_or ms i 0 ≡ v → more ≡ true → Met v ms (i + 1) more
    met-here e q = rw q (record { whole = sym (or_right found true refl) ∙ (rw (drop_more ms i h, eq-eqb v (get_or ms i 0) (sym e)) at m.whole) })

    pub met-on : (get_or ms i 0 ≡ v → ⊥) → more ≡ found → Met v ms (i + 1) more
    met-on ne q = rw q (record { whole = rw (drop_more ms i h, ne_eqb v (get_or ms i 0) (λ p. ne (sym p))) at m.whole })

  pub met-end : length ms ≤ i → found ≡ memb v ms
  met-end h = sym (or-false found) ∙ (rw (drop-none ms i h) at m.whole)

module _ (v m : ℕ) where
  pub other-yes : (m ≡ v → ⊥) → (y : ℕ) → eqb y m ≡ is_other v y m
  unfolding is_other
  other-yes h y = rw (ne_eqb m v h) (sym (and-true (eqb y m)))

  pub other-no : m ≡ v → (y : ℕ) → is_other v y m ≡ false
  unfolding is_other
  other-no h y = and-false-right _ _ (ap not (eq-eqb m v h))

others-are : (v y : ℕ) (ms : List ℕ) → any (is_other v y) ms ≡ (memb y ms and not (eqb y v))
unfolding any is_other ◌and◌
others-are v y [] = refl
others-are v y (m ∷ ms) = on_same y m
    (λ e. rw (← e, eq-eqb y y refl, others-are v y ms) (or-absorb (memb y ms) (not (eqb y v))))
    (λ ne. rw (ne_eqb y m ne) (others-are v y ms))

-- ---- a record: ms is what `members_formed` returned, and the code went by the relation

module _ (L : ℕ) (ws ms : List ℕ) (j : ℕ) (e : ms ≡ members_at L ws j) (live : List ℕ) (rel : Relation) (v : ℕ) (old : List Bool) where
  pub marked-along : (dir : Direction) (new : List Bool) → rel ≡ Along dir → MarkedBy live (some_of (oriented dir is_step v) (steps_of ms)) old new
      → MarkedBy live (with (relates rel v) (hyperedge_at L ws j)) old new
  unfolding some_of relates makes_step
  marked-along From new h b = rw h (rw e at b)
  marked-along To new h b = rw h (rw e at b)

  -- r is what `holds` found
  module _ (r : Bool) (q : r ≡ memb v ms) (g : rel ≡ Around) where
    pub marked-around : (new : List Bool) → r ≡ true → MarkedBy live (some_of (is_other v) ms) old new → MarkedBy live (with (relates rel v) (hyperedge_at L ws j)) old new
    unfolding some_of relates co_member ◌and◌
    marked-around new h b = rw g (marked-as (λ y. others-are v y ms ∙ rw (← e, ← q, h)) b)

    pub marked-alone : r ≡ false → MarkedBy live (with (relates rel v) (hyperedge_at L ws j)) old old
    unfolding relates co_member
    marked-alone h = rw g (marked-same (λ y. and-false-left _ _ (ap (memb v) (sym e) ∙ sym q ∙ h)))

-- ---- from no marks on

pub no-marks-length : length no_marks ≡ vertex_limit
unfolding no_marks
no-marks-length = length-replicate {A = Bool} vertex_limit false

pub no-mark : (k : ℕ) → k < vertex_limit → is_marked no_marks k ≡ false
unfolding no_marks
no-mark k h = get_or-replicate vertex_limit k false false h

module _ (L : ℕ) (ws : List ℕ) (p : ℕ → Bool) (marks : List Bool) (f : Formed L ws) (b : MarkedBy (live_vertices (read L ws)) p no_marks marks) where
  -- what the marks list is what the test lets through
  pub marks-listed : (out : List ℕ) (x : Result) → x ≡ listed (marked marks (live_vertices (read L ws))) out → x ≡ listed (filter p (live_vertices (read L ws))) out
  marks-listed out x e = e ∙ ap (λ (xs : List ℕ). listed xs out) (marked-filter p marks (live_vertices (read L ws)) (λ k h.
      b.each k h ∙ ap (λ (t : Bool). t || p (get_or (live_vertices (read L ws)) k 0)) (no-mark k (omega (arith, live-length L ws, f.shape.vertices-le)))))
