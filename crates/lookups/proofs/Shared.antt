-- Laws of the loops that keep the marks of the vertices that several hyperedges share. Assumes nothing.
use Rattle.std.specs.Prelude.{Option, Some, None, Err}
use mathlib.Core.Logic.{⊎_elim}
use mathlib.Core.Path.{◌≡◌, refl, sym, ap, ◌∙◌}
use mathlib.Core.Bool.{Bool, true, false, ◌||◌}
use mathlib.Core.List.{List, [], ◌∷◌, map}
use Prim.Native.Nat.{ℕ, zero, suc, ◌+◌, ◌≤◌, ◌<◌, suc-le-suc}
use native.Mathlib.Nat.{not-suc-le-zero, le_of_suc-le-suc, zero-lt-suc}
use native.Mathlib.Omega.{arith}
use lib.Dec.{eqb}
use lib.ListN.{length, get_or, set, replicate, length-set, length-replicate, get_or-replicate}
use lib.Seq.{get_or-set_same, get_or-set_other}
use borrow.Author.Tests.{eq-eqb, eqb-true, lt-ltb, le-ltb}
use Rattle.lists.proofs.Memb.{any-memb}
use Rattle.lists.specs.Tests.{◌and◌}
use Rattle.lists.specs.Lists.{all, any, memb, tab}
use Rattle.lists.proofs.Cases.{clash, on_same, test-ext, and_left, and_right, and_both, and-false-left, and-false-right, and-true, and_assoc, or-true, or_right, or-false-left, or-false-right, eqb_comm}
use Rattle.lists.proofs.Tab.{getD-tab, length-tab}
use Rattle.lists.proofs.Ascend.{ascending-apart}
use Rattle.layout.specs.declared.Refusal.TheVariants.{TooFewHyperedges}
use Rattle.layout.specs.Content.{Hyperedge, hyperedge_number, live_vertices, live_hyperedges, lists, position}
use Rattle.layout.specs.Layout.{vertex_limit, hyperedge_count, hyperedge_word, hyperedge_at, members_at, read}
use Rattle.layout.specs.Inner.{Formed, hyperedge_column, first_missing}
use Rattle.layout.specs.Answers.{Result, result_of, hyperedge_missing, on_live_hyperedges, listed}
use Rattle.layout.proofs.Answers.{on-first-missing, on-none-missing}
use Rattle.layout.proofs.Position.{missing-dead}
use Rattle.layout.proofs.Read.{live-length, hyperedge-found}
use Rattle.marks.specs.Marks.{is_marked}
use Rattle.lookups.specs.Lookups.{is_member_of, has_member, shared}
use Rattle.lookups.specs.State.{some_of, with, no_marks, MarkedBy, KeptBy, Both}
use Rattle.lookups.specs.Results.{on_several, intersections_result}
use Rattle.lookups.proofs.Marking.{no-marks-length, no-mark}

-- ---- both: the code tested a

module _ (a b : Bool) where
  pub both-second : a ≡ true → b ≡ (a and b)
  unfolding ◌and◌
  both-second e = rw e

  pub both-none : a ≡ false → false ≡ (a and b)
  both-none e = sym (and-false-left a b e)

-- ---- a loop over k that keeps the marks that the others have too

pub record Common (others old : List Bool) (k : ℕ) (new : List Bool) : Type 0 where
  pub sized : length new ≡ length old
  pub past : (i : ℕ) → i < k → is_marked new i ≡ (is_marked old i and is_marked others i)
  pub ahead : (i : ℕ) → k ≤ i → is_marked new i ≡ is_marked old i

pub common-none : (others old : List Bool) → Common others old 0 old
common-none others old = record { sized = refl; past = λ i h. absurd (not-suc-le-zero h); ahead = λ i h. refl }

module _ {others old : List Bool} {k : ℕ} {new : List Bool} (c : Common others old k new) where
  -- b is what `both` found
  pub common-more : (b : Bool) → b ≡ (is_marked new k and is_marked others k) → k < length old → Common others old (k + 1) (set new k b)
  common-more b e h = record {
    sized = length-set new k b ∙ c.sized;
    past = λ i l. on_same i k
        (λ s. rw (s, get_or-set_same new k b false (omega (arith, c.sized)), e, c.ahead k (omega arith)))
        (λ ne. get_or-set_other new k i b false ne ∙ c.past i (omega arith));
    ahead = λ i l. get_or-set_other new k i b false (λ s. absurd (let z : ◌≡◌ {A = ℕ} 0 1 = omega arith in omega arith)) ∙ c.ahead i (omega arith);
  }

  pub common-end : vertex_limit ≤ k → Both others old new
  common-end h = record { sized = c.sized; each = λ i l. c.past i (omega arith) }

-- ---- the members of a record: ms is what `members_formed` returned, others what `member_marks` left

pub kept-members : (L : ℕ) (ws ms : List ℕ) (j : ℕ) (others old new : List Bool) → Formed L ws → ms ≡ members_at L ws j
    → MarkedBy (live_vertices (read L ws)) (some_of eqb ms) no_marks others → Both others old new
    → KeptBy (live_vertices (read L ws)) (with lists (hyperedge_at L ws j)) old new
unfolding some_of
kept-members L ws ms j others old new f e m b = record {
  sized = b.sized;
  each = λ k h.
      let l : k < vertex_limit = omega (arith, live-length L ws, f.shape.vertices-le) in
      b.each k l ∙ ap (λ (t : Bool). is_marked old k and t)
      (m.each k h ∙ ap (λ (t : Bool). t || any (eqb (get_or (live_vertices (read L ws)) k 0)) ms) (no-mark k l)
      ∙ any-memb (get_or (live_vertices (read L ws)) k 0) ms ∙ ap (memb (get_or (live_vertices (read L ws)) k 0)) e);
}

-- ---- a loop along the list: what is marked, and passes with all that is left, is what passes with all

pub record Keeping (live : List ℕ) (r : ℕ → ℕ → Bool) (whole left : List ℕ) (marks : List Bool) : Type 0 where
  pub sized : length marks ≡ vertex_limit
  pub each : (k : ℕ) → k < length live → (is_marked marks k and all (r (get_or live k 0)) left) ≡ all (r (get_or live k 0)) whole

unfoldable pub all_marks : List Bool
all_marks = replicate vertex_limit true

all-marked : (k : ℕ) → k < vertex_limit → is_marked all_marks k ≡ true
unfolding all_marks
all-marked k h = get_or-replicate vertex_limit k true false h

pub keeping_none : (live : List ℕ) (r : ℕ → ℕ → Bool) (whole : List ℕ) → length live ≤ vertex_limit → Keeping live r whole whole all_marks
unfolding ◌and◌ all_marks
keeping_none live r whole h = record {
  sized = length-replicate {A = Bool} vertex_limit true;
  each = λ k l. ap (λ (b : Bool). b and all (r (get_or live k 0)) whole) (all-marked k (omega arith));
}

module _ {live : List ℕ} {r : ℕ → ℕ → Bool} {whole left : List ℕ} {marks : List Bool} (m : Keeping live r whole left marks) where
  -- x was next, and the marks of those that pass with it were kept
  pub keeping-more : {x : ℕ} {rest : List ℕ} {next : List Bool} {p : ℕ → Bool} → left ≡ x ∷ rest → KeptBy live p marks next → ((y : ℕ) → r y x ≡ p y)
      → Keeping live r whole rest next
  unfolding all
  keeping-more {x} {rest} {next} {p} e b s = record {
    sized = b.sized ∙ m.sized;
    each = λ k h. rw (b.each k h, ← s (get_or live k 0)) (and_assoc (is_marked marks k) (r (get_or live k 0) x) (all (r (get_or live k 0)) rest) ∙ (rw e at (m.each k h)));
  }

  -- x was next, and nothing passes with it
  pub keeping-over : {x : ℕ} {rest : List ℕ} → length live ≤ vertex_limit → left ≡ x ∷ rest → ((y : ℕ) → r y x ≡ false) → MarkedBy live (λ y. all (r y) whole) no_marks no_marks
  unfolding all
  keeping-over {x} {rest} n e s = record {
    sized = refl;
    each = λ k h. no-mark k (omega arith)
        ∙ sym (and-false-right (is_marked marks k) _ (and-false-left _ (all (r (get_or live k 0)) rest) (s (get_or live k 0)))) ∙ (rw e at (m.each k h))
        ∙ ap (λ (b : Bool). b || all (r (get_or live k 0)) whole) (sym (no-mark k (omega arith)));
  }

  pub keeping-end : length live ≤ vertex_limit → left ≡ [] → MarkedBy live (λ y. all (r y) whole) no_marks marks
  unfolding all
  keeping-end n e = record {
    sized = m.sized ∙ sym no-marks-length;
    each = λ k h. sym (and-true (is_marked marks k)) ∙ (rw e at (m.each k h)) ∙ ap (λ (b : Bool). b || all (r (get_or live k 0)) whole) (sym (no-mark k (omega arith)));
  }

pub live-fit : (L : ℕ) (ws : List ℕ) → Formed L ws → length (live_vertices (read L ws)) ≤ vertex_limit
live-fit L ws f = omega (arith, live-length L ws, f.shape.vertices-le)

-- ---- the hyperedge of a number

any_some : {A : Type 0} (p : A → Bool) (g : ℕ → A) (n i : ℕ) → i < n → p (g i) ≡ true → any p (tab g n) ≡ true
unfolding any tab
any_some p g zero i h e = absurd (not-suc-le-zero h)
any_some p g (suc n) zero h e = ap (λ (b : Bool). b || any p (tab (λ i. g (suc i)) n)) e
any_some p g (suc n) (suc i) h e = or_right (p (g zero)) _ (any_some p (λ i. g (suc i)) n i (le_of_suc-le-suc h) e)

any_where : {A : Type 0} (p : A → Bool) (g : ℕ → A) (n : ℕ) → any p (tab g n) ≡ true → (i : ℕ) × (i < n) × (p (g i) ≡ true)
unfolding any tab
any_where p g zero e = clash e refl
any_where p g (suc n) e =
    ⊎_elim
    (λ h. (zero, zero-lt-suc n, h))
    (λ h. let r = any_where p (λ i. g (suc i)) n h in (suc r.0, suc-le-suc r.1, r.2))
    (or-true (p (g zero)) (any p (tab (λ i. g (suc i)) n)) e)

dead-member : (y x : ℕ) (es : List Hyperedge) → memb x (map hyperedge_number es) ≡ false → any (is_member_of y x) es ≡ false
unfolding any is_member_of
dead-member y x [] h = refl
dead-member y x (e ∷ es) h =
    rw (and-false-left (eqb e.number x) (memb y e.members) (eqb_comm e.number x ∙ or-false-left (eqb x e.number) _ h)) (dead-member y x es (or-false-right (eqb x e.number) _ h))

-- p is what `find_hyperedge` returned
module _ (L : ℕ) (ws : List ℕ) (x : ℕ) (p : Option ℕ) (e : p ≡ position x (live_hyperedges (read L ws))) where
  pub no_member : p ≡ None → (y : ℕ) → has_member (read L ws) y x ≡ false
  unfolding has_member
  no_member h y = dead-member y x (read L ws).hyperedges (missing-dead x (live_hyperedges (read L ws)) (sym e ∙ h))

  module _ (f : Formed L ws) (j : ℕ) (h : p ≡ Some j) where
    pub found_in : j < hyperedge_count ws
    found_in = (hyperedge-found L ws x j (sym e ∙ h)).0

    only : (i : ℕ) → i < hyperedge_count ws → get_or ws (hyperedge_word L i) 0 ≡ x → i ≡ j
    only i l q =
        on_same i j (λ s. s)
        (λ ne. absurd (ascending-apart (hyperedge_column L ws) f.hyperedges-ascend i j (rw length-tab l) (rw length-tab found_in) ne
        (at i l ∙ q ∙ sym (hyperedge-found L ws x j (sym e ∙ h)).1 ∙ sym (at j found_in))))
      where
        at : (k : ℕ) → k < hyperedge_count ws → get_or (hyperedge_column L ws) k 0 ≡ get_or ws (hyperedge_word L k) 0
        at k l = getD-tab (λ (i : ℕ). get_or ws (hyperedge_word L i) 0) (hyperedge_count ws) k 0 l

    pub member_of : (y : ℕ) → has_member (read L ws) y x ≡ lists y (hyperedge_at L ws j)
    unfolding has_member is_member_of
    member_of y =
        test-ext _ _
        (λ a. let r = any_where (is_member_of y x) (hyperedge_at L ws) (hyperedge_count ws) a in
        let s : r.0 ≡ j = only r.0 r.1 (eqb-true _ x (and_left _ _ r.2)) in
        rw s at (and_right (eqb (hyperedge_at L ws r.0).number x) _ r.2))
        (λ m. any_some (is_member_of y x) (hyperedge_at L ws) (hyperedge_count ws) j found_in
        (and_both _ _ (eq-eqb _ x (hyperedge-found L ws x j (sym e ∙ h)).1) m))

-- ---- 10, then 4, by what the code found

module _ (xs out : List ℕ) (r : Result) where
  pub too_few_lem : length xs < 2 → result_of (Err TooFewHyperedges) out ≡ on_several xs out r
  unfolding on_several
  too_few_lem h = rw (lt-ltb (length xs) 2 h)

  several : 2 ≤ length xs → r ≡ on_several xs out r
  unfolding on_several
  several h = rw (le-ltb (length xs) 2 h)

module _ (L : ℕ) (ws xs out : List ℕ) (h : 2 ≤ length xs) (p : Option ℕ) (e : p ≡ first_missing (live_hyperedges (read L ws)) xs) where
  missing : (i : ℕ) → p ≡ Some i → (i < length xs) × (result_of (hyperedge_missing (get_or xs i 0)) out ≡ on_live_hyperedges (read L ws) xs out (listed (shared xs (read L ws)) out))
  missing i q = on-first-missing (live_hyperedges (read L ws)) hyperedge_missing out (listed (shared xs (read L ws)) out) xs i (sym e ∙ q)

  pub missing-within : (i : ℕ) → p ≡ Some i → i < length xs
  missing-within i q = (missing i q).0

  pub shared-missing : (i : ℕ) → p ≡ Some i → result_of (hyperedge_missing (get_or xs i 0)) out ≡ intersections_result xs out (read L ws)
  unfolding intersections_result
  shared-missing i q = (missing i q).1 ∙ several xs out _ h

  -- a is what the code listed
  pub shared-listed : (a : Result) → p ≡ None → a ≡ listed (shared xs (read L ws)) out → a ≡ intersections_result xs out (read L ws)
  unfolding intersections_result
  shared-listed a q s = s ∙ on-none-missing (live_hyperedges (read L ws)) hyperedge_missing out (listed (shared xs (read L ws)) out) xs (sym e ∙ q) ∙ several xs out _ h
