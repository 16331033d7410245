-- Laws of marks and of the list that they pick. Assumes nothing.
use Rattle.std.specs.Prelude.{Option, Some, None, Ok, Err}
use mathlib.Core.Path.{◌≡◌, refl, sym, ap, ◌∙◌}
use mathlib.Core.Bool.{Bool, true, false, ◌||◌}
use mathlib.Core.List.{List, map}
use Prim.Native.Nat.{ℕ, ◌+◌, ◌≤◌, ◌<◌}
use native.Mathlib.Nat.{le_antisymm}
use native.Mathlib.Omega.{arith}
use lib.Dec.{eqb}
use lib.ListN.{length, get_or, set, length-set}
use lib.Seq.{get_or-set_same, get_or-set_other}
use borrow.Author.Tests.{eq-eqb, ne_eqb}
use Rattle.lists.specs.Tests.{count, chosen}
use Rattle.lists.specs.Lists.{filter, over, Ascending, word_at}
use Rattle.lists.proofs.Cases.{on_same, or_right, or-false}
use Rattle.lists.proofs.Maps.{map-length, map_snoc}
use Rattle.lists.proofs.Count.{count-below, count-in, count-out}
use Rattle.lists.proofs.Chosen.{chosen-in, chosen-out, chosen_none, chosen-count, over_none, over-more}
use Rattle.lists.proofs.Filter.{filter-tab}
use Rattle.lists.proofs.Flat.{tab-getD}
use Rattle.lists.proofs.Ascend.{ascending-apart}
use Rattle.layout.specs.declared.Refusal.TheVariants.{NoRoom}
use Rattle.layout.specs.Content.{live_vertices, position}
use Rattle.layout.specs.Layout.{vertex_limit, vertex_count, vertex_word, read}
use Rattle.layout.specs.Inner.{Formed}
use Rattle.layout.specs.Answers.{result_of, listed}
use Rattle.layout.proofs.Answers.{listed-over, listed-fits}
use Rattle.layout.proofs.Position.{position-found, position-missing}
use Rattle.layout.proofs.Read.{live-length, live_at, vertex-found}
use Rattle.marks.specs.Marks.{is_marked, marking, marked}

-- ---- one mark more

-- after it a record is marked that was, or that has the number
pub marking-at : (live : List ℕ) (x : ℕ) (marks : List Bool) → Ascending live → length live ≤ length marks → (k : ℕ) → k < length live
    → is_marked (marking (position x live) marks) k ≡ (is_marked marks k || eqb (get_or live k 0) x)
marking-at live x marks asc le k h = go (position x live) refl
  where
    go : (p : Option ℕ) → position x live ≡ p → is_marked (marking p marks) k ≡ (is_marked marks k || eqb (get_or live k 0) x)
    go None e = rw (ne_eqb (get_or live k 0) x (position-missing x live e k h)) (sym (or-false _))
    go (Some i) e =
        let f = position-found x live i e in
        on_same i k
        (λ q. rw (← q, get_or-set_same marks i true false (omega (arith, f.0)), eq-eqb (get_or live i 0) x f.1) (sym (or_right (is_marked marks i) true refl)))
        (λ q. rw (
          get_or-set_other marks i k true false (λ w. q (sym w)),
          ne_eqb (get_or live k 0) x (λ w. ascending-apart live asc i k f.0 h q (f.1 ∙ sym w)),
        ) (sym (or-false _)))

-- the same for `search`: p is what `find_vertex` returned
module _ (L : ℕ) (ws : List ℕ) (x : ℕ) (marks : List Bool) (p : Option ℕ) (e : p ≡ position x (live_vertices (read L ws))) where
  pub marked-none : p ≡ None → marks ≡ marking (position x (live_vertices (read L ws))) marks
  marked-none h = rw (← e, h)

  pub marked-one : (i : ℕ) → p ≡ Some i → set marks i true ≡ marking (position x (live_vertices (read L ws))) marks
  marked-one i h = rw (← e, h)

  pub marked-in : (i : ℕ) → Formed L ws → p ≡ Some i → i < vertex_limit
  marked-in i f h = omega (arith, (vertex-found L ws x i (sym e ∙ h)).0, f.shape.vertices-le)

-- ---- the numbers picked

pub picked-length : (p : ℕ → Bool) (f : ℕ → ℕ) (n : ℕ) → length (map f (chosen p n)) ≡ count p n
picked-length p f n = map-length f (chosen p n) ∙ chosen-count p n

-- where the marks are those that pass a test of the number, they pick what passes
pub marked-filter : (p : ℕ → Bool) (marks : List Bool) (numbers : List ℕ) → ((k : ℕ) → k < length numbers → is_marked marks k ≡ p (get_or numbers k 0))
    → marked marks numbers ≡ filter p numbers
unfolding marked
marked-filter p marks numbers h =
    filter-tab p (is_marked marks) (word_at numbers) (length numbers) h ∙ ap (filter p) (tab-getD numbers 0)

-- ---- the loop that writes them: after k records, c are written

pub record Written (p : ℕ → Bool) (f : ℕ → ℕ) (out₀ : List ℕ) (k c : ℕ) (out : List ℕ) : Type 0 where
  pub counted : c ≡ count p k
  pub wrote : out ≡ over (map f (chosen p k)) out₀
  pub same : length out ≡ length out₀

pub written_none : (p : ℕ → Bool) (f : ℕ → ℕ) (out₀ : List ℕ) → Written p f out₀ 0 0 out₀
written_none p f out₀ = record { counted = refl; wrote = rw (chosen_none p) (sym (over_none out₀)); same = refl }

module _ {p : ℕ → Bool} {f : ℕ → ℕ} {out₀ : List ℕ} {k c : ℕ} {out : List ℕ} (w : Written p f out₀ k c out) where
  -- while a marked record is ahead, there is room
  pub written-room : (n : ℕ) → k < n → p k ≡ true → count p n ≤ length out₀ → c < length out
  written-room n h e l = omega (arith, w.counted, w.same, count-below p n k h e)

  pub written-yes : {more x : ℕ} {next : List ℕ} → p k ≡ true → c < length out → more ≡ c + 1 → x ≡ f k → next ≡ set out c x → Written p f out₀ (k + 1) more next
  written-yes {more} {x} {next} e r ec ex en = record {
    counted = count-in p k c w.counted more e ec;
    wrote = en ∙ rw (ex, w.wrote, over-more (map f (chosen p k)) out₀ (f k) c (picked-length p f k ∙ sym w.counted) (omega (arith, w.same)), chosen-in p k e, map_snoc);
    same = rw (en, length-set) w.same;
  }

  pub written-no : {more : ℕ} {next : List ℕ} → p k ≡ false → more ≡ c → next ≡ out → Written p f out₀ (k + 1) more next
  written-no {more} {next} e ec en = record {
    counted = count-out p k c w.counted more e ec;
    wrote = en ∙ rw (chosen-out p k e) w.wrote;
    same = rw en w.same;
  }

  pub written-end : (n : ℕ) → k ≤ n → n ≤ k → out ≡ over (map f (chosen p n)) out₀
  written-end n a b = w.wrote ∙ ap (λ (m : ℕ). over (map f (chosen p m)) out₀) (le_antisymm a b)

-- ---- n is what `vertex_count` found

pub number-live : (L : ℕ) (ws : List ℕ) (n : ℕ) → n ≡ vertex_count ws → (k x : ℕ) → k < n → x ≡ get_or ws (vertex_word k) 0 → x ≡ word_at (live_vertices (read L ws)) k
number-live L ws n e k x h q = q ∙ sym (live_at L ws k (rw (← e) h))

module _ (L : ℕ) (ws : List ℕ) (marks : List Bool) (n : ℕ) (e : n ≡ vertex_count ws) where
  pub marked-are : map (word_at (live_vertices (read L ws))) (chosen (is_marked marks) n) ≡ marked marks (live_vertices (read L ws))
  unfolding marked
  marked-are = rw (e, live-length L ws)

  -- c is what `count_marked` found
  module _ (c : ℕ) (q : c ≡ count (is_marked marks) n) (out : List ℕ) where
    counted : c ≡ length (marked marks (live_vertices (read L ws)))
    counted = q ∙ sym (picked-length (is_marked marks) (word_at (live_vertices (read L ws))) n) ∙ ap length marked-are

    pub marked-over : length out < c → result_of (Err (NoRoom c)) out ≡ listed (marked marks (live_vertices (read L ws))) out
    marked-over h = listed-over _ out c counted h

    pub marked-fits : (exit : List ℕ) → c ≤ length out → exit ≡ over (map (word_at (live_vertices (read L ws))) (chosen (is_marked marks) n)) out
        → result_of (Ok c) exit ≡ listed (marked marks (live_vertices (read L ws))) out
    marked-fits exit h w = listed-fits _ out c counted exit h (w ∙ ap (λ (xs : List ℕ). over xs out) marked-are)
