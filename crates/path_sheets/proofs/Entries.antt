-- The lines of a path's entries, and its sheet by the words of the listing. Assumes nothing.
use Rattle.std.specs.Prelude.{Option, Some, None}
use mathlib.Core.Path.{◌≡◌, sym, ap, ◌∙◌}
use mathlib.Core.Bool.{Bool, true, false}
use mathlib.Core.List.{List, [], ◌∷◌, ◌++◌}
use mathlib.Core.Option.{Option as Maybe, none, some}
use Prim.Native.Nat.{ℕ, ◌+◌, ◌-◌, ◌≤◌, ◌<◌}
use native.Mathlib.Omega.{arith}
use lib.ListN.{length, get_or, drop}
use Rattle.lists.specs.Lists.{zeros, tab}
use Rattle.lists.proofs.Cases.{on_below}
use Rattle.lists.proofs.Tab.{getD-tab}
use Rattle.lists.proofs.Flat.{zeros-part-at}
use Rattle.lists.proofs.Parts.{part-tail}
use Rattle.layout.specs.Content.{Table, Hyperedge, no_hyperedge, live_hyperedges, position, place}
use Rattle.layout.specs.Layout.{limit, hyperedge_word, hyperedge_count, hyperedge_at, read_hyperedges, read}
use Rattle.layout.specs.WellFormed.{unused_hyperedges}
use Rattle.layout.specs.Inner.{Formed}
use Rattle.paths.specs.Paths.{best_path, path_words}
use Rattle.reads.specs.Reads.{hyperedge_weight}
use Rattle.reads.proofs.Told.{cost-here}
use Rattle.wording.specs.Texts.{text}
use Rattle.wording.specs.Pages.{Page, page, write}
use Rattle.wording.specs.Forms.{filled}
use Rattle.wording.proofs.Writing.{then, left-more}
use Rattle.path_sheets.specs.Path.{entry_lines, walk_sheet, path_sheet}

-- ---- the weight of a hyperedge: p is what `find_hyperedge` returned, r what `hyperedge_weight` returned of record 0

-- the first record's weight, in a table without hyperedges too
first-weight : (ws : List ℕ) → Formed limit ws → (hyperedge_at limit ws 0).weight ≡ (get_or (read_hyperedges limit ws) 0 no_hyperedge).weight
unfolding unused_hyperedges tab
first-weight ws f =
    on_below 0 (hyperedge_count ws)
    (λ h. ap (λ (e : Hyperedge). e.weight) (sym (getD-tab (hyperedge_at limit ws) (hyperedge_count ws) 0 no_hyperedge h)))
    (λ h.
    let z : hyperedge_count ws ≡ 0 = omega arith in
    zeros-part-at ws (hyperedge_word limit (hyperedge_count ws)) (length ws - hyperedge_word limit (hyperedge_count ws)) (omega (arith, f.shape.sized))
    (ap zeros (part-tail (hyperedge_word limit (hyperedge_count ws)) ws) ∙ f.shape.hyperedges-rest) (hyperedge_word limit 0 + 1) (omega arith) (omega (arith, f.shape.sized))
    ∙ sym (ap (λ (n : ℕ). (get_or (tab (hyperedge_at limit ws) n) 0 no_hyperedge).weight) z))

pub weight-missing : (ws : List ℕ) (e : ℕ) (p : Option ℕ) (r : ℕ) → Formed limit ws → p ≡ position e (live_hyperedges (read limit ws)) → p ≡ None
    → r ≡ (hyperedge_at limit ws 0).weight → r ≡ hyperedge_weight e (read limit ws)
unfolding hyperedge_weight
weight-missing ws e p r f q h k =
    k ∙ first-weight ws f ∙ ap (λ (x : Option ℕ). (get_or (read_hyperedges limit ws) (place x) no_hyperedge).weight) (sym h ∙ q)

pub weight-found : (ws : List ℕ) (e j : ℕ) (p : Option ℕ) (r : ℕ) → p ≡ position e (live_hyperedges (read limit ws)) → p ≡ Some j → r ≡ (hyperedge_at limit ws j).weight
    → r ≡ hyperedge_weight e (read limit ws)
weight-found ws e j p r q h k = k ∙ cost-here ws e j p q h

pub entry-put : (form : List ℕ) (t : Table) (v e w : ℕ) (g : Page) (c : List ℕ) (q : ℕ) → w ≡ hyperedge_weight e t → page c q ≡ write (filled form (v ∷ e ∷ w ∷ []) []) g
    → page c q ≡ write (filled form (v ∷ e ∷ hyperedge_weight e t ∷ []) []) g
entry-put form t v e w g c q h k = rw (← h) k

-- ---- a loop over the words, two at a time: the lines of what is left, written on the page as it is, give the page w

module _ (w : Page) (form : List ℕ) (t : Table) (left b : List ℕ) (r size : ℕ) (h : write (entry_lines form t left) (page b r) ≡ w) (two : size ≡ 2) where
  pub left-entry : (pair later c : List ℕ) (q : ℕ) → left ≡ pair ++ later → length pair ≡ size
      → page c q ≡ write (filled form (get_or pair 0 0 ∷ get_or pair 1 0 ∷ hyperedge_weight (get_or pair 1 0) t ∷ []) []) (page b r)
      → write (entry_lines form t later) (page c q) ≡ w
  unfolding entry_lines
  left-entry [] later c q s l m = absurd (omega arith)
  left-entry (x ∷ []) later c q s l m = absurd (omega arith)
  left-entry (x ∷ y ∷ []) later c q s l m = left-more w b c _ (entry_lines form t later) r q (rw s at h) m
  left-entry (x ∷ y ∷ z ∷ zs) later c q s l m = absurd (omega arith)

  no-entry : (xs : List ℕ) → length xs ≤ 1 → write (entry_lines form t xs) (page b r) ≡ w → page b r ≡ w
  unfolding entry_lines write
  no-entry [] n e = e
  no-entry (x ∷ []) n e = e
  no-entry (x ∷ y ∷ xs) n e = absurd (omega arith)

  pub left-no-entry : length left < size → page b r ≡ w
  left-no-entry l = no-entry left (omega arith) h

-- ---- the sheet: the words are those of a walk p

module _ (unreached first entry : List ℕ) (t : Table) (x y : ℕ) (g : Page) (c : List ℕ) (q : ℕ) where
  none_of : (p : Maybe (List ℕ)) → length (path_words t x p) < 5 → page c q ≡ write (filled unreached (x ∷ y ∷ []) []) g
      → page c q ≡ write (walk_sheet unreached first entry t x y p) g
  unfolding walk_sheet path_words
  none_of none h k = k
  none_of (some l) h k = absurd (omega arith)

  some_of_lem : (p : Maybe (List ℕ)) (b : List ℕ) (r : ℕ) → 5 ≤ length (path_words t x p)
      → page b r ≡ write (filled first (x ∷ y ∷ get_or (path_words t x p) 0 0 ∷ get_or (path_words t x p) 1 0 ∷ []) []) g
      → page c q ≡ write (entry_lines entry t (drop 5 (path_words t x p))) (page b r) → page c q ≡ write (walk_sheet unreached first entry t x y p) g
  unfolding walk_sheet path_words
  some_of_lem none b r h k m = absurd (omega arith)
  some_of_lem (some l) b r h k m = then g b c _ _ r q k m

  module _ (words : List ℕ) (p : Maybe (List ℕ)) (e : words ≡ path_words t x p) where
    pub walk_none : length words < 5 → page c q ≡ write (filled unreached (x ∷ y ∷ []) []) g → page c q ≡ write (walk_sheet unreached first entry t x y p) g
    walk_none h k = none_of p (rw e at h) k

    pub walk-some : (b : List ℕ) (r : ℕ) → 5 ≤ length words → page b r ≡ write (filled first (x ∷ y ∷ get_or words 0 0 ∷ get_or words 1 0 ∷ []) []) g
        → page c q ≡ write (entry_lines entry t (drop 5 words)) (page b r) → page c q ≡ write (walk_sheet unreached first entry t x y p) g
    walk-some b r h k m = some_of_lem p b r (rw e at h) (rw e at k) (rw e at m)

module _ (plain : Bool) (x y : ℕ) (t : Table) (g : Page) (c : List ℕ) (q : ℕ) where
  pub path-plain : plain ≡ true → page c q ≡ write (walk_sheet [] (text "M\nA\n") (text "A B C\n") t x y (best_path t x y)) g
      → page c q ≡ write (path_sheet plain x y t) g
  unfolding path_sheet
  path-plain e k = rw e k

  pub path-worded : plain ≡ false
      → page c q ≡ write (walk_sheet (text "path A to B\n  none\n") (text "path A to B, cost M\n  tube A\n") (text "  tube A   by transfer B   cost C\n") t x y (best_path t x y)) g
      → page c q ≡ write (path_sheet plain x y t) g
  unfolding path_sheet
  path-worded e k = rw e k
