-- The count of a record's members, which is never 0; the loop that compares every count with one number. Assumes nothing.
use Rattle.std.specs.Prelude.{Ok}
use mathlib.Core.Path.{◌≡◌, refl, sym, ap, ◌∙◌}
use mathlib.Core.Bool.{Bool, true, false, not}
use mathlib.Core.List.{List, [], ◌∷◌, map}
use Prim.Native.Nat.{ℕ, zero, suc, ◌+◌, ◌≤◌, ◌<◌, suc-le-suc}
use native.Mathlib.Nat.{zero-lt-suc, lt_irrefl}
use native.Mathlib.Omega.{arith}
use lib.Dec.{eqb}
use lib.ListN.{length, get_or, drop, length-drop}
use lib.Seq.{length-take-le}
use borrow.Author.Tests.{eq-eqb, ne_eqb}
use Rattle.lists.specs.Tests.{every}
use Rattle.lists.specs.Lists.{filter, over}
use Rattle.lists.proofs.Tab.{length-tab, getD-tab}
use Rattle.lists.proofs.Every.{every-on, every-no, every-end, all-tab}
use Rattle.lists.proofs.Chosen.{over_none}
use Rattle.lists.proofs.Stride.{stride}
use Rattle.layout.specs.Content.{hyperedge_number}
use Rattle.layout.specs.Layout.{limit, hyperedge_limit, record_size, hyperedges_at, hyperedge_word, hyperedge_count, count_at, hyperedge_at, members_at, read_hyperedges, read}
use Rattle.layout.specs.WellFormed.{well_formed}
use Rattle.layout.specs.Inner.{Formed}
use Rattle.layout.specs.Answers.{result_of, on_formed}
use Rattle.layout.proofs.Answers.{formed-by, on-formed, listed-fits}
use Rattle.layout.proofs.Shape.{count-pos}
use Rattle.properties.specs.Properties.{has_count, orphan_hyperedges, uniform}
use Rattle.properties.specs.Results.{orphan_hyperedges_result}

pub members-count : (L : ℕ) (ws : List ℕ) → Formed L ws → (j : ℕ) → j < hyperedge_count ws → length (members_at L ws j) ≡ count_at L ws j
members-count L ws f j h =
    let r : hyperedge_word L j + record_size L ≤ length ws = stride hyperedges_at (record_size L) j hyperedge_limit (omega (arith, f.shape.hyperedges-le)) (omega (arith, f.shape.sized)) in
    length-take-le (count_at L ws j) (drop (hyperedge_word L j + 3) ws) (rw length-drop (omega (arith, f.counts j h)))

-- ---- no list is empty

filter_none : {A : Type 0} (p : A → Bool) (xs : List A) (d : A) → ((i : ℕ) → i < length xs → p (get_or xs i d) ≡ false) → filter p xs ≡ []
unfolding filter
filter_none p [] d h = refl
filter_none p (x ∷ xs) d h = rw (h zero (zero-lt-suc (length xs))) (filter_none p xs d (λ i l. h (suc i) (suc-le-suc l)))

pub no-orphans : (L : ℕ) (ws : List ℕ) → Formed L ws → orphan_hyperedges (read L ws) ≡ []
unfolding orphan_hyperedges has_count
no-orphans L ws f = ap (map hyperedge_number) (filter_none (has_count 0) (read_hyperedges L ws) (hyperedge_at L ws 0) bare)
  where
    bare : (i : ℕ) → i < length (read_hyperedges L ws) → has_count 0 (get_or (read_hyperedges L ws) i (hyperedge_at L ws 0)) ≡ false
    bare i l =
        let h : i < hyperedge_count ws = rw length-tab at l in
        rw (getD-tab (hyperedge_at L ws) (hyperedge_count ws) i (hyperedge_at L ws 0) h)
        (ne_eqb (length (members_at L ws i)) 0 (λ e. lt_irrefl 0 (omega (arith, members-count L ws f i h, count-pos L ws (hyperedge_count ws) i f.shape.records h))))

-- r is what `well_formed` returned, and the code tested `!r`
pub none-listed : (ws : List ℕ) (r : Bool) → r ≡ well_formed limit ws → not r ≡ false → (out : List ℕ) → result_of (Ok 0) out ≡ on_formed ws out (orphan_hyperedges_result out)
none-listed ws r e h out =
    on-formed ws r e out (orphan_hyperedges_result out) (result_of (Ok 0) out) h
    (listed-fits (orphan_hyperedges (read limit ws)) out 0 (sym (ap length none)) out (omega arith) (sym (over_none out) ∙ ap (λ (xs : List ℕ). over xs out) (sym none)))
  where
    none : orphan_hyperedges (read limit ws) ≡ []
    none = no-orphans limit ws (formed-by ws r e h)

-- ---- the loop over j: m is what `hyperedge_count` found, x what `member_count` found

abbrev pub count_is : ℕ → ℕ → List ℕ → ℕ → Bool
count_is L k ws j = has_count k (hyperedge_at L ws j)

module _ (L : ℕ) (ws : List ℕ) (f : Formed L ws) (k m j : ℕ) (e : m ≡ hyperedge_count ws) where
  module _ (x : ℕ) (q : x ≡ count_at L ws j) (h : j < m) where
    same : eqb x k ≡ count_is L k ws j
    unfolding has_count
    same = ap (λ (n : ℕ). eqb n k) (q ∙ sym (members-count L ws f j (omega arith)))

    pub uniform-on : every (count_is L k ws) j ≡ true → x ≡ k → every (count_is L k ws) (j + 1) ≡ true
    uniform-on inv s = every-on (count_is L k ws) m j (eqb x k) same inv (ap not (eq-eqb x k s))

    pub uniform-no : (x ≡ k → ⊥) → false ≡ uniform k (read L ws)
    unfolding uniform
    uniform-no ne = every-no (count_is L k ws) (hyperedge_count ws) j (eqb x k) same (omega arith) (ap not (ne_eqb x k ne)) ∙ sym (all-tab (has_count k) (hyperedge_at L ws) (hyperedge_count ws))

  pub uniform-end : every (count_is L k ws) j ≡ true → j ≤ m → m ≤ j → true ≡ uniform k (read L ws)
  unfolding uniform
  uniform-end inv a b = every-end (count_is L k ws) (hyperedge_count ws) j inv (omega arith) (omega arith) ∙ sym (all-tab (has_count k) (hyperedge_at L ws) (hyperedge_count ws))
