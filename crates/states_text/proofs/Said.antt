-- Laws of what lines say, and of what the lines of written states say. Assumes nothing.
use mathlib.Core.Path.{◌≡◌, refl, sym, ap, ◌∙◌}
use mathlib.Core.Bool.{true, false}
use mathlib.Core.List.{List, [], ◌∷◌, ◌++◌}
use Prim.Native.Nat.{ℕ, zero, suc, ◌≤◌, ◌<◌}
use native.Mathlib.Nat.{not-suc-le-zero, lt_irrefl, le_of_suc-le-suc}
use native.Mathlib.Omega.{arith}
use lib.Dec.{leb, ltb}
use lib.ListN.{length, get_or}
use borrow.Author.Tests.{eq-eqb, ne_eqb, leb-true, le-leb, ltb-true}
use Rattle.lists.specs.Tests.{◌and◌}
use Rattle.lists.specs.Lists.{all, any, ascending, is_below, same_list}
use Rattle.lists.proofs.Cases.{on, on_same, or_right, and_left, and_right, and_both}
use Rattle.lists.proofs.All.{all-at}
use Rattle.lists.proofs.Kept.{all_then}
use Rattle.frames.specs.Faulty.{is_word}
use Rattle.frames.proofs.Parse.{same_refl}
use Rattle.desk.specs.States.{waiting, reviewed, released}
use Rattle.states_text.specs.StatesText.{state_line, line_for, states_text}
use Rattle.states_text.specs.Reading.{lines, line_number, line_state, line_good, faulty_from, state_said}
use Rattle.states_text.proofs.Lines.{written-first, written-number, written-reviewed, written-released, says-state, says-released}

-- ---- one line more

module _ (low : ℕ) (l : List ℕ) where
  pub good-number : line_good low l ≡ true → low ≤ line_number l
  unfolding line_good
  good-number e = leb-true low (line_number l) (and_right _ _ e)

  pub good_of : (line_state l ≡ waiting → ⊥) → low ≤ line_number l → line_good low l ≡ true
  unfolding line_good
  good_of ne h = rw (ne_eqb (line_state l) waiting ne) (and_both true (leb low (line_number l)) refl (le-leb low (line_number l) h))

  module _ (k : ℕ) (ls : List (List ℕ)) where
    pub faulty-on : line_good low l ≡ true → faulty_from low k (l ∷ ls) ≡ faulty_from (suc (line_number l)) (suc k) ls
    unfolding faulty_from
    faulty-on e = rw e

    pub faulty-here : line_good low l ≡ false → faulty_from low k (l ∷ ls) ≡ k
    unfolding faulty_from
    faulty-here e = rw e

module _ (l : List ℕ) (ls : List (List ℕ)) (v : ℕ) where
  pub said_here : v ≡ line_number l → state_said (l ∷ ls) v ≡ line_state l
  unfolding state_said
  said_here e = rw (eq-eqb v (line_number l) e)

  pub said-other : (v ≡ line_number l → ⊥) → state_said (l ∷ ls) v ≡ state_said ls v
  unfolding state_said
  said-other ne = rw (ne_eqb v (line_number l) ne)

-- ---- what good lines say

pub said-none : (v : ℕ) → state_said [] v ≡ waiting
unfolding state_said
said-none v = refl

-- they say nothing of a number below theirs
pub said-below : (low k : ℕ) (ls : List (List ℕ)) → 0 < k → faulty_from low k ls ≡ 0 → (v : ℕ) → v < low → state_said ls v ≡ waiting
said-below low k [] h e v b = said-none v
said-below low k (l ∷ ls) h e v b =
    on (line_good low l)
    (λ g.
    let n : low ≤ line_number l = good-number low l g in
    said-other l ls v (λ q. lt_irrefl low (omega arith))
    ∙ said-below (suc (line_number l)) (suc k) ls (omega arith) (sym (faulty-on low l k ls g) ∙ e) v (omega arith))
    (λ g. absurd (lt_irrefl 0 (omega (arith, sym (faulty-here low l k ls g) ∙ e))))

-- each state that lines say is a state
pub said-state : (ls : List (List ℕ)) (v : ℕ) → state_said ls v < suc released
said-state [] v = omega (arith, said-none v)
said-state (l ∷ ls) v =
    on_same v (line_number l)
    (λ q. rw (said_here l ls v q) (says-state l))
    (λ q. rw (said-other l ls v q) (said-state ls v))

-- a vertex is said to be released by its own line alone
pub said-released : (ls : List (List ℕ)) (v : ℕ) → state_said ls v ≡ released → any (same_list (state_line released v)) ls ≡ true
unfolding any
said-released [] v e = absurd (lt_irrefl 0 (omega (arith, sym (said-none v) ∙ e)))
said-released (l ∷ ls) v e =
    on_same v (line_number l)
    (λ q.
    let s : l ≡ state_line released v = says-released l (sym (said_here l ls v q) ∙ e) ∙ ap (state_line released) (sym q) in
    rw s (rw (same_refl (state_line released v))))
    (λ q. or_right (same_list (state_line released v) l) (any (same_list (state_line released v)) ls) (said-released ls v (sym (said-other l ls v q) ∙ e)))

-- ---- the lines of written states

-- a state that is not waiting is reviewed or released
written-state : (x v : ℕ) → (x ≡ waiting → ⊥) → x < suc released → v < 4294967296 → line_state (state_line x v) ≡ x
written-state x v ne h b =
    on_same x reviewed
    (λ e. rw e (written-reviewed v b))
    (λ nr. let e : x ≡ released = omega arith in rw e (written-released v b))

module _ (v : ℕ) (live : List ℕ) (x : ℕ) (ss : List ℕ) where
  text-waiting : x ≡ waiting → states_text (v ∷ live) (x ∷ ss) ≡ states_text live ss
  unfolding states_text line_for
  text-waiting e = rw (eq-eqb x waiting e)

  text-line : (x ≡ waiting → ⊥) → states_text (v ∷ live) (x ∷ ss) ≡ state_line x v ++ states_text live ss
  unfolding states_text line_for
  text-line ne = rw (ne_eqb x waiting ne)

-- vertices whose numbers are words and ascend from low on, each with a state
pub record Lined (low : ℕ) (live ss : List ℕ) : Type 0 where
  pub long : length live ≤ length ss
  pub rise : ascending live ≡ true
  pub from : all (leb low) live ≡ true
  pub words : all is_word live ≡ true
  pub known : all (is_below (suc released)) ss ≡ true

module _ {low v : ℕ} {live : List ℕ} {x : ℕ} {ss : List ℕ} (h : Lined low (v ∷ live) (x ∷ ss)) where
  -- of the first
  first-from : low ≤ v
  unfolding all
  first-from = leb-true low v (and_left _ _ h.from)

  first_word : v < 4294967296
  unfolding all is_word
  first_word = ltb-true v 4294967296 (and_left _ _ h.words)

  first-known : x < suc released
  unfolding all
  first-known = ltb-true x (suc released) (and_left _ _ h.known)

  -- of the others: their numbers are above the first
  lined-above : Lined (suc v) live ss
  unfolding ascending all
  lined-above = record {
    long = le_of_suc-le-suc h.long;
    rise = and_right _ _ h.rise;
    from = all_then (ltb v) (leb (suc v)) live (λ y e. le-leb (suc v) y (ltb-true v y e)) (and_left _ _ h.rise);
    words = and_right _ _ h.words;
    known = and_right _ _ h.known;
  }

  lined-rest : Lined low live ss
  unfolding all
  lined-rest = record {
    long = lined-above.long;
    rise = lined-above.rise;
    from = and_right _ _ h.from;
    words = lined-above.words;
    known = lined-above.known;
  }

  module _ (ne : x ≡ waiting → ⊥) where
    lines-line : lines (states_text (v ∷ live) (x ∷ ss)) ≡ state_line x v ∷ lines (states_text live ss)
    lines-line = ap lines (text-line v live x ss ne) ∙ written-first x v (states_text live ss)

    number-line : line_number (state_line x v) ≡ v
    number-line = written-number x v first_word

    state-line : line_state (state_line x v) ≡ x
    state-line = written-state x v ne first-known first_word

-- no line is faulty
pub lines-good : (live ss : List ℕ) (low k : ℕ) → Lined low live ss → faulty_from low k (lines (states_text live ss)) ≡ 0
unfolding states_text lines faulty_from
lines-good [] ss low k h = refl
lines-good (v ∷ live) [] low k h = absurd (not-suc-le-zero h.long)
lines-good (v ∷ live) (x ∷ ss) low k h =
    on_same x waiting
    (λ e. ap (λ (t : List ℕ). faulty_from low k (lines t)) (text-waiting v live x ss e) ∙ lines-good live ss low k (lined-rest h))
    (λ ne.
    let l : List ℕ = state_line x v in
    let good : line_good low l ≡ true = good_of low l (λ q. ne (sym (state-line h ne) ∙ q)) (omega (arith, number-line h ne, first-from h)) in
    ap (faulty_from low k) (lines-line h ne) ∙ faulty-on low l k (lines (states_text live ss)) good
    ∙ ap (λ (n : ℕ). faulty_from (suc n) (suc k) (lines (states_text live ss))) (number-line h ne)
    ∙ lines-good live ss (suc v) (suc k) (lined-above h))

-- and each vertex has its state
pub lines-said : (live ss : List ℕ) (low : ℕ) → Lined low live ss → (i : ℕ) → i < length live → state_said (lines (states_text live ss)) (get_or live i 0) ≡ get_or ss i 0
lines-said [] ss low h i b = absurd (not-suc-le-zero b)
lines-said (v ∷ live) [] low h i b = absurd (not-suc-le-zero h.long)
lines-said (v ∷ live) (x ∷ ss) low h zero b =
    on_same x waiting
    (λ e. ap (λ (t : List ℕ). state_said (lines t) v) (text-waiting v live x ss e)
    ∙ said-below (suc v) 1 (lines (states_text live ss)) (omega arith) (lines-good live ss (suc v) 1 (lined-above h)) v (omega arith) ∙ sym e)
    (λ ne. ap (λ (ls : List (List ℕ)). state_said ls v) (lines-line h ne)
    ∙ said_here (state_line x v) (lines (states_text live ss)) v (sym (number-line h ne)) ∙ state-line h ne)
lines-said (v ∷ live) (x ∷ ss) low h (suc i) b =
    let u : ℕ = get_or live i 0 in
    let j : i < length live = le_of_suc-le-suc b in
    let above : suc v ≤ u = leb-true (suc v) u (all-at (leb (suc v)) live i 0 (lined-above h).from j) in
    let rest : state_said (lines (states_text live ss)) u ≡ get_or ss i 0 = lines-said live ss (suc v) (lined-above h) i j in
    on_same x waiting
    (λ e. ap (λ (t : List ℕ). state_said (lines t) u) (text-waiting v live x ss e) ∙ rest)
    (λ ne. ap (λ (ls : List (List ℕ)). state_said ls u) (lines-line h ne)
    ∙ said-other (state_line x v) (lines (states_text live ss)) u (λ q. lt_irrefl v (omega (arith, number-line h ne))) ∙ rest)
