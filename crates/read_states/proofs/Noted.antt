-- The states as they are noted, line by line. Assumes nothing.
use Rattle.std.specs.Prelude.{Option, Some, None, unwrap_or}
use mathlib.Core.Path.{◌≡◌, refl, sym, ap, ◌∙◌}
use mathlib.Core.Bool.{true}
use mathlib.Core.List.{List, [], ◌∷◌, ◌++◌, append-nil}
use Prim.Native.Nat.{ℕ, ◌+◌, ◌-◌, ◌≤◌, ◌<◌}
use native.Mathlib.Nat.{lt_irrefl}
use native.Mathlib.Numerals.{add-one}
use native.Mathlib.Omega.{arith}
use lib.ListN.{length, take, drop, set, drop_of_length-le}
use lib.Seq.{append_snoc}
use borrow.Author.Tests.{lt-ltb, ltb-true}
use Rattle.lists.specs.Lists.{all, memb}
use Rattle.lists.specs.Inner.{blank}
use Rattle.lists.proofs.Cases.{on_same, clash, and_left, and_right, and_both}
use Rattle.lists.proofs.All.{all_snoc}
use Rattle.lists.proofs.Kept.{all_then}
use Rattle.layout.specs.Content.{live_vertices, position}
use Rattle.layout.specs.Layout.{limit, vertex_limit, read}
use Rattle.layout.specs.Inner.{Formed}
use Rattle.layout.proofs.Position.{found-live, missing-dead}
use Rattle.layout.proofs.Read.{live-length, live-ascends, vertex-found}
use Rattle.reader.proofs.Made.{blank-is, length-blank}
use Rattle.desk.specs.States.{waiting, states_fit, state_in, state_of, with_state, states_by, all_waiting}
use Rattle.desk.proofs.States.{states-fit-of, state-by, states-by-ext, states-by-fit, states-same, waiting-fits, waiting-all}
use Rattle.desk.proofs.Signing.{state-set, state-other, set-fits}
use Rattle.states_text.specs.Reading.{lines, line_number, line_state, line_good, faulty_from, state_said}
use Rattle.states_text.proofs.Lines.{says-state}
use Rattle.states_text.proofs.Said.{good-number, faulty-on, faulty-here, said_here, said-other, said-none, said-state}
use Rattle.state_lines.specs.Judged.{Judged}
use Rattle.state_lines.proofs.Judging.{judged-bad, judged-good, judged-state}
use Rattle.read_states.specs.Noting.{LineAt, record_of, noted, number_below, Noting, LinesRead}

-- ---- the record of a vertex: p is what `find_vertex` found

pub record_found : (p : Option ℕ) → unwrap_or p vertex_limit ≡ record_of p
record_found None = refl
record_found (Some i) = refl

module _ {ws : List ℕ} (f : Formed limit ws) (v i : ℕ) (x : ℕ) (ss : List ℕ) where
  over_none : (p : Option ℕ) → position v (live_vertices (read limit ws)) ≡ p → i ≡ record_of p → vertex_limit ≤ i → ss ≡ noted p x ss
  over_none (Some j) e q h = absurd (lt_irrefl i (omega (arith, (vertex-found limit ws v j e).0, f.shape.vertices-le)))
  over_none None e q h = refl

  -- i is what `record_of` gave
  pub noted-none : i ≡ record_of (position v (live_vertices (read limit ws))) → vertex_limit ≤ i → ss ≡ noted (position v (live_vertices (read limit ws))) x ss
  noted-none e h = over_none (position v (live_vertices (read limit ws))) refl e h

pub noted-at : (p : Option ℕ) (i x : ℕ) (ss : List ℕ) → i ≡ record_of p → i < vertex_limit → set ss i x ≡ noted p x ss
noted-at (Some j) i x ss e h = rw e
noted-at None i x ss e h = absurd (lt_irrefl i (omega arith))

-- ---- what lines say with one more

module _ (l : List ℕ) where
  said-past : (past : List (List ℕ)) (u : ℕ) → (u ≡ line_number l → ⊥) → state_said (past ++ (l ∷ [])) u ≡ state_said past u
  said-past [] u ne = said-other l [] u ne
  said-past (m ∷ past) u ne =
      on_same u (line_number m)
      (λ q. said_here m (past ++ (l ∷ [])) u q ∙ sym (said_here m past u q))
      (λ q. said-other m (past ++ (l ∷ [])) u q ∙ said-past past u ne ∙ sym (said-other m past u q))

  said-new : (low : ℕ) (past : List (List ℕ)) → all (number_below low) past ≡ true → low ≤ line_number l → state_said (past ++ (l ∷ [])) (line_number l) ≡ line_state l
  unfolding all number_below
  said-new low [] b h = said_here l [] (line_number l) refl
  said-new low (m ∷ past) b h =
      said-other m (past ++ (l ∷ [])) (line_number l) (λ q. lt_irrefl low (omega (arith, ltb-true (line_number m) low (and_left _ _ b))))
      ∙ said-new low past (and_right _ _ b) h

below_more : (low v : ℕ) (past : List (List ℕ)) (l : List ℕ) → all (number_below low) past ≡ true → low ≤ v → v ≡ line_number l → all (number_below (v + 1)) (past ++ (l ∷ [])) ≡ true
unfolding number_below
below_more low v past l b h e =
    all_snoc (number_below (v + 1)) past l
    ∙ and_both _ _
    (all_then (number_below low) (number_below (v + 1)) past (λ m q. lt-ltb (line_number m) (v + 1) (omega (arith, ltb-true (line_number m) low q))) b)
    (lt-ltb (line_number l) (v + 1) (omega arith))

module _ {ws : List ℕ} (f : Formed limit ws) where
  few : length (live_vertices (read limit ws)) ≤ vertex_limit
  few = omega (arith, live-length limit ws, f.shape.vertices-le)

  -- ---- the states with one more

  module _ (past : List (List ℕ)) (l : List ℕ) (low : ℕ) (b : all (number_below low) past ≡ true) (h : low ≤ line_number l) where
    before-fits : states_fit (length (live_vertices (read limit ws))) (states_by (state_said past) (live_vertices (read limit ws))) ≡ true
    before-fits = states-by-fit (state_said past) (live_vertices (read limit ws)) (said-state past) few

    states-more : (p : Option ℕ) → position (line_number l) (live_vertices (read limit ws)) ≡ p
        → noted p (line_state l) (states_by (state_said past) (live_vertices (read limit ws))) ≡ states_by (state_said (past ++ (l ∷ []))) (live_vertices (read limit ws))
    unfolding with_state
    states-more None e =
        states-by-ext (state_said past) (state_said (past ++ (l ∷ []))) (live_vertices (read limit ws))
        (λ u m. sym (said-past l past u (λ q. clash (ap (λ (z : ℕ). memb z (live_vertices (read limit ws))) (sym q) ∙ m) (missing-dead (line_number l) (live_vertices (read limit ws)) e))))
    states-more (Some i) e =
        let t = read limit ws in
        let ss : List ℕ = states_by (state_said past) (live_vertices t) in
        let v : ℕ = line_number l in
        let alive : memb v (live_vertices t) ≡ true = found-live v (live_vertices t) i e in
        let set_is : with_state t v (line_state l) ss ≡ set ss i (line_state l) = rw e in
        let fits : states_fit (length (live_vertices t)) (with_state t v (line_state l) ss) ≡ true = set-fits t ss v (line_state l) alive (says-state l) before-fits in
        sym set_is ∙ sym (states-same (live_vertices t) (with_state t v (line_state l) ss) (live-ascends limit ws f) few fits)
        ∙ states-by-ext (state_of t (with_state t v (line_state l) ss)) (state_said (past ++ (l ∷ []))) (live_vertices t)
        (λ u m. on_same u v
        (λ q. ap (state_of t (with_state t v (line_state l) ss)) q ∙ state-set t ss v (line_state l) alive (omega (arith, (states-fit-of before-fits).sized, few))
        ∙ sym (ap (state_said (past ++ (l ∷ []))) q ∙ said-new l low past b h))
        (λ q. state-other t ss v (line_state l) alive u q ∙ state-by (state_said past) (live_vertices t) u m ∙ sym (said-past l past u q)))

  -- ---- the loop

  module _ (text : List ℕ) where
    pub noting-first : (ss : List ℕ) → ss ≡ blank vertex_limit → Noting (read limit ws) text 0 0 1 ss
    unfolding all
    noting-first ss e = record {
      past = [];
      split = refl;
      below = refl;
      left = refl;
      states =
          e ∙ sym (blank-is vertex_limit) ∙ sym (states-same (live_vertices (read limit ws)) all_waiting (live-ascends limit ws f) few (waiting-fits (length (live_vertices (read limit ws)))))
          ∙ states-by-ext (state_in (live_vertices (read limit ws)) all_waiting) (state_said []) (live_vertices (read limit ws))
          (λ v _. waiting-all (live_vertices (read limit ws)) v ∙ sym (said-none v));
      sized = ap length e ∙ length-blank vertex_limit;
      within = omega arith;
      count = omega arith;
      some = omega arith;
    }

    pub noting-length : {p low k : ℕ} {ss : List ℕ} → Noting (read limit ws) text p low k ss → (first : List ℕ) → first ≡ blank vertex_limit → length ss ≡ length first
    noting-length n first e = n.sized ∙ sym (ap length e ∙ length-blank vertex_limit)

    -- end is what `line_end` found, x and v what `judge` found
    module _ {p low k : ℕ} {ss : List ℕ} (n : Noting (read limit ws) text p low k ss) where
      module _ {end : ℕ} (a : LineAt text p end) {x v : ℕ} (j : Judged (take (end - p) (drop p text)) low x v) where
        pub lines-bad : x ≡ waiting → LinesRead (read limit ws) text ss k
        lines-bad e = record {
          is = sym (faulty-here low (take (end - p) (drop p text)) k (lines (drop end text)) (judged-bad j e)) ∙ ap (faulty_from low k) (sym a.first) ∙ n.left;
          states = λ z. absurd (lt_irrefl 0 (omega (arith, n.some)));
        }

        -- after is what `note` left
        pub noting-more : (x ≡ waiting → ⊥) → (after : List ℕ) → after ≡ noted (position v (live_vertices (read limit ws))) x ss
            → Noting (read limit ws) text end (v + 1) (k + 1) after
        noting-more ne after e =
            let l : List ℕ = take (end - p) (drop p text) in
            let number : v ≡ line_number l = j.number ne in
            let state : x ≡ line_state l = judged-state j ne in
            let good : line_good low l ≡ true = judged-good j ne in
            let h : low ≤ line_number l = good-number low l good in
            let states : after ≡ states_by (state_said (n.past ++ (l ∷ []))) (live_vertices (read limit ws)) =
            e ∙ rw (n.states, number, state) (states-more n.past l low n.below h (position (line_number l) (live_vertices (read limit ws))) refl) in
            record {
              past = n.past ++ (l ∷ []);
              split = n.split ∙ ap (λ (ls : List (List ℕ)). n.past ++ ls) a.first ∙ sym (append_snoc n.past l (lines (drop end text)));
              below = below_more low v n.past l n.below (omega arith) number;
              left =
                  rw (number, add-one (line_number l), add-one k)
                  (sym (faulty-on low l k (lines (drop end text)) good) ∙ ap (faulty_from low k) (sym a.first) ∙ n.left);
              states = states;
              sized = ap length states ∙ (states-fit-of (states-by-fit (state_said (n.past ++ (l ∷ []))) (live_vertices (read limit ws)) (said-state (n.past ++ (l ∷ []))) few)).sized;
              within = a.within;
              count = omega (arith, n.count, a.on);
              some = omega arith;
            }

      pub lines_end : length text ≤ p → LinesRead (read limit ws) text ss 0
      unfolding lines faulty_from
      lines_end h =
          let none : drop p text ≡ [] = drop_of_length-le text {i = p} h in
          record {
            is = ap (λ (r : List ℕ). faulty_from low k (lines r)) (sym none) ∙ n.left;
            states = λ _. n.states ∙ ap (λ (ls : List (List ℕ)). states_by (state_said ls) (live_vertices (read limit ws)))
                (sym (n.split ∙ ap (λ (r : List ℕ). n.past ++ lines r) none ∙ append-nil n.past));
          }
