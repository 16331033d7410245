-- The numbers noted, the states moved down record after record, and what an answer leaves of the states. Assumes nothing.
use Rattle.std.specs.Prelude.{Ok, Err, is_ok}
use mathlib.Core.Path.{◌≡◌, refl, sym, ap, ap₂, ◌∙◌}
use mathlib.Core.Bool.{Bool, true, false, not, cond}
use mathlib.Core.List.{List, [], ◌∷◌, ◌++◌, map, append-nil}
use Prim.Native.Nat.{ℕ, zero, suc, ◌+◌, ◌*◌, ◌-◌, ◌≤◌, ◌<◌, suc-le-suc}
use native.Mathlib.Nat.{not-suc-le-zero, le_of_suc-le-suc, zero-lt-suc, lt_irrefl}
use native.Mathlib.Numerals.{add-one}
use native.Mathlib.Omega.{arith}
use lib.Dec.{eqb}
use lib.ListN.{length, get_or, set, take, replicate, drop_of_length-le, length-replicate}
use lib.Seq.{paste, sets-eq, take-suc, take-suc-set, take_all, length-take-le, get_or-take, get_or-drop}
use borrow.Author.Tests.{eqb-true, not-true, not-false}
use Rattle.lists.specs.Lists.{memb, filter, tab, flat, pad}
use Rattle.lists.proofs.Cases.{on, and_left}
use Rattle.lists.proofs.Memb.{memb-getD}
use Rattle.lists.proofs.Filter.{filter-snoc}
use Rattle.lists.proofs.Kept.{memb-filter}
use Rattle.lists.proofs.Tab.{length-tab, getD-tab, tab-suc}
use Rattle.layout.specs.Answers.{Answer}
use Rattle.layout.specs.declared.Refusal.{Refusal}
use Rattle.layout.specs.Layout.{vertex_limit, vertex_size, vertices_at, vertex_word, vertex_count}
use Rattle.layout.specs.Inner.{column, vertex_column}
use Rattle.layout.specs.Answers.{number, detail, result_of}
use Rattle.layout.proofs.Answers.{agree}
use Rattle.edits.proofs.Relaid.{relaid-none, relaid-pass, relaid-more, relaid-cleared}
use Rattle.desk.specs.States.{state_in, states_by, all_waiting}
use Rattle.desk.proofs.States.{state-at}
use Rattle.desk_states.specs.Following.{Noted, Survivors, state_words, StatesMoved, Moving, StateTurn, followed, Followable}

-- what passes at place i stands, among those that pass, at the place of as many as pass before it
filter-at : (p : ℕ → Bool) (xs : List ℕ) (i : ℕ) → i < length xs → p (get_or xs i 0) ≡ true
    → (length (filter p (take i xs)) < length (filter p xs)) × (get_or (filter p xs) (length (filter p (take i xs))) 0 ≡ get_or xs i 0)
unfolding filter
filter-at p [] i h e = absurd (not-suc-le-zero h)
filter-at p (x ∷ xs) zero h e = rw e (zero-lt-suc (length (filter p xs)), refl)
filter-at p (x ∷ xs) (suc i) h e =
    let r = filter-at p xs i (le_of_suc-le-suc h) e in
    on (p x) (λ q. rw q (suc-le-suc r.0, r.1)) (λ q. rw q r)

-- records of one word
flat-words : (f : ℕ → ℕ) (xs : List ℕ) → flat (λ x. f x ∷ []) xs ≡ map f xs
unfolding flat
flat-words f [] = refl
flat-words f (x ∷ xs) = ap (λ (r : List ℕ). f x ∷ r) (flat-words f xs)

module _ (numbers : List ℕ) (n : ℕ) (ws : List ℕ) (v : Survivors numbers n ws) where
  abbrev live : List ℕ
  live = take n numbers

  live-is : length live ≡ n
  live-is = length-take-le n numbers (omega (arith, v.few, v.room))

  count-is : vertex_count ws ≡ length (filter v.keeps live)
  count-is = sym (length-tab _ (vertex_count ws)) ∙ ap length v.kept

  word-is : (k : ℕ) → k < vertex_count ws → get_or ws (vertex_word k) 0 ≡ get_or (filter v.keeps live) k 0
  word-is k h = sym (getD-tab (λ (i : ℕ). get_or ws (vertex_word i) 0) (vertex_count ws) k 0 h) ∙ ap (λ (l : List ℕ). get_or l k 0) v.kept

  pub moved_none : (ss : List ℕ) → length ss ≡ vertex_limit → Moving numbers n ws ss 0 0 ss
  unfolding filter
  moved_none ss len = record { left = v; lent = len; moved = relaid-none (state_words live ss) 0 1 ss }

  module _ (ss : List ℕ) (i k : ℕ) (s : List ℕ) (st : StatesMoved v.keeps live ss i k s) (h : i < n) where
    one_more_lem : filter v.keeps (take (i + 1) live) ≡ cond (v.keeps (get_or live i 0))
        (filter v.keeps (take i live) ++ (get_or live i 0 ∷ [])) (filter v.keeps (take i live))
    one_more_lem = rw (add-one, take-suc live i 0 (rw live-is h)) (filter-snoc v.keeps (take i live) (get_or live i 0))

    -- where it is kept, record k has its number
    kept_here : v.keeps (get_or live i 0) ≡ true → (k < vertex_count ws) × (get_or ws (vertex_word k) 0 ≡ get_or live i 0)
    kept_here e =
        let r = filter-at v.keeps live i (rw live-is h) e in
        let l : k < vertex_count ws = rw (count-is, st.count) r.0 in
        (l, word-is k l ∙ rw st.count r.1)

    -- where record k has its number, it is kept
    here-kept : k < vertex_count ws → get_or ws (vertex_word k) 0 ≡ get_or live i 0 → v.keeps (get_or live i 0) ≡ true
    here-kept l e =
        let m : memb (get_or live i 0) (filter v.keeps live) ≡ true =
        ap (λ (x : ℕ). memb x (filter v.keeps live)) (sym e ∙ word-is k l) ∙ memb-getD (filter v.keeps live) k (rw (← count-is) l) in
        and_left _ _ (sym (memb-filter v.keeps (get_or live i 0) live) ∙ m)

    passed : v.keeps (get_or live i 0) ≡ false → StatesMoved v.keeps live ss (i + 1) k s
    passed e = rw (one_more_lem, e) (relaid-pass (state_words live ss) 0 1 ss _ i k s st)

    -- its state is still where it was
    state-here : get_or s i 0 ≡ state_in live ss (get_or live i 0)
    state-here =
        let z : 0 + i * 1 + 0 ≡ i = omega arith in
        ap (λ (j : ℕ). get_or s j 0) (sym z) ∙ sym (get_or-drop (0 + i * 1) s 0 0) ∙ ap (λ (l : List ℕ). get_or l 0 0) st.ahead
        ∙ get_or-drop (0 + i * 1) ss 0 0 ∙ ap (λ (j : ℕ). get_or ss j 0) z
        ∙ sym (state-at live ss i v.ascend (rw live-is h))

    -- its state goes to record k's word
    kept : (s' : List ℕ) → length ss ≡ vertex_limit → v.keeps (get_or live i 0) ≡ true → s' ≡ set s k (get_or s i 0) → StatesMoved v.keeps live ss (i + 1) (k + 1) s'
    kept s' len e q =
        let z : 0 + k * 1 ≡ k = omega arith in
        let x : ℕ = get_or live i 0 in
        rw (one_more_lem, e)
        (relaid-more (state_words live ss) 0 1 ss _ i k s st (omega (arith, v.few)) x refl s'
        (q ∙ ap (set s k) state-here ∙ ap (λ (j : ℕ). set s j (state_in live ss x)) (sym z)
        ∙ sets-eq (state_in live ss x ∷ []) s (0 + k * 1) (omega (arith, v.few, st.same, st.behind))))

-- ---- a turn as the code makes it: c is what `vertex_count` found, y the number of record k

module _ (numbers ws : List ℕ) (i k c : ℕ) (s : List ℕ) (ec : c ≡ vertex_count ws) where
  pub no-record-left : c ≤ k → StateTurn numbers ws i k s k s
  no-record-left g n ss h m =
      let v = m.left in let x : ℕ = get_or (take n numbers) i 0 in record {
        left = v;
        lent = m.lent;
        moved = on (v.keeps x) (λ e. absurd (lt_irrefl k (omega (arith, ec, (kept_here numbers n ws v ss i k s m.moved h e).0))))
            (passed numbers n ws v ss i k s m.moved h);
      }

  module _ (y : ℕ) (ey : y ≡ get_or ws (vertex_word k) 0) where
    pub another-number : (y ≡ get_or numbers i 0 → ⊥) → StateTurn numbers ws i k s k s
    another-number ne n ss h m =
        let v = m.left in let x : ℕ = get_or (take n numbers) i 0 in record {
          left = v;
          lent = m.lent;
          moved = on (v.keeps x) (λ e. absurd (ne (ey ∙ (kept_here numbers n ws v ss i k s m.moved h e).1 ∙ get_or-take n numbers i 0 h)))
              (passed numbers n ws v ss i k s m.moved h);
        }

    pub its-number : (s' : List ℕ) → k < c → y ≡ get_or numbers i 0 → s' ≡ set s k (get_or s i 0) → StateTurn numbers ws i k s (k + 1) s'
    its-number s' l e q n ss h m =
        let v = m.left in
        let same : get_or ws (vertex_word k) 0 ≡ get_or (take n numbers) i 0 = sym ey ∙ e ∙ sym (get_or-take n numbers i 0 h) in
        record {
          left = v;
          lent = m.lent;
          moved = kept numbers n ws v ss i k s m.moved h s' m.lent (here-kept numbers n ws v ss i k s m.moved h (rw (← ec) l) same) q;
        }

-- the loop goes on
pub moved-again : (numbers : List ℕ) (n : ℕ) (ws ss : List ℕ) (i k k' : ℕ) (s s' : List ℕ) → i < n → Moving numbers n ws ss i k s → StateTurn numbers ws i k s k' s'
    → Moving numbers n ws ss (i + 1) k' s'
moved-again numbers n ws ss i k k' s s' h m turn = turn n ss h m

-- the loop ends: s₂ are the states after the words behind them are cleared
pub moved-done : (numbers : List ℕ) (n : ℕ) (ws ss : List ℕ) (i k : ℕ) (s s₂ : List ℕ) → Moving numbers n ws ss i k s → i ≤ n → n ≤ i
    → s₂ ≡ paste s k (replicate (vertex_limit - k) 0) (vertex_limit - k) → s₂ ≡ states_by (state_in (take n numbers) ss) (vertex_column ws)
unfolding states_by
moved-done numbers n ws ss i k s s₂ m l g e =
    let v = m.left in
    let live : List ℕ = take n numbers in
    let z : k ≡ 0 + k * 1 = omega arith in
    let c : vertex_limit - k ≡ vertex_limit - k * 1 = omega arith in
    let seen : filter v.keeps (take i live) ≡ vertex_column ws =
    ap (filter v.keeps) (take_all i live (omega (arith, live-is numbers n ws v))) ∙ sym v.kept in
    relaid-cleared (state_words live ss) 0 1 ss _ i k s m.moved vertex_limit (omega (arith, v.few)) (omega (arith, m.lent)) s₂
    (e ∙ ap₂ (λ (j w : ℕ). paste s j (replicate w 0) w) z c)
    ∙ ap₂ (λ (x y : List ℕ). pad vertex_limit x ++ y) (flat-words (state_in live ss) _ ∙ ap (map (state_in live ss)) seen)
    (drop_of_length-le ss {i = 0 + vertex_limit} (omega (arith, m.lent)))
    ∙ append-nil _

-- ---- the numbers noted

module _ (ws : List ℕ) where
  pub noted-none : (r : List ℕ) → take 0 r ≡ column ws vertices_at vertex_size 0
  unfolding tab
  noted-none r = refl

  -- i numbers stand at the front of r; n is what `vertex_count` found, x the number of record i
  pub noted_more : (n i x : ℕ) (r : List ℕ) → n ≡ vertex_count ws → vertex_count ws ≤ vertex_limit → i < n → length r ≡ vertex_limit
      → take i r ≡ column ws vertices_at vertex_size i
      → x ≡ get_or ws (vertex_word i) 0 → take (i + 1) (set r i x) ≡ column ws vertices_at vertex_size (i + 1)
  noted_more n i x r en le h len e q =
      rw (add-one, take-suc-set r i x (omega arith), e, q) (sym (tab-suc (λ (j : ℕ). get_or ws (vertex_word j) 0) i))

  pub noted-all : (n i : ℕ) (r : List ℕ) → n ≡ vertex_count ws → i ≤ n → n ≤ i → length r ≡ vertex_limit → take i r ≡ column ws vertices_at vertex_size i → Noted ws r
  noted-all n i r en l g len e = record { room = len; front = let q : i ≡ vertex_count ws = omega arith in rw (← q) e }

-- ---- the answer's number: r is what `is_ok` found of the answer

-- a refusal of number 0 would be an answer that a call is done
numbered-done : (f : Refusal) → eqb (number (Err f)) 0 ≡ true → ◌≡◌ {A = Answer} (Ok (detail (Err f))) (Err f)
numbered-done f m =
    let n : 0 ≡ number (Err f) = sym (eqb-true _ _ m) in
    (agree (result_of (Err f) []) (ap (λ (k : ℕ). record { number = k; detail = detail (Err f); lent = [] }) n) refl).0

refused-number : (f : Refusal) → eqb (number (Err f)) 0 ≡ true → ⊥
refused-number f m = let q : ◌≡◌ {A = Answer} (Ok (detail (Err f))) (Err f) = numbered-done f m in let z : ◌≡◌ {A = ℕ} 0 1 = cc in omega arith

pub done-by : (a : Answer) (r : Bool) → r ≡ is_ok a → r ≡ eqb (number a) 0
done-by (Ok d) r e = e
done-by (Err f) r e = e ∙ on (eqb (number (Err f)) 0) (λ m. absurd (refused-number f m)) (λ m. sym m)

-- ---- what an answer leaves of the states: r is what `is_done` found, and the code tested `!r`

module _ (a : Answer) (r : Bool) (e : r ≡ eqb (number a) 0) (ss : List ℕ) where
  pub not-renewed : not r ≡ true → ss ≡ cond (eqb (number a) 0) all_waiting ss
  not-renewed h = rw (← e, not-true r h)

  pub all-renewed : (s : List ℕ) → not r ≡ false → length ss ≡ vertex_limit → s ≡ paste ss 0 (replicate vertex_limit 0) vertex_limit
      → s ≡ cond (eqb (number a) 0) all_waiting ss
  all-renewed s h len q =
      rw (← e, not-false r h)
      (q ∙ ap₂ ◌++◌ (take_all vertex_limit (replicate vertex_limit 0) (rw length-replicate (omega arith)))
      (drop_of_length-le ss {i = 0 + vertex_limit} (omega arith)) ∙ append-nil _)

  pub not-followed : (live left : List ℕ) → not r ≡ true → ss ≡ followed a live ss left
  unfolding followed
  not-followed live left h = rw (← e, not-true r h)

  pub is-followed : (live left s : List ℕ) → not r ≡ false → s ≡ states_by (state_in live ss) left → s ≡ followed a live ss left
  unfolding followed
  is-followed live left s h q = rw (← e, not-false r h) q

  pub left-done : (numbers : List ℕ) (n : ℕ) (ws : List ℕ) → not r ≡ false → Followable a numbers n ws ss → Survivors numbers n ws
  left-done numbers n ws h f = f.left (sym e ∙ not-false r h)
