-- What is written: words at a place, the entries of a walk, the costs from a record. Assumes nothing.
use Rattle.std.specs.Prelude.{Ok, Err}
use mathlib.Core.Path.{◌≡◌, refl, sym, ap, ap₂, ◌∙◌, subst}
use mathlib.Core.Bool.{true, false}
use mathlib.Core.List.{List, [], ◌∷◌, ◌++◌, map, append_assoc, append-nil}
use Prim.Native.Nat.{ℕ, zero, suc, ◌+◌, ◌*◌, ◌-◌, ◌/◌, ◌≤◌, ◌<◌}
use native.Mathlib.Nat.{lt_irrefl, le_antisymm}
use native.Mathlib.Numerals.{add-one}
use native.Mathlib.Omega.{arith}
use lib.Dec.{eqb}
use lib.ListN.{length, get_or, take, drop, set, length-append, get_or-eq_default}
use lib.Seq.{drop-cons, drop-length, length-take-le, get_or-take}
use borrow.Author.Tests.{eq-eqb, ne_eqb}
use Rattle.lists.specs.Tests.{bit, count}
use Rattle.lists.specs.Lists.{tab, up_to, flat, over}
use Rattle.lists.specs.Inner.{over_at}
use Rattle.lists.proofs.Cases.{on}
use Rattle.lists.proofs.Chosen.{over_none, over-part, over-length}
use Rattle.lists.proofs.OverAt.{over-at-none, length-over-at, over-at-join, over-at-more, over-at-pair}
use Rattle.lists.proofs.Count.{count-upto}
use Rattle.lists.proofs.Maps.{map-length}
use Rattle.lists.proofs.Flat.{flat-snoc, tab-getD}
use Rattle.lists.proofs.Memb.{memb-getD, below-memb}
use Rattle.lists.proofs.Tab.{tab-suc, getD-tab, length-tab}
use Rattle.layout.specs.declared.Refusal.TheVariants.{NoRoom}
use Rattle.layout.specs.Content.{Hyperedge, Table, live_vertices, no_hyperedge}
use Rattle.layout.specs.Layout.{limit, vertex_count, vertex_word, hyperedge_count, hyperedge_at, read_hyperedges, read}
use Rattle.layout.specs.Inner.{Formed}
use Rattle.layout.specs.Answers.{result_of, listed}
use Rattle.layout.proofs.Answers.{listed-over, listed-fits}
use Rattle.layout.proofs.Read.{live-length, live_at}
use Rattle.steps.specs.Matrices.{number_of}
use Rattle.steps.specs.Inner.{cell}
use Rattle.paths.specs.Paths.{hyperedge_by, step_hyperedge, low, high, no_number, entries_after, cost_to, costs_from}
use Rattle.paths.specs.Choices.{Chosen}
use Rattle.paths.specs.Written.{Laid, no_path, path_head, step_words, is_reached, key_words, keys_below, WroteAt}
use Rattle.paths.proofs.Values.{value-at}

-- ---- words at a place

-- what follows words that were written
pub laid_on : (w xs d out : List ℕ) (at : ℕ) → out ≡ over w d → length w ≡ at → over_at at xs out ≡ over (w ++ xs) d
unfolding over_at
laid_on w xs d out at e h = rw e (over-part w xs d at h)

pub three-words : (out : List ℕ) (at a b c : ℕ) → at + 3 ≤ length out → set (set (set out at a) (at + 1) b) (at + 2) c ≡ over_at at (a ∷ b ∷ c ∷ []) out
three-words out at a b c l =
    ap (λ (d : List ℕ). set d (at + 2) c) (over-at-pair out at a b (omega arith)) ∙ over-at-more at (a ∷ b ∷ []) out (omega arith) c (omega arith)

-- ---- the pair

module _ (out : List ℕ) where
  pub none_over : length out < 3 → result_of (Err (NoRoom 3)) out ≡ listed no_path out
  none_over l = listed-over no_path out 3 refl l

  none-words : (d : List ℕ) → 3 ≤ length d → set (set (set d 0 0) 1 0) 2 0 ≡ over no_path d
  unfolding over
  none-words [] l = absurd (lt_irrefl 0 (omega arith))
  none-words (a ∷ []) l = absurd (lt_irrefl 0 (omega arith))
  none-words (a ∷ b ∷ []) l = absurd (lt_irrefl 0 (omega arith))
  none-words (a ∷ b ∷ c ∷ d) l = refl

  pub none-fits : 3 ≤ length out → result_of (Ok 3) (set (set (set out 0 0) 1 0) 2 0) ≡ listed no_path out
  none-fits l = listed-fits no_path out 3 refl (set (set (set out 0 0) 1 0) 2 0) l (none-words out l)

pub head-words : (cost count x : ℕ) (out : List ℕ) → 5 ≤ length out
    → set (set (set (set (set out 0 (low cost)) 1 (high cost)) 2 count) 3 x) 4 no_number ≡ over (path_head cost count x) out
unfolding over
head-words cost count x [] l = absurd (lt_irrefl 0 (omega arith))
head-words cost count x (a ∷ []) l = absurd (lt_irrefl 0 (omega arith))
head-words cost count x (a ∷ b ∷ []) l = absurd (lt_irrefl 0 (omega arith))
head-words cost count x (a ∷ b ∷ c ∷ []) l = absurd (lt_irrefl 0 (omega arith))
head-words cost count x (a ∷ b ∷ c ∷ d ∷ []) l = absurd (lt_irrefl 0 (omega arith))
head-words cost count x (a ∷ b ∷ c ∷ d ∷ e ∷ out) l = refl

-- the head keeps the slice's length
pub head-room : (cost count x : ℕ) (out mid : List ℕ) (k : ℕ) → mid ≡ over (path_head cost count x) out → 5 + k ≤ length out → 5 + k ≤ length mid
head-room cost count x out mid k e l = omega (arith, ap length e, over-length (path_head cost count x) out (omega arith))

-- the number at a place: k is the place, n what `hyperedge_count` found
module _ (ws : List ℕ) (h : ℕ) where
  pub number-none : h ≡ 0 → 0 ≡ (hyperedge_by (read limit ws) h).number
  number-none e = rw e

  pub number_past : (n : ℕ) → n ≡ hyperedge_count ws → n < h → 0 ≡ (hyperedge_by (read limit ws) h).number
  number_past n e l = past h l
    where
      past : (k : ℕ) → n < k → 0 ≡ (hyperedge_by (read limit ws) k).number
      past zero q = absurd (lt_irrefl 0 (omega arith))
      past (suc j) q = sym (ap (λ (r : Hyperedge). r.number) (get_or-eq_default (read_hyperedges limit ws) no_hyperedge {n = j} (omega (arith, length-tab (hyperedge_at limit ws) (hyperedge_count ws)))))

  pub number-here : (n r : ℕ) → n ≡ hyperedge_count ws → h ≤ n → (h ≡ 0 → ⊥) → r ≡ (hyperedge_at limit ws (h - 1)).number → r ≡ (hyperedge_by (read limit ws) h).number
  number-here n r e l ne er =
      let q : suc (h - 1) ≡ h = omega (arith, ne) in
      er ∙ sym (ap (λ (q : Hyperedge). q.number) (getD-tab (hyperedge_at limit ws) (hyperedge_count ws) (h - 1) no_hyperedge (omega (arith, ne))))
      ∙ ap (λ (k : ℕ). (hyperedge_by (read limit ws) k).number) q

-- the entry of a step: p and q are what `vertex_number` and `number_at` found
pub step_words_lem : {ws : List ℕ} → Formed limit ws → (c : List ℕ) → Chosen true ws c → (a b : ℕ) → a < vertex_count ws → b < vertex_count ws
    → (p : ℕ) → p ≡ get_or ws (vertex_word b) 0 → (q : ℕ) → q ≡ (hyperedge_by (read limit ws) (get_or c (cell b a) 0)).number
    → (at : ℕ) (out exit : List ℕ) → exit ≡ over_at at (p ∷ q ∷ []) out → exit ≡ over_at at (step_words (read limit ws) a (b ∷ [])) out
unfolding entries_after step_hyperedge
step_words_lem {ws} f c h a b la lb p ep q eq at out exit e =
    e ∙ ap₂ (λ (x y : ℕ). over_at at (x ∷ y ∷ []) out)
    (ep ∙ sym (live_at limit ws b lb))
    (eq ∙ ap (λ (k : ℕ). (hyperedge_by (read limit ws) k).number) (value-at h f.shape.vertices-le b a lb la))

module _ {n steps : ℕ} {o : List ℕ} (w : Laid n steps o) (le : n ≤ 256) where
  pub laid-size : length (take steps o) ≡ steps
  laid-size = length-take-le steps o (omega (arith, w.short, w.long))

  pub laid-at : (k : ℕ) → k < steps → get_or o k 0 < n
  laid-at k h =
      subst (λ (x : ℕ). x < n) (get_or-take steps o k 0 h) (below-memb n (take steps o) w.below (get_or (take steps o) k 0) (memb-getD (take steps o) k (omega (arith, laid-size))))

-- k entries after the first are written, and a is the last record
pub record Putting (t : Table) (n i : ℕ) (l out₀ : List ℕ) (k a : ℕ) (out : List ℕ) : Type 0 where
  pub within : k ≤ length l
  pub below : a < n
  pub same : length out ≡ length out₀
  pub done : List ℕ
  pub wrote : out ≡ over_at 5 done out₀
  pub size : length done ≡ k * 2
  pub left : done ++ step_words t a (drop k l) ≡ step_words t i l

module _ (t : Table) (n i : ℕ) (l out₀ : List ℕ) (room : 5 + length l * 2 ≤ length out₀) where
  pub putting-first : i < n → Putting t n i l out₀ 0 i out₀
  putting-first h = record {
    within = omega arith;
    below = h;
    same = refl;
    done = [];
    wrote = sym (over-at-none 5 out₀);
    size = refl;
    left = refl;
  }

  module _ {k a : ℕ} {out : List ℕ} (p : Putting t n i l out₀ k a out) where
    pub putting-more : (b : ℕ) → k < length l → b < n → b ≡ get_or l k 0 → (next : List ℕ) → next ≡ over_at (5 + k * 2) (step_words t a (b ∷ [])) out
        → Putting t n i l out₀ (k + 1) b next
    unfolding entries_after
    putting-more b h hb eb next e = record {
      within = omega arith;
      below = hb;
      same = ap length e ∙ length-over-at (5 + k * 2) (step_words t a (b ∷ [])) out (omega (arith, p.same)) ∙ p.same;
      done = p.done ++ step_words t a (b ∷ []);
      wrote = e ∙ ap₂ (λ (at : ℕ) (d : List ℕ). over_at at (step_words t a (b ∷ [])) d) (ap (λ (z : ℕ). 5 + z) (sym p.size)) p.wrote
          ∙ over-at-join 5 p.done out₀ (omega (arith, p.size)) (step_words t a (b ∷ []));
      size = omega (arith, length-append p.done (step_words t a (b ∷ [])), p.size);
      left = append_assoc p.done (step_words t a (b ∷ [])) (step_words t b (drop (k + 1) l))
          ∙ ap (λ (r : List ℕ). p.done ++ r) (ap (λ (j : ℕ). step_words t a (b ∷ drop j l)) (add-one k) ∙ ap (λ (v : ℕ). step_words t a (v ∷ drop (suc k) l)) eb ∙ ap (step_words t a) (sym (drop-cons l k 0 h)))
          ∙ p.left;
    }

    pub putting-end : length l ≤ k → out ≡ over_at 5 (step_words t i l) out₀
    unfolding entries_after
    putting-end h =
        p.wrote
        ∙ ap (λ (w : List ℕ). over_at 5 w out₀)
        (sym (append-nil p.done) ∙ ap (λ (r : List ℕ). p.done ++ step_words t a r) (sym (ap (λ (j : ℕ). drop j l) (le_antisymm p.within h) ∙ drop-length l)) ∙ p.left)

entries-length : (t : Table) (x : ℕ) (l : List ℕ) → length (entries_after t x l) ≡ length l * 2
unfolding entries_after
entries-length t x [] = refl
entries-length t x (v ∷ l) = omega (arith, entries-length t v l)

-- the whole: x is what `vertex_number` found of record i
module _ (ws : List ℕ) (i : ℕ) (cost steps : ℕ) (o : List ℕ) (h : Laid (vertex_count ws) steps o) (f : Formed limit ws) where
  abbrev walk_words : List ℕ
  walk_words = path_head cost (steps + 1) (number_of (read limit ws) i) ++ step_words (read limit ws) i (take steps o)

  needed : 5 + steps * 2 ≡ length walk_words
  needed =
      omega (arith, entries-length (read limit ws) (number_of (read limit ws) i) (map (number_of (read limit ws)) (take steps o)), map-length (number_of (read limit ws)) (take steps o), laid-size h f.shape.vertices-le)

  pub walk-over : (out : List ℕ) → length out < 5 + steps * 2 → result_of (Err (NoRoom (5 + steps * 2))) out ≡ listed walk_words out
  walk-over out l = listed-over walk_words out (5 + steps * 2) needed l

  pub walk-fits : (out : List ℕ) → 5 + steps * 2 ≤ length out → i < vertex_count ws → (x : ℕ) → x ≡ get_or ws (vertex_word i) 0
      → (mid : List ℕ) → mid ≡ over (path_head cost (steps + 1) x) out → (exit : List ℕ) → exit ≡ over_at 5 (step_words (read limit ws) i (take steps o)) mid
      → result_of (Ok (5 + steps * 2)) exit ≡ listed walk_words out
  walk-fits out l hi x ex mid em exit ee =
      listed-fits walk_words out (5 + steps * 2) needed exit l
      (ee ∙ laid_on (path_head cost (steps + 1) (number_of (read limit ws) i)) (step_words (read limit ws) i (take steps o)) out mid 5
      (em ∙ ap (λ (z : ℕ). over (path_head cost (steps + 1) z) out) (ex ∙ sym (live_at limit ws i hi))) refl)

-- ---- the costs

module _ (mark : ℕ) where
  pub reached-yes : mark ≡ 2 → 1 ≡ bit (eqb mark 2)
  reached-yes e = rw (eq-eqb mark 2 e)

  pub reached-no : (mark ≡ 2 → ⊥) → 0 ≡ bit (eqb mark 2)
  reached-no e = rw (ne_eqb mark 2 e)

-- k is the count so far, r what `one_reached` found
module _ (m : List ℕ) (v k : ℕ) (e : k ≡ count (is_reached m) v) where
  pub count_next : (r : ℕ) → r ≡ bit (eqb (get_or m v 0) 2) → k + r ≡ count (is_reached m) (v + 1)
  count_next r er = rw (add-one v) (omega (arith, e, er))

  pub count-all : (n : ℕ) → v ≤ n → n ≤ v → k ≡ count (is_reached m) n
  count-all n a b = e ∙ ap (count (is_reached m)) (le_antisymm a b)

-- p is what `vertex_number` found of record v
pub cost-laid : (ws : List ℕ) (v key : ℕ) → v < vertex_count ws → (p : ℕ) → p ≡ get_or ws (vertex_word v) 0 → (at : ℕ) (out exit : List ℕ)
    → exit ≡ over_at at (p ∷ low (key / 65536) ∷ high (key / 65536) ∷ []) out → exit ≡ over_at at (number_of (read limit ws) v ∷ low (key / 65536) ∷ high (key / 65536) ∷ []) out
cost-laid ws v key h p e at out exit q = q ∙ ap (λ (x : ℕ). over_at at (x ∷ low (key / 65536) ∷ high (key / 65536) ∷ []) out) (e ∙ sym (live_at limit ws v h))

module _ (t : Table) (m d : List ℕ) (v : ℕ) where
  pub record-no : (at : ℕ) (out : List ℕ) → at + 3 * bit (is_reached m v) ≤ length out → (get_or m v 0 ≡ 2 → ⊥) → WroteAt at (key_words t m d v) out at out
  unfolding key_words
  record-no at out l h =
      let e : is_reached m v ≡ false = ne_eqb (get_or m v 0) 2 h in
      record {
        wrote = rw e (sym (over-at-none at out));
        after = rw e (omega arith);
      }

  pub record-yes : (at : ℕ) (out exit : List ℕ) → get_or m v 0 ≡ 2 → exit ≡ over_at at (number_of t v ∷ low (get_or d v 0 / 65536) ∷ high (get_or d v 0 / 65536) ∷ []) out
      → WroteAt at (key_words t m d v) out (at + 3) exit
  unfolding key_words
  record-yes at out exit h q = let e : is_reached m v ≡ true = eq-eqb (get_or m v 0) 2 h in record { wrote = rw e q; after = rw e }

pub record-room : (m : List ℕ) (v at : ℕ) (out : List ℕ) → at + 3 * bit (is_reached m v) ≤ length out → get_or m v 0 ≡ 2 → at + 3 ≤ length out
record-room m v at out l h = omega (arith, ap bit (eq-eqb (get_or m v 0) 2 h))

module _ (t : Table) (m d : List ℕ) where
  words-length : (v : ℕ) → length (key_words t m d v) ≡ 3 * bit (is_reached m v)
  unfolding key_words
  words-length v = on (is_reached m v) (λ e. rw e) (λ e. rw e)

  keys-more : (k : ℕ) → keys_below t m d (suc k) ≡ keys_below t m d k ++ key_words t m d k
  unfolding keys_below
  keys-more k = ap (flat (key_words t m d)) (tab-suc (λ (v : ℕ). v) k) ∙ flat-snoc (key_words t m d) (up_to k) k

  pub keys_length : (k : ℕ) → length (keys_below t m d k) ≡ count (is_reached m) k * 3
  unfolding keys_below tab flat
  keys_length zero = refl
  keys_length (suc k) = omega (arith, ap length (keys-more k), length-append (keys_below t m d k) (key_words t m d k), keys_length k, words-length k)

  -- the words of the records below v are written
  pub record Keyed (out₀ : List ℕ) (v at : ℕ) (out : List ℕ) : Type 0 where
    pub same : length out ≡ length out₀
    pub wrote : out ≡ over (keys_below t m d v) out₀
    pub place : at ≡ length (keys_below t m d v)

  pub keyed-first : (out₀ : List ℕ) → Keyed out₀ 0 0 out₀
  unfolding keys_below tab flat
  keyed-first out₀ = record { same = refl; wrote = sym (over_none out₀); place = refl }

  module _ {out₀ : List ℕ} {v at : ℕ} {out : List ℕ} (h : Keyed out₀ v at out) (n : ℕ) (room : count (is_reached m) n * 3 ≤ length out₀) where
    pub keyed-room : v < n → at + 3 * bit (is_reached m v) ≤ length out
    keyed-room l =
        omega (arith, h.same, h.place, keys_length v, keys_length (suc v), count-upto (is_reached m) n (suc v) (omega arith), ap length (keys-more v), length-append (keys_below t m d v) (key_words t m d v), words-length v)

    pub keyed-more : v < n → (next : ℕ) (exit : List ℕ) → WroteAt at (key_words t m d v) out next exit → Keyed out₀ (v + 1) next exit
    keyed-more l next exit p = record {
      same = ap length p.wrote ∙ length-over-at at (key_words t m d v) out (omega (arith, keyed-room l, words-length v)) ∙ h.same;
      wrote = p.wrote ∙ laid_on (keys_below t m d v) (key_words t m d v) out₀ out at h.wrote (sym h.place) ∙ ap (λ (w : List ℕ). over w out₀) (sym (keys-more v) ∙ ap (keys_below t m d) (sym (add-one v)));
      place = p.after ∙ omega (arith, h.place, length-append (keys_below t m d v) (key_words t m d v), ap length (keys-more v), ap (λ (k : ℕ). length (keys_below t m d k)) (add-one v));
    }

    pub keyed-end : v ≤ n → n ≤ v → out ≡ over (keys_below t m d n) out₀
    keyed-end a b = h.wrote ∙ ap (λ (k : ℕ). over (keys_below t m d k) out₀) (le_antisymm a b)

-- the listing is what is written: every record's words are its vertex's
module _ (ws : List ℕ) (x : ℕ) (m d : List ℕ)
    (h : (v : ℕ) → v < vertex_count ws → cost_to (read limit ws) x (number_of (read limit ws) v) ≡ key_words (read limit ws) m d v) where
  each : (k : ℕ) → k ≤ vertex_count ws → flat (cost_to (read limit ws) x) (tab (number_of (read limit ws)) k) ≡ keys_below (read limit ws) m d k
  unfolding keys_below tab flat
  each zero l = refl
  each (suc k) l =
      ap (flat (cost_to (read limit ws) x)) (tab-suc (number_of (read limit ws)) k)
      ∙ flat-snoc (cost_to (read limit ws) x) (tab (number_of (read limit ws)) k) (number_of (read limit ws) k)
      ∙ ap₂ ◌++◌ (each k (omega arith)) (h k (omega arith)) ∙ sym (keys-more (read limit ws) m d k)

  costs-are : costs_from (read limit ws) x ≡ keys_below (read limit ws) m d (vertex_count ws)
  unfolding costs_from
  costs-are =
      ap (flat (cost_to (read limit ws) x)) (sym (tab-getD (live_vertices (read limit ws)) 0) ∙ ap (tab (number_of (read limit ws))) (live-length limit ws))
      ∙ each (vertex_count ws) (omega arith)

  -- k is what `count_reached` found
  module _ (n k : ℕ) (en : n ≡ vertex_count ws) (ek : k ≡ count (is_reached m) n) (out : List ℕ) where
    counted : k * 3 ≡ length (costs_from (read limit ws) x)
    counted = omega (arith, ek, ap (count (is_reached m)) en, keys_length (read limit ws) m d (vertex_count ws), ap length costs-are)

    pub costs-over : length out < k * 3 → result_of (Err (NoRoom (k * 3))) out ≡ listed (costs_from (read limit ws) x) out
    costs-over l = listed-over (costs_from (read limit ws) x) out (k * 3) counted l

    pub costs-fits : k * 3 ≤ length out → (exit : List ℕ) → exit ≡ over (keys_below (read limit ws) m d n) out → result_of (Ok (k * 3)) exit ≡ listed (costs_from (read limit ws) x) out
    costs-fits l exit e =
        listed-fits (costs_from (read limit ws) x) out (k * 3) counted exit l
        (e ∙ ap (λ (j : ℕ). over (keys_below (read limit ws) m d j) out) en ∙ ap (λ (w : List ℕ). over w out) (sym costs-are))
