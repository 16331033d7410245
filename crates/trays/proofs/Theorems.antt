-- Trays of the same records, trays one after the other, and what every tray keeps to. Assumes nothing.
use Rattle.std.specs.Prelude.{Ok}
use mathlib.Core.Path.{◌≡◌, sym, ap, ◌∙◌}
use mathlib.Core.Bool.{Bool, true, not, ◌||◌, or_self, or_assoc}
use mathlib.Core.Logic.{⊎_elim}
use mathlib.Core.List.{List, [], ◌∷◌, ◌++◌, map, map-append, append-nil}
use Prim.Native.Nat.{ℕ}
use lib.Dec.{eqb}
use Rattle.lists.specs.Lists.{all, any}
use Rattle.lists.proofs.Cases.{on, and_both}
use Rattle.lists.proofs.All.{all_join, all_append}
use Rattle.lists.proofs.Kept.{all_then, any-map}
use Rattle.walks.specs.Walks.{Reach, Closed}
use Rattle.layout.specs.Content.{live_hyperedges, is_live}
use Rattle.layout.specs.Layout.{limit, read}
use Rattle.layout.specs.WellFormed.{well_formed}
use Rattle.layout.specs.Steps.{StepIn}
use Rattle.layout.specs.Answers.{Result, result_of}
use Rattle.removals.specs.Orders.{Permutes}
use Rattle.removals.specs.Removals.{Removal, removal, remove, remove_all}
use Rattle.removals.proofs.Orders.{permutes-first, any-permutes}
use Rattle.removals.proofs.Theorems.{removals-formed, removals-same, removals-reach, removals-closed, vertex-was-live, hyperedge-was-live, removals-append, emptied-refused}
use Rattle.trays.specs.declared.Withdrawal.{Withdrawal}
use Rattle.trays.specs.Trays.{vertex_kind, hyperedge_kind, names_live, is_faulty, asked, tray}
use Rattle.trays.specs.Outcomes.{left, Accepted, Refused, all_live, Empties, SameRecords, SameEnd}
use Rattle.trays.proofs.Faults.{live-faultless}
use Rattle.trays.proofs.Answered.{kind_1, live-accepted, accepted-live, refused-faulty, all-or-none, left-removals}

-- ---- the same records

-- in another order
pub order_same : {rs ss : List Withdrawal} → Permutes rs ss → SameRecords rs ss
order_same q p = any-permutes p q

-- one of them once more, wherever it stands
repeat-same : {w : Withdrawal} {rs qs ss : List Withdrawal} → Permutes qs (w ∷ w ∷ rs) → Permutes ss (w ∷ rs) → SameRecords qs ss
unfolding any
repeat-same {w} {rs} twice once p =
    any-permutes p twice ∙ sym (or_assoc (p w) (p w) (any p rs)) ∙ ap (λ (b : Bool). b || any p rs) (or_self (p w)) ∙ sym (any-permutes p once)

module _ (ws : List ℕ) (formed : well_formed limit ws ≡ true) where
  done_end : (rs : List Withdrawal) → Accepted rs ws → tray rs ws ≡ result_of (Ok 0) (remove_all (map asked rs) ws)
  done_end rs a = live-accepted ws formed rs (accepted-live ws formed rs a)

  module _ (rs ss : List Withdrawal) (q : SameRecords rs ss) where
    live_same : all_live rs ws ≡ all_live ss ws
    unfolding all_live
    live_same = live-faultless (read limit ws) rs ∙ ap not (q (is_faulty (read limit ws))) ∙ sym (live-faultless (read limit ws) ss)

    removals-alike : remove_all (map asked rs) ws ≡ remove_all (map asked ss) ws
    removals-alike = removals-same ws formed (map asked rs) (map asked ss) (λ p. any-map asked p rs ∙ q (λ w. p (asked w)) ∙ sym (any-map asked p ss))

    accepted-alike : Accepted rs ws → tray ss ws ≡ tray rs ws
    accepted-alike a =
        live-accepted ws formed ss (sym live_same ∙ accepted-live ws formed rs a)
        ∙ ap (λ (s : List ℕ). result_of (Ok 0) s) (sym removals-alike) ∙ sym (done_end rs a)

  -- trays of the same records end alike, accepted or refused
  pub same_end : (rs ss : List Withdrawal) → SameRecords rs ss → SameEnd rs ss ws
  same_end rs ss q =
      ⊎_elim
      (λ a. equal (sym (accepted-alike rs ss q a.0)))
      (λ f. ⊎_elim
      (λ b. equal (accepted-alike ss rs (λ p. sym (q p)) b.0))
      (λ g. record { number = f.0 ∙ sym g.0; words = f.1 ∙ sym g.1 }) (all-or-none ws formed ss))
      (all-or-none ws formed rs)
    where
      equal : tray rs ws ≡ tray ss ws → SameEnd rs ss ws
      equal e = record { number = ap (λ (r : Result). r.number) e; words = ap (λ (r : Result). r.lent) e }

  -- every order of an accepted tray is accepted, with the same words at its end
  pub any_order : {rs ss : List Withdrawal} → Permutes rs ss → Accepted rs ws → tray ss ws ≡ tray rs ws
  any_order {rs} {ss} q a = accepted-alike rs ss (order_same q) a

  -- every order of a refused tray is refused, and nothing changes
  pub any-order-refused : {rs ss : List Withdrawal} → Permutes rs ss → Refused rs ws → Refused ss ws × (left ss ws ≡ ws)
  any-order-refused {rs} {ss} q f =
      let e = same_end rs ss (order_same q) in (sym e.number ∙ f, sym e.words ∙ (refused-faulty ws formed rs f).1)

  -- a record may be repeated: of two trays with the same records, but w once more in the one, both are accepted or none, with the same words at their end
  pub repeat-allowed : {w : Withdrawal} {rs qs ss : List Withdrawal} → Permutes qs (w ∷ w ∷ rs) → Permutes ss (w ∷ rs) → SameEnd qs ss ws
  repeat-allowed {qs = qs} {ss = ss} twice once = same_end qs ss (repeat-same twice once)

  -- ---- single removals

  -- the end of an accepted tray is that of its removals, one call after the other, in any order
  pub single-removals : {rs ss : List Withdrawal} → Permutes rs ss → Accepted rs ws → left rs ws ≡ remove_all (map asked ss) ws
  single-removals {rs} {ss} q a = ap (λ (r : Result). r.lent) (done_end rs a) ∙ removals-alike rs ss (order_same q)

  -- a hyperedge counts as withdrawn where the tray withdraws its members as well: its record changes neither answer nor end, wherever it stands
  module _ (xs ys : List Withdrawal) (w : Withdrawal) (kind : w.kind ≡ 1) where
    last-instead : remove_all (map asked (xs ++ (w ∷ ys))) ws ≡ remove_all (map asked ((xs ++ ys) ++ (w ∷ []))) ws
    last-instead =
        removals-alike _ _ (order_same (permutes-first w xs ys))
        ∙ ap (λ (r : List Withdrawal). remove_all (map asked (w ∷ r)) ws) (sym (append-nil (xs ++ ys)))
        ∙ sym (removals-alike _ _ (order_same (permutes-first w (xs ++ ys) [])))

    emptied-before : Empties (xs ++ ys) w.number ws → remove_all (map asked (xs ++ (w ∷ ys))) ws ≡ remove_all (map asked (xs ++ ys)) ws
    unfolding remove_all remove
    emptied-before e =
        last-instead ∙ ap (λ (r : List Removal). remove_all r ws) (map-append asked (xs ++ ys) (w ∷ []))
        ∙ removals-append (map asked (xs ++ ys)) (asked w ∷ []) ws
        ∙ ap (λ (r : Removal). (removal r (remove_all (map asked (xs ++ ys)) ws)).lent) (kind_1 (read limit ws) w kind).1
        ∙ ap (λ (r : Result). r.lent) (emptied-refused (map asked (xs ++ ys)) w.number ws formed e)

    pub emptied-withdrawn : is_live (live_hyperedges (read limit ws)) w.number ≡ true → Empties (xs ++ ys) w.number ws → Accepted (xs ++ ys) ws
        → tray (xs ++ (w ∷ ys)) ws ≡ tray (xs ++ ys) ws
    unfolding all_live all
    emptied-withdrawn l e a =
        let t = read limit ws in
        let p = all_append (names_live t) xs ys (accepted-live ws formed (xs ++ ys) a) in
        live-accepted ws formed (xs ++ (w ∷ ys)) (all_join (names_live t) xs (w ∷ ys) p.0 (and_both _ _ ((kind_1 t w kind).0 ∙ l) p.1))
        ∙ ap (λ (s : List ℕ). result_of (Ok 0) s) (emptied-before e) ∙ sym (done_end (xs ++ ys) a)

  -- ---- one tray after the other

  -- what a record names after removals it named before
  named-before : (qs : List Removal) (w : Withdrawal) → names_live (read limit (remove_all qs ws)) w ≡ true → names_live (read limit ws) w ≡ true
  unfolding names_live
  named-before qs w l =
      on (eqb w.kind vertex_kind)
      (λ k. rw k (vertex-was-live ws formed qs w.number (rw k at l)))
      (λ k. on (eqb w.kind hyperedge_kind)
      (λ m. rw (k, m) (hyperedge-was-live ws formed qs w.number (rw (k, m) at l)))
      (λ m. rw (k, m) (rw (k, m) at l)))

  -- two trays, the second accepted on what the first leaves, may be handed in as one
  pub two-as-one : (rs ss : List Withdrawal) → Accepted rs ws → Accepted ss (left rs ws) → tray (rs ++ ss) ws ≡ tray ss (left rs ws)
  unfolding all_live
  two-as-one rs ss a b =
      let t = read limit ws in
      let s : List ℕ = remove_all (map asked rs) ws in
      let e : left rs ws ≡ s = ap (λ (r : Result). r.lent) (done_end rs a) in
      let f : well_formed limit s ≡ true = removals-formed ws formed (map asked rs) in
      let l : all (names_live (read limit s)) ss ≡ true = accepted-live s f ss (rw e at b) in
      live-accepted ws formed (rs ++ ss) (all_join (names_live t) rs ss (accepted-live ws formed rs a) (all_then _ (names_live t) ss (named-before (map asked rs)) l))
      ∙ ap (λ (u : List ℕ). result_of (Ok 0) u) (ap (λ (r : List Removal). remove_all r ws) (map-append asked rs ss) ∙ removals-append (map asked rs) (map asked ss) ws)
      ∙ sym (live-accepted s f ss l) ∙ ap (tray ss) (sym e)

  -- ---- every tray, accepted or refused

  -- what it leaves is well formed
  pub tray-formed : (rs : List Withdrawal) → well_formed limit (left rs ws) ≡ true
  tray-formed rs = let q = left-removals ws formed rs in rw q.1 (removals-formed ws formed q.0)

  -- what can be reached afterwards could be reached before
  pub tray-reach : (rs : List Withdrawal) (x y : ℕ) → Reach (StepIn (read limit (left rs ws))) x y → Reach (StepIn (read limit ws)) x y
  tray-reach rs x y k = let q = left-removals ws formed rs in removals-reach ws formed q.0 x y (rw q.1 at k)

  -- a closed walk afterwards was one before
  pub tray-closed : (rs : List Withdrawal) → Closed (StepIn (read limit (left rs ws))) → Closed (StepIn (read limit ws))
  tray-closed rs c = let q = left-removals ws formed rs in removals-closed ws formed q.0 (rw q.1 at c)
