-- The lists of the steps while the matrix of choices is filled: none, a step more, a choice changed. Assumes nothing.
use mathlib.Core.Path.{◌≡◌, sym, ap, ◌∙◌, subst}
use mathlib.Core.Bool.{true, false, not}
use mathlib.Core.List.{List}
use Prim.Native.Nat.{ℕ, suc, ◌+◌, ◌*◌, ◌≤◌, ◌<◌}
use native.Mathlib.Nat.{lt_irrefl}
use native.Mathlib.Omega.{arith}
use lib.Dec.{eqb}
use lib.ListN.{length, get_or, set, length-set, replicate, length-replicate, get_or-replicate}
use lib.Seq.{get_or-set_same, get_or-set_other}
use borrow.Author.Tests.{eq-eqb, ne_eqb}
use Rattle.lists.proofs.Cases.{on_same, clash}
use Rattle.lists.proofs.Count.{count-ext, count-flip, count-lt, count_none}
use Rattle.distance.specs.Cost.{choice_in, step_in, step_count, Listed}
use Rattle.distance.proofs.Cost.{count_small}

-- ---- no step

none_in : (u v : ℕ) → u < 256 → v < 256 → step_in (replicate 65536 0) u v ≡ false
none_in u v lu lv = ap (λ (x : ℕ). not (eqb x 0)) (get_or-replicate {A = ℕ} 65536 (u * 256 + v) 0 0 (omega arith))

none-counted : (u : ℕ) → u < 256 → step_count (replicate 65536 0) u ≡ 0
unfolding step_count
none-counted u lu = count_none (step_in (replicate 65536 0) u) 256 (λ v lv. none_in u v lu lv)

pub listed-none : (lists : List ℕ) → length lists ≡ 65536 → Listed (replicate 65536 0) lists (replicate 256 0)
listed-none lists e = record {
  sized = e;
  rows = length-replicate {A = ℕ} 256 0;
  counted = λ u lu. zero u lu ∙ sym (none-counted u lu);
  each = λ u i lu l. absurd (lt_irrefl i (omega (arith, zero u lu)));
  all = λ u v lu lv t. clash t (none_in u v lu lv);
}
  where
    zero : (u : ℕ) → u < 256 → ◌≡◌ {A = ℕ} (get_or (replicate 256 0) u 0) 0
    zero u lu = get_or-replicate {A = ℕ} 256 u 0 0 lu

-- ---- the same steps

count_same : (c c' : List ℕ) (u : ℕ) → ((v : ℕ) → v < 256 → step_in c u v ≡ step_in c' u v) → step_count c u ≡ step_count c' u
unfolding step_count
count_same c c' u h = count-ext (step_in c u) (step_in c' u) 256 h

listed_same : {c lists counts : List ℕ} (c' : List ℕ) → ((u v : ℕ) → u < 256 → v < 256 → step_in c u v ≡ step_in c' u v) → Listed c lists counts → Listed c' lists counts
listed_same {c} {lists} c' h g = record {
  sized = g.sized;
  rows = g.rows;
  counted = λ u lu. g.counted u lu ∙ count_same c c' u (λ v lv. h u v lu lv);
  each = λ u i lu l. let r = g.each u i lu l in (r.0, sym (h u (get_or lists (u * 256 + i) 0) lu r.0) ∙ r.1);
  all = λ u v lu lv t. g.all u v lu lv (h u v lu lv ∙ t);
}

some-step : (x : ℕ) → (x ≡ 0 → ⊥) → not (eqb x 0) ≡ true
some-step x ne = ap not (ne_eqb x 0 ne)

module _ (c lists counts : List ℕ) (g : Listed c lists counts) (long : length c ≡ 65536) (a b x : ℕ) (la : a < 256) (lb : b < 256) (some : 0 < x) where
  here : choice_in (set c (a * 256 + b) x) a b ≡ x
  here = get_or-set_same c (a * 256 + b) x 0 (omega arith)

  step-here : step_in (set c (a * 256 + b) x) a b ≡ true
  step-here = some-step (choice_in (set c (a * 256 + b) x) a b) (λ e. lt_irrefl 0 (omega (arith, here)))

  step_other : (u v : ℕ) → (u * 256 + v ≡ a * 256 + b → ⊥) → step_in (set c (a * 256 + b) x) u v ≡ step_in c u v
  step_other u v ne = ap (λ (z : ℕ). not (eqb z 0)) (get_or-set_other c (a * 256 + b) (u * 256 + v) x 0 ne)

  -- another choice for a step that there is
  pub listed_kept : (choice_in c a b ≡ 0 → ⊥) → Listed (set c (a * 256 + b) x) lists counts
  listed_kept old = listed_same (set c (a * 256 + b) x)
      (λ u v lu lv. on_same (u * 256 + v) (a * 256 + b)
      (λ e. some-step (choice_in c u v) (λ z. old (ap (λ (k : ℕ). get_or c k 0) (sym e) ∙ z)) ∙ sym (some-step (choice_in (set c (a * 256 + b) x) u v) (λ z. lt_irrefl 0 (omega (arith, here, sym (ap (λ (k : ℕ). get_or (set c (a * 256 + b) x) k 0) e) ∙ z)))))
      (λ ne. sym (step_other u v ne)))
      g

  module _ (new : choice_in c a b ≡ 0) where
    no_step_lem : step_in c a b ≡ false
    no_step_lem = ap not (eq-eqb (choice_in c a b) 0 new)

    count-below : step_count c a < 256
    unfolding step_count
    count-below = count-lt (step_in c a) b 256 lb no_step_lem

    -- there is room for one more
    pub listed-room : get_or counts a 0 < 256
    listed-room = omega (arith, g.counted a la, count-below)

    count-here : step_count (set c (a * 256 + b) x) a ≡ suc (step_count c a)
    unfolding step_count
    count-here = count-flip (step_in c a) (step_in (set c (a * 256 + b) x) a) b 256 lb no_step_lem step-here (λ v ne. step_other a v (λ e. ne (omega (arith, e))))

    kept : (u v : ℕ) → step_in c u v ≡ true → step_in (set c (a * 256 + b) x) u v ≡ true
    kept u v t = on_same (u * 256 + v) (a * 256 + b)
        (λ e. clash t (ap (λ (k : ℕ). not (eqb (get_or c k 0) 0)) e ∙ no_step_lem))
        (λ ne. step_other u v ne ∙ t)

    -- b at the end of the list of a
    pub listed_more : (lists' counts' : List ℕ) → lists' ≡ set lists (a * 256 + get_or counts a 0) b → counts' ≡ set counts a (get_or counts a 0 + 1)
        → Listed (set c (a * 256 + b) x) lists' counts'
    listed_more lists' counts' el ec = rw (el, ec) (record {
      sized = length-set lists at b ∙ g.sized;
      rows = length-set counts a (n + 1) ∙ g.rows;
      counted = λ u lu. on_same u a
          (λ e. subst (λ (i : ℕ). get_or (set counts a (n + 1)) i 0 ≡ step_count (set c (a * 256 + b) x) i) (sym e) (omega (arith, own, g.counted a la, count-here)))
          (λ ne. get_or-set_other counts a u (n + 1) 0 ne ∙ g.counted u lu ∙ count_same c (set c (a * 256 + b) x) u (λ v lv. sym (step_other u v (λ e. ne (omega (arith, e))))));
      each = λ u i lu l. on_same (u * 256 + i) at
          (λ e. subst (λ (z : ℕ). (z < 256) × (step_in (set c (a * 256 + b) x) u z ≡ true)) (sym (ap (λ (k : ℕ). get_or (set lists at b) k 0) e ∙ last))
          (lb, subst (λ (z : ℕ). step_in (set c (a * 256 + b) x) z b ≡ true) (sym (row u i lu l e)) step-here))
          (λ ne. let r = g.each u i lu (before u i lu l ne) in
          subst (λ (z : ℕ). (z < 256) × (step_in (set c (a * 256 + b) x) u z ≡ true)) (sym (get_or-set_other lists at (u * 256 + i) b 0 ne)) (r.0, kept u (get_or lists (u * 256 + i) 0) r.1));
      all = λ u v lu lv t. on_same (u * 256 + v) (a * 256 + b)
          (λ e. let p : u ≡ a = omega (arith, e) in let q : v ≡ b = omega (arith, e) in
          (n, omega (arith, own, ap (λ (k : ℕ). get_or (set counts a (n + 1)) k 0) p), ap (λ (k : ℕ). get_or (set lists at b) (k * 256 + n) 0) p ∙ last ∙ sym q))
          (λ ne. let r = g.all u v lu lv (sym (step_other u v ne) ∙ t) in
          (r.0, grown u r.0 r.1, get_or-set_other lists at (u * 256 + r.0) b 0 (λ e. apart u r.0 lu r.1 e) ∙ r.2));
    })
      where
        n : ℕ
        n = get_or counts a 0

        at : ℕ
        at = a * 256 + n

        room : n < 256
        room = listed-room

        own : get_or (set counts a (n + 1)) a 0 ≡ n + 1
        own = get_or-set_same counts a (n + 1) 0 (omega (arith, g.rows))

        last : get_or (set lists at b) at 0 ≡ b
        last = get_or-set_same lists at b 0 (omega (arith, g.sized, room))

        -- no list is longer than its places
        short : (u : ℕ) → u < 256 → get_or counts u 0 ≤ 256
        short u lu = omega (arith, g.counted u lu, count_small c u)

        short' : (u i : ℕ) → u < 256 → i < get_or (set counts a (n + 1)) u 0 → i < 256
        short' u i lu l = on_same u a
            (λ e. omega (arith, own, room, ap (λ (k : ℕ). get_or (set counts a (n + 1)) k 0) e))
            (λ ne. omega (arith, get_or-set_other counts a u (n + 1) 0 ne, short u lu))

        row : (u i : ℕ) → u < 256 → i < get_or (set counts a (n + 1)) u 0 → u * 256 + i ≡ at → u ≡ a
        row u i lu l e = omega (arith, room, short' u i lu l)

        before : (u i : ℕ) → u < 256 → i < get_or (set counts a (n + 1)) u 0 → (u * 256 + i ≡ at → ⊥) → i < get_or counts u 0
        before u i lu l ne = on_same u a
            (λ e. let k : get_or (set counts a (n + 1)) u 0 ≡ n + 1 = ap (λ (z : ℕ). get_or (set counts a (n + 1)) z 0) e ∙ own in
            let f : i ≡ n → ⊥ = λ q. ne (omega arith) in
            omega (arith, f, ap (λ (z : ℕ). get_or counts z 0) e))
            (λ d. omega (arith, get_or-set_other counts a u (n + 1) 0 d))

        grown : (u i : ℕ) → i < get_or counts u 0 → i < get_or (set counts a (n + 1)) u 0
        grown u i l = on_same u a
            (λ e. omega (arith, ap (λ (z : ℕ). get_or (set counts a (n + 1)) z 0) e, own, ap (λ (z : ℕ). get_or counts z 0) e))
            (λ ne. omega (arith, get_or-set_other counts a u (n + 1) 0 ne))

        apart : (u i : ℕ) → u < 256 → i < get_or counts u 0 → u * 256 + i ≡ at → ⊥
        apart u i lu l e =
            let p : u ≡ a = row u i lu (grown u i l) e in
            lt_irrefl n (omega (arith, ap (λ (z : ℕ). get_or counts z 0) p))
