-- The records of a listing, and their numbers as they are written. Assumes nothing.
use Rattle.std.specs.Prelude.{Ok, Err}
use mathlib.Core.Path.{◌≡◌, refl, sym, ap, ◌∙◌, subst}
use mathlib.Core.List.{List, map}
use Prim.Native.Nat.{ℕ, ◌+◌, ◌≤◌, ◌<◌}
use native.Mathlib.Nat.{le_antisymm}
use native.Mathlib.Numerals.{add-one}
use native.Mathlib.Omega.{arith}
use lib.ListN.{length, get_or, take, set, length-set, length-take}
use lib.Seq.{take-suc, length-take-le, get_or-take}
use Rattle.lists.specs.Lists.{over}
use Rattle.lists.proofs.Maps.{map-length, map_snoc}
use Rattle.lists.proofs.Chosen.{over_none, over-more}
use Rattle.lists.proofs.Memb.{memb-getD, below-memb}
use Rattle.layout.specs.declared.Refusal.TheVariants.{NoRoom}
use Rattle.layout.specs.Layout.{limit, vertex_count, vertex_word, read}
use Rattle.layout.specs.Answers.{result_of, listed}
use Rattle.layout.proofs.Answers.{listed-over, listed-fits}
use Rattle.layout.proofs.Read.{live_at}
use Rattle.steps.specs.Matrices.{number_of}
use Rattle.steps.specs.Ordered.{Ordered}

pub ordered-take : {n c : ℕ} {order l : List ℕ} → Ordered n c order l → Ordered n c order (take c order)
ordered-take {n} {c} {order} o = subst (λ (k : List ℕ). Ordered n c order k) (sym o.first) o

-- ---- the loop that writes their numbers: after k of them

pub record Wrote (f : ℕ → ℕ) (order out₀ : List ℕ) (k : ℕ) (out : List ℕ) : Type 0 where
  pub same : length out ≡ length out₀
  pub wrote : out ≡ over (map f (take k order)) out₀

pub wrote_none : (f : ℕ → ℕ) (order out₀ : List ℕ) → Wrote f order out₀ 0 out₀
wrote_none f order out₀ = record { same = refl; wrote = sym (over_none out₀) }

module _ {n c : ℕ} {order : List ℕ} (o : Ordered n c order (take c order)) where
  ordered-long : c ≤ length order
  ordered-long = let e : c ≡ length (take c order) = o.count in omega (arith, length-take c order)

  pub ordered_at : (k : ℕ) → k < c → get_or order k 0 < n
  ordered_at k h =
      subst (λ (x : ℕ). x < n) (get_or-take c order k 0 h) (below-memb n (take c order) o.below (get_or (take c order) k 0) (memb-getD (take c order) k (omega (arith, o.count))))

  pub wrote-more : {f : ℕ → ℕ} {out₀ : List ℕ} {k x : ℕ} {out next : List ℕ} → Wrote f order out₀ k out → k < c → c ≤ length out₀ → x ≡ f (get_or order k 0) → next ≡ set out k x
      → Wrote f order out₀ (k + 1) next
  wrote-more {f} {out₀} {k} {x} {out} {next} w h l ex en = record {
    same = rw (en, length-set) w.same;
    wrote = en ∙ rw (
      ex,
      w.wrote,
      over-more (map f (take k order)) out₀ (f (get_or order k 0)) k (map-length f (take k order) ∙ length-take-le k order (omega (arith, ordered-long))) (omega arith),
      add-one k,
      take-suc order k 0 (omega (arith, ordered-long)),
      map_snoc,
    );
  }

pub wrote-end : {f : ℕ → ℕ} {order out₀ : List ℕ} {k : ℕ} {out : List ℕ} (c : ℕ) → Wrote f order out₀ k out → k ≤ c → c ≤ k → out ≡ over (map f (take c order)) out₀
wrote-end {f} {order} {out₀} c w a b = w.wrote ∙ ap (λ (i : ℕ). over (map f (take i order)) out₀) (le_antisymm a b)

-- the number of a record, as the code reads it
pub number_at : (ws : List ℕ) {c : ℕ} {order : List ℕ} → Ordered (vertex_count ws) c order (take c order) → (k x : ℕ) → k < c → x ≡ get_or ws (vertex_word (get_or order k 0)) 0
    → x ≡ number_of (read limit ws) (get_or order k 0)
number_at ws {c} {order} o k x h e = e ∙ sym (live_at limit ws (get_or order k 0) (ordered_at o k h))

-- ---- answers

module _ (f : ℕ → ℕ) {n c : ℕ} {order : List ℕ} (o : Ordered n c order (take c order)) where
  counted : c ≡ length (map f (take c order))
  counted = o.count ∙ sym (map-length f (take c order))

  pub records-over : (out : List ℕ) → length out < c → result_of (Err (NoRoom c)) out ≡ listed (map f (take c order)) out
  records-over out h = listed-over _ out c counted h

  pub records-fit : (out exit : List ℕ) → c ≤ length out → exit ≡ over (map f (take c order)) out → result_of (Ok c) exit ≡ listed (map f (take c order)) out
  records-fit out exit h w = listed-fits _ out c counted exit h w
