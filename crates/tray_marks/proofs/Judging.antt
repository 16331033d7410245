-- One record, from what the code found: the laws for `search`. Assumes nothing.
use Rattle.std.specs.Prelude.{Option, Some, None}
use mathlib.Core.Path.{◌≡◌, sym, ap, ◌∙◌}
use mathlib.Core.Bool.{true, false, not}
use mathlib.Core.List.{List}
use Prim.Native.Nat.{ℕ, ◌<◌}
use native.Mathlib.Omega.{arith}
use lib.ListN.{set}
use borrow.Author.Tests.{not-true, not-false, eq-eqb, ne_eqb}
use Rattle.lists.proofs.Cases.{and-false-left, and-false-right, and_both}
use Rattle.layout.specs.Content.{live_vertices, live_hyperedges, position}
use Rattle.layout.specs.Layout.{limit, hyperedge_limit, read}
use Rattle.layout.specs.Inner.{Formed}
use Rattle.layout.proofs.Read.{hyperedge-found}
use Rattle.trays.specs.declared.Withdrawal.{Withdrawal}
use Rattle.trays.specs.Trays.{vertex_kind, hyperedge_kind}
use Rattle.tray_marks.specs.declared.Tray.{Tray}
use Rattle.tray_marks.specs.Marking.{OpenFormed, refused_at, vertex_marked, hyperedge_marked, judged_first, judged}

-- ---- what a search found: p is what `find_vertex`, or `find_hyperedge`, returned

module _ (ws : List ℕ) (x : ℕ) (tray : Tray) (i : ℕ) (p : Option ℕ) where
  module _ (e : p ≡ position x (live_vertices (read limit ws))) where
    pub vertex-missing : p ≡ None → (r : Tray) → r ≡ refused_at tray i → r ≡ vertex_marked (position x (live_vertices (read limit ws))) tray i
    unfolding vertex_marked
    vertex-missing h r q = q ∙ rw (← e, h)

    pub vertex-there : (k : ℕ) → p ≡ Some k
        → record { formed = tray.formed; faulty = tray.faulty; place = tray.place; vertices = set tray.vertices k true; hyperedges = tray.hyperedges }
        ≡ vertex_marked (position x (live_vertices (read limit ws))) tray i
    unfolding vertex_marked
    vertex-there k h = rw (← e, h)

  module _ (e : p ≡ position x (live_hyperedges (read limit ws))) where
    pub hyperedge-in : (k : ℕ) → Formed limit ws → p ≡ Some k → k < hyperedge_limit
    hyperedge-in k f h = omega (arith, (hyperedge-found limit ws x k (sym e ∙ h)).0, f.shape.hyperedges-le)

    pub hyperedge-missing : p ≡ None → (r : Tray) → r ≡ refused_at tray i → r ≡ hyperedge_marked (position x (live_hyperedges (read limit ws))) tray i
    unfolding hyperedge_marked
    hyperedge-missing h r q = q ∙ rw (← e, h)

    pub hyperedge-there : (k : ℕ) → p ≡ Some k
        → record { formed = tray.formed; faulty = tray.faulty; place = tray.place; vertices = tray.vertices; hyperedges = set tray.hyperedges k true }
        ≡ hyperedge_marked (position x (live_hyperedges (read limit ws))) tray i
    unfolding hyperedge_marked
    hyperedge-there k h = rw (← e, h)

-- ---- the tests of the record, in their order

pub table-formed : (ws : List ℕ) (tray : Tray) → OpenFormed tray ws → not tray.formed ≡ false → Formed limit ws
table-formed ws tray o f = o (not-false tray.formed f)

module _ (ws : List ℕ) (tray : Tray) (i : ℕ) (w : Withdrawal) where
  pub unformed-kept : not tray.formed ≡ true → tray ≡ judged ws tray i w
  unfolding judged
  unformed-kept f = rw (and-false-left tray.formed (not tray.faulty) (not-true tray.formed f))

  pub faulty-kept : tray.faulty ≡ true → tray ≡ judged ws tray i w
  unfolding judged
  faulty-kept g = rw (and-false-right tray.formed (not tray.faulty) (ap not g))

  module _ (f : not tray.formed ≡ false) (g : tray.faulty ≡ false) (r : Tray) where
    first : r ≡ judged_first (read limit ws) tray i w → r ≡ judged ws tray i w
    unfolding judged
    first q = q ∙ rw (and_both tray.formed (not tray.faulty) (not-false tray.formed f) (ap not g))

    pub vertex-judged : w.kind ≡ vertex_kind → r ≡ vertex_marked (position w.number (live_vertices (read limit ws))) tray i → r ≡ judged ws tray i w
    unfolding judged_first
    vertex-judged e q = first (q ∙ rw (eq-eqb w.kind vertex_kind e))

    module _ (n : w.kind ≡ vertex_kind → ⊥) where
      pub hyperedge-judged : w.kind ≡ hyperedge_kind → r ≡ hyperedge_marked (position w.number (live_hyperedges (read limit ws))) tray i → r ≡ judged ws tray i w
      unfolding judged_first
      hyperedge-judged e q = first (q ∙ rw (ne_eqb w.kind vertex_kind n, eq-eqb w.kind hyperedge_kind e))

      pub other-judged : (w.kind ≡ hyperedge_kind → ⊥) → r ≡ refused_at tray i → r ≡ judged ws tray i w
      unfolding judged_first
      other-judged m q = first (q ∙ rw (ne_eqb w.kind vertex_kind n, ne_eqb w.kind hyperedge_kind m))
