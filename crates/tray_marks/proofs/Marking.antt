-- The records of a tray judged one after the other: none, one more, and what is known of the table. Assumes nothing.
use Rattle.std.specs.Prelude.{Option, Some, None}
use mathlib.Core.Path.{◌≡◌, refl, sym, ap, ◌∙◌}
use mathlib.Core.Bool.{not}
use mathlib.Core.List.{List, [], ◌∷◌, ◌++◌}
use Prim.Native.Nat.{ℕ, zero, suc, ◌+◌, ◌<◌}
use native.Mathlib.Nat.{le_of_lt, add-zero, zero-add, add-suc, suc-add}
use native.Mathlib.Numerals.{add-one}
use lib.Dec.{eqb}
use lib.ListN.{length, get_or, take}
use lib.Seq.{take-suc, length-take-le}
use Rattle.lists.specs.Tests.{◌and◌}
use Rattle.lists.proofs.Cases.{on}
use Rattle.layout.specs.Content.{Table, live_vertices, live_hyperedges, position}
use Rattle.layout.specs.Layout.{limit, read}
use Rattle.layout.specs.WellFormed.{well_formed}
use Rattle.layout.proofs.Read.{formed-of}
use Rattle.trays.specs.declared.Withdrawal.{Withdrawal}
use Rattle.trays.specs.Trays.{vertex_kind, hyperedge_kind}
use Rattle.trays.specs.Outcomes.{no_record}
use Rattle.tray_marks.specs.declared.Tray.{Tray}
use Rattle.tray_marks.specs.Marking.{OpenFormed, opened, refused_at, vertex_marked, hyperedge_marked, judged_first, judged, tray_from, tray_of}

-- ---- none, and one more

pub tray-none : (ws : List ℕ) (rs : List Withdrawal) → tray_of ws (take 0 rs) ≡ opened ws
unfolding tray_of tray_from
tray-none ws rs = refl

from-snoc : (ws : List ℕ) (i : ℕ) (tray : Tray) (rs : List Withdrawal) (w : Withdrawal) → tray_from ws i tray (rs ++ (w ∷ [])) ≡ judged ws (tray_from ws i tray rs) (i + length rs) w
unfolding tray_from
from-snoc ws i tray [] w = rw add-zero
from-snoc ws i tray (r ∷ rs) w = rw (add-suc, ← suc-add) (from-snoc ws (suc i) (judged ws tray i r) rs w)

pub tray-more : (ws : List ℕ) (rs : List Withdrawal) (i : ℕ) → i < length rs → tray_of ws (take (i + 1) rs) ≡ judged ws (tray_of ws (take i rs)) i (get_or rs i no_record)
unfolding tray_of
tray-more ws rs i h =
    rw (add-one, take-suc rs i no_record h)
    (from-snoc ws zero (opened ws) (take i rs) (get_or rs i no_record)
    ∙ ap (λ (k : ℕ). judged ws (tray_from ws zero (opened ws) (take i rs)) k (get_or rs i no_record)) (zero-add (length (take i rs)) ∙ length-take-le i rs (le_of_lt h)))

-- ---- the table was tested

vertex-formed : (p : Option ℕ) (tray : Tray) (i : ℕ) → (vertex_marked p tray i).formed ≡ tray.formed
unfolding vertex_marked refused_at
vertex-formed (Some k) tray i = refl
vertex-formed None tray i = refl

hyperedge-formed : (p : Option ℕ) (tray : Tray) (i : ℕ) → (hyperedge_marked p tray i).formed ≡ tray.formed
unfolding hyperedge_marked refused_at
hyperedge-formed (Some k) tray i = refl
hyperedge-formed None tray i = refl

first-formed : (t : Table) (tray : Tray) (i : ℕ) (w : Withdrawal) → (judged_first t tray i w).formed ≡ tray.formed
unfolding judged_first refused_at
first-formed t tray i w =
    on (eqb w.kind vertex_kind)
    (λ e. rw e (vertex-formed (position w.number (live_vertices t)) tray i))
    (λ e. on (eqb w.kind hyperedge_kind)
    (λ f. rw (e, f) (hyperedge-formed (position w.number (live_hyperedges t)) tray i))
    (λ f. rw (e, f)))

judged-formed : (ws : List ℕ) (tray : Tray) (i : ℕ) (w : Withdrawal) → (judged ws tray i w).formed ≡ tray.formed
unfolding judged
judged-formed ws tray i w = on (tray.formed and not tray.faulty) (λ e. rw e (first-formed (read limit ws) tray i w)) (λ e. rw e)

from-formed : (ws : List ℕ) (i : ℕ) (tray : Tray) (rs : List Withdrawal) → (tray_from ws i tray rs).formed ≡ tray.formed
unfolding tray_from
from-formed ws i tray [] = refl
from-formed ws i tray (w ∷ rs) = from-formed ws (suc i) (judged ws tray i w) rs ∙ judged-formed ws tray i w

pub tray-tested : (ws : List ℕ) (rs : List Withdrawal) → (tray_of ws rs).formed ≡ well_formed limit ws
unfolding tray_of opened
tray-tested ws rs = from-formed ws zero (opened ws) rs

pub tray-formed : (ws : List ℕ) (rs : List Withdrawal) → OpenFormed (tray_of ws rs) ws
tray-formed ws rs h = formed-of limit ws (sym (tray-tested ws rs) ∙ h)
