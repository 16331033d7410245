-- Removals through the desk, one call after the other and as a tray: what they leave of the table and of the states. Assumes nothing.
use mathlib.Core.Path.{◌≡◌, refl, sym, ap, ◌∙◌}
use mathlib.Core.Bool.{true}
use mathlib.Core.Logic.{⊎_elim}
use mathlib.Core.List.{List, [], ◌∷◌, map}
use Prim.Native.Nat.{ℕ}
use native.Mathlib.Omega.{arith}
use Rattle.lists.proofs.Cases.{on}
use Rattle.layout.specs.Content.{Table, live_vertices, is_live}
use Rattle.layout.specs.Layout.{limit, read}
use Rattle.layout.specs.WellFormed.{well_formed}
use Rattle.removals.specs.Removals
use Rattle.removals.specs.Removals.{Removal, remove_all, withdrawn}
use Rattle.removals.proofs.Theorems.{removals-formed, removals-content, removals-permute, vertex-was-live}
use Rattle.trays.specs.declared.Withdrawal.{Withdrawal}
use Rattle.trays.specs.Trays.{asked, tray}
use Rattle.trays.proofs.Answered.{all-or-none}
use Rattle.calls.specs.Calls.{remove, withdraw, edit, an_edit}
use Rattle.desk.specs.States.{state_of, states_by}
use Rattle.desk.specs.Desk.{Desk, Outcome, content, desk_fits, following}
use Rattle.desk.specs.Calls.{through, desk_call, after_desk}
use Rattle.desk.proofs.States.{state-by}
use Rattle.desk.proofs.Edits.{edit-formed, desk-fits-of, following-same, following-fits, following-part, edit-unfit, edit-fitting}
use Rattle.desk_laws.specs.Withdrawals.{removing, desk_remove_all, DeskWithdraws}

-- one removal: the table without it, and the states follow
removing-is : (r : Removal) (d : Desk) → desk_fits d ≡ true → (desk_call (removing r) d).desk ≡ following d (Removals.remove r d.table)
unfolding desk_call edit Removals.remove
removing-is r d h = ap (λ (o : Outcome). o.desk) (edit-fitting d h (remove r))

remove-formed : (r : Removal) (ws : List ℕ) → well_formed limit ws ≡ true → well_formed limit (Removals.remove r ws) ≡ true
unfolding edit Removals.remove
remove-formed r ws f = edit-formed ws f (remove r)

-- one call after the other: the table that they leave without the desk, and the states follow
pub removals-follow : (rs : List Removal) (d : Desk) → desk_fits d ≡ true → desk_remove_all rs d ≡ following d (remove_all rs d.table)
unfolding after_desk remove_all following
removals-follow [] d h = sym (following-same d h)
removals-follow (r ∷ rs) d h =
    let ws : List ℕ = Removals.remove r d.table in
    let f : well_formed limit ws ≡ true = remove-formed r d.table (desk-fits-of h).formed in
    ap (desk_remove_all rs) (removing-is r d h) ∙ removals-follow rs (following d ws) (following-fits d h ws f)
    ∙ following-part d ws (remove_all rs ws) (vertex-was-live ws f rs)

-- the states at the end: each vertex that is left has the state that it had
pub removals-states : (rs : List Removal) (d : Desk) → desk_fits d ≡ true
    → (desk_remove_all rs d).states ≡ states_by (state_of (content d) d.states) (live_vertices (withdrawn rs (content d)))
unfolding following
removals-states rs d h =
    ap (λ (e : Desk). e.states) (removals-follow rs d h)
    ∙ ap (λ (t : Table). states_by (state_of (content d) d.states) (live_vertices t)) (removals-content d.table (desk-fits-of h).formed rs)

-- where states follow, each vertex that is live has the state that it had
followed-state : (d : Desk) (ws : List ℕ) (v : ℕ) → is_live (live_vertices (content (following d ws))) v ≡ true
    → state_of (content (following d ws)) (following d ws).states v ≡ state_of (content d) d.states v
unfolding following
followed-state d ws v l = state-by (state_of (content d) d.states) (live_vertices (read limit ws)) v l

followed-table : (d : Desk) (ws : List ℕ) → (following d ws).table ≡ ws
unfolding following
followed-table d ws = refl

-- what is demanded of removals, through the desk
pub desk-withdraws : (rs : List Removal) (d : Desk) → desk_fits d ≡ true → DeskWithdraws rs d
desk-withdraws rs d h =
    let f : well_formed limit d.table ≡ true = (desk-fits-of h).formed in
    let ws : List ℕ = remove_all rs d.table in
    record {
      fits = ap desk_fits (removals-follow rs d h) ∙ following-fits d h ws (removals-formed d.table f rs);
      any_order = λ ss p. removals-follow ss d h ∙ ap (following d) (sym (removals-permute d.table f p)) ∙ sym (removals-follow rs d h);
      table_is = ap (λ (e : Desk). e.table) (removals-follow rs d h) ∙ followed-table d ws;
      survivors = λ v l. ap (λ (e : Desk). state_of (content e) e.states v) (removals-follow rs d h)
          ∙ followed-state d ws v (ap (λ (e : Desk). is_live (live_vertices (content e)) v) (sym (removals-follow rs d h)) ∙ l);
    }

-- ---- a tray

accepted-follows : (rs : List Withdrawal) (d : Desk) → desk_fits d ≡ true → (tray rs d.table).number ≡ 0
    → following d (tray rs d.table).lent ≡ desk_remove_all (map asked rs) d
accepted-follows rs d h q =
    ap (following d)
    (⊎_elim (λ a. a.1) (λ f. absurd (omega (arith, f.0, q))) (all-or-none d.table (desk-fits-of h).formed rs))
    ∙ sym (removals-follow (map asked rs) d h)

-- an accepted tray leaves the desk that its removals, one call after the other, leave
pub tray-at-desk : (rs : List Withdrawal) (d : Desk) → (desk_call (through (an_edit (withdraw rs))) d).number ≡ 0
    → (desk_call (through (an_edit (withdraw rs))) d).desk ≡ desk_remove_all (map asked rs) d
unfolding desk_call edit
tray-at-desk rs d q =
    on (desk_fits d)
    (λ h. let is = edit-fitting d h (withdraw rs) in
    ap (λ (o : Outcome). o.desk) is ∙ accepted-follows rs d h (ap (λ (o : Outcome). o.number) (sym is) ∙ q))
    (λ u. absurd (let z : ◌≡◌ {A = ℕ} 1 0 = ap (λ (o : Outcome). o.number) (sym (edit-unfit (withdraw rs) d u)) ∙ q in omega arith))
