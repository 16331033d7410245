-- The calls of the desk are judged by their grounds. Assumes nothing.
use Rattle.std.specs.Prelude.{Ok}
use mathlib.Core.Path.{◌≡◌, refl}
use mathlib.Core.Bool.{Bool, true, false, cond}
use mathlib.Core.List.{List, [], ◌∷◌, map, append-nil}
use Prim.Native.Nat.{ℕ}
use Rattle.lists.specs.Tests.{◌and◌}
use Rattle.lists.specs.Lists.{all}
use Rattle.layout.specs.Content.{live_vertices}
use Rattle.layout.specs.Answers.{Result, result_of, vertex_missing}
use Rattle.removals.specs.Removals.{vertex, hyperedge, removal}
use Rattle.trays.specs.Trays.{tray}
use Rattle.calls.specs.Calls.{Edit, add_vertex, add_hyperedge, update, merge, remove, withdraw, edit}
use Rattle.desk.specs.States.{released, in_state, with_state}
use Rattle.desk.specs.Desk.{Desk, content, desk_edit, desk_clear, desk_read}
use Rattle.desk.specs.Releases.{on_desk, review_result, releasing, release_result, state_result, vertices_in, list_result, releasable, releasable_result}
use Rattle.desk.specs.Orders.{accept_result}
use Rattle.promises.specs.Refusals.{Ground, Judged, unless}
use Rattle.promises.proofs.Refusals.{none-refused, live-judged, listed-judged, answered, all-apply}
use Rattle.promises.proofs.Calls.{add-vertex-judged, add-hyperedge-judged, update-judged, remove-vertex-judged, merge-judged, remove-hyperedge-judged, tray-judged, clear-judged, read-judged}
use Rattle.desk_promises.specs.Refusals.{DeskJudged, edit_grounds, desk_edit_grounds, desk_clear_grounds, desk_read_grounds, upstream, desk_vertex_grounds, release_grounds, accept_grounds, desk_listing_grounds}
use Rattle.desk_promises.proofs.Refusals.{refuses, edited-judged, replaced-judged, fits-judged, reviewed-judged, unheld-judged, accepted-judged}

-- ---- edits, clear, the read of a text

pub edit-judged : (e : Edit) (ws : List ℕ) → Judged (edit_grounds e ws) ws (edit e ws)
unfolding edit removal tray
edit-judged (add_vertex w) ws = add-vertex-judged w ws
edit-judged (add_hyperedge ms w) ws = add-hyperedge-judged ms w ws
edit-judged (update x ms) ws = update-judged x ms ws
edit-judged (merge v w) ws = merge-judged v w ws
edit-judged (remove (vertex v)) ws = remove-vertex-judged v ws
edit-judged (remove (hyperedge x)) ws = remove-hyperedge-judged x ws
edit-judged (withdraw rs) ws = tray-judged rs ws

pub desk-edit-judged : (e : Edit) (d : Desk) → DeskJudged (desk_edit_grounds e d) d (desk_edit e d)
unfolding desk_edit
desk-edit-judged e d = edited-judged d (edit-judged e d.table)

pub desk-clear-judged : (d : Desk) → DeskJudged (desk_clear_grounds d) d (desk_clear d)
unfolding all refuses ◌and◌
desk-clear-judged d = replaced-judged d (clear-judged d.table) refl

pub desk-read-judged : (text : List ℕ) (d : Desk) → DeskJudged (desk_read_grounds text d) d (desk_read text d)
unfolding all refuses ◌and◌
desk-read-judged text d = replaced-judged d (read-judged text d.table) refl

-- ---- review and release

-- where the test passes r is done, and nothing behind it applies
unless-judged : {gs : List Ground} {lent : List ℕ} {s : Result} → Judged gs lent s → (r : Result) → r.number ≡ 0 → (b : Bool)
    → Judged (map (unless b) gs) lent (cond b r s)
unless-judged {gs} {lent} j r e true = answered gs lent r e
unless-judged {gs} j r e false = rw (all-apply gs) j

module _ (d : Desk) where
  pub review-judged : (v : ℕ) → Judged (desk_vertex_grounds v d) d.states (on_desk d d.states (review_result v d.states))
  unfolding review_result
  review-judged v = fits-judged d (review_result v d.states) (live-judged (none-refused refl) (live_vertices (content d)) vertex_missing (v ∷ []))

  pub release-judged : (v : ℕ) → Judged (release_grounds v d) d.states (on_desk d d.states (release_result v d.states))
  unfolding release_result releasing
  release-judged v =
      let t = content d in
      let ss = d.states in
      let eighteen = rw (append-nil (upstream t ss v)) at (unheld-judged t v ss (none-refused {lent = ss} {r = result_of (Ok 0) (with_state t v released ss)} refl)) in
      let seventeen = reviewed-judged t v ss eighteen in
      let held = unless-judged seventeen (result_of (Ok 0) ss) refl (in_state t ss released v) in
      fits-judged d (release_result v ss) (live-judged held (live_vertices t) vertex_missing (v ∷ []))

  -- ---- the planner's order, and looks at the states

  pub accept-judged : (order : List ℕ) → Judged (accept_grounds order d) [] (on_desk d [] (accept_result order))
  unfolding accept_result
  accept-judged order = fits-judged d (accept_result order) (accepted-judged (content d) order (result_of (Ok 0) []) (none-refused refl))

  pub state-judged : (v : ℕ) → Judged (desk_vertex_grounds v d) [] (on_desk d [] (state_result v d.states))
  unfolding state_result
  state-judged v = fits-judged d (state_result v d.states) (live-judged (none-refused refl) (live_vertices (content d)) vertex_missing (v ∷ []))

  pub list-judged : (x : ℕ) (out : List ℕ) → Judged (desk_listing_grounds (vertices_in x d.states (content d)) out d) out (on_desk d out (list_result x d.states out))
  unfolding list_result
  list-judged x out = fits-judged d (list_result x d.states out) (listed-judged (vertices_in x d.states (content d)) out)

  pub releasable-judged : (out : List ℕ) → Judged (desk_listing_grounds (releasable d.states (content d)) out d) out (on_desk d out (releasable_result d.states out))
  unfolding releasable_result
  releasable-judged out = fits-judged d (releasable_result d.states out) (listed-judged (releasable d.states (content d)) out)
