-- For every call: each refusal is given then and only then, by the first of its grounds that applies, and changes no lent word. What is judged
-- is what the call's promise says that it leaves. Assumes nothing.
use Rattle.std.specs.Prelude.{Ok, Err}
use mathlib.Core.Path.{◌≡◌, refl}
use mathlib.Core.Bool.{cond}
use mathlib.Core.List.{List, [], ◌∷◌, ◌++◌, map, append-nil}
use Prim.Native.Nat.{ℕ, zero}
use lib.Dec.{eqb}
use lib.ListN.{length, replicate}
use Rattle.lists.specs.Tests.{bit}
use Rattle.lists.specs.Lists.{flat, counted}
use Rattle.layout.specs.declared.Refusal.TheVariants.{BadText}
use Rattle.layout.specs.Content.{Table, live_vertices, live_hyperedges}
use Rattle.layout.specs.Layout.{vertex_limit, hyperedge_limit, limit, size, words, read}
use Rattle.layout.specs.Answers.{Result, result_of, on_formed, on_live, listed, vertex_missing, hyperedge_missing, on_live_vertices}
use Rattle.edits.specs.Edits.{merge_vertices}
use Rattle.edits.specs.Results.{add_vertex_result, add_hyperedge_result, update_result, remove_vertex_result, merge_result, remove_hyperedge_result, clear_result, empty_result, first_passing, members_of}
use Rattle.removals.specs.Removals.{withdrawn}
use Rattle.trays.specs.declared.Withdrawal.{Withdrawal}
use Rattle.trays.specs.Trays.{asked, tray_result}
use Rattle.lookups.specs.declared.Direction.{Direction}
use Rattle.lookups.specs.declared.Relation.{Relation}
use Rattle.lookups.specs.declared.Listing.TheVariants.{Connecting, Weighing, Holding}
use Rattle.lookups.specs.Lookups.{related, shared, degree, listing, full_adjacent, vertices_weighing, has_vertex_weighing}
use Rattle.lookups.specs.Results.{related_result, intersections_result, degree_result, listing_result, connecting_result, full_hyperedges_result, full_adjacent_result, weighing_result, contains_result, vertex_index_result}
use Rattle.reads.specs.Reads.{vertex_weight, vertex_weight_result, hyperedge_weight_result, members_result, vertices_result, hyperedges_result}
use Rattle.traversal.specs.declared.Order.{Order}
use Rattle.traversal.specs.Traversal.{traversal, reachable, traversal_result, reachable_result}
use Rattle.reached_vertices.specs.Reached.{reached_vertices, reached_result}
use Rattle.structural.specs.Sort.{sort_of, acyclic, sort_result, acyclic_result}
use Rattle.structural.specs.Components.{connected, connected_components, strong_components, connected_result, connected_components_result, strong_components_result}
use Rattle.structural.specs.Closure.{closure_of, closure_result}
use Rattle.cut.specs.Cut.{cut_vertices, cut_vertices_result}
use Rattle.properties.specs.Properties.{orphan_vertices, orphan_hyperedges, uniform, endpoints, inclusions, nestedness}
use Rattle.properties.specs.Results.{orphan_vertices_result, orphan_hyperedges_result, endpoints_result, uniform_result, inclusions_result, nestedness_result}
use Rattle.paths.specs.Paths.{path_words, best_path, costs_from, pair_result, from_result}
use Rattle.walk.specs.Walk.{walk, walk_result}
use Rattle.frames.specs.Frames.{frame_text, write_result}
use Rattle.frames.specs.Reading.{content_of, accepted, faulty_line, read_result}
use Rattle.sort_sheet.specs.Sheet.{sheet_result}
use Rattle.promises.specs.Refusals.{Judged, content, unformed, unsized, dead_vertices, closed_walk, no_room, beside, faulty_records, add_vertex_grounds, add_hyperedge_grounds, update_grounds, vertex_grounds, merge_grounds, hyperedge_grounds, tray_grounds, listing_grounds, members_grounds, intersections_grounds, sort_grounds, bad_text, read_grounds, sheet_grounds}
use Rattle.promises.proofs.Refusals.{none-refused, off-ground, live-judged, some-judged, short-judged, room-judged, number-judged, new-judged, changed-judged, other-judged, unequal-judged, apart-judged, faultless-judged, several-judged, formed-judged, listed-judged}

-- ---- edits

pub add-vertex-judged : (w : ℕ) (ws : List ℕ) → Judged (add_vertex_grounds ws) ws (on_formed ws ws (add_vertex_result w ws))
unfolding add_vertex_result
add-vertex-judged w ws =
    let t = read limit ws in
    let eight = number-judged (none-refused refl) t.next_vertex in
    formed-judged ws (add_vertex_result w ws) (room-judged eight (length t.vertices) vertex_limit)

pub add-hyperedge-judged : (ms : List ℕ) (w : ℕ) (ws : List ℕ) → Judged (add_hyperedge_grounds ms w ws) ws (on_formed ws ws (add_hyperedge_result ms w ws))
unfolding add_hyperedge_result
add-hyperedge-judged ms w ws =
    let t = read limit ws in
    let eight = number-judged (none-refused refl) t.next_hyperedge in
    let seven = room-judged eight (length t.hyperedges) hyperedge_limit in
    let twenty = unequal-judged (new-judged seven ms w t.hyperedges) ms in
    let three = live-judged twenty (live_vertices t) vertex_missing ms in
    formed-judged ws (add_hyperedge_result ms w ws) (some-judged (short-judged three ms) ms w)

pub update-judged : (x : ℕ) (ms ws : List ℕ) → Judged (update_grounds x ms ws) ws (on_formed ws ws (update_result x ms ws))
unfolding update_result
update-judged x ms ws =
    let t = read limit ws in
    let four = live-judged (changed-judged (none-refused refl) x ms t) (live_hyperedges t) hyperedge_missing (x ∷ []) in
    let three = live-judged (unequal-judged four ms) (live_vertices t) vertex_missing ms in
    formed-judged ws (update_result x ms ws) (some-judged (short-judged three ms) ms x)

pub remove-vertex-judged : (v : ℕ) (ws : List ℕ) → Judged (vertex_grounds (v ∷ []) ws) ws (on_formed ws ws (remove_vertex_result v ws))
unfolding remove_vertex_result
remove-vertex-judged v ws =
    formed-judged ws (remove_vertex_result v ws) (live-judged (none-refused refl) (live_vertices (read limit ws)) vertex_missing (v ∷ []))

pub merge-judged : (v w : ℕ) (ws : List ℕ) → Judged (merge_grounds v w ws) ws (on_formed ws ws (merge_result v w ws))
unfolding merge_result
merge-judged v w ws =
    let t = read limit ws in
    let fourteen = rw (append-nil (beside v w t)) at (apart-judged (none-refused {lent = ws} {r = result_of (Ok 0) (words limit (merge_vertices v w t))} refl) v w t) in
    let thirteen = other-judged fourteen v w in
    formed-judged ws (merge_result v w ws) (live-judged thirteen (live_vertices t) vertex_missing (v ∷ w ∷ []))

pub remove-hyperedge-judged : (x : ℕ) (ws : List ℕ) → Judged (hyperedge_grounds x ws) ws (on_formed ws ws (remove_hyperedge_result x ws))
unfolding remove_hyperedge_result
remove-hyperedge-judged x ws =
    formed-judged ws (remove_hyperedge_result x ws) (live-judged (none-refused refl) (live_hyperedges (read limit ws)) hyperedge_missing (x ∷ []))

pub tray-judged : (rs : List Withdrawal) (ws : List ℕ) → Judged (tray_grounds rs ws) ws (on_formed ws ws (tray_result rs ws))
unfolding tray_result first_passing
tray-judged rs ws =
    let t = read limit ws in
    let fifteen = rw (append-nil (faulty_records t rs)) at (faultless-judged (none-refused {lent = ws} {r = result_of (Ok 0) (words limit (withdrawn (map asked rs) t))} refl) t zero rs) in
    formed-judged ws (tray_result rs ws) fifteen

pub clear-judged : (ws : List ℕ) → Judged (unsized ws ∷ []) ws (clear_result ws)
unfolding clear_result
clear-judged ws = off-ground [] ws (result_of (Ok 0) (replicate (size limit) 0)) (none-refused refl) (unsized ws) (eqb (length ws) (size limit)) refl

pub read-judged : (text ws : List ℕ) → Judged (read_grounds text ws) ws (read_result text ws)
unfolding read_result
read-judged text ws =
    let done = result_of (Ok 0) (words limit (content_of text)) in
    let twelve = off-ground [] ws done (none-refused refl) (bad_text text) (accepted text) refl in
    off-ground (bad_text text ∷ []) ws (cond (accepted text) done (result_of (Err (BadText (faulty_line text))) ws)) twelve (unsized ws) (eqb (length ws) (size limit)) refl

-- ---- the sort of a frame text

pub sort-text-judged : (text lent : List ℕ) → Judged (sheet_grounds text lent) lent (sheet_result text lent)
unfolding sheet_result sort_result
sort-text-judged text lent =
    let t = content_of text in
    let eleven = listed-judged (sort_of t) lent in
    let nine = off-ground (no_room (sort_of t) lent ∷ []) lent (listed (sort_of t) lent) eleven (closed_walk t) (acyclic t) refl in
    off-ground (closed_walk t ∷ no_room (sort_of t) lent ∷ []) lent (sort_result lent t) nine (bad_text text) (accepted text) refl

-- ---- queries: what is answered after 1 is a number, or a listing, where the vertices asked are live

module _ (ws : List ℕ) where
  answering : (vs : List ℕ) (d : ℕ) (f : Table → Result) → f (content ws) ≡ on_live_vertices (content ws) vs [] (result_of (Ok d) []) →
      Judged (unformed ws ∷ (dead_vertices (content ws) vs ++ [])) [] (on_formed ws [] f)
  answering vs d f e = formed-judged ws f (rw e (live-judged (none-refused refl) (live_vertices (content ws)) vertex_missing vs))

  module _ (out : List ℕ) where
    listing-judged : (vs xs : List ℕ) (f : Table → Result) → f (content ws) ≡ on_live_vertices (content ws) vs out (listed xs out) →
        Judged (listing_grounds vs xs out ws) out (on_formed ws out f)
    listing-judged vs xs f e = formed-judged ws f (rw e (live-judged (listed-judged xs out) (live_vertices (content ws)) vertex_missing vs))

    pub related-judged : (how : Relation) (v : ℕ) → Judged (listing_grounds (v ∷ []) (related how v (content ws)) out ws) out (on_formed ws out (related_result how v out))
    unfolding related_result
    related-judged how v = listing-judged (v ∷ []) (related how v (content ws)) (related_result how v out) refl

    pub full-adjacent-judged : (dir : Direction) (v : ℕ) → Judged (listing_grounds (v ∷ []) (full_adjacent dir v (content ws)) out ws) out (on_formed ws out (full_adjacent_result dir v out))
    unfolding full_adjacent_result
    full-adjacent-judged dir v = listing-judged (v ∷ []) (full_adjacent dir v (content ws)) (full_adjacent_result dir v out) refl

    pub connecting-judged : (x y : ℕ) → Judged (listing_grounds (x ∷ []) (listing (Connecting x y) (content ws)) out ws) out (on_formed ws out (connecting_result x y out))
    unfolding listing_result
    connecting-judged x y = listing-judged (x ∷ []) (listing (Connecting x y) (content ws)) (connecting_result x y out) refl

    pub full-hyperedges-judged : (v : ℕ) → Judged (listing_grounds (v ∷ []) (listing (Holding v) (content ws)) out ws) out (on_formed ws out (full_hyperedges_result v out))
    unfolding listing_result
    full-hyperedges-judged v = listing-judged (v ∷ []) (listing (Holding v) (content ws)) (full_hyperedges_result v out) refl

    pub weighing-judged : (w : ℕ) → Judged (listing_grounds [] (listing (Weighing w) (content ws)) out ws) out (on_formed ws out (weighing_result w out))
    unfolding on_live
    weighing-judged w = listing-judged [] (listing (Weighing w) (content ws)) (weighing_result w out) refl

    pub vertex-index-judged : (w : ℕ) → Judged (listing_grounds [] (vertices_weighing w (content ws)) out ws) out (on_formed ws out (vertex_index_result w out))
    unfolding on_live
    vertex-index-judged w = listing-judged [] (vertices_weighing w (content ws)) (vertex_index_result w out) refl

    pub intersections-judged : (es : List ℕ) → Judged (intersections_grounds es (shared es (content ws)) out ws) out (on_formed ws out (intersections_result es out))
    unfolding intersections_result
    intersections-judged es =
        let four = live-judged (listed-judged (shared es (content ws)) out) (live_hyperedges (content ws)) hyperedge_missing es in
        formed-judged ws (intersections_result es out) (several-judged four es)

    pub members-judged : (e : ℕ) → Judged (members_grounds e (members_of e (content ws).hyperedges) out ws) out (on_formed ws out (members_result e out))
    unfolding members_result
    members-judged e =
        let four = live-judged (listed-judged (members_of e (content ws).hyperedges) out) (live_hyperedges (content ws)) hyperedge_missing (e ∷ []) in
        formed-judged ws (members_result e out) four

    pub vertices-judged : Judged (listing_grounds [] (live_vertices (content ws)) out ws) out (on_formed ws out (vertices_result out))
    unfolding on_live
    vertices-judged = listing-judged [] (live_vertices (content ws)) (vertices_result out) refl

    pub hyperedges-judged : Judged (listing_grounds [] (live_hyperedges (content ws)) out ws) out (on_formed ws out (hyperedges_result out))
    unfolding on_live
    hyperedges-judged = listing-judged [] (live_hyperedges (content ws)) (hyperedges_result out) refl

    pub reached-judged : (dir : Direction) (v : ℕ) → Judged (listing_grounds (v ∷ []) (reached_vertices dir v (content ws)) out ws) out (on_formed ws out (reached_result dir v out))
    unfolding reached_result
    reached-judged dir v = listing-judged (v ∷ []) (reached_vertices dir v (content ws)) (reached_result dir v out) refl

    pub traversal-judged : (how : Order) (v : ℕ) → Judged (listing_grounds (v ∷ []) (traversal how (content ws) v) out ws) out (on_formed ws out (traversal_result how v out))
    unfolding traversal_result
    traversal-judged how v = listing-judged (v ∷ []) (traversal how (content ws) v) (traversal_result how v out) refl

    pub sort-judged : Judged (sort_grounds (sort_of (content ws)) out ws) out (on_formed ws out (sort_result out))
    unfolding sort_result
    sort-judged =
        let eleven = listed-judged (sort_of (content ws)) out in
        formed-judged ws (sort_result out) (off-ground (no_room (sort_of (content ws)) out ∷ []) out (listed (sort_of (content ws)) out) eleven (closed_walk (content ws)) (acyclic (content ws)) refl)

    pub connected-components-judged : Judged (listing_grounds [] (flat counted (connected_components (content ws))) out ws) out (on_formed ws out (connected_components_result out))
    unfolding on_live connected_components_result
    connected-components-judged = listing-judged [] (flat counted (connected_components (content ws))) (connected_components_result out) refl

    pub strong-components-judged : Judged (listing_grounds [] (flat counted (strong_components (content ws))) out ws) out (on_formed ws out (strong_components_result out))
    unfolding on_live strong_components_result
    strong-components-judged = listing-judged [] (flat counted (strong_components (content ws))) (strong_components_result out) refl

    pub closure-judged : Judged (listing_grounds [] (closure_of (content ws)) out ws) out (on_formed ws out (closure_result out))
    unfolding on_live closure_result
    closure-judged = listing-judged [] (closure_of (content ws)) (closure_result out) refl

    pub cut-vertices-judged : Judged (listing_grounds [] (cut_vertices (content ws)) out ws) out (on_formed ws out (cut_vertices_result out))
    unfolding on_live cut_vertices_result
    cut-vertices-judged = listing-judged [] (cut_vertices (content ws)) (cut_vertices_result out) refl

    pub orphan-vertices-judged : Judged (listing_grounds [] (orphan_vertices (content ws)) out ws) out (on_formed ws out (orphan_vertices_result out))
    unfolding on_live
    orphan-vertices-judged = listing-judged [] (orphan_vertices (content ws)) (orphan_vertices_result out) refl

    pub orphan-hyperedges-judged : Judged (listing_grounds [] (orphan_hyperedges (content ws)) out ws) out (on_formed ws out (orphan_hyperedges_result out))
    unfolding on_live
    orphan-hyperedges-judged = listing-judged [] (orphan_hyperedges (content ws)) (orphan_hyperedges_result out) refl

    pub endpoints-judged : Judged (listing_grounds [] (endpoints (content ws)) out ws) out (on_formed ws out (endpoints_result out))
    unfolding on_live
    endpoints-judged = listing-judged [] (endpoints (content ws)) (endpoints_result out) refl

    pub inclusions-judged : Judged (listing_grounds [] (inclusions (content ws)) out ws) out (on_formed ws out (inclusions_result out))
    unfolding on_live
    inclusions-judged = listing-judged [] (inclusions (content ws)) (inclusions_result out) refl

    pub nestedness-judged : Judged (listing_grounds [] (nestedness (content ws)) out ws) out (on_formed ws out (nestedness_result out))
    unfolding on_live
    nestedness-judged = listing-judged [] (nestedness (content ws)) (nestedness_result out) refl

    pub pair-judged : (x y : ℕ) → Judged (listing_grounds (x ∷ y ∷ []) (path_words (content ws) x (best_path (content ws) x y)) out ws) out (on_formed ws out (pair_result x y out))
    unfolding pair_result
    pair-judged x y = listing-judged (x ∷ y ∷ []) (path_words (content ws) x (best_path (content ws) x y)) (pair_result x y out) refl

    pub from-judged : (x : ℕ) → Judged (listing_grounds (x ∷ []) (costs_from (content ws) x) out ws) out (on_formed ws out (from_result x out))
    unfolding from_result
    from-judged x = listing-judged (x ∷ []) (costs_from (content ws) x) (from_result x out) refl

    pub walk-judged : (start steps seed : ℕ) → Judged (listing_grounds (start ∷ []) (walk (content ws) start steps seed) out ws) out (on_formed ws out (walk_result start steps seed out))
    unfolding walk_result
    walk-judged start steps seed = listing-judged (start ∷ []) (walk (content ws) start steps seed) (walk_result start steps seed out) refl

    pub write-judged : Judged (listing_grounds [] (frame_text (content ws)) out ws) out (on_formed ws out (write_result out))
    unfolding on_live write_result
    write-judged = listing-judged [] (frame_text (content ws)) (write_result out) refl

  pub is-empty-judged : Judged (vertex_grounds [] ws) [] (on_formed ws [] empty_result)
  unfolding on_live empty_result
  is-empty-judged = answering [] (bit (eqb (length (content ws).vertices) 0)) empty_result refl

  pub contains-judged : (w : ℕ) → Judged (vertex_grounds [] ws) [] (on_formed ws [] (contains_result w))
  unfolding on_live
  contains-judged w = answering [] (bit (has_vertex_weighing w (content ws))) (contains_result w) refl

  pub degree-judged : (dir : Direction) (v : ℕ) → Judged (vertex_grounds (v ∷ []) ws) [] (on_formed ws [] (degree_result dir v))
  unfolding degree_result
  degree-judged dir v = answering (v ∷ []) (degree dir v (content ws)) (degree_result dir v) refl

  pub vertex-weight-judged : (v : ℕ) → Judged (vertex_grounds (v ∷ []) ws) [] (on_formed ws [] (vertex_weight_result v))
  unfolding vertex_weight_result
  vertex-weight-judged v = answering (v ∷ []) (vertex_weight v (content ws)) (vertex_weight_result v) refl

  pub hyperedge-weight-judged : (e : ℕ) → Judged (hyperedge_grounds e ws) [] (on_formed ws [] (hyperedge_weight_result e))
  unfolding hyperedge_weight_result
  hyperedge-weight-judged e =
      formed-judged ws (hyperedge_weight_result e) (live-judged (none-refused refl) (live_hyperedges (content ws)) hyperedge_missing (e ∷ []))

  pub reachable-judged : (x y : ℕ) → Judged (vertex_grounds (x ∷ y ∷ []) ws) [] (on_formed ws [] (reachable_result x y))
  unfolding reachable_result
  reachable-judged x y = answering (x ∷ y ∷ []) (bit (reachable (content ws) x y)) (reachable_result x y) refl

  pub acyclic-judged : Judged (vertex_grounds [] ws) [] (on_formed ws [] acyclic_result)
  unfolding on_live acyclic_result
  acyclic-judged = answering [] (bit (acyclic (content ws))) acyclic_result refl

  pub connected-judged : Judged (vertex_grounds [] ws) [] (on_formed ws [] connected_result)
  unfolding on_live connected_result
  connected-judged = answering [] (bit (connected (content ws))) connected_result refl

  pub uniform-judged : (k : ℕ) → Judged (vertex_grounds [] ws) [] (on_formed ws [] (uniform_result k))
  unfolding on_live
  uniform-judged k = answering [] (bit (uniform k (content ws))) (uniform_result k) refl
