-- What an edit leaves of a table and of its live vertices, and what it leaves of a desk. Assumes nothing.
use Rattle.std.specs.Prelude.{Ok, Err}
use mathlib.Core.Path.{◌≡◌, refl, sym, ap, ◌∙◌}
use mathlib.Core.Bool.{true, false}
use mathlib.Core.Logic.{⊎_elim}
use mathlib.Core.List.{List, [], ◌∷◌, ◌++◌, map}
use Prim.Native.Nat.{ℕ, zero, suc, ◌≤◌, ◌<◌}
use native.Mathlib.Nat.{lt_irrefl}
use native.Mathlib.Omega.{arith}
use lib.Dec.{eqb}
use lib.ListN.{length, length-append}
use borrow.Author.Tests.{eq-eqb}
use Rattle.lists.specs.Lists.{memb, filter, other_than, itself, Ascending}
use Rattle.lists.proofs.Cases.{on, clash, and_left, and_right, and_both}
use Rattle.lists.proofs.Kept.{filter_map}
use Rattle.lists.proofs.Maps.{map-length}
use Rattle.layout.specs.Answers.{Answer}
use Rattle.layout.specs.declared.Refusal.TheVariants.{NotWellFormed}
use Rattle.layout.specs.Content.{Table, vertex_number, live_vertices, live_hyperedges, is_live}
use Rattle.layout.specs.Layout.{limit, vertex_limit, read, words}
use Rattle.layout.specs.WellFormed.{well_formed, holdable}
use Rattle.layout.specs.Answers.{number, Result, result_of, on_formed, on_live, vertex_missing, hyperedge_missing}
use Rattle.layout.proofs.Read.{formed-of, live-ascends}
use Rattle.layout.proofs.Answers.{formed-result}
use Rattle.layout.proofs.Back.{read-words, words-formed, read-holdable}
use Rattle.layout.proofs.Holdable.{Holdable, holdable-of}
use Rattle.edits.specs.Edits
use Rattle.edits.specs.Results.{remove_vertex_result, remove_hyperedge_result}
use Rattle.edits.proofs.AddHoldable.{add-vertex-live, below_next}
use Rattle.edits.proofs.Holdable.{remove-vertex-holdable, remove-hyperedge-holdable}
use Rattle.edits.proofs.Merged.{merge-holdable}
use Rattle.edits.proofs.Outcomes.{add-vertex-goes, add-hyperedge-goes, update-goes, merge-goes}
use Rattle.removals.specs.Removals.{Removal, vertex, hyperedge, removal, stays_vertex, kept_vertex, withdrawn}
use Rattle.removals.proofs.Theorems.{removals-formed, removals-content, removal-unformed}
use Rattle.trays.specs.declared.Withdrawal.{Withdrawal}
use Rattle.trays.specs.Trays.{asked, tray}
use Rattle.trays.proofs.Answered.{tray-unformed, all-or-none}
use Rattle.calls.specs.Calls.{Edit, add_vertex, add_hyperedge, update, merge, remove, withdraw, edit}
use Rattle.desk.specs.States.{states_fit, state_of, states_by}
use Rattle.desk.specs.Desk.{Desk, desk_of, outcome, answering, content, desk_fits, following, edited, desk_edit}
use Rattle.desk.proofs.States.{states-part, states-follow-fit, states-same, states-one-more}

-- ---- the live vertices of a table

module _ (ws : List ℕ) (formed : well_formed limit ws ≡ true) where
  pub live-rises : Ascending (live_vertices (read limit ws))
  live-rises = live-ascends limit ws (formed-of limit ws formed)

  held : Holdable limit (read limit ws)
  held = holdable-of (read-holdable limit ws formed)

  pub live-few : length (live_vertices (read limit ws)) ≤ vertex_limit
  live-few = rw map-length held.vertices-le

  -- the next number is not live
  pub next-dead : memb (read limit ws).next_vertex (live_vertices (read limit ws)) ≡ false
  next-dead =
      let n : ℕ = (read limit ws).next_vertex in
      let live : List ℕ = live_vertices (read limit ws) in
      on (memb n live) (λ m. absurd (lt_irrefl n (below_next live n held.vertices-numbered n m))) (λ m. m)

-- ---- what an edit leaves of a table

-- the live vertices after an edit that is done
unfoldable pub live_after : Edit → Table → List ℕ
live_after (add_vertex w) t = live_vertices t ++ (t.next_vertex ∷ [])
live_after (add_hyperedge ms w) t = live_vertices t
live_after (update x ms) t = live_vertices t
live_after (merge v w) t = filter (other_than itself w) (live_vertices t)
live_after (remove (vertex v)) t = filter (other_than itself v) (live_vertices t)
live_after (remove (hyperedge x)) t = live_vertices t
live_after (withdraw rs) t = filter (stays_vertex (map asked rs)) (live_vertices t)

-- where the edit's result is r: refused, the words are as they were; in any case they are a table; done, these are the live vertices
pub record Went (e : Edit) (ws : List ℕ) (r : Result) : Type 0 where
  pub refused : (n : ℕ) → r.number ≡ suc n → r.lent ≡ ws
  pub formed : well_formed limit r.lent ≡ true
  pub live : r.number ≡ 0 → live_vertices (read limit r.lent) ≡ live_after e (read limit ws)

-- the content without some vertices
vertices-left : (v : ℕ) (t : Table) → live_vertices (Edits.remove_vertex v t) ≡ filter (other_than itself v) (live_vertices t)
unfolding Edits.remove_vertex other_than
vertices-left v t = sym (filter_map vertex_number (other_than itself v) t.vertices)

vertices-merged : (v w : ℕ) (t : Table) → live_vertices (Edits.merge_vertices v w t) ≡ filter (other_than itself w) (live_vertices t)
unfolding Edits.merge_vertices Edits.rename_vertex
vertices-merged v w t = vertices-left w (Edits.rename_vertex v w t)

vertices-withdrawn : (rs : List Removal) (t : Table) → live_vertices (withdrawn rs t) ≡ filter (stays_vertex rs) (live_vertices t)
unfolding withdrawn kept_vertex
vertices-withdrawn rs t = sym (filter_map vertex_number (stays_vertex rs) t.vertices)

module _ (ws : List ℕ) (formed : well_formed limit ws ≡ true) where
  stays : (e : Edit) (a : Answer) → eqb (number a) 0 ≡ false → Went e ws (result_of a ws)
  stays e a n = record { refused = λ k q. refl; formed = formed; live = λ q. clash (eq-eqb (number a) 0 q) n }

  -- done, with the words of a content
  becomes : (e : Edit) (x : ℕ) (t : Table) → holdable limit t ≡ true → live_vertices t ≡ live_after e (read limit ws)
      → Went e ws (result_of (Ok x) (words limit t))
  becomes e x t h l = record {
    refused = λ k q. absurd (omega (arith, q));
    formed = words-formed limit t h;
    live = λ q. ap live_vertices (read-words limit t h) ∙ l;
  }

  -- a hyperedge that was there: done, and the words are as they were
  found_before : (ms : List ℕ) (w x : ℕ) → Went (add_hyperedge ms w) ws (result_of (Ok x) ws)
  unfolding live_after
  found_before ms w x = record { refused = λ k q. refl; formed = formed; live = λ q. refl }

  removal-went : (r : Removal) → Went (remove r) ws (removal r ws)
  unfolding removal remove_vertex_result remove_hyperedge_result on_live live_after Edits.remove_hyperedge
  removal-went (vertex v) =
      rw (formed-result ws ws (remove_vertex_result v ws) formed)
      (on (is_live (live_vertices (read limit ws)) v)
      (λ l. rw l (becomes _ 0 _ (remove-vertex-holdable limit v (read limit ws) (read-holdable limit ws formed)) (vertices-left v (read limit ws))))
      (λ l. rw l (stays _ (vertex_missing v) refl)))
  removal-went (hyperedge x) =
      rw (formed-result ws ws (remove_hyperedge_result x ws) formed)
      (on (is_live (live_hyperedges (read limit ws)) x)
      (λ l. rw l (becomes _ 0 _ (remove-hyperedge-holdable limit x (read limit ws) (read-holdable limit ws formed)) refl))
      (λ l. rw l (stays _ (hyperedge_missing x) refl)))

  tray-went : (rs : List Withdrawal) → Went (withdraw rs) ws (tray rs ws)
  unfolding live_after
  tray-went rs =
      ⊎_elim
      (λ a. record {
        refused = λ k q. absurd (omega (arith, a.0, q));
        formed = rw a.1 (removals-formed ws formed (map asked rs));
        live = λ q. ap (λ (s : List ℕ). live_vertices (read limit s)) a.1 ∙ ap live_vertices (removals-content ws formed (map asked rs))
            ∙ vertices-withdrawn (map asked rs) (read limit ws);
      })
      (λ f. record { refused = λ k q. f.1; formed = rw f.1 formed; live = λ q. absurd (omega (arith, f.0, q)) })
      (all-or-none ws formed rs)

  pub edit-went : (e : Edit) → Went e ws (edit e ws)
  unfolding edit live_after Edits.add_hyperedge Edits.update_hyperedge
  edit-went (add_vertex w) =
      add-vertex-goes (Went (add_vertex w) ws) ws formed (stays (add_vertex w)) w (λ h. becomes _ _ _ h (add-vertex-live w (read limit ws)))
  edit-went (add_hyperedge ms w) =
      add-hyperedge-goes (Went (add_hyperedge ms w) ws) ws formed (stays (add_hyperedge ms w)) ms w
      (λ unequal found x. found_before ms w x) (λ unequal new h. becomes _ _ _ h refl)
  edit-went (update x ms) = update-goes (Went (update x ms) ws) ws formed (stays (update x ms)) x ms (λ unequal h. becomes _ _ _ h refl)
  edit-went (merge v w) =
      merge-goes (Went (merge v w) ws) ws formed (stays (merge v w)) v w
      (λ m. becomes _ _ _ (merge-holdable limit v w (read limit ws) (read-holdable limit ws formed) m.kept-live) (vertices-merged v w (read limit ws)))
  edit-went (remove r) = removal-went r
  edit-went (withdraw rs) = tray-went rs

  pub edit-formed : (e : Edit) → well_formed limit (edit e ws).lent ≡ true
  edit-formed e = (edit-went e).formed

  -- the live vertices, done
  pub edit-live : (e : Edit) → (edit e ws).number ≡ 0 → live_vertices (read limit (edit e ws).lent) ≡ live_after e (read limit ws)
  edit-live e q = (edit-went e).live q

-- words that are no table are refused, and nothing changes
pub edit-unformed : (e : Edit) (ws : List ℕ) → well_formed limit ws ≡ false → edit e ws ≡ result_of (Err NotWellFormed) ws
unfolding edit on_formed
edit-unformed (add_vertex w) ws u = rw u
edit-unformed (add_hyperedge ms w) ws u = rw u
edit-unformed (update x ms) ws u = rw u
edit-unformed (merge v w) ws u = rw u
edit-unformed (remove r) ws u = removal-unformed r ws u
edit-unformed (withdraw rs) ws u = tray-unformed rs ws u

-- whatever is refused changes nothing
pub edit-refused : (e : Edit) (ws : List ℕ) (n : ℕ) → (edit e ws).number ≡ suc n → (edit e ws).lent ≡ ws
edit-refused e ws n q =
    on (well_formed limit ws) (λ f. (edit-went ws f e).refused n q) (λ u. ap (λ (r : Result). r.lent) (edit-unformed e ws u))

-- ---- a desk that fits, taken apart

pub record DeskFits (d : Desk) : Type 0 where
  pub formed : well_formed limit d.table ≡ true
  pub fit : states_fit (length (live_vertices (content d))) d.states ≡ true

pub desk-fits-of : {d : Desk} → desk_fits d ≡ true → DeskFits d
unfolding desk_fits
desk-fits-of h = record { formed = and_left _ _ h; fit = and_right _ _ h }

-- ---- states that follow their vertices

module _ (d : Desk) (h : desk_fits d ≡ true) where
  table-formed : well_formed limit d.table ≡ true
  table-formed = (desk-fits-of h).formed

  laid-again : states_by (state_of (content d) d.states) (live_vertices (content d)) ≡ d.states
  laid-again = states-same _ d.states (live-rises d.table table-formed) (live-few d.table table-formed) (desk-fits-of h).fit

  -- with the same live vertices the states stay word for word
  pub following-kept : (ws : List ℕ) → live_vertices (read limit ws) ≡ live_vertices (content d) → following d ws ≡ desk_of ws d.states
  unfolding following
  following-kept ws l =
      ap (desk_of ws) (ap (states_by (state_of (content d) d.states)) l ∙ laid-again)

  pub following-same : following d d.table ≡ d
  following-same = following-kept d.table refl

  -- and with a vertex more
  pub following-more : (ws : List ℕ) → well_formed limit ws ≡ true → live_vertices (read limit ws) ≡ live_vertices (content d) ++ ((content d).next_vertex ∷ [])
      → following d ws ≡ desk_of ws d.states
  unfolding following
  following-more ws f l =
      let live : List ℕ = live_vertices (content d) in
      let few : length live ≤ vertex_limit = live-few d.table table-formed in
      let more : length (live ++ ((content d).next_vertex ∷ [])) ≤ vertex_limit = rw l at (live-few ws f) in
      let room : length live < vertex_limit = omega (arith, length-append live ((content d).next_vertex ∷ []), more) in
      ap (desk_of ws) (ap (states_by (state_of (content d) d.states)) l
      ∙ states-one-more live d.states (live-rises d.table table-formed) few (desk-fits-of h).fit _ (next-dead d.table table-formed) room)

  -- in any table they fit
  pub following-fits : (ws : List ℕ) → well_formed limit ws ≡ true → desk_fits (following d ws) ≡ true
  unfolding desk_fits following
  following-fits ws f =
      and_both _ _ f (states-follow-fit _ (live_vertices (content d)) d.states (live_vertices (read limit ws)) (desk-fits-of h).fit (live-few ws f))

-- to a table, and from there to one with a part of its vertices
pub following-part : (d : Desk) (ws part : List ℕ)
    → ((v : ℕ) → memb v (live_vertices (read limit part)) ≡ true → memb v (live_vertices (read limit ws)) ≡ true)
    → following (following d ws) part ≡ following d part
unfolding following
following-part d ws part within =
    ap (desk_of part) (states-part (state_of (content d) d.states) (live_vertices (read limit ws)) (live_vertices (read limit part)) within)

-- ---- edits at the desk

-- where the desk does not fit the edit is refused, and nothing changes
pub edit-unfit : (e : Edit) (d : Desk) → desk_fits d ≡ false → desk_edit e d ≡ outcome (Err NotWellFormed) d
unfolding desk_edit edited
edit-unfit e d u = rw u

-- the answer and the table are those of the edit, and the states stay word for word
abbrev pub StatesStay : Edit → Desk → Type 0
StatesStay e d = desk_edit e d ≡ answering (edit e d.table) (desk_of (edit e d.table).lent d.states)

module _ (d : Desk) (h : desk_fits d ≡ true) where
  -- where it fits, the answer and the table are those of the edit, and the states follow
  pub edit-fitting : (e : Edit) → desk_edit e d ≡ answering (edit e d.table) (following d (edit e d.table).lent)
  unfolding desk_edit edited
  edit-fitting e = rw h

  -- a refused edit changes nothing
  pub edit-refused-stays : (e : Edit) (n : ℕ) → (edit e d.table).number ≡ suc n → desk_edit e d ≡ answering (edit e d.table) d
  edit-refused-stays e n q =
      edit-fitting e ∙ ap (answering (edit e d.table)) (ap (following d) (edit-refused e d.table n q) ∙ following-same d h)

  stays_by : (e : Edit) (k : ℕ) → (edit e d.table).number ≡ k
      → ((edit e d.table).number ≡ 0 → following d (edit e d.table).lent ≡ desk_of (edit e d.table).lent d.states) → StatesStay e d
  stays_by e zero q done = edit-fitting e ∙ ap (answering (edit e d.table)) (done q)
  stays_by e (suc n) q done =
      edit-fitting e ∙ ap (answering (edit e d.table))
      (following-kept d h (edit e d.table).lent (ap (λ (s : List ℕ). live_vertices (read limit s)) (edit-refused e d.table n q)))

  kept_by : (e : Edit) → live_after e (content d) ≡ live_vertices (content d) → StatesStay e d
  kept_by e l = stays_by e _ refl (λ q. following-kept d h _ (edit-live d.table (desk-fits-of h).formed e q ∙ l))

  pub add-vertex-stays : (w : ℕ) → StatesStay (add_vertex w) d
  unfolding live_after
  add-vertex-stays w =
      let e : Edit = add_vertex w in
      let f = (desk-fits-of h).formed in
      stays_by e _ refl (λ q. following-more d h _ (edit-formed d.table f e) (edit-live d.table f e q))

  pub add-hyperedge-stays : (ms : List ℕ) (w : ℕ) → StatesStay (add_hyperedge ms w) d
  unfolding live_after
  add-hyperedge-stays ms w = kept_by (add_hyperedge ms w) refl

  pub update-stays : (x : ℕ) (ms : List ℕ) → StatesStay (update x ms) d
  unfolding live_after
  update-stays x ms = kept_by (update x ms) refl

  pub remove-hyperedge-stays : (x : ℕ) → StatesStay (remove (hyperedge x)) d
  unfolding live_after
  remove-hyperedge-stays x = kept_by (remove (hyperedge x)) refl
