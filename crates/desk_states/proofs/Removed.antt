-- A call on the table that may take vertices out, through the desk: the noted numbers, and the states that follow. Assumes nothing.
use Rattle.std.specs.Prelude.{Err}
use mathlib.Core.Path.{◌≡◌, refl, sym, ap, ap₂, ◌∙◌, subst}
use mathlib.Core.Bool.{Bool, true, false, not}
use mathlib.Core.List.{List}
use Prim.Native.Nat.{ℕ, zero, suc}
use lib.Dec.{eqb}
use lib.ListN.{take}
use borrow.Author.Tests.{not-true, not-false, eqb-true}
use Rattle.lists.specs.Lists.{filter, Ascending}
use Rattle.lists.proofs.Cases.{on, clash}
use Rattle.layout.specs.Answers.{Answer}
use Rattle.layout.specs.declared.Refusal.TheVariants.{NotWellFormed}
use Rattle.layout.specs.Content.{live_vertices}
use Rattle.layout.specs.Layout.{limit, vertex_count, read}
use Rattle.layout.specs.WellFormed.{well_formed}
use Rattle.layout.specs.Inner.{vertex_column}
use Rattle.layout.specs.Answers.{number, Result, result_of}
use Rattle.layout.proofs.Read.{live-vertices, formed-of}
use Rattle.calls.specs.Calls.{Edit, edit}
use Rattle.desk.specs.States.{state_in, states_by}
use Rattle.desk.specs.Desk.{Desk, desk_of, outcome, answering, desk_fits, following, edited, desk_edit}
use Rattle.desk.proofs.Edits.{live_after, edit-unformed, edit-refused, edit-formed, edit-live, following-same}
use Rattle.desk_states.specs.Open.{is_open}
use Rattle.desk_states.specs.Following.{Noted, Opened, Survivors, followed, Followable}
use Rattle.desk_states.proofs.Open.{open-fits, unformed-unfit, shut-unfit, open-few, open_lent}

-- r is what a call on the words ws leaves: it may take vertices out where it is done, and changes nothing where it is refused
pub record Removes (ws : List ℕ) (r : Result) : Type 0 where
  pub unformed : well_formed limit ws ≡ false → r ≡ result_of (Err NotWellFormed) ws
  pub refused : eqb r.number 0 ≡ false → r.lent ≡ ws
  pub formed : well_formed limit ws ≡ true → well_formed limit r.lent ≡ true
  pub keeps : ℕ → Bool
  pub kept : well_formed limit ws ≡ true → r.number ≡ 0 → live_vertices (read limit r.lent) ≡ filter keeps (live_vertices (read limit ws))

some_number : (k : ℕ) → eqb k 0 ≡ false → (n : ℕ) × (k ≡ suc n)
some_number zero e = clash refl e
some_number (suc n) e = (n, refl)

-- an edit after which the live vertices are those that a test keeps
pub edit-removes : (e : Edit) (ws : List ℕ) (keeps : ℕ → Bool) → live_after e (read limit ws) ≡ filter keeps (live_vertices (read limit ws)) → Removes ws (edit e ws)
edit-removes e ws keeps l = record {
  unformed = edit-unformed e ws;
  refused = λ q. let n = some_number (edit e ws).number q in edit-refused e ws n.0 n.1;
  formed = λ f. edit-formed ws f e;
  keeps = keeps;
  kept = λ f d. rw (edit-live ws f e d) l;
}

-- where the desk does not fit
unfit-edited : (r : Result) (d : Desk) → desk_fits d ≡ false → edited r d ≡ outcome (Err NotWellFormed) d
unfolding edited
unfit-edited r d u = rw u

-- b is what `is_open` found, and the code tested `!b`
pub shut-edited : (r : Result) (ws ss : List ℕ) (b : Bool) → b ≡ is_open (desk_of ws ss) → not b ≡ true
    → outcome (Err NotWellFormed) (desk_of ws ss) ≡ edited r (desk_of ws ss)
shut-edited r ws ss b e h = sym (unfit-edited r (desk_of ws ss) (shut-unfit (desk_of ws ss) (sym e ∙ not-true b h)))

pub edit-shut : (e : Edit) (ws ss : List ℕ) (b : Bool) → b ≡ is_open (desk_of ws ss) → not b ≡ true
    → outcome (Err NotWellFormed) (desk_of ws ss) ≡ desk_edit e (desk_of ws ss)
unfolding desk_edit
edit-shut e ws ss b eb h = shut-edited (edit e ws) ws ss b eb h

-- the desk was found open and its numbers noted: n is what `vertex_count` found, numbers what `note_numbers` did
pub opened-by : (ws ss : List ℕ) (n : ℕ) (numbers : List ℕ) (b : Bool) → b ≡ is_open (desk_of ws ss) → not b ≡ false
    → n ≡ vertex_count ws → Noted ws numbers → Opened ws ss n numbers
opened-by ws ss n numbers b e h en noted = record { is_open = sym e ∙ not-false b h; count = en; noted = noted }

-- the call answered a and left the words left
module _ (ws ss : List ℕ) (n : ℕ) (numbers : List ℕ) (op : Opened ws ss n numbers) (a : Answer) (left : List ℕ) (rm : Removes ws (result_of a left)) where
  noted-live : take n numbers ≡ live_vertices (read limit ws)
  noted-live = ap (λ (k : ℕ). take k numbers) op.count ∙ op.noted.front ∙ sym (live-vertices limit ws)

  done-formed : eqb (number a) 0 ≡ true → well_formed limit ws ≡ true
  done-formed d =
      on (well_formed limit ws) (λ f. f)
      (λ u. clash d (ap (λ (r : Result). eqb r.number 0) (rm.unformed u)))

  survivors : eqb (number a) 0 ≡ true → Survivors numbers n left
  survivors d =
      let f = done-formed d in record {
        room = op.noted.room;
        few = rw op.count (open-few (desk_of ws ss) op.is_open);
        ascend = subst Ascending (sym (noted-live ∙ live-vertices limit ws)) (formed-of limit ws f).vertices-ascend;
        sized = (formed-of limit left (rm.formed f)).shape.sized;
        keeps = rm.keeps;
        kept = sym (live-vertices limit left) ∙ rm.kept f (eqb-true _ _ d) ∙ ap (filter rm.keeps) (sym noted-live);
      }

  followable : Followable a numbers n left ss
  followable = record { lent = open_lent (desk_of ws ss) op.is_open; left = survivors }

  -- the states are those that follow
  module _ (ss' : List ℕ) (es : ss' ≡ followed a (take n numbers) ss (vertex_column left)) where
    follows : eqb (number a) 0 ≡ true → ss' ≡ states_by (state_in (live_vertices (read limit ws)) ss) (live_vertices (read limit left))
    unfolding followed
    follows d = es ∙ rw (d, noted-live, live-vertices limit left)

    stays : eqb (number a) 0 ≡ false → ss' ≡ ss
    unfolding followed
    stays d = es ∙ rw d

    desk-is : well_formed limit ws ≡ true → desk_of left ss' ≡ following (desk_of ws ss) left
    unfolding following
    desk-is f =
        on (eqb (number a) 0)
        (λ d. ap (desk_of left) (follows d))
        (λ d. ap₂ desk_of (rm.refused d) (stays d)
        ∙ sym (following-same (desk_of ws ss) (open-fits (desk_of ws ss) op.is_open f)) ∙ ap (following (desk_of ws ss)) (sym (rm.refused d)))

    refused-is : well_formed limit ws ≡ false → outcome a (desk_of left ss') ≡ outcome (Err NotWellFormed) (desk_of ws ss)
    refused-is u =
        let q = rm.unformed u in
        let d : eqb (number a) 0 ≡ false = ap (λ (r : Result). eqb r.number 0) q in
        ap₂ (λ (r : Result) (s : List ℕ). answering r (desk_of r.lent s)) q (stays d)

    now-edited : outcome a (desk_of left ss') ≡ edited (result_of a left) (desk_of ws ss)
    unfolding edited
    now-edited =
        on (well_formed limit ws)
        (λ f. rw (open-fits (desk_of ws ss) op.is_open f) (ap (outcome a) (desk-is f)))
        (λ u. refused-is u ∙ sym (unfit-edited (result_of a left) (desk_of ws ss) (unformed-unfit (desk_of ws ss) u)))

-- r is what the call's contract says
module _ (ws ss : List ℕ) (n : ℕ) (numbers : List ℕ) (op : Opened ws ss n numbers)
    (a : Answer) (left : List ℕ) (r : Result) (er : result_of a left ≡ r) (rm : Removes ws r) where
  pub opened-left : Followable a numbers n left ss
  opened-left = followable ws ss n numbers op a left (subst (Removes ws) (sym er) rm)

  pub opened-edited : (ss' : List ℕ) → ss' ≡ followed a (take n numbers) ss (vertex_column left) → outcome a (desk_of left ss') ≡ edited r (desk_of ws ss)
  opened-edited ss' es =
      now-edited ws ss n numbers op a left (subst (Removes ws) (sym er) rm) ss' es ∙ ap (λ (r : Result). edited r (desk_of ws ss)) er

-- the same where one function opens the desk, notes the numbers and makes the call
module _ (ws ss : List ℕ) (b : Bool) (eb : b ≡ is_open (desk_of ws ss)) (hb : not b ≡ false) (n : ℕ) (en : n ≡ vertex_count ws)
    (numbers : List ℕ) (noted : Noted ws numbers)
    (a : Answer) (left : List ℕ) (r : Result) (er : result_of a left ≡ r) (rm : Removes ws r) where
  pub removed-left : Followable a numbers n left ss
  removed-left = opened-left ws ss n numbers (opened-by ws ss n numbers b eb hb en noted) a left r er rm

  pub removed-edited : (ss' : List ℕ) → ss' ≡ followed a (take n numbers) ss (vertex_column left) → outcome a (desk_of left ss') ≡ edited r (desk_of ws ss)
  removed-edited = opened-edited ws ss n numbers (opened-by ws ss n numbers b eb hb en noted) a left r er rm
