-- The removal of a vertex, a tray with a record of one and the read of a text, each with a table in which it brings equals together. Assumes nothing.
use Rattle.std.specs.Prelude.{Ok}
use mathlib.Core.Path.{◌≡◌, refl, ap, ◌∙◌}
use mathlib.Core.Bool.{true, false}
use mathlib.Core.List.{List, [], ◌∷◌}
use Prim.Native.Nat.{ℕ}
use lib.ListN.{length}
use borrow.Author.Tests.{eq-eqb, ltb-true}
use Rattle.lists.specs.Tests.{◌and◌}
use Rattle.lists.specs.Lists.{all, any, filter, other_than, ascending}
use Rattle.lists.proofs.All.{all-at}
use Rattle.layout.specs.Content.{Vertex, Hyperedge, no_vertex, no_hyperedge, members_live, numbered, valid}
use Rattle.layout.specs.Layout.{limit, size, read, words}
use Rattle.layout.specs.WellFormed.{well_formed, count_fits, holdable}
use Rattle.layout.specs.Steps.{steps_of, same_ends, equal_neighbours}
use Rattle.layout.specs.Answers.{Result, result_of, on_live}
use Rattle.layout.proofs.Read.{formed-of}
use Rattle.layout.proofs.Answers.{formed-result}
use Rattle.layout.proofs.Back.{read-words, words-formed}
use Rattle.layout.proofs.Holdable.{Holdable, holdable-of}
use Rattle.edits.specs.Edits.{without, has_members, remove_vertex}
use Rattle.edits.specs.Results.{remove_vertex_result, first_passing_from, first_passing}
use Rattle.removals.specs.Removals.{vertex, removal, is_vertex, is_hyperedge, stays_vertex, stays_hyperedge, kept_vertex, kept_hyperedge, thinned, withdrawn}
use Rattle.trays.specs.declared.Withdrawal.{Withdrawal}
use Rattle.trays.specs.Trays.{names_live, is_faulty, asked, tray_result, tray}
use Rattle.frames.specs.Frames.{frame_text}
use Rattle.frames.specs.Reading.{read_result}
use Rattle.frames.specs.Faulty.{is_word}
use Rattle.frame_laws.proofs.Held.{Worded}
use Rattle.frame_laws.proofs.Written.{text-accepted, text-content}
use Rattle.calls.specs.Calls.{remove, withdraw, edit, Call, an_edit, read_text, call, after_calls}
use Rattle.neighbours.specs.Neighbours.{neighbours_differ, none_twice, Brings, Between, Together}

-- ---- the two tables

between-holdable : holdable limit Between ≡ true
unfolding holdable count_fits valid numbered ascending members_live all ◌and◌
between-holdable = refl

together-holdable : holdable limit Together ≡ true
unfolding holdable count_fits valid numbered ascending members_live all ◌and◌
together-holdable = refl

between_none : none_twice Between ≡ true
unfolding none_twice neighbours_differ equal_neighbours steps_of same_ends any all ◌and◌
between_none = refl

together-some : none_twice Together ≡ false
unfolding none_twice neighbours_differ equal_neighbours steps_of same_ends any all ◌and◌
together-some = refl

between-formed : well_formed limit (words limit Between) ≡ true
between-formed = words-formed limit Between between-holdable

-- ---- a call that makes the second of the first

brings-by : (c : Call) → call c (words limit Between) ≡ result_of (Ok 0) (words limit Together) → Brings c (words limit Between)
unfolding after_calls
brings-by c e = record {
  formed = between-formed;
  none_before = ap none_twice (read-words limit Between between-holdable) ∙ between_none;
  accepted = ap (λ (r : Result). r.number) e;
  some_after =
      ap (λ (r : Result). none_twice (read limit r.lent)) e ∙ ap none_twice (read-words limit Together together-holdable) ∙ together-some;
}

-- vertex 1 removed from [0,1,0]
removed-is : (ws : List ℕ) → remove_vertex_result 1 ws Between ≡ result_of (Ok 0) (words limit Together)
unfolding remove_vertex_result on_live remove_vertex without has_members filter other_than
removed-is ws = refl

pub removal-brings : Brings (an_edit (remove (vertex 1))) (words limit Between)
unfolding call edit removal
removal-brings =
    let ws : List ℕ = words limit Between in
    brings-by (an_edit (remove (vertex 1))) (formed-result ws ws (remove_vertex_result 1 ws) between-formed
    ∙ ap (remove_vertex_result 1 ws) (read-words limit Between between-holdable) ∙ removed-is ws)

-- the same in a tray
abbrev vertex_record : Withdrawal
vertex_record = record { kind = 0; number = 1 }

tray-is : (ws : List ℕ) → tray_result (vertex_record ∷ []) ws Between ≡ result_of (Ok 0) (words limit Together)
unfolding tray_result first_passing first_passing_from is_faulty names_live asked withdrawn kept_vertex kept_hyperedge thinned stays_vertex stays_hyperedge is_vertex is_hyperedge any filter has_members
tray-is ws = refl

pub tray-brings : Brings (an_edit (withdraw (vertex_record ∷ []))) (words limit Between)
unfolding call edit tray
tray-brings =
    let ws : List ℕ = words limit Between in
    brings-by (an_edit (withdraw (vertex_record ∷ []))) (formed-result ws ws (tray_result (vertex_record ∷ []) ws) between-formed
    ∙ ap (tray_result (vertex_record ∷ []) ws) (read-words limit Between between-holdable) ∙ tray-is ws)

-- the text of a table with the list [0,0]
together-worded : Worded Together
unfolding is_word all ◌and◌
together-worded =
    let vs : List Vertex = Together.vertices in
    let es : List Hyperedge = Together.hyperedges in
    record {
      next-vertex = ltb-true 2 _ refl;
      next-hyperedge = ltb-true 1 _ refl;
      vertex-number = λ i h. ltb-true _ _ (all-at (λ (v : Vertex). is_word v.number) vs i no_vertex refl h);
      vertex-weight = λ i h. ltb-true _ _ (all-at (λ (v : Vertex). is_word v.weight) vs i no_vertex refl h);
      hyperedge-number = λ j h. ltb-true _ _ (all-at (λ (e : Hyperedge). is_word e.number) es j no_hyperedge refl h);
      hyperedge-weight = λ j h. ltb-true _ _ (all-at (λ (e : Hyperedge). is_word e.weight) es j no_hyperedge refl h);
      members = λ j h. all-at (λ (e : Hyperedge). all is_word e.members) es j no_hyperedge refl h;
    }

pub text-brings : Brings (read_text (frame_text Together)) (words limit Between)
unfolding call read_result
text-brings =
    let d : Holdable limit Together = holdable-of together-holdable in
    brings-by (read_text (frame_text Together))
    (rw (
      eq-eqb (length (words limit Between)) (size limit) (formed-of limit (words limit Between) between-formed).shape.sized,
      text-accepted Together d together-worded,
      text-content Together d together-worded,
    ))
