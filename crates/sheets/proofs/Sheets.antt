-- Sheets P1 to P12, as one statement over one table of cases, by computation of the definitions that the promises cite. Assumes nothing.
use Rattle.std.specs.Prelude.{Ok}
use mathlib.Core.Path.{◌≡◌, refl, ap, ◌∙◌}
use mathlib.Core.Bool.{Bool, true}
use mathlib.Core.List.{List, [], ◌∷◌, map}
use Prim.Native.Nat.{ℕ}
use lib.ListN.{length}
use borrow.Author.Tests.{eq-eqb}
use Rattle.lists.specs.Tests.{◌and◌, every, chosen}
use Rattle.lists.specs.Lists.{all, any, same_list, filter, flat, tab, other_than, over, ascending, sum_over}
use Rattle.lists.proofs.Cases.{and_left, and_right}
use Rattle.layout.specs.Content.{Table, position, position_from, members_live, numbered, valid}
use Rattle.layout.specs.Layout.{limit, size, words}
use Rattle.layout.specs.Steps.{steps_of, is_step, makes_step, has_step}
use Rattle.layout.specs.WellFormed.{count_fits, holdable}
use Rattle.layout.specs.Answers.{Result, result_of, on_formed, on_live, listed}
use Rattle.layout.proofs.Back.{read-words, words-formed}
use Rattle.graph.specs.Bfs.{push, spread, run, bfs}
use Rattle.order.specs.Least.{least}
use Rattle.order.specs.Greedy.{available, next, rest, greedy}
use Rattle.depth.specs.Dfs.{tried, tries, visits}
use Rattle.depth.specs.Finish.{start_at, sweep, finished}
use Rattle.distance.specs.Computed.{lex_le, ahead, better, onward, best_over, stay, best_within, best}
use Rattle.components.specs.Classes.{rooted, roots_from, classes}
use Rattle.strong.specs.Strong.{mutually_reached, latest_first}
use Rattle.steps.specs.Matrices.{lists_both, together}
use Rattle.edits.specs.Edits.{without, has_members, remove_vertex}
use Rattle.edits.specs.Results.{on_some, update_result, remove_vertex_result}
use Rattle.lookups.specs.Lookups.{places, places_in, block, listing}
use Rattle.lookups.specs.Results.{listing_result}
use Rattle.traversal.specs.Traversal.{list_from, traversal, reachable}
use Rattle.structural.specs.Sort.{sort_of, acyclic, sort_result}
use Rattle.structural.specs.Components.{strong_components, strong_components_result}
use Rattle.structural.specs.Closure.{reaches_other, closure_of, closure_result}
use Rattle.cut.specs.Cut.{record_of, is_linked, parts, parts_some, is_cut, cut_vertices, cut_vertices_result}
use Rattle.properties.specs.Properties.{member_set, set_size, under, strictly_within, is_within, pair, pairs_of, inclusions, has_size, is_included, included_of_size, included, total_of, is_size, row, nestedness}
use Rattle.properties.specs.Properties as P
use Rattle.paths.specs.Paths.{lighter, choice_among, choice, step_hyperedge, step_cost, best_path, entries_after, path_words, pair_result}
use Rattle.frames.specs.Frames.{number_bytes, short_bytes, head_frame, vertex_frame, hyperedge_frame, balance, check, sealed, digit, byte_digits, digits, line, head_line, vertex_line, hyperedge_line, frame_text}
use Rattle.frames.specs.Reading.{value, byte_at, short_at, number_at, hyperedge_place, content_of, stands_at, head_good, climbs_to, number_good, vertex_good, hyperedge_good, line_good, first_not, good_lines, accepted, read_result}
use Rattle.sheets.specs.Sheets.{Given, held, text, Case, table_in, Hold, sheets}

-- the content of a case's table
abbrev content : Given → Table
content (held t) = t
content (text bytes) = content_of bytes

abbrev pub asked : Case → Result
asked c = c.query (content c.given)

abbrev pub answered : Case → Result
answered c = c.answer

-- a text is one that is accepted
abbrev reads : Given → Bool
reads (held t) = true
reads (text bytes) = accepted bytes

-- each table is one that words can hold
abbrev pub in_words : Case → Bool
in_words c = reads c.given and holdable limit (content c.given)

-- called on the words of a table that words can hold, a query is asked of that table
called : (t : Table) → holdable limit t ≡ true → (lent : List ℕ) (f : Table → Result) → on_formed (words limit t) lent f ≡ f t
unfolding on_formed
called t h lent f = rw (words-formed limit t h, read-words limit t h)

-- an accepted text is read
read_done : (bytes slice : List ℕ) → accepted bytes ≡ true → length slice ≡ size limit → read_result bytes slice ≡ result_of (Ok 0) (words limit (content_of bytes))
unfolding read_result
read_done bytes slice a n = rw (eq-eqb (length slice) (size limit) n, a)

-- the words of a case's table are those of its content
laid : (g : Given) → reads g ≡ true → (slice : List ℕ) → length slice ≡ size limit → table_in g slice ≡ words limit (content g)
laid (held t) a slice n = refl
laid (text bytes) a slice n = ap (λ (r : Result). r.lent) (read_done bytes slice a n)

pub hold : (cs : List Case) → map asked cs ≡ map answered cs → all in_words cs ≡ true → Hold cs
unfolding all
hold [] e h = tt
hold (c ∷ cs) e h =
    let here : asked c ≡ answered c = cc in
    let behind : map asked cs ≡ map answered cs = cc in
    let fit : in_words c ≡ true = and_left _ _ h in (
      λ slice lent n. ap (λ (ws : List ℕ). on_formed ws lent c.query) (laid c.given (and_left _ _ fit) slice n)
          ∙ called (content c.given) (and_right _ _ fit) lent c.query ∙ here,
      hold cs behind (and_right _ _ h),
    )

-- ---- the rules' sheets

computed : map asked sheets ≡ map answered sheets
unfolding sort_result acyclic sort_of greedy rest next available least has_step makes_step is_step steps_of any ◌and◌ listed over pair_result on_live path_words best_path best best_within stay best_over onward better ahead lex_le entries_after step_hyperedge step_cost choice choice_among lighter closure_result closure_of filter reaches_other reachable traversal list_from position position_from bfs run spread push flat strong_components_result strong_components classes roots_from rooted mutually_reached latest_first finished sweep start_at visits tries tried chosen remove_vertex_result remove_vertex without has_members other_than listing_result listing block places_in places inclusions pairs_of pair is_within strictly_within P.within under member_set every nestedness row included total_of included_of_size is_included has_size is_size set_size cut_vertices_result cut_vertices is_cut parts_some parts is_linked record_of together lists_both update_result on_some tab sum_over number_bytes short_bytes head_frame vertex_frame hyperedge_frame balance check sealed digit byte_digits digits line head_line vertex_line hyperedge_line frame_text value byte_at short_at number_at hyperedge_place content_of
computed = refl

all-in-words : all in_words sheets ≡ true
unfolding all any filter remove_vertex without has_members other_than holdable count_fits valid ascending members_live numbered ◌and◌ same_list flat tab sum_over number_bytes short_bytes head_frame vertex_frame hyperedge_frame balance check sealed digit byte_digits digits line head_line vertex_line hyperedge_line frame_text value byte_at short_at number_at hyperedge_place content_of stands_at head_good climbs_to number_good vertex_good hyperedge_good line_good first_not good_lines accepted
all-in-words = refl

pub sheets-hold : Hold sheets
sheets-hold = hold sheets computed all-in-words
