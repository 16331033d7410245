-- The further cases hold, by computation of the definitions that the promises cite. Assumes nothing.
use mathlib.Core.Path.{◌≡◌, refl}
use mathlib.Core.Bool.{true}
use mathlib.Core.List.{map}
use Rattle.lists.specs.Tests.{◌and◌, every, chosen}
use Rattle.lists.specs.Lists.{all, any, same_list, filter, flat, tab, other_than, over, ascending, sum_over}
use Rattle.layout.specs.Content.{position, position_from, members_live, numbered, valid}
use Rattle.layout.specs.Steps.{steps_of, same_ends, is_step, makes_step, has_step}
use Rattle.layout.specs.WellFormed.{count_fits, holdable}
use Rattle.layout.specs.Answers.{on_live, listed}
use Rattle.graph.specs.Bfs.{push, spread, run, bfs}
use Rattle.order.specs.Least.{least}
use Rattle.order.specs.Greedy.{available, next, rest, greedy}
use Rattle.depth.specs.Dfs.{tried}
use Rattle.depth.specs.Pre.{climbs, walks, preorder}
use Rattle.distance.specs.Computed.{lex_le, ahead, better, onward, best_over, stay, best_within, best}
use Rattle.components.specs.Classes.{rooted, roots_from, classes}
use Rattle.steps.specs.Matrices.{undirected, lists_both, together}
use Rattle.edits.specs.Edits.{without, has_members, remove_vertex, read_as, renamed, rename_vertex, merge_vertices}
use Rattle.edits.specs.Results.{on_some, on_short, on_number, on_room, identical, add_hyperedge_result, update_result, remove_vertex_result, on_first, on_other, side_by_side, merge_result, first_passing_from, first_passing, members_of}
use Rattle.removals.specs.Removals.{is_vertex, is_hyperedge, stays_vertex, stays_hyperedge, kept_vertex, kept_hyperedge, thinned, withdrawn}
use Rattle.trays.specs.Trays.{names_live, is_faulty, asked as removal_asked, tray_result}
use Rattle.lookups.specs.Lookups.{co_member, relates, is_related, related, is_member_of, has_member, is_shared, shared, has_end, places, places_in, degree, held, block, listing, connecting, adjacent_entry, full_adjacent, weighs, vertices_weighing}
use Rattle.lookups.specs.Results.{related_result, on_several, intersections_result, degree_result, listing_result, full_adjacent_result}
use Rattle.reads.specs.Reads.{vertex_weight, hyperedge_weight, vertex_weight_result, hyperedge_weight_result, members_result}
use Rattle.traversal.specs.Traversal.{list_from, traversal, reachable, traversal_result, reachable_result}
use Rattle.reached_vertices.specs.Reached.{is_other_reached, reached_vertices, reached_result}
use Rattle.structural.specs.Sort.{sort_of, acyclic, sort_result, acyclic_result}
use Rattle.structural.specs.Components.{connected, connected_components, connected_result, connected_components_result}
use Rattle.cut.specs.Cut.{record_of, is_linked, parts, parts_some, is_cut, cut_vertices, cut_vertices_result}
use Rattle.properties.specs.Properties as P
use Rattle.properties.specs.Properties.{is_orphan, orphan_vertices, uniform, steps_at, is_endpoint, sources, sinks, twice, endpoints}
use Rattle.paths.specs.Paths.{lighter, choice_among, choice, step_hyperedge, step_cost, best_path, entries_after, path_words, pair_result, cost_words, costs_from, from_result}
use Rattle.sheets.specs.Sheets.{Hold}
use Rattle.sheets.specs.More.{more}
use Rattle.sheets.proofs.Sheets.{asked, answered, in_words, hold}

computed : map asked more ≡ map answered more
unfolding sort_result acyclic sort_of greedy rest next available least has_step makes_step is_step steps_of any ◌and◌ listed over pair_result on_live path_words best_path best best_within stay best_over onward better ahead lex_le entries_after step_hyperedge step_cost choice choice_among lighter filter reachable traversal list_from position position_from bfs run spread push flat classes roots_from rooted tried chosen remove_vertex_result remove_vertex without has_members other_than merge_result merge_vertices rename_vertex renamed read_as on_other on_first side_by_side tray_result first_passing first_passing_from is_faulty names_live removal_asked withdrawn kept_vertex kept_hyperedge thinned stays_vertex stays_hyperedge is_vertex is_hyperedge add_hyperedge_result update_result on_some on_short on_room on_number same_ends identical same_list listing_result listing block places_in places every cut_vertices_result cut_vertices is_cut parts_some parts is_linked record_of together lists_both related_result related is_related relates co_member full_adjacent_result full_adjacent adjacent_entry connecting degree_result degree sum_over has_end held vertices_weighing weighs intersections_result on_several shared is_shared has_member is_member_of all traversal_result reachable_result preorder walks climbs acyclic_result connected_components_result connected_components tab undirected connected_result connected orphan_vertices is_orphan endpoints twice sources sinks is_endpoint steps_at uniform from_result costs_from cost_words P.has_count vertex_weight_result vertex_weight hyperedge_weight_result hyperedge_weight members_result members_of reached_result reached_vertices is_other_reached
computed = refl

all-in-words : all in_words more ≡ true
unfolding all any holdable count_fits valid ascending members_live numbered ◌and◌
all-in-words = refl

pub more-hold : Hold more
more-hold = hold more computed all-in-words
