-- The questions whose answer is a listing, and the call that each makes. Assumes nothing.
use Rattle.std.specs.Prelude.{List, ℕ}
use Rattle.layout.specs.Answers.{Result, on_formed}
use Rattle.lookups.specs.Results.{related_result, vertex_index_result, weighing_result}
use Rattle.lookups.specs.declared.Direction.TheVariants.{From, To}
use Rattle.lookups.specs.declared.Relation.TheVariants.{Along}
use Rattle.reached_vertices.specs.Reached.{reached_result}
use Rattle.structural.specs.Sort.{sort_result}
use Rattle.structural.specs.Components.{connected_components_result, strong_components_result}
use Rattle.structural.specs.Closure.{closure_result}
use Rattle.cut.specs.Cut.{cut_vertices_result}
use Rattle.properties.specs.Results.{orphan_vertices_result, endpoints_result}
use Rattle.paths.specs.Paths.{from_result}
use Rattle.walk.specs.Walk.{walk_result}
use Rattle.commands.specs.declared.Query.{Query}
use Rattle.commands.specs.declared.Query.TheVariants.{Sort, Costs, Upstream, Downstream, Next, Before, Components, Strong, Closure, Cut, Orphans, Endpoints, FindTube, FindTransfer, Walk}

-- the call that a question makes, on the words of a table
unfoldable pub asked : Query → List ℕ → List ℕ → Result
asked Sort ws lent = on_formed ws lent (sort_result lent)
asked (Costs v) ws lent = on_formed ws lent (from_result v.0 lent)
asked (Upstream v) ws lent = on_formed ws lent (reached_result To v.0 lent)
asked (Downstream v) ws lent = on_formed ws lent (reached_result From v.0 lent)
asked (Next v) ws lent = on_formed ws lent (related_result (Along From) v.0 lent)
asked (Before v) ws lent = on_formed ws lent (related_result (Along To) v.0 lent)
asked Components ws lent = on_formed ws lent (connected_components_result lent)
asked Strong ws lent = on_formed ws lent (strong_components_result lent)
asked Closure ws lent = on_formed ws lent (closure_result lent)
asked Cut ws lent = on_formed ws lent (cut_vertices_result lent)
asked Orphans ws lent = on_formed ws lent (orphan_vertices_result lent)
asked Endpoints ws lent = on_formed ws lent (endpoints_result lent)
asked (FindTube w) ws lent = on_formed ws lent (vertex_index_result w lent)
asked (FindTransfer w) ws lent = on_formed ws lent (weighing_result w lent)
asked (Walk start steps seed) ws lent = on_formed ws lent (walk_result start.0 steps seed lent)
