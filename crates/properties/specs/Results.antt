-- What each query of properties answers and leaves; 1 comes before all by `on_formed`. Assumes nothing.
use Rattle.std.specs.Prelude.{List, [], ℕ, Ok}
use Rattle.lists.specs.Tests.{bit}
use Rattle.layout.specs.Content.{Table}
use Rattle.layout.specs.Answers.{Result, result_of, listed}
use Rattle.properties.specs.Properties.{orphan_vertices, orphan_hyperedges, uniform, endpoints, inclusions, nestedness}

-- get_orphan_vertices: 1, 11
abbrev pub orphan_vertices_result : List ℕ → Table → Result
orphan_vertices_result out t = listed (orphan_vertices t) out

-- get_orphan_hyperedges: 1, 11
abbrev pub orphan_hyperedges_result : List ℕ → Table → Result
orphan_hyperedges_result out t = listed (orphan_hyperedges t) out

-- get_endpoints: 1, 11
abbrev pub endpoints_result : List ℕ → Table → Result
endpoints_result out t = listed (endpoints t) out

-- is_k_uniform: 1; then yes or no
abbrev pub uniform_result : ℕ → Table → Result
uniform_result k t = result_of (Ok (bit (uniform k t))) []

-- get_inclusions: 1, 11
abbrev pub inclusions_result : List ℕ → Table → Result
inclusions_result out t = listed (inclusions t) out

-- get_nestedness_profile: 1, 11
abbrev pub nestedness_result : List ℕ → Table → Result
nestedness_result out t = listed (nestedness t) out
