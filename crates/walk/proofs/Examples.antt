-- Walks, computed: two of one step, by a draw of 2 to the 64th less 1 and by one of 2 to the 64th less 1,025, and one of three steps. Assumes nothing.
use Rattle.std.proofs.Common.{◌≡◌, [], ◌∷◌, refl}
use lib.Ieee.{span, climb, size, odd, units, round, mul, div, lt, of_int}
use Rattle.layout.specs.Content.{Table, hyperedges_of}
use Rattle.lists.specs.Lists.{filter, sum_over}
use Rattle.lists.specs.Tests.{chosen}
use Rattle.walk.specs.Walk.{xorshift, sample, last_of, first_greater, is_first_other, other_members, to_one_of, move_along, move, walk_from, cut, first_state, walk}

-- h0 [0, 1] of weight 5 and h1 [0, 2] of weight 0
abbrev forked : Table
forked = record {
  next_vertex = 3;
  next_hyperedge = 2;
  vertices = record { number = 0; weight = 0 } ∷ record { number = 1; weight = 0 } ∷ record { number = 2; weight = 0 } ∷ [];
  hyperedges = record { number = 0; weight = 5; members = 0 ∷ 1 ∷ [] } ∷ record { number = 1; weight = 0; members = 0 ∷ 2 ∷ [] } ∷ [];
}

draw-last : xorshift 7650297886450228676 ≡ 18446744073709551615
unfolding xorshift
draw-last = refl

draw-first : xorshift 18097393005032713128 ≡ 18446744073709550591
unfolding xorshift
draw-first = refl

-- no running sum is greater: the last
walk-else-last : walk forked 0 1 7650297886450228676 ≡ 0 ∷ 2 ∷ []
unfolding walk walk_from move move_along hyperedges_of filter cut first_state to_one_of other_members is_first_other chosen first_greater last_of sum_over sample xorshift of_int div mul lt round units odd span climb size
walk-else-last = refl

walk-first-greater : walk forked 0 1 18097393005032713128 ≡ 0 ∷ 1 ∷ []
unfolding walk walk_from move move_along hyperedges_of filter cut first_state to_one_of other_members is_first_other chosen first_greater last_of sum_over sample xorshift of_int div mul lt round units odd span climb size
walk-first-greater = refl

-- h0 [0, 1] and h1 [0, 2], both of weight 1
abbrev even : Table
even = record {
  next_vertex = 3;
  next_hyperedge = 2;
  vertices = record { number = 0; weight = 0 } ∷ record { number = 1; weight = 0 } ∷ record { number = 2; weight = 0 } ∷ [];
  hyperedges = record { number = 0; weight = 1; members = 0 ∷ 1 ∷ [] } ∷ record { number = 1; weight = 1; members = 0 ∷ 2 ∷ [] } ∷ [];
}

walk_of-three : walk even 0 3 1 ≡ 0 ∷ 1 ∷ 0 ∷ 2 ∷ []
unfolding walk walk_from move move_along hyperedges_of filter cut first_state to_one_of other_members is_first_other chosen first_greater last_of sum_over sample xorshift of_int div mul lt round units odd span climb size
walk_of-three = refl
