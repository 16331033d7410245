-- Texts whose faulty line is found by looking ahead. Assumes nothing.
use mathlib.Core.Path.{◌≡◌, refl}
use mathlib.Core.List.{◌++◌}
use Rattle.lists.specs.Tests.{◌and◌}
use Rattle.lists.specs.Lists.{same_list, flat, sum_over}
use Rattle.layout.specs.Content.{vertex_of}
use Rattle.frames.specs.Frames.{number_bytes, short_bytes, head_frame, vertex_frame, balance, check, sealed, digit, byte_digits, digits, line, vertex_line}
use Rattle.frames.specs.Reading.{value, byte_at, short_at, number_at, stands_at, head_good, climbs_to, number_good, vertex_good, line_good, first_not, good_lines, faulty_line}

-- two vertices of which no third number was given, and the first is 1
pub vertex-ahead : faulty_line (line (head_frame 2 0 2 0) ++ vertex_line (vertex_of 1 0)) ≡ 2
unfolding ◌and◌ same_list flat number_bytes short_bytes head_frame vertex_frame sum_over balance check sealed digit byte_digits digits line vertex_line value byte_at short_at number_at stands_at head_good climbs_to number_good vertex_good line_good first_not good_lines faulty_line
vertex-ahead = refl

-- more vertices than numbers were given
pub head-vertices : faulty_line (line (head_frame 1 0 2 0)) ≡ 1
unfolding ◌and◌ same_list flat number_bytes short_bytes head_frame sum_over balance check sealed digit byte_digits digits line value byte_at short_at number_at stands_at head_good line_good first_not good_lines faulty_line
head-vertices = refl

-- more hyperedges than numbers were given
pub head-hyperedges : faulty_line (line (head_frame 1 0 1 1)) ≡ 1
unfolding ◌and◌ same_list flat number_bytes short_bytes head_frame sum_over balance check sealed digit byte_digits digits line value byte_at short_at number_at stands_at head_good line_good first_not good_lines faulty_line
head-hyperedges = refl

-- a hyperedge and no vertex
pub head-bare : faulty_line (line (head_frame 0 1 0 1)) ≡ 1
unfolding ◌and◌ same_list flat number_bytes short_bytes head_frame sum_over balance check sealed digit byte_digits digits line value byte_at short_at number_at stands_at head_good line_good first_not good_lines faulty_line
head-bare = refl
