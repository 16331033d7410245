-- The document's words on the text: its opening, and its example in full. Assumes nothing.
use mathlib.Core.Path.{◌≡◌, refl}
use mathlib.Core.List.{List, [], ◌∷◌, ◌++◌}
use Prim.Native.Nat.{ℕ}
use lib.ListN.{take}
use Rattle.layout.specs.Content.{Table}
use Rattle.lists.specs.Lists.{flat, sum_over}
use Rattle.frames.specs.Frames.{number_bytes, short_bytes, head_frame, vertex_frame, hyperedge_frame, balance, check, sealed, digit, byte_digits, digits, line, head_line, vertex_line, hyperedge_line, frame_text}
use Rattle.frames.proofs.Lines.{opening}

-- the text opens with the six characters 484731
pub opens : (t : Table) → take 6 (frame_text t) ≡ opening
unfolding flat head_frame sealed digit byte_digits digits line head_line frame_text
opens t = refl

-- vertices 0 (weight 7) and 1 (weight 9), hyperedge 0 of weight 5 with list 0, 1
abbrev content : Table
content = record {
  next_vertex = 2;
  next_hyperedge = 1;
  vertices = record { number = 0; weight = 7 } ∷ record { number = 1; weight = 9 } ∷ [];
  hyperedges = record { number = 0; weight = 5; members = 0 ∷ 1 ∷ [] } ∷ [];
}

-- 4847310000000200000001000200013A
abbrev line1 : List ℕ
line1 = 52 ∷ 56 ∷ 52 ∷ 55 ∷ 51 ∷ 49 ∷ 48 ∷ 48 ∷ 48 ∷ 48 ∷ 48 ∷ 48 ∷ 48 ∷ 50 ∷ 48 ∷ 48 ∷ 48 ∷ 48 ∷ 48 ∷ 48 ∷ 48 ∷ 49 ∷ 48 ∷ 48 ∷ 48 ∷ 50 ∷ 48 ∷ 48 ∷ 48 ∷ 49 ∷ 51 ∷ 65 ∷ 10 ∷ []

-- 010000000000000007F8
abbrev line2 : List ℕ
line2 = 48 ∷ 49 ∷ 48 ∷ 48 ∷ 48 ∷ 48 ∷ 48 ∷ 48 ∷ 48 ∷ 48 ∷ 48 ∷ 48 ∷ 48 ∷ 48 ∷ 48 ∷ 48 ∷ 48 ∷ 55 ∷ 70 ∷ 56 ∷ 10 ∷ []

-- 010000000100000009F5
abbrev line3 : List ℕ
line3 = 48 ∷ 49 ∷ 48 ∷ 48 ∷ 48 ∷ 48 ∷ 48 ∷ 48 ∷ 48 ∷ 49 ∷ 48 ∷ 48 ∷ 48 ∷ 48 ∷ 48 ∷ 48 ∷ 48 ∷ 57 ∷ 70 ∷ 53 ∷ 10 ∷ []

-- 020000000000000005020000000000000001F6
abbrev line4 : List ℕ
line4 = 48 ∷ 50 ∷ 48 ∷ 48 ∷ 48 ∷ 48 ∷ 48 ∷ 48 ∷ 48 ∷ 48 ∷ 48 ∷ 48 ∷ 48 ∷ 48 ∷ 48 ∷ 48 ∷ 48 ∷ 53 ∷ 48 ∷ 50 ∷ 48 ∷ 48 ∷ 48 ∷ 48 ∷ 48 ∷ 48 ∷ 48 ∷ 48 ∷ 48 ∷ 48 ∷ 48 ∷ 48 ∷ 48 ∷ 48 ∷ 48 ∷ 49 ∷ 70 ∷ 54 ∷ 10 ∷ []

pub example-text : frame_text content ≡ line1 ++ (line2 ++ (line3 ++ line4))
unfolding flat number_bytes short_bytes head_frame vertex_frame hyperedge_frame sum_over balance check sealed digit byte_digits digits line head_line vertex_line hyperedge_line frame_text
example-text = refl
