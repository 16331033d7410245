-- The lines of tubes and of transfers, from what the code read and wrote. Assumes nothing.
use mathlib.Core.Path.{◌≡◌, sym, ap, ◌∙◌}
use mathlib.Core.Bool.{Bool, true, false, not}
use mathlib.Core.List.{List, [], ◌∷◌}
use Prim.Native.Nat.{ℕ, ◌+◌, ◌≤◌, ◌<◌}
use native.Mathlib.Omega.{arith}
use lib.ListN.{get_or, drop, drop_of_length-le}
use borrow.Author.Tests.{not-true, not-false, eq-eqb, ne_eqb}
use Rattle.lists.specs.Lists.{any, memb, flat}
use Rattle.lists.proofs.Tab.{length-tab, drop-tab}
use Rattle.layout.specs.Content.{Hyperedge, lists, live_vertices, hyperedges_of}
use Rattle.layout.specs.Layout.{limit, vertex_count, hyperedge_count, vertex_at, hyperedge_at, members_at, read}
use Rattle.layout.specs.Inner.{Formed}
use Rattle.layout.proofs.Read.{live-length, live_at, live-ascends}
use Rattle.desk.specs.States.{waiting, reviewed, state_of}
use Rattle.desk.proofs.States.{state-at}
use Rattle.wording.specs.Texts.{text}
use Rattle.wording.specs.Pages.{Page, page, write}
use Rattle.wording.specs.Forms.{filled, number_line}
use Rattle.wording.proofs.Writing.{then, nothing_written}
use Rattle.record_sheets.specs.Records.{state_name, tube_line, transfer_line, tube_lines, transfers_of}
use Rattle.record_sheets.specs.Inner.{line_where}
use Rattle.record_sheets.proofs.Lines.{flat-where, lines_none, lines-some, none_pass, some-pass}

-- ---- the name of a state

module _ (form ns : List ℕ) (x : ℕ) (p : Page) (c : List ℕ) (q : ℕ) where
  pub named-waiting : x ≡ waiting → page c q ≡ write (filled form ns (text "waiting")) p → page c q ≡ write (filled form ns (state_name x)) p
  unfolding state_name
  named-waiting h e = rw (eq-eqb x waiting h) e

  pub named-reviewed : (x ≡ waiting → ⊥) → x ≡ reviewed → page c q ≡ write (filled form ns (text "reviewed")) p → page c q ≡ write (filled form ns (state_name x)) p
  unfolding state_name
  named-reviewed n h e = rw (ne_eqb x waiting n, eq-eqb x reviewed h) e

  pub named-released : (x ≡ waiting → ⊥) → (x ≡ reviewed → ⊥) → page c q ≡ write (filled form ns (text "released")) p
      → page c q ≡ write (filled form ns (state_name x)) p
  unfolding state_name
  named-released n h e = rw (ne_eqb x waiting n, ne_eqb x reviewed h) e

-- ---- a tube: number and weight are what the code read of record i

state-here : (ws ss : List ℕ) (i : ℕ) → Formed limit ws → i < vertex_count ws → state_of (read limit ws) ss (vertex_at ws i).number ≡ get_or ss i 0
state-here ws ss i f h =
    ap (state_of (read limit ws) ss) (sym (live_at limit ws i h)) ∙ state-at (live_vertices (read limit ws)) ss i (live-ascends limit ws f) (rw (live-length limit ws) h)

pub tube-put : (ws ss form : List ℕ) (i number weight x : ℕ) (p : Page) (c : List ℕ) (q : ℕ) → Formed limit ws → i < vertex_count ws
    → number ≡ (vertex_at ws i).number → weight ≡ (vertex_at ws i).weight → x ≡ get_or ss i 0
    → page c q ≡ write (filled form (number ∷ weight ∷ x ∷ []) (state_name x)) p → page c q ≡ write (tube_line form ss (read limit ws) (vertex_at ws i)) p
unfolding tube_line
tube-put ws ss form i number weight x p c q f h a b s e = rw (state-here ws ss i f h, ← a, ← b, ← s) e

-- n is what `vertex_count` returned
module _ (ws ss none form : List ℕ) (n : ℕ) (p : Page) (c : List ℕ) (q : ℕ) (e : n ≡ vertex_count ws) where
  pub tubes-none : n ≡ 0 → page c q ≡ write none p → page c q ≡ write (tube_lines none form ss (read limit ws)) p
  unfolding tube_lines
  tubes-none z w = rw (lines_none none (tube_line form ss (read limit ws)) (read limit ws).vertices (length-tab _ _ ∙ sym e ∙ z)) w

  pub tubes-some : (n ≡ 0 → ⊥) → page c q ≡ write (flat (tube_line form ss (read limit ws)) (read limit ws).vertices) p
      → page c q ≡ write (tube_lines none form ss (read limit ws)) p
  unfolding tube_lines
  tubes-some z w = rw (lines-some none (tube_line form ss (read limit ws)) (read limit ws).vertices (λ l. z (e ∙ sym (length-tab _ _) ∙ l))) w

-- ---- a transfer: number, weight and members are what the code read of record j

pub transfer-put : (ws form : List ℕ) (j number weight : ℕ) (ms : List ℕ) (p : Page) (b c : List ℕ) (r q : ℕ) → number ≡ (hyperedge_at limit ws j).number
    → weight ≡ (hyperedge_at limit ws j).weight → ms ≡ members_at limit ws j → page b r ≡ write (filled form (number ∷ weight ∷ []) []) p
    → page c q ≡ write (number_line [] [] ms) (page b r) → page c q ≡ write (transfer_line form (hyperedge_at limit ws j)) p
unfolding transfer_line
transfer-put ws form j number weight ms p b c r q x y m e f = rw (← x, ← y, ← m) (then p b c _ _ r q e f)

-- ---- the transfers that list a tube: ms is what `members_formed` returned of record j, x what `holds` returned

module _ (ws : List ℕ) (v j : ℕ) (ms : List ℕ) (x : Bool) (m : ms ≡ members_at limit ws j) (e : x ≡ memb v ms) where
  listed_here : x ≡ lists v (hyperedge_at limit ws j)
  listed_here = e ∙ ap (memb v) m

  pub listed-yes : (n : ℕ) → n ≡ hyperedge_count ws → j < n → x ≡ true → (all : Bool) → any (lists v) (drop j (read limit ws).hyperedges) ≡ all → true ≡ all
  unfolding any
  listed-yes n k h y all w = rw (drop-tab (hyperedge_at limit ws) (hyperedge_count ws) j (rw k at h), sym listed_here ∙ y) at w

  pub listed-on : (n : ℕ) → n ≡ hyperedge_count ws → j < n → x ≡ false → (all : Bool) → any (lists v) (drop j (read limit ws).hyperedges) ≡ all
      → any (lists v) (drop (j + 1) (read limit ws).hyperedges) ≡ all
  unfolding any
  listed-on n k h y all w = rw (drop-tab (hyperedge_at limit ws) (hyperedge_count ws) j (rw k at h), sym listed_here ∙ y) at w

  pub listing-yes : (line : Hyperedge → List ℕ) (p : Page) (c : List ℕ) (q : ℕ) → x ≡ true → page c q ≡ write (line (hyperedge_at limit ws j)) p
      → page c q ≡ write (line_where (lists v) line (hyperedge_at limit ws j)) p
  unfolding line_where
  listing-yes line p c q y w = rw (sym listed_here ∙ y) w

  pub listing-no : (line : Hyperedge → List ℕ) (b : List ℕ) (at : ℕ) → x ≡ false → page b at ≡ write (line_where (lists v) line (hyperedge_at limit ws j)) (page b at)
  unfolding line_where
  listing-no line b at y = rw (sym listed_here ∙ y) (nothing_written b at)

-- m is what `hyperedge_count` returned
pub listed-no : (ws : List ℕ) (v m j : ℕ) → m ≡ hyperedge_count ws → m ≤ j → (all : Bool) → any (lists v) (drop j (read limit ws).hyperedges) ≡ all → false ≡ all
unfolding any
listed-no ws v m j e h all w = rw (drop_of_length-le (read limit ws).hyperedges {i = j} (rw length-tab (omega arith))) at w

pub listing-first : (ws form : List ℕ) (v : ℕ) (p : Page) → write (flat (line_where (lists v) (transfer_line form)) (read limit ws).hyperedges) p
    ≡ write (flat (transfer_line form) (hyperedges_of (read limit ws) v)) p
unfolding hyperedges_of
listing-first ws form v p = ap (λ (l : List ℕ). write l p) (flat-where (lists v) (transfer_line form) (read limit ws).hyperedges)

-- x is what `is_listed` returned
module _ (ws none form : List ℕ) (v : ℕ) (x : Bool) (p : Page) (c : List ℕ) (q : ℕ) (e : x ≡ any (lists v) (read limit ws).hyperedges) where
  pub listings-none : not x ≡ true → page c q ≡ write none p → page c q ≡ write (transfers_of none form v (read limit ws)) p
  unfolding transfers_of hyperedges_of
  listings-none h w =
      rw (lines_none none (transfer_line form) (hyperedges_of (read limit ws) v) (none_pass (lists v) (read limit ws).hyperedges (sym e ∙ not-true x h))) w

  pub listings-some : not x ≡ false → page c q ≡ write (flat (transfer_line form) (hyperedges_of (read limit ws) v)) p
      → page c q ≡ write (transfers_of none form v (read limit ws)) p
  unfolding transfers_of hyperedges_of
  listings-some h w =
      rw (lines-some none (transfer_line form) (hyperedges_of (read limit ws) v) (some-pass (lists v) (read limit ws).hyperedges (sym e ∙ not-false x h))) w
