-- The test of a desk before an edit, in the code's order, and what it says of the desk. Assumes nothing.
use mathlib.Core.Path.{◌≡◌, sym, ap, ◌∙◌}
use mathlib.Core.Bool.{Bool, true, false, not}
use mathlib.Core.List.{List}
use Prim.Native.Nat.{ℕ, ◌-◌, ◌≤◌, ◌<◌}
use lib.ListN.{length, take, drop}
use borrow.Author.Tests.{not-true, not-false, eq-eqb, ne_eqb, eqb-true, le-leb, lt-leb, leb-true}
use Rattle.lists.specs.Tests.{◌and◌}
use Rattle.lists.specs.Lists.{all, is_below}
use Rattle.lists.proofs.All.{below_one}
use Rattle.lists.proofs.Cases.{on, clash, and_left, and_right, and_both, and-false-left}
use Rattle.lists.proofs.Parts.{part-tail}
use Rattle.layout.specs.Content.{live_vertices}
use Rattle.layout.specs.Layout.{limit, vertex_limit, size, vertex_count, read}
use Rattle.layout.specs.WellFormed.{well_formed}
use Rattle.layout.proofs.Read.{formed-of, live-length}
use Rattle.desk.specs.States.{states_fit}
use Rattle.desk.specs.Desk.{Desk, desk_of, desk_fits}
use Rattle.desk.proofs.States.{states-fit-of}
use Rattle.desk.proofs.Edits.{desk-fits-of}
use Rattle.desk_states.specs.Open.{is_open}

-- ---- the states: r is what was found of all the words, and the code tested `!r`

pub states-unsized : (n : ℕ) (ss : List ℕ) → (length ss ≡ vertex_limit → ⊥) → false ≡ states_fit n ss
unfolding states_fit ◌and◌
states-unsized n ss h = rw (ne_eqb _ _ h)

module _ (n : ℕ) (ss : List ℕ) (len : length ss ≡ vertex_limit) (r : Bool) (e : r ≡ all (is_below 3) ss) where
  pub states-over : not r ≡ true → false ≡ states_fit n ss
  unfolding states_fit ◌and◌
  states-over h = rw (eq-eqb _ _ len, ← e, not-true r h)

  pub states-rest : (b : Bool) → not r ≡ false → b ≡ all (is_below 1) (take (length ss - n) (drop n ss)) → b ≡ states_fit n ss
  unfolding states_fit ◌and◌
  states-rest b h q = rw (eq-eqb _ _ len, ← e, not-false r h) (q ∙ ap (all (is_below 1)) (part-tail n ss) ∙ below_one (drop n ss))

-- ---- the desk: n is what `vertex_count` found

pub open-unsized : (ws ss : List ℕ) → (length ws ≡ size limit → ⊥) → false ≡ is_open (desk_of ws ss)
unfolding is_open ◌and◌
open-unsized ws ss h = rw (ne_eqb _ _ h)

module _ (ws ss : List ℕ) (n : ℕ) (en : n ≡ vertex_count ws) (len : length ws ≡ size limit) where
  pub open-over : vertex_limit < n → false ≡ is_open (desk_of ws ss)
  unfolding is_open ◌and◌
  open-over h = rw (← en, eq-eqb _ _ len, lt-leb _ _ h)

  pub open-states : (b : Bool) → n ≤ vertex_limit → b ≡ states_fit n ss → b ≡ is_open (desk_of ws ss)
  unfolding is_open ◌and◌
  open-states b h q = rw (← en, eq-eqb _ _ len, le-leb _ _ h) q

-- ---- what the test says of the desk

module _ (d : Desk) where
  -- the states of a desk that fits, by the table's count
  fits_count : states_fit (length (live_vertices (read limit d.table))) d.states ≡ states_fit (vertex_count d.table) d.states
  fits_count = ap (λ (n : ℕ). states_fit n d.states) (live-length limit d.table)

  pub open-fits : is_open d ≡ true → well_formed limit d.table ≡ true → desk_fits d ≡ true
  unfolding is_open desk_fits
  open-fits o w = and_both _ _ w (fits_count ∙ and_right _ _ (and_right _ _ o))

  pub unformed-unfit : well_formed limit d.table ≡ false → desk_fits d ≡ false
  unfolding desk_fits
  unformed-unfit w = and-false-left _ _ w

  fits-open : desk_fits d ≡ true → is_open d ≡ true
  unfolding is_open ◌and◌
  fits-open f =
      let g = desk-fits-of f in let s = (formed-of limit d.table g.formed).shape in
      rw (eq-eqb _ _ s.sized, le-leb _ _ s.vertices-le) (sym fits_count ∙ g.fit)

  pub shut-unfit : is_open d ≡ false → desk_fits d ≡ false
  shut-unfit o = on (desk_fits d) (λ f. clash (fits-open f) o) (λ f. f)

  pub open-sized : is_open d ≡ true → length d.table ≡ size limit
  unfolding is_open
  open-sized o = eqb-true _ _ (and_left _ _ o)

  pub open-few : is_open d ≡ true → vertex_count d.table ≤ vertex_limit
  unfolding is_open
  open-few o = leb-true _ _ (and_left _ _ (and_right _ _ o))

  pub open_lent : is_open d ≡ true → length d.states ≡ vertex_limit
  unfolding is_open
  open_lent o = (states-fit-of (and_right _ _ (and_right _ _ o))).sized

-- b is what `is_open` found, and the code tested `!b`
module _ (ws ss : List ℕ) (b : Bool) (e : b ≡ is_open (desk_of ws ss)) (h : not b ≡ false) where
  pub sized-when-open : length ws ≡ size limit
  sized-when-open = open-sized (desk_of ws ss) (sym e ∙ not-false b h)

  pub few-when-open : vertex_count ws ≤ vertex_limit
  few-when-open = open-few (desk_of ws ss) (sym e ∙ not-false b h)
