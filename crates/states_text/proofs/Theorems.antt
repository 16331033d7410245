-- The states as a text: what is written is read back; what is read fits the table; a text releases only what it names. Assumes nothing.
use Rattle.std.specs.Prelude.{Ok}
use mathlib.Core.Path.{◌≡◌, sym, ap, ◌∙◌, subst}
use mathlib.Core.Bool.{true}
use mathlib.Core.List.{List}
use Prim.Native.Nat.{ℕ, ◌<◌}
use native.Mathlib.Nat.{lt_irrefl}
use native.Mathlib.Omega.{arith}
use lib.Dec.{eqb, leb}
use lib.ListN.{length, get_or}
use borrow.Author.Tests.{eq-eqb, eqb-true, le-leb}
use Rattle.lists.specs.Tests.{◌and◌}
use Rattle.lists.specs.Lists.{all, memb}
use Rattle.lists.proofs.Cases.{on, and_both}
use Rattle.lists.proofs.All.{all-at, all_of}
use Rattle.lists.proofs.Ascend.{ascending-of}
use Rattle.lists.proofs.Memb.{memb-at}
use Rattle.layout.specs.Content.{live_vertices}
use Rattle.layout.specs.Layout.{limit, vertex_limit, vertex_count, vertex_word, read}
use Rattle.layout.specs.WellFormed.{well_formed}
use Rattle.layout.specs.Answers.{Result, result_of, on_formed}
use Rattle.layout.proofs.Read.{formed-of, live_at, live-length}
use Rattle.frames.specs.Faulty.{is_word}
use Rattle.desk.specs.States.{released, state_in, in_state}
use Rattle.desk.specs.Desk.{Desk, desk_of, content, desk_fits}
use Rattle.desk.proofs.States.{states-fit-of, state-at, state-dead, state-by, states-by-ext, states-by-fit, states-same}
use Rattle.desk.proofs.Edits.{desk-fits-of, live-rises, live-few}
use Rattle.states_text.specs.StatesText.{state_line, states_text}
use Rattle.states_text.specs.Reading.{lines, has_line, state_said, faulty_state, states_read, read_states_result}
use Rattle.states_text.proofs.Said.{Lined, lines-good, lines-said, said-state, said-released}

-- what reading a text into the states ss leaves, by the words of the table
abbrev pub reading : List ℕ → List ℕ → List ℕ → Result
reading ws text ss = on_formed ws ss (read_states_result text ss)

-- ---- what is written is read back

module _ (d : Desk) (w : all is_word d.table ≡ true) (f : desk_fits d ≡ true) where
  formed : well_formed limit d.table ≡ true
  formed = (desk-fits-of f).formed

  live : List ℕ
  live = live_vertices (content d)

  live-words : all is_word live ≡ true
  unfolding live
  live-words =
      let g = formed-of limit d.table formed in
      all_of is_word (live_vertices (content d)) 0 (λ i h.
      let l : i < vertex_count d.table = subst (λ (k : ℕ). i < k) (live-length limit d.table) h in
      ap is_word (live_at limit d.table i l) ∙ all-at is_word d.table (vertex_word i) 0 w (omega (arith, g.shape.sized, g.shape.vertices-le)))

  lined : Lined 0 live d.states
  unfolding live
  lined =
      let s = states-fit-of (desk-fits-of f).fit in
      record {
        long = omega (arith, s.sized, live-few d.table formed);
        rise = ascending-of (live_vertices (content d)) (live-rises d.table formed);
        from = all_of (leb 0) (live_vertices (content d)) 0 (λ i h. le-leb 0 (get_or (live_vertices (content d)) i 0) (omega arith));
        words = live-words;
        known = s.known;
      }

  said_same : (v : ℕ) → memb v live ≡ true → state_said (lines (states_text live d.states)) v ≡ state_in live d.states v
  unfolding live
  said_same v m =
      let r = memb-at v live m in
      ap (state_said (lines (states_text live d.states))) (sym r.2) ∙ lines-said live d.states 0 lined r.0 r.1
      ∙ sym (state-at live d.states r.0 (live-rises d.table formed) r.1) ∙ ap (state_in live d.states) r.2

  states-back : states_read (states_text live d.states) (content d) ≡ d.states
  unfolding live
  states-back =
      states-by-ext _ _ (live_vertices (content d)) said_same
      ∙ states-same _ d.states (live-rises d.table formed) (live-few d.table formed) (desk-fits-of f).fit

  -- the text written from a desk's states gives those states, whatever the lent ones were
  pub read_back : (ss : List ℕ) → length ss ≡ vertex_limit → reading d.table (states_text (live_vertices (content d)) d.states) ss ≡ result_of (Ok 0) d.states
  unfolding on_formed read_states_result live
  read_back ss e =
      rw (formed, eq-eqb (length ss) vertex_limit e, lines-good (live_vertices (content d)) d.states 0 1 lined) (ap (result_of (Ok 0)) states-back)

-- ---- what is read

module _ (ws text ss : List ℕ) (e : (reading ws text ss).number ≡ 0) where
  -- the call was done
  read_done : (well_formed limit ws ≡ true) × (reading ws text ss ≡ result_of (Ok 0) (states_read text (read limit ws)))
  unfolding on_formed read_states_result
  read_done =
      on (well_formed limit ws)
      (λ f. on (eqb (length ss) vertex_limit)
      (λ l. on (eqb (faulty_state text) 0)
      (λ z. (f, rw (f, l, z)))
      (λ z. absurd (lt_irrefl 0 (let n : ◌≡◌ {A = ℕ} 12 0 = rw (f, l, z) at e in omega arith))))
      (λ l. absurd (lt_irrefl 0 (let n : ◌≡◌ {A = ℕ} 1 0 = rw (f, l) at e in omega arith))))
      (λ f. absurd (lt_irrefl 0 (let n : ◌≡◌ {A = ℕ} 1 0 = rw f at e in omega arith)))

  states-left : (reading ws text ss).lent ≡ states_read text (read limit ws)
  states-left = ap (λ (r : Result). r.lent) read_done.1

  -- the states that are read fit the table
  pub read_fits : desk_fits (desk_of ws (reading ws text ss).lent) ≡ true
  unfolding desk_fits
  read_fits =
      rw states-left
      (and_both _ _ read_done.0 (states-by-fit (state_said (lines text)) (live_vertices (read limit ws)) (said-state (lines text)) (live-few ws read_done.0)))

  -- a vertex that is released has its own line in the text
  pub released-named : (v : ℕ) → in_state (read limit ws) (reading ws text ss).lent released v ≡ true → has_line text (state_line released v) ≡ true
  unfolding in_state has_line
  released-named v h =
      let live : List ℕ = live_vertices (read limit ws) in
      let is : state_in live (states_read text (read limit ws)) v ≡ released = ap (λ (r : List ℕ). state_in live r v) (sym states-left) ∙ eqb-true _ _ h in
      on (memb v live)
      (λ m. said-released (lines text) v (sym (state-by (state_said (lines text)) live v m) ∙ is))
      (λ m. absurd (lt_irrefl 0 (omega (arith, sym (state-dead live (states_read text (read limit ws)) v m) ∙ is))))
