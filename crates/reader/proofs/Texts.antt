-- A text read: what each way through the code has judged and made, and what the read then answers. Assumes nothing.
use Rattle.std.specs.Prelude.{Ok, Err}
use mathlib.Core.Path.{◌≡◌, sym, ap, ◌∙◌}
use mathlib.Core.Bool.{true, false, cond}
use mathlib.Core.List.{List}
use Prim.Native.Nat.{ℕ, suc, ◌+◌, ◌≤◌, ◌<◌}
use native.Mathlib.Nat.{le_antisymm}
use native.Mathlib.Omega.{arith}
use lib.ListN.{length}
use borrow.Author.Tests.{eq-eqb, ne_eqb}
use Rattle.lists.specs.Tests.{every}
use Rattle.lists.proofs.Cases.{on, on_same}
use Rattle.layout.specs.Answers.{Answer}
use Rattle.layout.specs.declared.Refusal.TheVariants.{NotWellFormed, BadText}
use Rattle.layout.specs.Layout.{limit, size, vertex_count, hyperedge_count}
use Rattle.layout.specs.Answers.{result_of}
use Rattle.frames.specs.Frames.{head_length}
use Rattle.frames.specs.Put.{Put}
use Rattle.frames.specs.Reading.{vertices_due, hyperedges_due, vertex_place, hyperedge_place, head_good, hyperedge_good, good_lines, accepted, faulty_line, read_result}
use Rattle.frames.proofs.Laws.{put-length}
use Rattle.reader.specs.Lines.{behind}
use Rattle.reader.specs.Hyperedges.{VerticesStored, HyperedgesRead}
use Rattle.lists.specs.Inner.{blank}
use Rattle.reader.specs.Passes.{head_words, HeadStored, HeadMade, VerticesRead, VerticesMade, verdict, TextRead, stored_read, answer_of}
use Rattle.reader.proofs.Ends.{stays-failed, goes-passed, goes_by}
use Rattle.reader.proofs.HeadLine.{head-stored, vertices-few, hyperedges-few}
use Rattle.reader.proofs.VertexLines.{stored-due, vertices-head, vertices-live, column-live}
use Rattle.reader.proofs.Verdict.{verdict-head, verdict-vertex, verdict-hyperedge, verdict-on, verdict-none}
use Rattle.reader.proofs.Made.{length-blank, head-made, vertices-made, hyperedges-made}

-- ---- the head

pub blank-sized : {ws : List ℕ} → ws ≡ blank (size limit) → length ws ≡ size limit
blank-sized e = ap length e ∙ length-blank (size limit)

module _ (text : List ℕ) where
  module _ (r : ℕ) (g : r ≡ behind (head_good text) 0 head_length) where
    pub text-headless : {ws : List ℕ} → ws ≡ blank (size limit) → r ≡ 0 → TextRead text ws 1
    text-headless b z = record {
      sized = blank-sized b;
      judged = verdict-head text (stays-failed 0 head_length (head_good text) r g (omega arith) z);
      made = λ z. absurd (omega arith);
    }

    pub text-head-place : (r ≡ 0 → ⊥) → r ≡ head_length
    text-head-place n = goes_by 0 head_length (head_good text) r g n

    pub text-head-stored : {a b : List ℕ} {q : ℕ} → (r ≡ 0 → ⊥) → Put 0 4 (head_words text) a b q → a ≡ blank (size limit) → HeadStored text b
    text-head-stored n f e = head-stored text (goes-passed 0 head_length (head_good text) r g n) (blank-sized e) f

  pub text-head-made : {a b : List ℕ} {q : ℕ} → Put 0 4 (head_words text) a b q → a ≡ blank (size limit) → HeadMade text b
  text-head-made f e = record { is = head-made text e f }

-- ---- the vertices

module _ (text a b : List ℕ) (n i at : ℕ) (h : HeadStored text a) (en : n ≡ vertex_count a) (v : VerticesRead text a b i at) where
  due : n ≡ vertices_due text
  due = stored-due h n en

  pub text-vertex-bad : i < n → TextRead text b (2 + i)
  text-vertex-bad l =
      let k : i < vertices_due text = rw (← due) l in
      record {
        sized = put-length v.put ∙ h.sized;
        judged = verdict-vertex text i h.good v.good (v.stopped k) k;
        made = λ z. absurd (omega arith);
      }

  module _ (l : n ≤ i) where
    whole : i ≡ vertices_due text
    whole = le_antisymm v.some (rw (← due) l)

    pub text-vertices-place : at ≡ vertex_place (vertices_due text)
    text-vertices-place = v.reached ∙ ap vertex_place whole

    pub text-vertices-stored : VerticesStored text b
    text-vertices-stored = record {
      head = vertices-head text a b i at h v;
      live = vertices-live text a b i at h v (rw (← due) l);
      same = column-live text a b i at h v (rw (← due) l);
      within = rw (← text-vertices-place) v.within;
    }

    pub text-vertices-made : HeadMade text a → VerticesMade text b
    text-vertices-made m = record {
      head = h.good;
      good = rw (← whole) v.good;
      is = vertices-made text whole (vertices-few text h.good) m.is v.put;
    }

-- ---- the hyperedges and the end

module _ (text a b : List ℕ) (n m lines at : ℕ) (s : VerticesStored text a) (w : VerticesMade text a) (en : n ≡ vertices_due text) (em : m ≡ hyperedge_count a)
    (h : HyperedgesRead text (hyperedges_due text) a b lines at) where
  sized : length b ≡ size limit
  sized = put-length h.put ∙ s.head.sized

  counted : m ≡ hyperedges_due text
  counted = em ∙ s.head.hyperedges

  pub text-hyperedge-bad : (lines < hyperedges_due text → hyperedge_good text lines ≡ false) → lines < m → TextRead text b (2 + n + lines)
  text-hyperedge-bad stopped l =
      let k : lines < hyperedges_due text = rw (← counted) l in
      record {
        sized = sized;
        judged = ap (λ (x : ℕ). 2 + x + lines) en ∙ verdict-hyperedge text w.head w.good lines h.good (stopped k) k;
        made = λ z. absurd (omega arith);
      }

  module _ (l : m ≤ lines) where
    every-line : lines ≡ hyperedges_due text
    every-line = le_antisymm h.some (rw (← counted) l)

    ends : at ≡ hyperedge_place text (hyperedges_due text)
    ends = h.reached ∙ ap (hyperedge_place text) every-line

    all-hyperedges : every (hyperedge_good text) (hyperedges_due text) ≡ true
    all-hyperedges = rw (← every-line) h.good

    pub text-runs-on : (at ≡ length text → ⊥) → TextRead text b (2 + n + m)
    text-runs-on q = record {
      sized = sized;
      judged = rw (en, counted) (verdict-on text w.head w.good all-hyperedges (λ e. q (ends ∙ e)));
      made = λ z. absurd (omega arith);
    }

    pub text-good : at ≡ length text → TextRead text b 0
    text-good q = record {
      sized = sized;
      judged = verdict-none text w.head w.good all-hyperedges (sym ends ∙ q);
      made = λ z. hyperedges-made text every-line (hyperedges-few text w.head) (vertices-few text w.head) w.is h.put;
    }

-- ---- the answer

module _ (text lent : List ℕ) where
  pub answer-unsized : (length lent ≡ size limit → ⊥) → result_of (Err NotWellFormed) lent ≡ read_result text lent
  unfolding read_result
  answer-unsized n = rw (ne_eqb (length lent) (size limit) n)

  module _ {ws : List ℕ} {line : ℕ} (sz : length lent ≡ size limit) (r : TextRead text ws line) where
    refused : 0 < line → (accepted text ≡ false) × (line ≡ faulty_line text)
    unfolding verdict
    refused h =
        let j : line ≡ cond (accepted text) 0 (faulty_line text) = r.judged in
        on (accepted text)
        (λ e. let z : line ≡ 0 = rw e at j in absurd (omega arith))
        (λ e. (e, rw e at j))

    pub answer-read : {a : Answer} {out : List ℕ} → out ≡ stored_read line ws lent → a ≡ answer_of line → result_of a out ≡ read_result text lent
    unfolding read_result verdict faulty_line stored_read answer_of
    answer-read o f =
        let j : line ≡ cond (accepted text) 0 (suc (good_lines text)) = r.judged in
        on_same line 0
        (λ z. on (accepted text)
        (λ a. rw (o, f, eq-eqb line 0 z, eq-eqb (length lent) (size limit) sz, a, r.made z))
        (λ a. let k : line ≡ suc (good_lines text) = rw a at j in absurd (omega arith)))
        (λ n. let h = refused (omega arith) in rw (o, f, ne_eqb line 0 n, eq-eqb (length lent) (size limit) sz, h.0, h.1))

module _ (line : ℕ) where
  pub stored-none : (ws lent : List ℕ) → 0 < line → lent ≡ stored_read line ws lent
  unfolding stored_read
  stored-none ws lent h = rw (ne_eqb line 0 (λ e. absurd (omega arith)))

  pub stored-words : (ws lent out : List ℕ) → line ≤ 0 → out ≡ ws → out ≡ stored_read line ws lent
  unfolding stored_read
  stored-words ws lent out h e = rw (eq-eqb line 0 (omega arith)) e

  pub answer-none : line ≡ 0 → Ok 0 ≡ answer_of line
  unfolding answer_of
  answer-none e = rw (eq-eqb line 0 e)

  pub answer-line : (line ≡ 0 → ⊥) → Err (BadText line) ≡ answer_of line
  unfolding answer_of
  answer-line n = rw (ne_eqb line 0 n)
