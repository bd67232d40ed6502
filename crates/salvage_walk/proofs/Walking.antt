-- The walk of the lengths, record by record, and what is seen of a record. Assumes nothing.
use Prim.Native.Nat.{ℕ, zero, suc, ◌+◌, ◌-◌, ◌≤◌, ◌<◌}
use native.Mathlib.Numerals.{sub-one}
use native.Mathlib.Omega.{arith}
use mathlib.Core.Bool.{cond}
use mathlib.Core.List.{List, [], ◌∷◌}
use mathlib.Core.Path.{◌≡◌, refl, sym, ap, ap₂, ◌∙◌}
use lib.Dec.{eqb}
use lib.ListN.{length, drop, length-take, length-drop}
use borrow.Author.Tests.{eq-eqb, ne_eqb, le-leb, lt-leb}
use Rattle.text.specs.declared.character_set.CharacterSet.{CharacterSet}
use Rattle.frame.specs.Frames.{Cut, Whole}
use Rattle.frame.specs.Frames.{part, frame_at}
use Rattle.frame.proofs.Laws.{cut-length, whole-alike, whole-within, whole-start}
use Rattle.judge.specs.Alone.{type_of}
use Rattle.file_as_records.specs.Framed.{Body}
use Rattle.salvage_model.specs.Walked.{walked_from}
use Rattle.salvage_walk.specs.declared.Seen.{Seen}
use Rattle.salvage_walk.specs.Spans.{Stands, Spans, SeenAs}

module _ (file : List ℕ) (at start size : ℕ) (e : frame_at file at ≡ Whole start size) where
  pub framed-long : length (part start size file) ≡ size
  framed-long = omega (arith, length-take size (drop start file), length-drop start file, whole-within file at start size e)

  pub framed-stands : Stands file at (part start size file)
  framed-stands = record {
    whole = e ∙ ap₂ Whole (whole-start file at start size e) (sym framed-long);
    body = ap₂ (λ (m n : ℕ). part m n file) (sym (whole-start file at start size e)) framed-long;
  }

  pub framed-seen : (set : CharacterSet) (b : Body) → Stands file at b → (kind : ℕ) → kind ≡ type_of set (part start size file)
      → SeenAs set at b (record { start = start; size = size; next = start + size; kind = kind })
  framed-seen set b s kind k =
      let same : Whole start size ≡ Whole (at + 4) (length b) = sym e ∙ s.whole in
      let begins : start ≡ at + 4 = (whole-alike same).0 in
      let long : size ≡ length b = (whole-alike same).1 in
      record {
        start = begins;
        size = long;
        next = ap₂ ◌+◌ begins long;
        kind = k ∙ ap (type_of set) (ap₂ (λ (m n : ℕ). part m n file) begins long ∙ s.body);
      }

  pub framed-onward : at < start + size
  framed-onward = omega (arith, whole-start file at start size e)

pub cut-unseen : (set : CharacterSet) (file : List ℕ) (at : ℕ) (b : Body) (r : Seen) → frame_at file at ≡ Cut → Stands file at b → SeenAs set at b r
cut-unseen set file at b r e s =
    let same : Cut ≡ Whole (at + 4) (length b) = sym e ∙ s.whole in
    let z : ◌≡◌ {A = ℕ} 0 1 = cc in
    absurd (omega arith)

module _ (set : CharacterSet) (file : List ℕ) where
  cut-none : (n at : ℕ) → frame_at file at ≡ Cut → walked_from set n file at ≡ []
  unfolding walked_from
  cut-none zero at e = refl
  cut-none (suc n) at e = rw e

  short_none : (n at start size : ℕ) → frame_at file at ≡ Whole start size → size < 2 → walked_from set n file at ≡ []
  unfolding walked_from
  short_none zero at start size e h = refl
  short_none (suc n) at start size e h = rw (e, lt-leb 2 size h)

  walked_one : (n at start size : ℕ) → 0 < n → frame_at file at ≡ Whole start size → 2 ≤ size
      → walked_from set n file at
      ≡ part start size file ∷ cond (eqb (type_of set (part start size file)) 99) [] (walked_from set (n - 1) file (start + size))
  unfolding walked_from
  walked_one zero at start size k e h = absurd (omega arith)
  walked_one (suc n) at start size k e h = rw (sub-one (suc n)) (rw (e, le-leb 2 size h))

  -- at the head of the loop: what is walked from here ends what is walked from the start
  pub record Walking (at count : ℕ) : Type 0 where
    pub fuel : ℕ
    pub enough : length file ≤ at + fuel
    pub within : at ≤ length file
    pub few : count ≤ at
    pub spans : (end : ℕ) → Spans file at (walked_from set fuel file at) end → Spans file 0 (walked_from set (length file) file 0) end
    pub counted : count + length (walked_from set fuel file at) ≡ length (walked_from set (length file) file 0)

  pub walking-first : Walking 0 0
  walking-first = record {
    fuel = length file;
    enough = omega arith;
    within = omega arith;
    few = omega arith;
    spans = λ end s. s;
    counted = omega arith;
  }

  -- what the walk comes to
  abbrev pub Walked : ℕ → ℕ → Type 0
  Walked end count =
      Spans file 0 (walked_from set (length file) file 0) end × (count ≡ length (walked_from set (length file) file 0)) × (end ≤ length file)

  module _ {at count : ℕ} (v : Walking at count) where
    walking-stops : walked_from set v.fuel file at ≡ [] → Walked at count
    walking-stops e = (
      v.spans at (rw e refl),
      omega (arith, v.counted, ap length e),
      v.within,
    )

    pub walking-cut : frame_at file at ≡ Cut → Walked at count
    walking-cut e = walking-stops (cut-none v.fuel at e)

    pub walking-short : (start size : ℕ) → frame_at file at ≡ Whole start size → size < 2 → Walked at count
    walking-short start size e h = walking-stops (short_none v.fuel at start size e h)

    pub walking-end : length file ≤ at → Walked at count
    walking-end h = walking-cut (cut-length file at (omega arith))

    module _ (start size : ℕ) (h : at < length file) (e : frame_at file at ≡ Whole start size) (l : 2 ≤ size) where
      pub walking-within : start + size ≤ length file
      walking-within = whole-within file at start size e

      abbrev body : Body
      body = part start size file

      one_more : (rest : List Body) → walked_from set v.fuel file at ≡ body ∷ rest → (end : ℕ) → Spans file (start + size) rest end
          → Spans file 0 (walked_from set (length file) file 0) end
      one_more rest q end s =
          let there : start + size ≡ at + 4 + length body = ap₂ ◌+◌ (whole-start file at start size e) (sym (framed-long file at start size e)) in
          v.spans end (rw q (framed-stands file at start size e, rw there at s))

      first : walked_from set v.fuel file at ≡ body ∷ cond (eqb (type_of set body) 99) [] (walked_from set (v.fuel - 1) file (start + size))
      first = walked_one v.fuel at start size (omega (arith, v.enough)) e l

      pub walking-99 : type_of set body ≡ 99 → Walked (start + size) (count + 1)
      walking-99 t =
          let q : walked_from set v.fuel file at ≡ body ∷ [] = rw (eq-eqb (type_of set body) 99 t) at first in
          (one_more [] q (start + size) refl, omega (arith, v.counted, ap length q), walking-within)

      pub walking_on : (type_of set body ≡ 99 → ⊥) → Walking (start + size) (count + 1)
      walking_on t =
          let rest : List Body = walked_from set (v.fuel - 1) file (start + size) in
          let q : walked_from set v.fuel file at ≡ body ∷ rest = rw (ne_eqb (type_of set body) 99 t) at first in
          record {
            fuel = v.fuel - 1;
            enough = omega (arith, v.enough, whole-start file at start size e);
            within = walking-within;
            few = omega (arith, v.few, whole-start file at start size e);
            spans = one_more rest q;
            counted = omega (arith, v.counted, ap length q);
          }
