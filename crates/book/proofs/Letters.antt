-- The pass that writes a row for each cash letter of a file: what holds at the head of its loop, and that a turn keeps it. Assumes nothing.
use Prim.Native.Nat.{ℕ, ◌+◌, ◌-◌, ◌*◌, ◌≤◌, ◌<◌}
use native.Mathlib.Omega.{arith}
use mathlib.Core.List.{List, [], ◌∷◌}
use mathlib.Core.Path.{◌≡◌, refl, sym, ap, ◌∙◌, subst}
use lib.ListN.{length}
use lib.Seq.{sets, length-sets}
use Rattle.text.specs.CharacterSet.{set_of}
use Rattle.text.specs.declared.character_set.CharacterSet.{CharacterSet}
use Rattle.frame.specs.Frames.{part, frame_at}
use Rattle.frame.specs.Frames.{Cut, Whole}
use Rattle.frame.proofs.Laws.{whole-within, whole-start}
use Rattle.judge.specs.Alone.{type_of}
use Rattle.standing.specs.History.{entry as record_entry}
use Rattle.standing.specs.Standing.{standing, capped_figures}
use Rattle.standing.specs.declared.Standing.{Standing}
use Rattle.standing.proofs.Laws.{moved_on}
use Rattle.passes.proofs.Passes.{Place, Moves}
use Rattle.figures.specs.declared.Figures.{Figures}
use Rattle.figures.specs.Figures.{figures}
use Rattle.letters.specs.Letters.{letters_from, letters_of}
use Rattle.letters.proofs.Steps.{letters-end, letters-cut, letters-other, letters-90}
use Rattle.book_model.specs.PlainList.{entry, entries_on}
use Rattle.book_model.specs.Table.{row_of, placed}
use Rattle.book_gaps.specs.declared.Spot.{Spot}
use Rattle.book_gaps.specs.Spots.{spot_from}
use Rattle.book_gaps.proofs.Laws.{used_in}
use Rattle.book_gaps.proofs.Placing.{placed-none, placed_one, onward, used-stored}

-- an owner's letters entered from a place of the book on where so many rows claimed are still to come, numbered on from a number
abbrev pub entered : ℕ → List ℕ → ℕ → ℕ → ℕ → ℕ → List Figures → List ℕ
entered o book rows place m given fs = placed o book rows place (entries_on given m fs)

entered-none : (o : ℕ) (book : List ℕ) (rows place m given : ℕ) → entered o book rows place m given [] ≡ book
unfolding entries_on
entered-none o book rows place m given = placed-none o book rows place

entered-one : (o : ℕ) (book : List ℕ) (rows place m given : ℕ) (f : Figures) (fs : List Figures)
    → entered o book rows place m given (f ∷ fs)
    ≡ entered o (sets book (spot_from book rows place).at (row_of o (entry (given + 1) m f))) (spot_from book rows place).rows ((spot_from book rows place).at + 9) m (given + 1) fs
unfolding entries_on
entered-one o book rows place m given f fs = placed_one o book rows place (entry (given + 1) m f) (entries_on (given + 1) m fs)

-- the letters so far, and those from here, are all that is entered
pub record Writing (set : CharacterSet) (file book₀ : List ℕ) (m o last claimed at : ℕ) (s : Standing) (book : List ℕ) (place rows given : ℕ) : Type 0 where
  pub here : Place set file at s
  pub long : length book ≡ length book₀
  pub reach : place + 9 * rows ≤ length book
  pub room : place + 9 * (used_in book rows place + length (letters_from set here.fuel file at here.past)) ≤ length book
  pub numbers : given + length (letters_from set here.fuel file at here.past) < 0x1_0000_0000_0000_0000
  pub same : entered o book₀ claimed 17 m last (letters_of file) ≡ entered o book rows place m given (letters_from set here.fuel file at here.past)

module _ (set : CharacterSet) (file book₀ : List ℕ) (m o last claimed : ℕ) where
  pub writing-first : (s : Standing) → set ≡ set_of file → length file ≤ 268_435_456 → 17 + 9 * claimed ≤ length book₀ → 17 + 9 * (used_in book₀ claimed 17 + length (letters_of file)) ≤ length book₀
      → last + length (letters_of file) < 0x1_0000_0000_0000_0000 → s ≡ capped_figures (standing set file []) → Writing set file book₀ m o last claimed 0 s book₀ 17 claimed last
  writing-first s q h reach room numbers e =
      let all : letters_from set (length file) file 0 [] ≡ letters_of file = rw q in
      record {
        here = record { past = []; fuel = length file; within = omega arith; limit = h; few = omega arith; enough = omega arith; stands = e };
        long = refl;
        reach = reach;
        room = omega (arith, ap length all);
        numbers = omega (arith, ap length all);
        same = ap (entered o book₀ claimed 17 m last) (sym all);
      }

  module _ (at : ℕ) (s : Standing) (book : List ℕ) (place rows given : ℕ) (v : Writing set file book₀ m o last claimed at s book place rows given) where
    more : at < length file → 0 < v.here.fuel
    more h = omega (arith, v.here.enough)

    pub writing-cut : at < length file → frame_at file at ≡ Cut → book ≡ entered o book₀ claimed 17 m last (letters_of file)
    writing-cut h e =
        sym (v.same ∙ ap (entered o book rows place m given) (letters-cut set file at v.here.past v.here.fuel e h) ∙ entered-none o book rows place m given)

    pub writing-end : length file ≤ at → book ≡ entered o book₀ claimed 17 m last (letters_of file)
    writing-end h =
        sym (v.same ∙ ap (entered o book rows place m given) (letters-end set file at v.here.past v.here.fuel h) ∙ entered-none o book rows place m given)

    module _ (h : at < length file) (start size t : ℕ) (e : frame_at file at ≡ Whole start size) (q : type_of set (part start size file) ≡ t)
        (r : Standing) (n : Moves set file s t at r) where
      others : List Figures
      others = letters_from set (v.here.fuel - 1) file (start + size) (record_entry t at size ∷ v.here.past)

      stands : r ≡ capped_figures (standing set file (record_entry t at size ∷ v.here.past))
      stands = moved_on set file v.here.past s r t at size v.here.stands n

      -- what is left behind the record, from another book, place and number on
      on : (after : List ℕ) (next left count : ℕ) → length after ≡ length book₀ → next + 9 * left ≤ length after → next + 9 * (used_in after left next + length others) ≤ length after
          → count + length others < 0x1_0000_0000_0000_0000 → entered o book₀ claimed 17 m last (letters_of file) ≡ entered o after left next m count others
          → Writing set file book₀ m o last claimed (start + size) r after next left count
      unfolding others
      on after next left count long reach room numbers same =
          let begins = whole-start file at start size e in
          let fits = whole-within file at start size e in
          let there : others ≡ letters_from set (v.here.fuel - 1) file (at + 4 + size) (record_entry t at size ∷ v.here.past) =
          ap (λ (n : ℕ). letters_from set (v.here.fuel - 1) file (n + size) (record_entry t at size ∷ v.here.past)) begins in
          subst (λ (n : ℕ). Writing set file book₀ m o last claimed (n + size) r after next left count) (sym begins)
          (record {
            here =
                record {
                  past = record_entry t at size ∷ v.here.past;
                  fuel = v.here.fuel - 1;
                  within = omega arith;
                  limit = v.here.limit;
                  few = omega (arith, v.here.few);
                  enough = omega (arith, v.here.enough);
                  stands = stands;
                };
            long = long;
            reach = reach;
            room = omega (arith, ap length there);
            numbers = omega (arith, ap length there);
            same = same ∙ ap (entered o after left next m count) there;
          })

      pub writing-other : (t ≡ 90 → ⊥) → Writing set file book₀ m o last claimed (start + size) r book place rows given
      unfolding others
      writing-other x =
          let all = letters-other set file at v.here.past v.here.fuel start size t h (more h) e q x in
          on book place rows given v.long v.reach (omega (arith, v.room, ap length all)) (omega (arith, v.numbers, ap length all))
          (v.same ∙ ap (entered o book rows place m given) all)

      module _ (x : t ≡ 90) where
        letters-here : letters_from set v.here.fuel file at v.here.past ≡ figures r.opened r.letter ∷ others
        unfolding others
        letters-here = letters-90 set file at v.here.past v.here.fuel start size t h (more h) e q r stands x

        pub writing-number : given + 1 < 0x1_0000_0000_0000_0000
        writing-number = omega (arith, v.numbers, ap length letters-here)

        module _ (spot : Spot) (z : spot ≡ spot_from book rows place) where
          pub writing-room : spot.at + 9 + 9 * spot.rows ≤ length book
          writing-room =
              rw z ((onward book rows place).within (length book) v.reach (omega (arith, v.room, ap length letters-here)))

          pub writing-one : (after : List ℕ) → after ≡ sets book spot.at (row_of o (entry (given + 1) m (figures r.opened r.letter)))
              → Writing set file book₀ m o last claimed (start + size) r after (spot.at + 9) spot.rows (given + 1)
          writing-one after w =
              let all = letters-here in
              let one = entry (given + 1) m (figures r.opened r.letter) in
              let width = ap length w ∙ length-sets book spot.at (row_of o one) in
              let used = ap (λ (b : List ℕ). used_in b spot.rows (spot.at + 9)) w ∙ used-stored book spot.at o one spot.rows in
              let behind : spot.at + 9 * used_in book spot.rows (spot.at + 9) ≡ place + 9 * used_in book rows place = rw z (onward book rows place).used in
              on after (spot.at + 9) spot.rows (given + 1) (width ∙ v.long) (omega (arith, width, writing-room))
              (omega (arith, v.room, ap length all, width, used, behind)) (omega (arith, v.numbers, ap length all))
              (v.same
              ∙ ap (entered o book rows place m given) all
              ∙ entered-one o book rows place m given (figures r.opened r.letter) others
              ∙ ap (λ (k : Spot). entered o (sets book k.at (row_of o one)) k.rows (k.at + 9) m (given + 1) others) (sym z)
              ∙ ap (λ (b : List ℕ). entered o b spot.rows (spot.at + 9) m (given + 1) others) (sym w))
