-- A record that begins and ends no part of the file and is counted in none: nearly all figures stay. Assumes nothing.
use Prim.Native.Nat.{ℕ, ◌+◌}
use native.Mathlib.Nat.{zero-add}
use mathlib.Core.Bool.{Bool, true, false, ◌||◌}
use mathlib.Core.Path.{◌≡◌, refl, ap, sym, ◌∙◌}
use mathlib.Core.List.{List, [], ◌∷◌}
use lib.Dec.{eqb}
use Rattle.text.specs.declared.character_set.CharacterSet.{CharacterSet}
use Rattle.measure.specs.Measures.{records}
use Rattle.order.specs.MayFollow.{is_one_of, is_addendum}
use Rattle.standing.specs.History.{one, is_bofd_addendum, is_endorser_addendum}
use Rattle.standing.specs.Standing.{onward, capped_figures}
use Rattle.standing.specs.declared.Standing.{Standing}

-- the types that do, as `changes_much` has them
abbrev pub changing_much : List ℕ
changing_much = 10 ∷ 20 ∷ 25 ∷ 31 ∷ 50 ∷ 61 ∷ 70 ∷ []

neither : (a b : Bool) → a || b ≡ false → (a ≡ false) × (b ≡ false)
neither true b e = (e, cc)
neither false b e = (refl, e)

-- the figures with one record more that does not
abbrev pub moved_a_little : ℕ → Standing → Standing
moved_a_little t s =
    record {
      last = t;
      inside = s.inside;
      present = s.present;
      holder = s.holder;
      records = records (s.records.0 + 1);
      letters = s.letters;
      bundles = s.bundles;
      opened = s.opened;
      items = s.items;
      ordinal = s.ordinal;
      whole = s.whole;
      letter = s.letter;
      bundle = s.bundle;
      micr = s.micr;
      addenda = one (is_addendum t) + s.addenda;
      bofd = one (is_bofd_addendum t) + s.bofd;
      endorser = one (is_endorser_addendum t) + s.endorser;
      shown = s.shown;
      stated = s.stated;
      item = s.item;
      header = s.header;
      heading = s.heading;
      indicator = s.indicator;
      signature = s.signature;
    }

all-but-little : (set : CharacterSet) (file : List ℕ) (s : Standing) (t offset : ℕ) → is_one_of t changing_much ≡ false
    → moved_a_little t (capped_figures s) ≡ capped_figures (onward set file s t offset)
unfolding onward
all-but-little set file s t offset h =
    let no10 = neither (eqb t 10) (is_one_of t (20 ∷ 25 ∷ 31 ∷ 50 ∷ 61 ∷ 70 ∷ [])) h in
    let no20 = neither (eqb t 20) (is_one_of t (25 ∷ 31 ∷ 50 ∷ 61 ∷ 70 ∷ [])) no10.1 in
    let no25 = neither (eqb t 25) (is_one_of t (31 ∷ 50 ∷ 61 ∷ 70 ∷ [])) no20.1 in
    let no31 = neither (eqb t 31) (is_one_of t (50 ∷ 61 ∷ 70 ∷ [])) no25.1 in
    let no50 = neither (eqb t 50) (is_one_of t (61 ∷ 70 ∷ [])) no31.1 in
    let no61 = neither (eqb t 61) (is_one_of t (70 ∷ [])) no50.1 in
    let no70 = neither (eqb t 70) (is_one_of t []) no61.1 in
    simp (no10.0, no20.0, no25.0, no31.0, no50.0, no61.0, no70.0, zero-add)

pub little-moves : (set : CharacterSet) (file : List ℕ) (s : Standing) (t offset : ℕ) → capped_figures s ≡ s → is_one_of t changing_much ≡ false
    → moved_a_little t s ≡ capped_figures (onward set file s t offset)
little-moves set file s t offset e h = ap (moved_a_little t) (sym e) ∙ all-but-little set file s t offset h
