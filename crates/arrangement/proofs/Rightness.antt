-- A record of a layout is right exactly when the judgement of it alone finds it sound. Assumes nothing.
use Prim.Native.Nat.{ℕ, ◌+◌}
use native.Mathlib.Omega.{arith}
use mathlib.Core.Bool.{Bool, true, false, ◌&&◌, ◌||◌, cond}
use mathlib.Core.Path.{◌≡◌, refl, sym, ◌∙◌}
use mathlib.Core.List.{List, [], ◌∷◌}
use lib.Dec.{leb, eqb}
use lib.ListN.{length, take, drop}
use borrow.Author.Tests.{leb-true, le-leb, eqb-true, eq-eqb}
use Rattle.text.specs.declared.character_set.CharacterSet.{CharacterSet}
use Rattle.text.specs.DataTypes.{of_type}
use Rattle.layout.specs.Layout.{Line, Layout, Sized, sized_parts}
use Rattle.layout.specs.Layouts.{credit_record, file_header, cash_letter_header, bundle_header, check_detail, check_detail_addendum_a, check_detail_addendum_b, check_detail_addendum_c, return_record, return_addendum_a, return_addendum_b, return_addendum_c, return_addendum_d, image_view_detail, image_view_data, image_view_analysis, bundle_control, cash_letter_control, file_control}
use Rattle.judge.specs.Alone.{Sound}
use Rattle.judge.specs.Alone.{type_of, line_holds, first_wrong, stated_size, stated_sizes, first_wrong_part, is_variable, judged, alone, judged_as}
use Rattle.judge.proofs.Laws.{length-not-sound, field-not-sound, kept}
use Rattle.file_as_records.specs.Framed.{Body}
use Rattle.file_as_records.proofs.Tests.{both}
use Rattle.arrangement.specs.Sound.{All, PartsRight, Right}
use Rattle.judge.specs.Alone as alone

-- fields are numbered from 1, so that 0 names none of them
abbrev lines_numbered : List Line → Bool
lines_numbered [] = true
lines_numbered (l ∷ ls) = leb 1 l.number && lines_numbered ls

abbrev parts_numbered : List Sized → Bool
parts_numbered [] = true
parts_numbered (s ∷ ss) = leb 1 s.number && parts_numbered ss

picked-zero : (t : Bool) (x n : ℕ) → leb 1 n ≡ true → cond t x n ≡ 0 → (t ≡ true) × (x ≡ 0)
picked-zero true x n l e = (refl, e)
picked-zero false x n l e = absurd (omega (arith, leb-true 1 n l, e))

lines-hold : (set : CharacterSet) (ls : List Line) (b : Body) → lines_numbered ls ≡ true → first_wrong set ls b ≡ 0
    → All (λ (l : Line). line_holds set l b ≡ true) ls
unfolding first_wrong
lines-hold set [] b n e = tt
lines-hold set (l ∷ ls) b n e =
    let m = both (leb 1 l.number) (lines_numbered ls) n in
    let p = picked-zero (line_holds set l b) (first_wrong set ls b) l.number m.0 e in
    (p.0, lines-hold set ls b m.1 p.1)

none-wrong : (set : CharacterSet) (ls : List Line) (b : Body) → All (λ (l : Line). line_holds set l b ≡ true) ls → first_wrong set ls b ≡ 0
unfolding first_wrong
none-wrong set [] b h = refl
none-wrong set (l ∷ ls) b h = rw h.0 (none-wrong set ls b h.1)

parts-right : (set : CharacterSet) (ss : List Sized) (b : Body) (rest : List ℕ) → parts_numbered ss ≡ true → first_wrong_part set ss b rest ≡ 0
    → PartsRight set ss b rest
unfolding first_wrong_part
parts-right set [] b rest n e = tt
parts-right set (s ∷ ss) b rest n e =
    let m = both (leb 1 s.number) (parts_numbered ss) n in
    let p =
    picked-zero (of_type set s.data_type (take (stated_size set s b) rest)) (first_wrong_part set ss b (drop (stated_size set s b) rest)) s.number m.0 e in
    (p.0, parts-right set ss b (drop (stated_size set s b) rest) m.1 p.1)

no-part-wrong : (set : CharacterSet) (ss : List Sized) (b : Body) (rest : List ℕ) → PartsRight set ss b rest → first_wrong_part set ss b rest ≡ 0
unfolding first_wrong_part
no-part-wrong set [] b rest h = refl
no-part-wrong set (s ∷ ss) b rest h = rw h.0 (no-part-wrong set ss b (drop (stated_size set s b) rest) h.1)

-- no fixed record is longer than its fixed part
not-long : (set : CharacterSet) (ss : List Sized) (b : Body) (fixed : ℕ) → length b ≡ fixed + stated_sizes set ss b
    → is_variable ss || leb (length b) fixed ≡ true
unfolding stated_sizes
not-long set [] b fixed e = le-leb (length b) fixed (omega (arith, e))
not-long set (s ∷ ss) b fixed e = refl

-- what the judgement needs to know of a layout: all its fields are numbered, and it is the layout of its type
pub record Known (set : CharacterSet) (k : Layout) : Type 0 where
  pub lines : lines_numbered k.lines ≡ true
  pub parts : parts_numbered (sized_parts k) ≡ true
  pub judged : (b : Body) → judged_as set k.type_number b ≡ alone set k b

module _ (set : CharacterSet) (k : Layout) (b : Body) (known : Known set k) where
  pub right-in : type_of set b ≡ k.type_number → judged_as set k.type_number b ≡ Sound → Right set k b
  unfolding judged
  right-in t j =
      let fixed = k.fixed_length in
      let ls = k.lines in
      let ss = sized_parts k in
      let e : judged set fixed ls ss b ≡ Sound = sym (known.judged b) ∙ j in
      let long = kept (leb fixed (length b)) length-not-sound e in
      let short = kept (is_variable ss || leb (length b) fixed) length-not-sound long.1 in
      let field = kept (eqb (first_wrong set ls b) 0) (field-not-sound (first_wrong set ls b)) short.1 in
      let fills = kept (eqb (length b) (fixed + stated_sizes set ss b)) length-not-sound field.1 in
      let part = kept (eqb (first_wrong_part set ss b (drop fixed b)) 0) (field-not-sound (first_wrong_part set ss b (drop fixed b))) fills.1 in
      record {
        type = t;
        long = eqb-true (length b) (fixed + stated_sizes set ss b) fills.0;
        fields = lines-hold set ls b known.lines (eqb-true (first_wrong set ls b) 0 field.0);
        parts = parts-right set ss b (drop fixed b) known.parts (eqb-true (first_wrong_part set ss b (drop fixed b)) 0 part.0);
      }

  pub right-out : Right set k b → judged_as set k.type_number b ≡ Sound
  unfolding judged
  right-out r =
      let fixed = k.fixed_length in
      let ss = sized_parts k in
      known.judged b
      ∙ simp (
        le-leb fixed (length b) (omega (arith, r.long)),
        not-long set ss b fixed r.long,
        none-wrong set k.lines b r.fields,
        eq-eqb (length b) (fixed + stated_sizes set ss b) r.long,
        no-part-wrong set ss b (drop fixed b) r.parts,
      )

-- the layouts, each found by its type
pub known-01 : (set : CharacterSet) → Known set file_header
unfolding judged_as
known-01 set = record { lines = refl; parts = refl; judged = λ b. refl }

pub known-10 : (set : CharacterSet) → Known set cash_letter_header
unfolding judged_as
known-10 set = record { lines = refl; parts = refl; judged = λ b. refl }

pub known-20 : (set : CharacterSet) → Known set bundle_header
unfolding judged_as
known-20 set = record { lines = refl; parts = refl; judged = λ b. refl }

pub known-25 : (set : CharacterSet) → Known set check_detail
unfolding judged_as
known-25 set = record { lines = refl; parts = refl; judged = λ b. refl }

pub known-26 : (set : CharacterSet) → Known set check_detail_addendum_a
unfolding judged_as
known-26 set = record { lines = refl; parts = refl; judged = λ b. refl }

pub known-27 : (set : CharacterSet) → Known set check_detail_addendum_b
unfolding judged_as
known-27 set = record { lines = refl; parts = refl; judged = λ b. refl }

pub known-28 : (set : CharacterSet) → Known set check_detail_addendum_c
unfolding judged_as
known-28 set = record { lines = refl; parts = refl; judged = λ b. refl }

pub known-31 : (set : CharacterSet) → Known set return_record
unfolding judged_as
known-31 set = record { lines = refl; parts = refl; judged = λ b. refl }

pub known-32 : (set : CharacterSet) → Known set return_addendum_a
unfolding judged_as
known-32 set = record { lines = refl; parts = refl; judged = λ b. refl }

pub known-33 : (set : CharacterSet) → Known set return_addendum_b
unfolding judged_as
known-33 set = record { lines = refl; parts = refl; judged = λ b. refl }

pub known-34 : (set : CharacterSet) → Known set return_addendum_c
unfolding judged_as
known-34 set = record { lines = refl; parts = refl; judged = λ b. refl }

pub known-35 : (set : CharacterSet) → Known set return_addendum_d
unfolding judged_as
known-35 set = record { lines = refl; parts = refl; judged = λ b. refl }

pub known-50 : (set : CharacterSet) → Known set image_view_detail
unfolding judged_as
known-50 set = record { lines = refl; parts = refl; judged = λ b. refl }

pub known-52 : (set : CharacterSet) → Known set image_view_data
unfolding judged_as
known-52 set = record { lines = refl; parts = refl; judged = λ b. refl }

pub known-54 : (set : CharacterSet) → Known set image_view_analysis
unfolding judged_as
known-54 set = record { lines = refl; parts = refl; judged = λ b. refl }

pub known-61 : (set : CharacterSet) → Known set credit_record
unfolding judged_as
known-61 set = record { lines = refl; parts = refl; judged = λ b. refl }

pub known-70 : (set : CharacterSet) → Known set bundle_control
unfolding judged_as
known-70 set = record { lines = refl; parts = refl; judged = λ b. refl }

pub known-90 : (set : CharacterSet) → Known set cash_letter_control
unfolding judged_as
known-90 set = record { lines = refl; parts = refl; judged = λ b. refl }

pub known-99 : (set : CharacterSet) → Known set file_control
unfolding judged_as
known-99 set = record { lines = refl; parts = refl; judged = λ b. refl }
