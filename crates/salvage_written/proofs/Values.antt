-- The values that are left of a torn file: those of records, and those of new controls. Assumes nothing.
use Prim.Native.Nat.{ℕ, zero, suc, ◌+◌, ◌-◌}
use native.Mathlib.Omega.{arith}
use mathlib.Core.Bool.{Bool, true, false, ◌&&◌, cond}
use mathlib.Core.List.{List, [], ◌∷◌, ◌++◌, map}
use mathlib.Core.Option.{Option, none, some}
use mathlib.Core.Path.{◌≡◌, refl, ap, ap₂, ◌∙◌}
use lib.Dec.{leb}
use lib.ListN.{length, length-take, length-drop}
use borrow.Author.Tests.{leb-true}
use Rattle.text.specs.CharacterSet.{set_of}
use Rattle.text.specs.declared.character_set.CharacterSet.{CharacterSet}
use Rattle.text.specs.declared.character_set.CharacterSet.TheVariants.{Ascii, Ebcdic}
use Rattle.text.specs.declared.data_types.DataType.{DataType}
use Rattle.copying.specs.Times.{times}
use Rattle.layout.specs.Layout.{Line}
use Rattle.layout.specs.Layouts.{cash_letter_control, file_control}
use Rattle.judge.specs.Alone.{characters_of, line_holds}
use Rattle.ascii_copy.proofs.Records.{length-as}
use Rattle.file_as_records.specs.Framed.{Body}
use Rattle.arrangement.specs.Sound.{All}
use Rattle.draft.specs.Values.{here, Values, is_given, in_ascii, layout_of, values_of_body}
use Rattle.draft.specs.Completed.{size_of}
use Rattle.draft.proofs.Shapes.{Shaped, AllShaped, given_sizes, shaped-body}
use Rattle.values_back.proofs.Record.{Asked}
use Rattle.values_back.proofs.Whole.{AllAsked, asked-at}
use Rattle.salvage_model.specs.Walked.{walked}
use Rattle.salvage_model.specs.Kept.{Torn, Section, letter, ending, stray, is_kept, kept_bodies, groups_marks, sections_of, letter_values, sections_values, ending_of, free_field, free_fields, control_values, salvaged_values}
use Rattle.salvage_model.specs.Salvaged.{values_left}

-- a law of the values of each record and of each new control is a law of all that is left
module _ (P : Values → Type 0) where
  pub all_append : (vs ws : List Values) → All P vs → All P ws → All P (vs ++ ws)
  all_append [] ws p q = q
  all_append (v ∷ vs) ws p q = (p.0, all_append vs ws p.1 q)

  module _ (set : CharacterSet) (of-body : (b : Body) → P (values_of_body set b)) (of-90 : (b : Option Body) → P (control_values set cash_letter_control b))
      (of-99 : (b : Option Body) → P (control_values set file_control b)) where
    all-bodies : (bs : List Body) → All P (map (values_of_body set) bs)
    all-bodies [] = tt
    all-bodies (b ∷ bs) = (of-body b, all-bodies bs)

    all-letter : (t : Torn) → All P (letter_values set t)
    all-letter t = by (is_kept set t)
      where
        by : (c : Bool)
            → All P
            (cond c
            (values_of_body set t.header ∷ (map (values_of_body set) (kept_bodies (groups_marks set t t.groups)) ++ (control_values set cash_letter_control t.control ∷ [])))
            [])
        by true = (
          of-body t.header,
          all_append (map (values_of_body set) (kept_bodies (groups_marks set t t.groups)))
              (control_values set cash_letter_control t.control ∷ []) (all-bodies (kept_bodies (groups_marks set t t.groups))) (of-90 t.control, tt),
        )
        by false = tt

    all-sections : (ss : List Section) → All P (sections_values set ss)
    all-sections [] = tt
    all-sections (letter t ∷ ss) = all_append (letter_values set t) (sections_values set ss) (all-letter t) (all-sections ss)
    all-sections (ending b ∷ ss) = all-sections ss
    all-sections (stray b ∷ ss) = all-sections ss

    pub all-salvaged : (bs : List Body) → All P (salvaged_values set bs)
    unfolding salvaged_values
    all-salvaged [] = tt
    all-salvaged (b ∷ bs) =
        (of-body b, all_append (sections_values set (sections_of set bs)) _ (all-sections (sections_of set bs)) (of-99 (ending_of (sections_of set bs)), tt))

-- a new control is shaped as its layout
length-times : (n x : ℕ) → length (times n x) ≡ n
length-times zero x = refl
length-times (suc n) x = ap suc (length-times n x)

length-ascii : (s : CharacterSet) (t : DataType) (xs : List ℕ) → length (in_ascii s t xs) ≡ length xs
length-ascii Ascii t xs = refl
length-ascii Ebcdic t xs = length-as t xs

pub free-long : (set : CharacterSet) (b : Option Body) (l : Line) → size_of (free_field set b l) ≡ l.size
free-long set none l = length-times l.size 0x20
free-long set (some b) l = by (leb (l.first - 1 + l.size) (length b)) refl (line_holds set l b)
  where
    by : (c : Bool) → leb (l.first - 1 + l.size) (length b) ≡ c → (d : Bool)
        → size_of (cond (c && d) (here (in_ascii set l.data_type (characters_of l b))) (here (times l.size 0x20))) ≡ l.size
    by true q true =
        let fits = leb-true (l.first - 1 + l.size) (length b) q in
        length-ascii set l.data_type (characters_of l b) ∙ simp (length-take, length-drop) (omega arith)
    by true q false = length-times l.size 0x20
    by false q d = length-times l.size 0x20

free-shaped : (set : CharacterSet) (b : Option Body) (ls : List Line) → map size_of (free_fields set b ls) ≡ given_sizes ls
free-shaped set b [] = refl
free-shaped set b (l ∷ ls) = by (is_given l.origin) (free-shaped set b ls)
  where
    by : (c : Bool) → map size_of (free_fields set b ls) ≡ given_sizes ls
        → map size_of (cond c (free_field set b l ∷ free_fields set b ls) (free_fields set b ls)) ≡ cond c (l.size ∷ given_sizes ls) (given_sizes ls)
    by true e = ap₂ (λ (n : ℕ) (ns : List ℕ). n ∷ ns) (free-long set b l) e
    by false e = e

pub shaped-90 : (set : CharacterSet) (b : Option Body) → Shaped (control_values set cash_letter_control b)
unfolding control_values layout_of
shaped-90 set b = record { fields = free-shaped set b cash_letter_control.lines; parts = refl }

pub shaped-99 : (set : CharacterSet) (b : Option Body) → Shaped (control_values set file_control b)
unfolding control_values layout_of
shaped-99 set b = record { fields = free-shaped set b file_control.lines; parts = refl }

shaped-all : (vs : List Values) → All Shaped vs → AllShaped vs
shaped-all [] h = tt
shaped-all (v ∷ vs) h = (h.0, shaped-all vs h.1)

pub shaped-left : (file : List ℕ) → AllShaped (values_left file)
unfolding values_left
shaped-left file =
    let set = set_of file in
    shaped-all (values_left file) (all-salvaged Shaped set (shaped-body set) (shaped-90 set) (shaped-99 set) (walked file))

-- a blank MICR total is asked for in a 70 alone
asked-body : (set : CharacterSet) (b : Body) → Asked (values_of_body set b)
unfolding values_of_body
asked-body set b = asked-at set b _ _ 0 _

asked-90 : (set : CharacterSet) (b : Option Body) → Asked (control_values set cash_letter_control b)
unfolding control_values
asked-90 set b = refl

asked-99 : (set : CharacterSet) (b : Option Body) → Asked (control_values set file_control b)
unfolding control_values
asked-99 set b = refl

asked-all : (vs : List Values) → All Asked vs → AllAsked vs
asked-all [] h = tt
asked-all (v ∷ vs) h = (h.0, asked-all vs h.1)

pub asked-left : (file : List ℕ) → AllAsked (values_left file)
unfolding values_left
asked-left file =
    let set = set_of file in
    asked-all (values_left file) (all-salvaged Asked set (asked-body set) (asked-90 set) (asked-99 set) (walked file))
