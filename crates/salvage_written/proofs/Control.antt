-- A new control keeps the rule of each of its fields: what is worked out is digits, and what is free holds or is blank. Assumes nothing.
use Prim.Native.Nat.{ℕ, zero, suc, ◌+◌, ◌-◌}
use mathlib.Core.Bool.{Bool, true, false, ◌&&◌, cond}
use mathlib.Core.Option.{Option, none, some}
use mathlib.Core.Path.{◌≡◌, refl, sym, ap, ap₂, ◌∙◌}
use mathlib.Core.List.{List, [], ◌∷◌, ◌++◌, append_assoc}
use lib.Dec.{leb, eqb}
use lib.ListN.{length, take, drop}
use lib.Seq.{take_at, drop_at, drop-drop}
use borrow.Author.Tests.{eqb-true}
use Rattle.text.specs.declared.character_set.CharacterSet.{CharacterSet}
use Rattle.text.specs.declared.character_set.CharacterSet.TheVariants.{Ascii, Ebcdic}
use Rattle.text.specs.declared.data_types.DataType.{DataType}
use Rattle.text.specs.declared.data_types.DataType.TheVariants.{N, NB, ANS}
use Rattle.text.specs.Characters.{is_blank}
use Rattle.text.specs.DataTypes.{every, of_type}
use Rattle.text.specs.Number.{number}
use Rattle.decimal.specs.Digits.{digits, fits}
use Rattle.decimal.proofs.Laws.{digits_long, digits-numeric}
use Rattle.copying.specs.Times.{times}
use Rattle.field.specs.declared.Usage.TheVariants.{Conditional}
use Rattle.field.specs.declared.Rule.{Rule}
use Rattle.field.specs.declared.Rule.TheVariants.{DataTypeAlone, Date}
use Rattle.field.specs.Rules.{follows, meets, holds}
use Rattle.frame.specs.Frames.{part}
use Rattle.layout.specs.declared.packing.Origin.{Origin}
use Rattle.layout.specs.declared.packing.Origin.TheVariants.{Given, TypeNumber}
use Rattle.layout.specs.Layout.{Line, line, M, C, only, sized_parts}
use Rattle.layout.specs.Layouts.{cash_letter_control, file_control}
use Rattle.judge.specs.Alone.{line_holds, first_wrong}
use Rattle.judge.proofs.Laws.{both_true}
use Rattle.ascii_copy.proofs.Characters.{is_characters, copied-as}
use Rattle.ascii_copy.proofs.Fields.{OriginAlike, holds-alike}
use Rattle.standing.specs.declared.Standing.{Standing}
use Rattle.standing.specs.Standing.{capped_figures}
use Rattle.file_as_records.specs.Framed.{Body}
use Rattle.draft.specs.Values.{Piece, here, Values, is_given, in_ascii, layout_of}
use Rattle.draft.specs.Completed.{next, is_here, characters_of, worked_out, fixed_part, all_parts, completed, first_unfit, first_unfit_part, lower}
use Rattle.draft.specs.Drafted.{field_fault}
use Rattle.draft.specs.Promises.{every_here}
use Rattle.draft.proofs.Shapes.{Shaped, piece-long}
use Rattle.salvage_model.specs.Kept.{free_field, free_fields, control_values}
use Rattle.salvage_written.proofs.Values.{free-long, shaped-90, shaped-99}
use Rattle.judge.specs.Alone as judge

-- characters that are as long as a line says and keep its rule, in whatever record
pub record Holds (l : Line) (own : List ℕ) : Type 0 where
  pub long : length own ≡ l.size
  pub right : (body : List ℕ) → holds Ascii l.usage l.data_type l.rule own body ≡ true

-- computed of the layouts: lines end to end, from so many characters on
abbrev lined : ℕ → List Line → Bool
lined at [] = true
lined at (l ∷ ls) = eqb (l.first - 1) at && lined (at + l.size) ls

module _ (v : Values) (addenda : ℕ) (s : Standing) where
  abbrev Holding : List Line → List Piece → Type 0
  Holding [] ps = Unit {0}
  Holding (l ∷ ls) ps =
      Holds l (cond (is_given l.origin) (characters_of (next ps)) (worked_out v addenda s l)) × Holding ls (cond (is_given l.origin) (drop 1 ps) ps)

  opened : (l : Line) (ls : List Line) (ps : List Piece)
      → fixed_part v addenda s (l ∷ ls) ps
      ≡ cond (is_given l.origin) (characters_of (next ps)) (worked_out v addenda s l) ++ fixed_part v addenda s ls (cond (is_given l.origin) (drop 1 ps) ps)
  unfolding fixed_part
  opened l ls ps = by (is_given l.origin)
    where
      by : (c : Bool)
          → cond c (characters_of (next ps) ++ fixed_part v addenda s ls (drop 1 ps)) (worked_out v addenda s l ++ fixed_part v addenda s ls ps)
          ≡ cond c (characters_of (next ps)) (worked_out v addenda s l) ++ fixed_part v addenda s ls (cond c (drop 1 ps) ps)
      by true = refl
      by false = refl

  none-wrong : (ls : List Line) (ps : List Piece) (at : ℕ) (body rest : List ℕ) → lined at ls ≡ true → Holding ls ps
      → drop at body ≡ fixed_part v addenda s ls ps ++ rest → first_wrong Ascii ls body ≡ 0
  unfolding first_wrong line_holds
  none-wrong [] ps at body rest e h d = refl
  none-wrong (l ∷ ls) ps at body rest e h d =
      let begins = both_true (eqb (l.first - 1) at) (lined (at + l.size) ls) e in
      let own = cond (is_given l.origin) (characters_of (next ps)) (worked_out v addenda s l) in
      let others = cond (is_given l.origin) (drop 1 ps) ps in
      let there : drop at body ≡ own ++ (fixed_part v addenda s ls others ++ rest) =
      d ∙ ap (λ (x : List ℕ). x ++ rest) (opened l ls ps) ∙ append_assoc own (fixed_part v addenda s ls others) rest in
      let stands : judge.characters_of l body ≡ own =
      ap (λ (k : ℕ). part k l.size body) (eqb-true (l.first - 1) at begins.0)
      ∙ ap (take l.size) there
      ∙ take_at own (fixed_part v addenda s ls others ++ rest) l.size h.0.long in
      let behind : drop (at + l.size) body ≡ fixed_part v addenda s ls others ++ rest =
      sym (drop-drop l.size at body) ∙ ap (drop l.size) there ∙ drop_at own (fixed_part v addenda s ls others ++ rest) l.size h.0.long in
      rw (stands, h.0.right body) (none-wrong ls others (at + l.size) body rest begins.1 h.1 behind)

-- digits
digits-hold : (n : ℕ) (o : Origin) (first last size x : ℕ) → Holds (line n M o first last size N DataTypeAlone) (digits size x)
unfolding holds meets follows of_type
digits-hold n o first last size x = record { long = digits_long size x; right = λ body. rw (digits-numeric size x) }

type-holds : (t : ℕ) → eqb (number Ascii (digits 2 t)) t && leb t t ≡ true → Holds (line 1 M TypeNumber 1 2 2 N (only t)) (digits 2 t)
unfolding holds meets follows of_type
type-holds t e =
    let tests = both_true (eqb (number Ascii (digits 2 t)) t) (leb t t) e in
    record { long = digits_long 2 t; right = λ body. rw (digits-numeric 2 t, eqb-true (number Ascii (digits 2 t)) t tests.0, tests.1) }

-- a field that is free is blank, or as it was walked
module _ (set : CharacterSet) (n first last size : ℕ) (t : DataType) (r : Rule) (characters : is_characters t ≡ true)
    (elsewhere : (s : CharacterSet) (xs body other : List ℕ) → holds s Conditional t r xs body ≡ holds s Conditional t r xs other)
    (own : (body other : List ℕ) → OriginAlike r body other) where
  abbrev free : Line
  free = line n C Given first last size t r

  held_in : (s : CharacterSet) (xs b body : List ℕ) → holds s Conditional t r xs b ≡ true → holds Ascii Conditional t r (in_ascii s t xs) body ≡ true
  held_in Ascii xs b body h = elsewhere Ascii xs body b ∙ h
  held_in Ebcdic xs b body h =
      ap (λ (ys : List ℕ). holds Ascii Conditional t r ys body) (copied-as t xs characters) ∙ holds-alike Conditional t r xs b body (own b body) ∙ h

  all-blank : (k : ℕ) → every (is_blank Ascii) (times k 0x20) ≡ true
  all-blank zero = refl
  all-blank (suc k) = all-blank k

  blank-holds : (body : List ℕ) → holds Ascii Conditional t r (times size 0x20) body ≡ true
  unfolding holds
  blank-holds body = rw (all-blank size)

  free-right : (o : Option Body) (body : List ℕ) → holds Ascii Conditional t r (characters_of (free_field set o free)) body ≡ true
  unfolding line_holds
  free-right none body = blank-holds body
  free-right (some b) body = by (leb (first - 1 + size) (length b)) (line_holds set free b) refl
    where
      by : (c d : Bool) → line_holds set free b ≡ d
          → holds Ascii Conditional t r (characters_of (cond (c && d) (here (in_ascii set t (judge.characters_of free b))) (here (times size 0x20)))) body ≡ true
      by true true h = held_in set (judge.characters_of free b) b body h
      by true false h = blank-holds body
      by false d h = blank-holds body

  free-holds : (o : Option Body) → Holds free (characters_of (free_field set o free))
  free-holds o = record { long = piece-long (free_field set o free) ∙ free-long set o free; right = free-right o }

free-here : (set : CharacterSet) (o : Option Body) (l : Line) → is_here (free_field set o l) ≡ true
free-here set none l = refl
free-here set (some b) l = by (leb (l.first - 1 + l.size) (length b) && line_holds set l b)
  where
    by : (c : Bool) → is_here (cond c (here (in_ascii set l.data_type (judge.characters_of l b))) (here (times l.size 0x20))) ≡ true
    by true = refl
    by false = refl

-- the fields of which the rule is the data type's, and a date
module _ (set : CharacterSet) (o : Option Body) (n first last size : ℕ) (t : DataType) (characters : is_characters t ≡ true) where
  typed-holds : Holds (line n C Given first last size t DataTypeAlone) (characters_of (free_field set o (line n C Given first last size t DataTypeAlone)))
  unfolding holds meets follows
  typed-holds = free-holds set n first last size t DataTypeAlone characters (λ s xs body other. refl) (λ body other origin e. cc) o

  date-holds : Holds (line n C Given first last size t Date) (characters_of (free_field set o (line n C Given first last size t Date)))
  unfolding holds meets follows
  date-holds = free-holds set n first last size t Date characters (λ s xs body other. refl) (λ body other origin e. cc) o

-- what is known of a new control
pub record NewControl (t : ℕ) (v : Values) : Type 0 where
  pub type : v.type ≡ t
  pub shaped : Shaped v
  pub lies : every_here v.parts ≡ true
  pub parts : first_unfit_part (sized_parts (layout_of v.type)) v.parts ≡ 0
  pub fit : (addenda : ℕ) → first_unfit v addenda (layout_of v.type).lines v.fields ≡ 0
  pub fields : (addenda : ℕ) (s : Standing) → field_fault v addenda s ≡ 0

module _ (set : CharacterSet) (o : Option Body) where
  abbrev v90 : Values
  v90 = control_values set cash_letter_control o

  abbrev v99 : Values
  v99 = control_values set file_control o

  holding-90 : (addenda : ℕ) (s : Standing) → Holding v90 addenda s cash_letter_control.lines (free_fields set o cash_letter_control.lines)
  unfolding control_values number digits
  holding-90 addenda s = (
    type-holds 90 refl,
    (
      digits-hold _ _ _ _ 6 _,
      (
        digits-hold _ _ _ _ 8 _,
        (
          digits-hold _ _ _ _ 14 _,
          (
            digits-hold _ _ _ _ 9 _,
            (typed-holds set o _ _ _ 16 ANS refl, (date-holds set o _ _ _ 8 NB refl, (digits-hold _ _ _ _ 8 _, (digits-hold _ _ _ _ 14 _, tt)))),
          ),
        ),
      ),
    ),
  )

  holding-99 : (addenda : ℕ) (s : Standing) → Holding v99 addenda s file_control.lines (free_fields set o file_control.lines)
  unfolding control_values number digits
  holding-99 addenda s = (
    type-holds 99 refl,
    (
      digits-hold _ _ _ _ 6 _,
      (
        digits-hold _ _ _ _ 8 _,
        (
          digits-hold _ _ _ _ 8 _,
          (
            digits-hold _ _ _ _ 16 _,
            (typed-holds set o _ _ _ 14 ANS refl, (typed-holds set o _ _ _ 10 NB refl, (digits-hold _ _ _ _ 16 _, tt))),
          ),
        ),
      ),
    ),
  )

  fit-90 : (addenda : ℕ) → first_unfit v90 addenda cash_letter_control.lines (free_fields set o cash_letter_control.lines) ≡ 0
  unfolding control_values first_unfit fits
  fit-90 addenda = simp free-here

  fit-99 : (addenda : ℕ) → first_unfit v99 addenda file_control.lines (free_fields set o file_control.lines) ≡ 0
  unfolding control_values first_unfit fits
  fit-99 addenda = simp free-here

  wrong-90 : (addenda : ℕ) (s : Standing) → first_wrong Ascii cash_letter_control.lines (completed v90 addenda s) ≡ 0
  unfolding completed control_values layout_of
  wrong-90 addenda s =
      none-wrong v90 addenda (capped_figures s) cash_letter_control.lines (free_fields set o cash_letter_control.lines) 0 (completed v90 addenda s) (all_parts [])
      refl (holding-90 addenda (capped_figures s)) refl

  wrong-99 : (addenda : ℕ) (s : Standing) → first_wrong Ascii file_control.lines (completed v99 addenda s) ≡ 0
  unfolding completed control_values layout_of
  wrong-99 addenda s =
      none-wrong v99 addenda (capped_figures s) file_control.lines (free_fields set o file_control.lines) 0 (completed v99 addenda s) (all_parts [])
      refl (holding-99 addenda (capped_figures s)) refl

  pub new-90 : NewControl 90 v90
  unfolding control_values layout_of first_unfit_part field_fault
  new-90 =
      record {
        type = refl;
        shaped = shaped-90 set o;
        lies = refl;
        parts = refl;
        fit = fit-90;
        fields = λ addenda s. ap₂ lower (fit-90 addenda) (wrong-90 addenda s);
      }

  pub new-99 : NewControl 99 v99
  unfolding control_values layout_of first_unfit_part field_fault
  new-99 =
      record {
        type = refl;
        shaped = shaped-99 set o;
        lies = refl;
        parts = refl;
        fit = fit-99;
        fields = λ addenda s. ap₂ lower (fit-99 addenda) (wrong-99 addenda s);
      }
