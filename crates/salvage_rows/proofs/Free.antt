-- A free field of a new control: its characters, as many as the field has positions, and that they are what its text gives. Assumes nothing.
use Prim.Native.Nat.{ℕ, ◌+◌, ◌-◌, ◌≤◌}
use native.Mathlib.Nat.{zero-add}
use native.Mathlib.Omega.{arith}
use mathlib.Core.Bool.{Bool, true, false, ◌&&◌, not, cond, or-true}
use mathlib.Core.List.{List, [], ◌∷◌}
use mathlib.Core.Option.{some}
use mathlib.Core.Path.{◌≡◌, refl, sym, ap, ◌∙◌}
use borrow.Author.Tests.{le-leb}
use lib.Dec.{leb, eqb}
use lib.ListN.{length}
use lib.Seq.{sets}
use Rattle.text.specs.declared.character_set.CharacterSet.{CharacterSet}
use Rattle.text.specs.declared.character_set.CharacterSet.TheVariants.{Ascii}
use Rattle.text.specs.declared.data_types.DataType.{DataType}
use Rattle.frame.specs.Frames.{part}
use Rattle.layout.specs.Layout.{Line}
use Rattle.layout.specs.Packing.{line_of, lines_from}
use Rattle.layout.specs.Fault.{as_field}
use Rattle.std.specs.Prelude.{is_some}
use Rattle.judge.specs.Alone.{line_holds, first_wrong}
use Rattle.judge.proofs.Laws.{both_true}
use Rattle.copying.specs.Times.{times}
use Rattle.copying.proofs.Laws.{length-times}
use Rattle.sheet.proofs.Parts.{part-stored}
use Rattle.draft.specs.Values.{Piece, here, piece}
use Rattle.draft.specs.Completed.{characters_of}
use Rattle.draft.proofs.Shapes.{piece-long}
use Rattle.draft_rows.proofs.Parts.{piece-size}
use Rattle.salvage_model.specs.Kept.{free_field}

-- one line alone is judged as it is among the others
pub alone-holds : (set : CharacterSet) (packed n : ℕ) (body : List ℕ) (b : Bool)
    → is_some (as_field (first_wrong set (lines_from 1 (packed ∷ [])) body)) ≡ not b → b ≡ line_holds set (line_of n packed) body
unfolding first_wrong line_holds
alone-holds set packed n body b = by (line_holds set (line_of n packed) body) b
  where
    by : (c b : Bool) → is_some (as_field (cond c 0 1)) ≡ not b → b ≡ c
    by true true e = refl
    by true false e = cc
    by false true e = cc
    by false false e = refl

module _ (set : CharacterSet) (body : List ℕ) (l : Line) where
  abbrev is_taken : Bool
  is_taken = leb (l.first - 1 + l.size) (length body) && line_holds set l body

  abbrev pub free : Piece
  free = free_field set (some body) l

  -- what is set down for it
  pub free-taken : is_taken ≡ true → {t : DataType} → t ≡ l.data_type → {place : ℕ} → place ≡ l.first - 1
      → characters_of (piece set body t (0 + place) l.size) ≡ characters_of free
  free-taken e same at =
      let fits = (both_true (leb (l.first - 1 + l.size) (length body)) (line_holds set l body) e).0 in
      rw (same, at, zero-add (l.first - 1), e, fits, or-true (eqb l.size 0))

  pub free-blank : is_taken ≡ false → times l.size 0x20 ≡ characters_of free
  free-blank e = rw e

  -- it is there, and as long as its line
  free-here : free ≡ here (characters_of free)
  free-here = by is_taken refl
    where
      by : (b : Bool) → is_taken ≡ b → free ≡ here (characters_of free)
      by true e = rw e
      by false e = rw e

  free-long : length (characters_of free) ≡ l.size
  free-long = by is_taken refl
    where
      by : (b : Bool) → is_taken ≡ b → length (characters_of free) ≡ l.size
      by true e =
          ap length (sym (free-taken e refl refl))
          ∙ piece-long (piece set body l.data_type (0 + (l.first - 1)) l.size)
          ∙ piece-size set body l.data_type (0 + (l.first - 1)) l.size
      by false e = ap length (sym (free-blank e)) ∙ length-times l.size 0x20

  -- set down in its place, it is there, and a text that has it there gives it
  pub free-stored : (out after : List ℕ) → l.first - 1 + l.size ≤ length out → after ≡ sets out (l.first - 1) (characters_of free)
      → part (l.first - 1) l.size after ≡ characters_of free
  free-stored out after h e =
      ap (part (l.first - 1) l.size) e
      ∙ ap (λ (n : ℕ). part (l.first - 1) n (sets out (l.first - 1) (characters_of free))) (sym free-long)
      ∙ part-stored out (l.first - 1) (characters_of free) (omega (arith, free-long))

  pub free-given : (text : List ℕ) → l.first - 1 + l.size ≤ length text → part (l.first - 1) l.size text ≡ characters_of free
      → piece Ascii text l.data_type (0 + (l.first - 1)) l.size ≡ free
  free-given text h e =
      rw (zero-add (l.first - 1), le-leb (l.first - 1 + l.size) (length text) h, or-true (eqb l.size 0), e) (sym free-here)
