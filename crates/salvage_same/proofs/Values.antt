-- What is kept and made new of an accepted file are its own values, and nothing is dropped. Assumes nothing.
use Prim.Native.Nat.{ℕ, ◌+◌, ◌-◌, ◌≤◌}
use native.Mathlib.Nat.{zero-add}
use native.Mathlib.Omega.{arith}
use mathlib.Core.Bool.{Bool, true, false, ◌||◌, cond}
use mathlib.Core.Option.{none, some}
use mathlib.Core.Path.{◌≡◌, refl, sym, ap, ap₂, ◌∙◌}
use mathlib.Core.List.{List, [], ◌∷◌, ◌++◌, map, append_assoc}
use lib.Dec.{leb, eqb}
use lib.ListN.{length}
use borrow.Author.Tests.{leb-true, le-leb}
use Rattle.text.specs.declared.character_set.CharacterSet.{CharacterSet}
use Rattle.layout.specs.Layout.{Line}
use Rattle.layout.specs.Layouts.{cash_letter_control, file_control}
use Rattle.judge.specs.Alone.{line_holds}
use Rattle.judge.proofs.Laws.{both_true}
use Rattle.file_as_records.specs.Framed.{Body}
use Rattle.file_as_records.proofs.Held.{within}
use Rattle.arrangement.specs.Tree.{CashLetter}
use Rattle.arrangement.specs.Written.{letters_then}
use Rattle.arrangement.specs.Sound.{All, Right}
use Rattle.draft.specs.Values.{Piece, Values, is_given, fields_given, layout_of, values_at, values_of_body}
use Rattle.salvage_model.specs.Runs.{run_fault, run}
use Rattle.salvage_model.specs.Kept.{letter, kept, renewed, Marked, marked, group_marks, groups_marks, section_marks, sections_marks, free_fields, control_values, letter_values, sections_values, ending_of, any_kept}
use Rattle.salvage_model.specs.Promises.{NoneDropped}
use Rattle.salvage_written.proofs.Letters.{kept-marked, map-append}
use Rattle.salvage_same.proofs.Shape.{run_of, joined, contents-then}
use Rattle.salvage_same.proofs.Sections.{torn_of, sections_for}
use Rattle.salvage_same.proofs.Letters.{KeptLetter}

none-append : (xs ys : List Marked) → NoneDropped xs → NoneDropped ys → NoneDropped (xs ++ ys)
none-append [] ys p q = q
none-append (x ∷ xs) ys p q = (p.0, none-append xs ys p.1 q)

none_kept : (bs : List Body) → NoneDropped (map (marked kept) bs)
none_kept [] = tt
none_kept (b ∷ bs) = (refl, none_kept bs)

or-true : (c : Bool) → c || true ≡ true
or-true true = refl
or-true false = refl

-- the free fields of a sound control are its own
module _ (set : CharacterSet) (b : Body) where
  free_own : (fixed : ℕ) → fixed ≤ length b → (ls : List Line) → within fixed ls ≡ true → All (λ (l : Line). line_holds set l b ≡ true) ls
      → free_fields set (some b) ls ≡ fields_given set b 0 ls
  free_own fixed long [] w a = refl
  free_own fixed long (l ∷ ls) w a =
      let tests = both_true (leb (l.first - 1 + l.size) fixed) (within fixed ls) w in
      let lies : leb (l.first - 1 + l.size) (length b) ≡ true =
      le-leb (l.first - 1 + l.size) (length b) (omega (arith, long, leb-true (l.first - 1 + l.size) fixed tests.0)) in
      ap₂ (λ (p : Piece) (ps : List Piece). cond (is_given l.origin) (p ∷ ps) ps)
      (rw (zero-add (l.first - 1), lies, a.0, or-true (eqb l.size 0)))
      (free_own fixed long ls tests.1 a.1)

  pub own-90 : Right set cash_letter_control b → control_values set cash_letter_control (some b) ≡ values_of_body set b
  unfolding control_values values_of_body values_at layout_of
  own-90 r =
      rw r.type
      (ap (λ (ps : List Piece). values 90 ps)
      (free_own cash_letter_control.fixed_length (omega (arith, r.long)) cash_letter_control.lines refl r.fields))
    where
      values : ℕ → List Piece → Values
      values t ps = record { type = t; blank = false; fields = ps; parts = [] }

  pub own-99 : Right set file_control b → control_values set file_control (some b) ≡ values_of_body set b
  unfolding control_values values_of_body values_at layout_of
  own-99 r =
      rw r.type
      (ap (λ (ps : List Piece). values 99 ps)
      (free_own file_control.fixed_length (omega (arith, r.long)) file_control.lines refl r.fields))
    where
      values : ℕ → List Piece → Values
      values t ps = record { type = t; blank = false; fields = ps; parts = [] }

module _ (set : CharacterSet) where
  groups-kept : (l : CashLetter) → KeptLetter set l → (rs : List (List Body)) → All (λ (r : List Body). run_fault set l.header r ≡ none) rs
      → groups_marks set (torn_of set l) (map run rs) ≡ map (marked kept) (joined rs)
  groups-kept l k [] a = refl
  groups-kept l k (r ∷ rs) a =
      let own : group_marks set (torn_of set l) (run r) ≡ map (marked kept) r = rw (k.sound, k.kept, a.0) in
      ap₂ ◌++◌ own (groups-kept l k rs a.1) ∙ sym (map-append (marked kept) r (joined rs))

  module _ (l : CashLetter) (k : KeptLetter set l) where
    abbrev runs : List (List Body)
    runs = map run_of l.contents

    letter-marks : groups_marks set (torn_of set l) (torn_of set l).groups ≡ map (marked kept) (joined runs)
    letter-marks = groups-kept l k runs k.runs

    letter-none : NoneDropped (section_marks set (letter (torn_of set l)))
    letter-none =
        rw (k.kept, letter-marks) (refl, none-append (map (marked kept) (joined runs)) (marked renewed l.control ∷ []) (none_kept (joined runs)) (refl, tt))

    letter-values : Right set cash_letter_control l.control
        → letter_values set (torn_of set l) ≡ values_of_body set l.header ∷ (map (values_of_body set) (joined runs) ++ (values_of_body set l.control ∷ []))
    letter-values r =
        rw (k.kept, letter-marks, kept-marked (joined runs), own-90 set l.control r)

  pub none_dropped_lem : (ls : List CashLetter) → All (KeptLetter set) ls → (c : Body) → NoneDropped (sections_marks set (sections_for set ls c))
  none_dropped_lem [] a c = (refl, tt)
  none_dropped_lem (l ∷ ls) a c =
      none-append (section_marks set (letter (torn_of set l))) (sections_marks set (sections_for set ls c)) (letter-none l a.0) (none_dropped_lem ls a.1 c)

  pub ending_of_lem : (ls : List CashLetter) (c : Body) → ending_of (sections_for set ls c) ≡ some c
  ending_of_lem [] c = refl
  ending_of_lem (l ∷ ls) c = ending_of_lem ls c

  pub any-kept : (ls : List CashLetter) (c : Body) → All (KeptLetter set) ls → 1 ≤ length ls → any_kept set (sections_for set ls c) ≡ true
  any-kept [] c a h = absurd (omega arith)
  any-kept (l ∷ ls) c a h = rw a.0.kept

  pub sections-values : (ls : List CashLetter) (c : Body) → All (KeptLetter set) ls → All (λ (l : CashLetter). Right set cash_letter_control l.control) ls
      → sections_values set (sections_for set ls c) ++ (values_of_body set c ∷ []) ≡ map (values_of_body set) (letters_then ls (c ∷ []))
  sections-values [] c a r = refl
  sections-values (l ∷ ls) c a r =
      let W = values_of_body set in
      let J = joined (map run_of l.contents) in
      let others = letters_then ls (c ∷ []) in
      ap (λ (vs : List Values). (vs ++ sections_values set (sections_for set ls c)) ++ (W c ∷ [])) (letter-values l a.0 r.0)
      ∙ append_assoc (W l.header ∷ (map W J ++ (W l.control ∷ []))) (sections_values set (sections_for set ls c)) (W c ∷ [])
      ∙ ap (λ (vs : List Values). (W l.header ∷ (map W J ++ (W l.control ∷ []))) ++ vs) (sections-values ls c a.1 r.1)
      ∙ ap (λ (vs : List Values). W l.header ∷ vs)
      (append_assoc (map W J) (W l.control ∷ []) (map W others)
      ∙ sym (map-append W J (l.control ∷ others))
      ∙ ap (map W) (sym (contents-then l.contents (l.control ∷ others))))
