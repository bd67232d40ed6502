-- Good records in the places of an arrangement make it sound: its cash letters, and the file. Assumes nothing.
use Prim.Native.Nat.{ℕ, ◌≤◌}
use native.Mathlib.Omega.{arith}
use mathlib.Core.Bool.{Bool, true, false}
use mathlib.Core.Logic.{◌⊎◌, inl, inr}
use mathlib.Core.Path.{◌≡◌, refl, sym, ◌∙◌}
use mathlib.Core.List.{List, [], ◌∷◌}
use lib.ListN.{length}
use Rattle.text.specs.declared.character_set.CharacterSet.{CharacterSet}
use Rattle.layout.specs.Layouts.{file_header, cash_letter_header, cash_letter_control, file_control}
use Rattle.judge.specs.Alone.{type_of}
use Rattle.order.specs.MayFollow.{follows}
use Rattle.file_as_records.specs.Framed.{Body}
use Rattle.file_as_records.proofs.Figures.{inside_in, indicator_in, opened_in}
use Rattle.file_as_records.proofs.Good.{At99, GoodAll}
use Rattle.arrangement.specs.Tree.{CashLetter, File}
use Rattle.arrangement.specs.Written.{letter_then, letters_then, records}
use Rattle.arrangement.specs.Sound.{All, indicator, N, bundle_count, SoundLetter, Sound}
use Rattle.arrangement.specs.TypesInPlace.{TypedLetter, Typed}
use Rattle.arrangement.proofs.Rightness.{right-in, known-01, known-10, known-90, known-99}
use Rattle.arrangement.proofs.After.{after_contents, after_letter, after_letters}
use Rattle.arrangement.proofs.Quiet.{step}
use Rattle.arrangement.proofs.Turns.{letter-in, as-type, Found, not_after}
use Rattle.arrangement.proofs.InItem.{indicator-is, next_inside}
use Rattle.arrangement.proofs.InLetter.{letter-begun, behind-contents}
use Rattle.arrangement.proofs.Levels.{letter-figures, file-figures}
use Rattle.arrangement.proofs.BundlesSound.{contents-sound}

filled-letter : (i j m n : ℕ) → i ≡ j → m ≡ n → (i ≡ N) ⊎ (1 ≤ m) → (j ≡ N) ⊎ (1 ≤ n)
filled-letter i j m n e f (inl h) = inl (sym e ∙ h)
filled-letter i j m n e f (inr h) = inr (omega (arith, f, h))

-- a cash letter, and behind it no bundle open
record LetterFound (set : CharacterSet) (l : CashLetter) (past rest : List Body) : Type 0 where
  sound : SoundLetter set l
  outside : inside_in set (after_letter past l) ≡ false
  behind : GoodAll set (after_letter past l) rest

letter-sound : (set : CharacterSet) (l : CashLetter) (past rest : List Body) → TypedLetter set l → inside_in set past ≡ false
    → GoodAll set past (letter_then l rest)
    → LetterFound set l past rest
letter-sound set l past rest typed outside good =
    let header = as-type set 10 past l.header typed.header good.first in
    let begun = letter-begun set l.header past typed.header outside in
    let contents = contents-sound set l.header l.contents (l.header ∷ past) (l.control ∷ rest) typed.contents begun good.rest in
    let before = after_contents (l.header ∷ past) l.contents in
    let here = behind-contents set l.header l.contents (l.header ∷ past) typed.contents begun in
    let control = as-type set 90 before l.control typed.control contents.behind.first in
    let totals = control.totalled.letter refl in
    let f = letter-figures set l past typed in
    record {
      sound =
          record {
            header = right-in set cash_letter_header l.header (known-10 set) typed.header header.alone;
            filled =
                filled-letter (indicator_in set before) (indicator set l.header) (opened_in set before)
                (bundle_count l) (indicator-is set before here.letter-is)
                f.bundles (letter-in set before l.control control);
            contents = contents.sound;
            control = right-in set cash_letter_control l.control (known-90 set) typed.control control.alone;
            bundle-count = totals.bundle-count ∙ f.bundles;
            debit-count = totals.debit-count ∙ f.debits;
            debit-cents = totals.debit-cents ∙ f.debit;
            view-count = totals.view-count ∙ f.views;
            credit-count = totals.credit-count ∙ f.credits;
            credit-cents = totals.credit-cents ∙ f.credit;
          };
      outside = step set false next_inside before l.control 90 typed.control ∙ here.outside;
      behind = contents.behind.rest;
    }

letters-sound : (set : CharacterSet) (ls : List CashLetter) (past rest : List Body) → All (TypedLetter set) ls → inside_in set past ≡ false
    → GoodAll set past (letters_then ls rest)
    → Found (At99 set) set (All (SoundLetter set) ls) (after_letters past ls) rest
letters-sound set [] past rest typed outside good = record { sound = tt; behind = good }
letters-sound set (l ∷ ls) past rest typed outside good =
    let here = letter-sound set l past (letters_then ls rest) typed.0 outside good in
    let others = letters-sound set ls (after_letter past l) rest typed.1 here.outside here.behind in
    record { sound = (here.sound, others.sound); behind = others.behind }

-- no file is empty: a 99 does not follow a 01
never-99 : (opened : Bool) → follows opened 1 99 ≡ false
unfolding follows
never-99 true = refl
never-99 false = refl

some-letter : (set : CharacterSet) (f : File) (ls : List CashLetter) → type_of set f.header ≡ 1 → type_of set f.control ≡ 99
    → GoodAll set (f.header ∷ []) (letters_then ls (f.control ∷ [])) → 1 ≤ length ls
some-letter set f [] begins ends good = absurd (not_after set 99 1 [] f.header f.control begins ends never-99 good.first)
some-letter set f (l ∷ ls) begins ends good = omega arith

pub good-sound : (set : CharacterSet) (f : File) → Typed set f → GoodAll set [] (records f) → Sound set f
good-sound set f typed good =
    let header = as-type set 1 [] f.header typed.header good.first in
    let outside = step set false next_inside [] f.header 1 typed.header in
    let letters = letters-sound set f.letters (f.header ∷ []) (f.control ∷ []) typed.letters outside good.rest in
    let before = after_letters (f.header ∷ []) f.letters in
    let control = as-type set 99 before f.control typed.control letters.behind.first in
    let totals = control.totalled.file refl in
    let s = file-figures set f typed in
    record {
      header = right-in set file_header f.header (known-01 set) typed.header header.alone;
      filled = some-letter set f f.letters typed.header typed.control good.rest;
      letters = letters.sound;
      control = right-in set file_control f.control (known-99 set) typed.control control.alone;
      letter-count = totals.letter-count ∙ s.letters;
      record-count = totals.record-count ∙ s.all;
      item_count = totals.item_count ∙ s.items;
      debit-cents = totals.debit-cents ∙ s.debit;
      credit-cents = totals.credit-cents ∙ s.credit;
    }
