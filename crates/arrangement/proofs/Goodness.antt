-- The records of a sound arrangement are good, one after the other: its cash letters, and the file. Assumes nothing.
use Prim.Native.Nat.{ℕ, ◌≤◌}
use native.Mathlib.Omega.{arith}
use mathlib.Core.Bool.{false}
use mathlib.Core.Logic.{◌⊎◌, inl, inr}
use mathlib.Core.Path.{◌≡◌, refl, sym, ap, ◌∙◌}
use mathlib.Core.List.{List, [], ◌∷◌}
use lib.ListN.{length}
use Rattle.text.specs.declared.character_set.CharacterSet.{CharacterSet}
use Rattle.layout.specs.Layouts.{file_header, cash_letter_header}
use Rattle.order.specs.MayFollow.{is_check_or_return, is_carried, follows}
use Rattle.file_as_records.specs.Framed.{Body}
use Rattle.file_as_records.proofs.Figures.{inside_in}
use Rattle.file_as_records.proofs.Good.{At99, GoodAll}
use Rattle.file_as_records.proofs.TotalsByName.{FileTotals, LetterTotals}
use Rattle.arrangement.specs.Tree.{CashLetter, File}
use Rattle.arrangement.specs.Written.{letter_then, letters_then, records}
use Rattle.arrangement.specs.Sound.{All, N, SoundLetter, Sound}
use Rattle.arrangement.proofs.Rightness.{known-01, known-10}
use Rattle.arrangement.proofs.After.{after_contents, after_letter, after_letters}
use Rattle.arrangement.proofs.Quiet.{step}
use Rattle.arrangement.proofs.Levels.{letter-figures, file-figures}
use Rattle.arrangement.proofs.Turns.{Settled}
use Rattle.arrangement.proofs.InItem.{indicator-is, next_holder, next_inside}
use Rattle.arrangement.proofs.InLetter.{letter-begun}
use Rattle.arrangement.proofs.Making.{Allow, Follows, settled-kept, made_plain, made-90, made-99, allow-at, settled_on}
use Rattle.arrangement.proofs.BundlesGood.{contents-good}
use Rattle.arrangement.proofs.SoundTyped.{letter-typed, sound-typed}

filled-letter : {i j m n : ℕ} → i ≡ j → m ≡ n → (j ≡ N) ⊎ (1 ≤ n) → (i ≡ N) ⊎ (1 ≤ m)
filled-letter e d (inl h) = inl (e ∙ h)
filled-letter e d (inr h) = inr (omega (arith, d, h))

-- before a cash letter, and behind one
record Filing (set : CharacterSet) (past : List Body) : Type 0 where
  outside : inside_in set past ≡ false
  settled : Settled set past
  next : Follows set past 10

letter-good : (set : CharacterSet) (l : CashLetter) (past rest : List Body) → SoundLetter set l → Filing set past
    → (Filing set (after_letter past l) → Follows set (after_letter past l) 99 → GoodAll set (after_letter past l) rest)
    → GoodAll set past (letter_then l rest)
unfolding follows is_carried
letter-good set l past rest sound h on =
    let typed = letter-typed set l sound in
    let f = letter-figures set l past typed in
    let begun = letter-begun set l.header past typed.header h.outside in
    let before = after_contents (l.header ∷ past) l.contents in
    let c = l.control in
    let totals : LetterTotals set before c =
    record {
      bundle-count = sound.bundle-count ∙ sym f.bundles;
      debit-count = sound.debit-count ∙ sym f.debits;
      debit-cents = sound.debit-cents ∙ sym f.debit;
      view-count = sound.view-count ∙ sym f.views;
      credit-count = sound.credit-count ∙ sym f.credits;
      credit-cents = sound.credit-cents ∙ sym f.credit;
    } in
    record {
      first =
          made_plain set cash_letter_header (known-10 set) refl refl past l.header sound.header
          h.next (settled-kept set 10 past refl h.settled) refl;
      rest =
          contents-good (At99 set) set l.header l.contents (l.header ∷ past) (c ∷ rest) sound.contents
          (record {
            here = begun;
            settled = settled_on set past l.header 10 typed.header refl refl h.settled;
            unheld = ap is_check_or_return (step set 0 next_holder past l.header 10 typed.header);
            next = allow-at set (20 ∷ 61 ∷ 90 ∷ []) begun.outside typed.header refl;
          })
          (λ w.
          let outside : inside_in set (c ∷ before) ≡ false = step set false next_inside before c 90 typed.control ∙ w.here.outside in
          let behind-90 : Allow set (10 ∷ 99 ∷ []) (c ∷ before) = allow-at set (10 ∷ 99 ∷ []) outside typed.control refl in
          let letter-is = indicator-is set before w.here.letter-is in
          record {
            first =
                made-90 set before c sound.control (w.next.may 90 refl) w.settled (filled-letter letter-is f.bundles sound.filled) totals;
            rest =
                on
                (record {
                  outside = outside;
                  settled = settled_on set before c 90 typed.control refl refl w.settled;
                  next = behind-90.may 10 refl;
                })
                (behind-90.may 99 refl);
          });
    }

-- the 99 may come behind a cash letter: where there is none, that it may come is asked for
letters-good : (set : CharacterSet) (ls : List CashLetter) (past rest : List Body) → All (SoundLetter set) ls → Filing set past
    → (length ls ≡ 0 → Follows set past 99)
    → (Filing set (after_letters past ls) → Follows set (after_letters past ls) 99 → GoodAll set (after_letters past ls) rest)
    → GoodAll set past (letters_then ls rest)
letters-good set [] past rest sound h ends on = on h (ends refl)
letters-good set (l ∷ ls) past rest sound h ends on =
    letter-good set l past (letters_then ls rest) sound.0 h (λ h₁ ends₁. letters-good set ls (after_letter past l) rest sound.1 h₁ (λ e. ends₁) on)

pub sound-good : (set : CharacterSet) (f : File) → Sound set f → GoodAll set [] (records f)
unfolding follows is_carried
sound-good set f sound =
    let typed = sound-typed set f sound in
    let g = file-figures set f typed in
    let h = f.header in
    let c = f.control in
    let before = after_letters (h ∷ []) f.letters in
    let begun : Settled set [] = omega arith in
    let outside : inside_in set (h ∷ []) ≡ false = step set false next_inside [] h 1 typed.header in
    let behind-1 : Allow set (10 ∷ []) (h ∷ []) = allow-at set (10 ∷ []) outside typed.header refl in
    let totals : FileTotals set before c =
    record {
      letter-count = sound.letter-count ∙ sym g.letters;
      record-count = sound.record-count ∙ sym g.all;
      item_count = sound.item_count ∙ sym g.items;
      debit-cents = sound.debit-cents ∙ sym g.debit;
      credit-cents = sound.credit-cents ∙ sym g.credit;
    } in
    record {
      first = made_plain set file_header (known-01 set) refl refl [] h sound.header refl (settled-kept set 1 [] refl begun) refl;
      rest =
          letters-good set f.letters (h ∷ []) (c ∷ []) sound.letters
          (record { outside = outside; settled = settled_on set [] h 1 typed.header refl refl begun; next = behind-1.may 10 refl })
          (λ e. absurd (omega (arith, sound.filled, e)))
          (λ w ends. record { first = made-99 set before c sound.control ends w.settled totals; rest = sound.control.type });
    }
