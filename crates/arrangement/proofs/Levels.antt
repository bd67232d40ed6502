-- What the records before a control come to: the sums of the level that it closes. Assumes nothing.
use Prim.Native.Nat.{ℕ, ◌+◌}
use native.Mathlib.Omega.{arith}
use mathlib.Core.Path.{◌≡◌, ap}
use mathlib.Core.List.{List, [], ◌∷◌}
use lib.ListN.{length}
use Rattle.text.specs.declared.character_set.CharacterSet.{CharacterSet}
use Rattle.order.specs.MayFollow.{is_item}
use Rattle.standing.specs.History.{one}
use Rattle.file_as_records.specs.Framed.{Body}
use Rattle.file_as_records.proofs.Figures.{count, is, never, is_debit_as, is_credit_as, debit_as, credit_as, micr_as, letters_in, bundles_in, opened_in, items_since, debits_since, debit_since, credits_since, credit_since, views_since, micr_in}
use Rattle.arrangement.specs.Tree.{Bundle, CashLetter, File}
use Rattle.arrangement.specs.Written.{records}
use Rattle.arrangement.specs.Sound.{total, of_bundle, of_letter, of_file, every_item, debits, debit_cents, credits, credit_cents, view_count, micr, bundle_count}
use Rattle.arrangement.specs.TypesInPlace.{TypedBundle, TypedLetter, Typed}
use Rattle.arrangement.proofs.Quiet.{quiet_step}
use Rattle.arrangement.proofs.Counting.{adding, count-letter}
use Rattle.arrangement.proofs.After.{after_items, after_contents, after_letter, after_letters, count-each, onto-letters, length-onto}
use Rattle.arrangement.proofs.Sums.{by-details, by_views, by-credits, by-items, by_count, by-contents, bundle-sum, letter-sum, file-sum}

-- what each record adds to the debits, and to the credits
abbrev pub debit_one : CharacterSet → ℕ → Body → ℕ
debit_one set t b = one (is_debit_as set t b)

abbrev pub credit_one : CharacterSet → ℕ → Body → ℕ
credit_one set t b = one (is_credit_as set t b)

pub record BundleFigures (set : CharacterSet) (b : Bundle) (past : List Body) : Type 0 where
  pub debits : debits_since set (is 20) (after_items (b.header ∷ past) b.items) ≡ of_bundle (debits set) b
  pub debit : debit_since set (is 20) (after_items (b.header ∷ past) b.items) ≡ of_bundle (debit_cents set) b
  pub credits : credits_since set (is 20) (after_items (b.header ∷ past) b.items) ≡ of_bundle (credits set) b
  pub credit : credit_since set (is 20) (after_items (b.header ∷ past) b.items) ≡ of_bundle (credit_cents set) b
  pub views : views_since set (is 20) (after_items (b.header ∷ past) b.items) ≡ of_bundle view_count b
  pub valid : micr_in set (after_items (b.header ∷ past) b.items) ≡ of_bundle (micr set) b

pub bundle-figures : (set : CharacterSet) (b : Bundle) (past : List Body) → TypedBundle set b → BundleFigures set b past
bundle-figures set b past k =
    record {
      debits = bundle-sum set (debit_one set) (by-details set (omega arith)) past b k;
      debit = bundle-sum set (debit_as set) (by-details set (omega arith)) past b k;
      credits = bundle-sum set (credit_one set) (by-details set (omega arith)) past b k;
      credit = bundle-sum set (credit_as set) (by-credits set (omega arith)) past b k;
      views = bundle-sum set (count (is 50)) (by_views set (omega arith)) past b k;
      valid = bundle-sum set (micr_as set) (by-details set (omega arith)) past b k;
    }

pub record LetterFigures (set : CharacterSet) (l : CashLetter) (past : List Body) : Type 0 where
  pub bundles : opened_in set (after_contents (l.header ∷ past) l.contents) ≡ bundle_count l
  pub debits : debits_since set (is 10) (after_contents (l.header ∷ past) l.contents) ≡ of_letter (debits set) l
  pub debit : debit_since set (is 10) (after_contents (l.header ∷ past) l.contents) ≡ of_letter (debit_cents set) l
  pub credits : credits_since set (is 10) (after_contents (l.header ∷ past) l.contents) ≡ of_letter (credits set) l
  pub credit : credit_since set (is 10) (after_contents (l.header ∷ past) l.contents) ≡ of_letter (credit_cents set) l
  pub views : views_since set (is 10) (after_contents (l.header ∷ past) l.contents) ≡ of_letter view_count l

pub letter-figures : (set : CharacterSet) (l : CashLetter) (past : List Body) → TypedLetter set l → LetterFigures set l past
letter-figures set l past k =
    record {
      bundles = letter-sum set (count (is 20)) (by_count set (omega arith) (omega arith) (omega arith)) past l k;
      debits = letter-sum set (debit_one set) (by-items set (omega arith) (by-details set (omega arith))) past l k;
      debit = letter-sum set (debit_as set) (by-items set (omega arith) (by-details set (omega arith))) past l k;
      credits = letter-sum set (credit_one set) (by-items set (omega arith) (by-details set (omega arith))) past l k;
      credit = letter-sum set (credit_as set) (by-items set (omega arith) (by-credits set (omega arith))) past l k;
      views = letter-sum set (count (is 50)) (by-items set (omega arith) (by_views set (omega arith))) past l k;
    }

pub record FileFigures (set : CharacterSet) (f : File) : Type 0 where
  pub letters : letters_in set (after_letters (f.header ∷ []) f.letters) ≡ length f.letters
  pub all : length (after_letters (f.header ∷ []) f.letters) + 1 ≡ length (records f)
  pub bundles : bundles_in set (after_letters (f.header ∷ []) f.letters) ≡ total bundle_count f.letters
  pub items : items_since set never (after_letters (f.header ∷ []) f.letters) ≡ of_file every_item f
  pub debits : debits_since set never (after_letters (f.header ∷ []) f.letters) ≡ of_file (debits set) f
  pub debit : debit_since set never (after_letters (f.header ∷ []) f.letters) ≡ of_file (debit_cents set) f
  pub credits : credits_since set never (after_letters (f.header ∷ []) f.letters) ≡ of_file (credits set) f
  pub credit : credit_since set never (after_letters (f.header ∷ []) f.letters) ≡ of_file (credit_cents set) f
  pub views : views_since set never (after_letters (f.header ∷ []) f.letters) ≡ of_file view_count f

letters-counted : (set : CharacterSet) (f : File) → Typed set f → letters_in set (after_letters (f.header ∷ []) f.letters) ≡ length f.letters
letters-counted set f k =
    let next : ℕ → Body → ℕ → ℕ = adding never (count (is 10)) in
    let each = count-each after_letter (TypedLetter set) (letters_in set) (count-letter set 0 next (omega arith) (omega arith) (omega arith)) in
    omega (arith, each (f.header ∷ []) f.letters k.letters, quiet_step set 0 next [] f.header 1 k.header (omega arith))

pub file-figures : (set : CharacterSet) (f : File) → Typed set f → FileFigures set f
file-figures set f k =
    record {
      letters = letters-counted set f k;
      all = omega (arith, ap length (onto-letters (f.header ∷ []) f.letters (f.control ∷ [])), length-onto [] (records f));
      bundles =
          file-sum set (count (is 20)) (omega arith) (by-contents set (omega arith) (by_count set (omega arith) (omega arith) (omega arith))) f k;
      items =
          file-sum set (count is_item) (omega arith) (by-contents set (omega arith) (by-items set (omega arith) (by-details set (omega arith)))) f k;
      debits =
          file-sum set (debit_one set) (omega arith) (by-contents set (omega arith) (by-items set (omega arith) (by-details set (omega arith)))) f k;
      debit =
          file-sum set (debit_as set) (omega arith) (by-contents set (omega arith) (by-items set (omega arith) (by-details set (omega arith)))) f k;
      credits =
          file-sum set (credit_one set) (omega arith) (by-contents set (omega arith) (by-items set (omega arith) (by-details set (omega arith)))) f k;
      credit =
          file-sum set (credit_as set) (omega arith) (by-contents set (omega arith) (by-items set (omega arith) (by-credits set (omega arith)))) f k;
      views =
          file-sum set (count (is 50)) (omega arith) (by-contents set (omega arith) (by-items set (omega arith) (by_views set (omega arith)))) f k;
    }
