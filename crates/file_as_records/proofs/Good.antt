-- The reading over the bodies of records: each is judged against the list of those before it, newest first. Nothing here need be believed:
-- it stands between the reading of a file, by offsets, and an arrangement, by its parts. Assumes nothing.
use Prim.Native.Nat.{ℕ, ◌+◌}
use mathlib.Core.Bool.{true, ◌||◌, cond}
use mathlib.Core.Path.{◌≡◌}
use mathlib.Core.List.{List, [], ◌∷◌, ◌++◌}
use lib.Dec.{eqb}
use lib.ListN.{length}
use Rattle.text.specs.declared.character_set.CharacterSet.{CharacterSet}
use Rattle.judge.specs.Alone.{Sound}
use Rattle.judge.specs.Alone.{type_of, judged_as}
use Rattle.measure.specs.Measures.{sums, capped, capped_sums}
use Rattle.order.specs.MayFollow.{may_follow, is_carried}
use Rattle.passes.specs.declared.Totals.{Totals}
use Rattle.passes.specs.Rows.{outside_letter}
use Rattle.file_as_records.specs.Framed.{Body}
use Rattle.file_as_records.proofs.LinksByName.{Linked}
use Rattle.file_as_records.proofs.TotalsByName.{Totalled}
use Rattle.file_as_records.proofs.Figures.{amount_as, bundles_in, debits_since, debit_since, credits_since, credit_since, inside_in, items_since, last_in, letters_in, opened_in, present_in, views_since, is, never}
use Rattle.measure.specs.Measures as measures

-- a record of type k that is good behind those of past
pub record GoodAs (set : CharacterSet) (k : ℕ) (past : List Body) (b : Body) : Type 0 where
  pub carried : is_carried k ≡ true
  pub follows : may_follow (inside_in set past) (last_in set past) (present_in set past) k ≡ true
  pub alone : judged_as set k b ≡ Sound
  pub linked : Linked set k past b
  pub totalled : Totalled set k past b

abbrev pub Good : CharacterSet → List Body → Body → Type 0
Good set past b = GoodAs set (type_of set b) past b

-- a record, and those behind it
pub record Then (First Rest : Type 0) : Type 0 where
  pub first : First
  pub rest : Rest

-- records behind those of past, to an end that is asked for
abbrev pub GoodTo : (List Body → Type 0) → CharacterSet → List Body → List Body → Type 0
GoodTo End set past [] = End past
GoodTo End set past (b ∷ bs) = Then (Good set past b) (GoodTo End set (b ∷ past) bs)

-- all the records of a file, to the 99
abbrev pub At99 : CharacterSet → List Body → Type 0
At99 set past = last_in set past ≡ 99

abbrev pub GoodAll : CharacterSet → List Body → List Body → Type 0
GoodAll set past bs = GoodTo (At99 set) set past bs

-- records read after those of past
abbrev pub onto : List Body → List Body → List Body
onto [] past = past
onto (b ∷ bs) past = onto bs (b ∷ past)

-- what they come to, and their rows, where past has the record itself
abbrev pub totals_after : CharacterSet → List Body → Totals
totals_after set past =
    record {
      records = measures.records (length past);
      letters = letters_in set past;
      bundles = bundles_in set past;
      items = measures.items (items_since set never past);
      sums =
          capped_sums
          (sums (debits_since set never past) (debit_since set never past)
          (credits_since set never past) (credit_since set never past) (views_since set never past));
    }

abbrev pub amount_after : CharacterSet → ℕ → List Body → Body → ℕ
amount_after set t past b =
    cond (eqb t 70) (capped (debit_since set (is 20) past))
    (cond (eqb t 90) (capped (debit_since set (is 10) past)) (cond (eqb t 99) (capped (debit_since set never past)) (amount_as set t b)))

abbrev pub row_as : CharacterSet → ℕ → ℕ → List Body → Body → List ℕ
row_as set t at past b =
    t ∷ at ∷ length b ∷ cond (outside_letter t) 0 (letters_in set past) ∷ cond (inside_in set past || eqb t 70) (opened_in set past) 0
    ∷ cond (inside_in set past) (items_since set (is 20) past) 0 ∷ amount_after set t past b ∷ []

abbrev pub rows_all : CharacterSet → ℕ → List Body → List Body → List ℕ
rows_all set at past [] = []
rows_all set at past (b ∷ bs) = row_as set (type_of set b) at (b ∷ past) b ++ rows_all set (at + 4 + length b) (b ∷ past) bs
