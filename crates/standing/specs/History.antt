-- What a record has before it: the records read so far, the newest first, and what they come to.
use Rattle.std.specs.Prelude.{ℕ, ◌+◌, ◌-◌, Bool, true, false, ◌&&◌, ◌||◌, not, cond, List, [], ◌∷◌, eqb, get_or}
use Rattle.text.specs.declared.character_set.CharacterSet.{CharacterSet}
use Rattle.text.specs.Capitals.{capital}
use Rattle.text.specs.Number.{number}
use Rattle.frame.specs.Frames.{part}
use Rattle.layout.specs.Layout.{Line, Layout}
use Rattle.layout.specs.Layouts.{cash_letter_header, check_detail, return_record, image_view_detail, credit_record}
use Rattle.measure.specs.Measures.{sums, no_sums, together}
use Rattle.measure.specs.declared.Sums.{Sums}
use Rattle.order.specs.MayFollow.{is_check_or_return, is_item}

-- a record of the file: its type, the offset of its length field, and its size as the length field says it
pub record Entry : Type 0 where
  pub type : ℕ
  pub offset : ℕ
  pub size : ℕ

abbrev pub entry : ℕ → ℕ → ℕ → Entry
entry t o n = record { type = t; offset = o; size = n }

-- the characters from a position on, counted from 1, of the record whose length field stands at an offset
abbrev pub characters : List ℕ → ℕ → ℕ → ℕ → List ℕ
characters file offset first size = part (offset + 4 + (first - 1)) size file

abbrev pub field_in : List Line → ℕ → List ℕ → ℕ → List ℕ
field_in [] n file offset = []
field_in (l ∷ ls) n file offset = cond (eqb l.number n) (characters file offset l.first l.size) (field_in ls n file offset)

-- field n, by the kind's layout
abbrev pub field : Layout → ℕ → List ℕ → ℕ → List ℕ
field k n file offset = field_in k.lines n file offset

-- the amount of an item, in cents: field 6 of a 25 or a 31, field 7 of a 61
abbrev pub amount_of : CharacterSet → List ℕ → ℕ → ℕ → ℕ
amount_of set file t offset =
    cond (eqb t 25) (number set (field check_detail 6 file offset))
    (cond (eqb t 31) (number set (field return_record 6 file offset))
    (cond (eqb t 61) (number set (field credit_record 7 file offset)) 0))

-- "Usage indicator 9 makes a debit, any other defined value a credit" (request 2): field 2 of a 61. Every 25 and 31 is a debit.
abbrev pub is_debit : CharacterSet → List ℕ → ℕ → ℕ → Bool
is_debit set file t offset = is_check_or_return t || (eqb t 61 && eqb (number set (field credit_record 2 file offset)) 9)

abbrev pub is_credit : CharacterSet → List ℕ → ℕ → ℕ → Bool
is_credit set file t offset = eqb t 61 && not (eqb (number set (field credit_record 2 file offset)) 9)

-- "cents of the 25s whose MICR Valid Indicator is 1": field 10
abbrev pub micr_of : CharacterSet → List ℕ → ℕ → ℕ → ℕ
micr_of set file t offset = cond (eqb t 25 && eqb (number set (field check_detail 10 file offset)) 1) (amount_of set file t offset) 0

-- the addenda that an item states: field 12 of a 25, field 8 of a 31
abbrev pub stated_by : CharacterSet → List ℕ → ℕ → ℕ → ℕ
stated_by set file t offset =
    cond (eqb t 25) (number set (field check_detail 12 file offset))
    (cond (eqb t 31) (number set (field return_record 8 file offset)) 0)

-- field 8 of a cash letter header (N, E, I or F, in either case), and field 10 of an image view detail
abbrev pub indicator_in : CharacterSet → List ℕ → ℕ → ℕ
indicator_in set file offset = capital set (get_or (field cash_letter_header 8 file offset) 0 0)

abbrev pub signature_in : CharacterSet → List ℕ → ℕ → ℕ
signature_in set file offset = number set (field image_view_detail 10 file offset)

abbrev pub one : Bool → ℕ
one true = 1
one false = 0

-- what one record adds to the sums of each level
abbrev pub adds : CharacterSet → List ℕ → ℕ → ℕ → Sums
adds set file t offset =
    sums (one (is_debit set file t offset)) (cond (is_debit set file t offset) (amount_of set file t offset) 0) (one (is_credit set file t offset))
    (cond (is_credit set file t offset) (amount_of set file t offset) 0) (one (eqb t 50))

-- a measure added up over the records after the newest at which a level begins
abbrev pub sum_since : (Entry → Bool) → (Entry → ℕ) → List Entry → ℕ
sum_since begins measure [] = 0
sum_since begins measure (r ∷ rs) = cond (begins r) 0 (measure r + sum_since begins measure rs)

abbrev pub sums_since : CharacterSet → (Entry → Bool) → List ℕ → List Entry → Sums
sums_since set begins file [] = no_sums
sums_since set begins file (r ∷ rs) = cond (begins r) no_sums (together (adds set file r.type r.offset) (sums_since set begins file rs))

-- a figure of the newest record that passes a test, 0 where there is none
abbrev pub at_newest : (Entry → Bool) → (Entry → ℕ) → List Entry → ℕ
at_newest test figure [] = 0
at_newest test figure (r ∷ rs) = cond (test r) (figure r) (at_newest test figure rs)

-- where levels begin: never, in the file; at a 10, in a cash letter; at a 20, in a bundle; at a 25, 31 or 61, in an item
abbrev pub never : Entry → Bool
never r = false

abbrev pub is : ℕ → Entry → Bool
is t r = eqb r.type t

abbrev pub is_item_entry : Entry → Bool
is_item_entry r = is_item r.type

-- how many of the records since then are of a sort
abbrev pub count_since : (Entry → Bool) → (ℕ → Bool) → List Entry → ℕ
count_since begins sort past = sum_since begins (λ r. one (sort r.type)) past

-- the record numbers that run from 1 in each item: 26 and 32; 28 and 35
abbrev pub is_bofd_addendum : ℕ → Bool
is_bofd_addendum t = eqb t 26 || eqb t 32

abbrev pub is_endorser_addendum : ℕ → Bool
is_endorser_addendum t = eqb t 28 || eqb t 35
