-- Document 01, "Samples at the edges": those marked P, and from P12 on those of requests; one table with one proof.
use Rattle.std.specs.Prelude.{ℕ, ◌+◌, Bool, true, false, ◌&&◌, not, cond, List, [], ◌∷◌, ◌++◌, map, ◌≡◌, refl, eqb, length, replicate}
use Rattle.text.specs.declared.character_set.CharacterSet.TheVariants.{Ascii}
use Rattle.text.specs.Capitals.{capital}
use Rattle.text.specs.DataTypes.{of_type}
use Rattle.text.specs.Number.{number}
use Rattle.field.specs.Values.{is_code}
use Rattle.field.specs.Formats.{is_date, is_hours_minutes, is_hours_minutes_seconds}
use Rattle.field.specs.RoutingForms.{TTTTAAAAC, TTTTT-FFF, NNNNNNNNN, listing, is_TTTTAAAAC, parted_by, is_TTTTT-FFF, is_TTTT-AAAA, is_bTTTTAAAA, is_NNNNNNNNN, fits_some}
use Rattle.field.specs.Rules.{follows, meets, holds}
use Rattle.frame.specs.Frames.{length_in}
use Rattle.layout.specs.Layout.{Layout}
use Rattle.layout.specs.Layouts.{check_detail_addendum_b, image_view_data, credit_record}
use Rattle.judge.specs.Alone.{number_of, field_of, alone, judged, line_holds, first_wrong, first_wrong_part, stated_sizes}
use Rattle.order.specs.MayFollow.{last_of, is_open, item_type_in_bundle, may_follow, follows as follows-last}

-- numeric characters
abbrev pub digits : List ℕ → List ℕ
digits ds = map (λ (d : ℕ). d + 0x30) ds

abbrev pub zeros : ℕ → List ℕ
zeros n = replicate n 0x30

abbrev pub blanks : ℕ → List ℕ
blanks n = replicate n 0x20

abbrev pub dash : List ℕ
dash = 0x2D ∷ []

-- a record alone is sound as it stands, and has a wrong LENGTH with a byte more
abbrev pub ends_there : Layout → List ℕ → Bool
ends_there k body = eqb (number_of (alone Ascii k body)) 0 && eqb (number_of (alone Ascii k (body ++ 0x20 ∷ []))) 4

-- the fixed part of a 52 with 1,000 image bytes and no other part: type, routing number, date, blank fields 4 to 8, clipping origin
-- and coordinates, ancillary data indicator, and the seven lengths
abbrev pub view_data : List ℕ
view_data =
    digits (5 ∷ 2 ∷ 1 ∷ 2 ∷ 3 ∷ 4 ∷ 5 ∷ 6 ∷ 7 ∷ 8 ∷ 0 ∷ 2 ∷ 0 ∷ 0 ∷ 5 ∷ 0 ∷ 2 ∷ 3 ∷ 0 ∷ []) ++ blanks 65 ++ zeros 17 ++ zeros 2
    ++ zeros 24 ++ digits (0 ∷ 0 ∷ 0 ∷ 1 ∷ 0 ∷ 0 ∷ 0 ∷ []) ++ zeros 5

-- the fixed part of a 27 with a 34-byte locator only: type, blank fields 2 to 5, the six lengths, and the reserved field
abbrev pub addendum_b : List ℕ
addendum_b = digits (2 ∷ 7 ∷ []) ++ blanks 49 ++ digits (0 ∷ 0 ∷ 3 ∷ 4 ∷ []) ++ zeros 13 ++ blanks 5

-- a 61 with a source of work: type, usage indicator 9, blank fields 3 and 4, routing number, blank field 6, amount and sequence number of
-- zeros, blank fields 9 and 10, the source, and the reserved field
abbrev pub credit : List ℕ → List ℕ
credit source =
    digits (6 ∷ 1 ∷ 9 ∷ []) ++ blanks 16 ++ digits (1 ∷ 2 ∷ 3 ∷ 4 ∷ 5 ∷ 6 ∷ 7 ∷ 8 ∷ 0 ∷ []) ++ blanks 20 ++ zeros 29 ++ blanks 2 ++ source ++ blanks 3

-- the place of the first type that may not follow those before it, counted from 1, or 0 where the order is lawful; the types before it
-- stand newest first
abbrev pub misplaced_after : List ℕ → ℕ → List ℕ → ℕ
misplaced_after past n [] = 0
misplaced_after past n (t ∷ ts) =
    cond (may_follow (is_open past) (last_of past) (item_type_in_bundle past) t) (misplaced_after (t ∷ past) (n + 1) ts) n

abbrev pub misplaced : List ℕ → ℕ
misplaced types = misplaced_after [] 1 types

pub record Sample : Type 0 where
  pub name : ℕ
  pub holds : Bool

abbrev pub P : ℕ → Bool → Sample
P n test = record { name = n; holds = test }

abbrev pub samples : List Sample
samples =
    -- "routing 123456780 passes"; "123456781 not"
    P 1 (is_TTTTAAAAC Ascii (digits (1 ∷ 2 ∷ 3 ∷ 4 ∷ 5 ∷ 6 ∷ 7 ∷ 8 ∷ 0 ∷ []))) ∷
    P 2 (not (is_TTTTAAAAC Ascii (digits (1 ∷ 2 ∷ 3 ∷ 4 ∷ 5 ∷ 6 ∷ 7 ∷ 8 ∷ 1 ∷ [])))) ∷
    -- "date 20050230 passes"; "19921231 not"
    P 3 (is_date Ascii (digits (2 ∷ 0 ∷ 0 ∷ 5 ∷ 0 ∷ 2 ∷ 3 ∷ 0 ∷ []))) ∷
    P 4 (not (is_date Ascii (digits (1 ∷ 9 ∷ 9 ∷ 2 ∷ 1 ∷ 2 ∷ 3 ∷ 1 ∷ [])))) ∷
    -- "bytes 00 00 7D 00 are 32,000"
    P 5 (eqb (length_in (0x00 ∷ 0x00 ∷ 0x7D ∷ 0x00 ∷ [])) 32_000) ∷
    -- "a 52 with 1,000 image bytes and no other part is 1,139 long"
    P 6 (eqb (length (view_data ++ replicate 1_000 0)) 1_139 && ends_there image_view_data (view_data ++ replicate 1_000 0)) ∷
    -- "a 27 with a 34-byte locator only is 107"
    P 7 (eqb (length (addendum_b ++ replicate 34 0x41)) 107 && ends_there check_detail_addendum_b (addendum_b ++ replicate 34 0x41)) ∷
    -- "types 01 99: PLACE at 2"; "01 10 20 70: PLACE at 4"; "01 10 20 31 34: PLACE at 5"; "types 01 10 90 99 are a lawful order"
    P 8 (eqb (misplaced (1 ∷ 99 ∷ [])) 2) ∷
    P 9 (eqb (misplaced (1 ∷ 10 ∷ 20 ∷ 70 ∷ [])) 4) ∷
    P 10 (eqb (misplaced (1 ∷ 10 ∷ 20 ∷ 31 ∷ 34 ∷ [])) 5) ∷
    P 11 (eqb (misplaced (1 ∷ 10 ∷ 90 ∷ 99 ∷ [])) 0) ∷
    -- request 1, a form that passes and one that does not: 12345-678 and 1234-5678 as TTTTT-FFF; the same as TTTT-AAAA; a blank before and behind
    -- eight digits as bTTTTAAAA; 1234 and blanks, and 12, a blank, 34 and blanks as NNNNNNNNN
    P 12 (is_TTTTT-FFF Ascii (digits (1 ∷ 2 ∷ 3 ∷ 4 ∷ 5 ∷ []) ++ dash ++ digits (6 ∷ 7 ∷ 8 ∷ []))) ∷
    P 13 (not (is_TTTTT-FFF Ascii (digits (1 ∷ 2 ∷ 3 ∷ 4 ∷ []) ++ dash ++ digits (5 ∷ 6 ∷ 7 ∷ 8 ∷ [])))) ∷
    P 14 (is_TTTT-AAAA Ascii (digits (1 ∷ 2 ∷ 3 ∷ 4 ∷ []) ++ dash ++ digits (5 ∷ 6 ∷ 7 ∷ 8 ∷ []))) ∷
    P 15 (not (is_TTTT-AAAA Ascii (digits (1 ∷ 2 ∷ 3 ∷ 4 ∷ 5 ∷ []) ++ dash ++ digits (6 ∷ 7 ∷ 8 ∷ [])))) ∷
    P 16 (is_bTTTTAAAA Ascii (blanks 1 ++ digits (1 ∷ 2 ∷ 3 ∷ 4 ∷ 5 ∷ 6 ∷ 7 ∷ 8 ∷ []))) ∷
    P 17 (not (is_bTTTTAAAA Ascii (digits (1 ∷ 2 ∷ 3 ∷ 4 ∷ 5 ∷ 6 ∷ 7 ∷ 8 ∷ []) ++ blanks 1))) ∷
    P 18 (is_NNNNNNNNN Ascii (digits (1 ∷ 2 ∷ 3 ∷ 4 ∷ []) ++ blanks 5)) ∷
    P 19 (not (is_NNNNNNNNN Ascii (digits (1 ∷ 2 ∷ []) ++ blanks 1 ++ digits (3 ∷ 4 ∷ []) ++ blanks 4))) ∷
    -- nine digits with a wrong check digit: 01.4, which lists the non-financial number, and 20.10, which does not
    P 20 (fits_some Ascii (listing (TTTTAAAAC ∷ TTTTT-FFF ∷ NNNNNNNNN ∷ [])) (digits (1 ∷ 2 ∷ 3 ∷ 4 ∷ 5 ∷ 6 ∷ 7 ∷ 8 ∷ 1 ∷ []))) ∷
    P 21 (not (fits_some Ascii (listing (TTTTAAAAC ∷ TTTTT-FFF ∷ [])) (digits (1 ∷ 2 ∷ 3 ∷ 4 ∷ 5 ∷ 6 ∷ 7 ∷ 8 ∷ 1 ∷ [])))) ∷
    -- request 2: a 61 directly in a cash letter, before, between and behind its bundles, one of 61s alone; before the first cash letter, PLACE
    -- at 2, and between two, at 4; 61s leave a bundle's kind to its first 25 or 31, PLACE at 7
    P 22 (eqb (misplaced (1 ∷ 10 ∷ 61 ∷ 50 ∷ 52 ∷ 20 ∷ 61 ∷ 61 ∷ 70 ∷ 61 ∷ 20 ∷ 25 ∷ 61 ∷ 50 ∷ 52 ∷ 70 ∷ 61 ∷ 90 ∷ 99 ∷ [])) 0) ∷
    P 23 (eqb (misplaced (1 ∷ 61 ∷ [])) 2) ∷
    P 24 (eqb (misplaced (1 ∷ 10 ∷ 90 ∷ 61 ∷ [])) 4) ∷
    P 25 (eqb (misplaced (1 ∷ 10 ∷ 20 ∷ 61 ∷ 25 ∷ 61 ∷ 31 ∷ [])) 7) ∷
    -- a 61 is 84 bytes long; its field 11 takes 11 and 21, and not 12 and 20
    P 26 (eqb (length (credit (blanks 2))) 84 && ends_there credit_record (credit (blanks 2))) ∷
    P 27 (eqb (number_of (alone Ascii credit_record (credit (digits (1 ∷ 1 ∷ []))))) 0) ∷
    P 28 (eqb (field_of (alone Ascii credit_record (credit (digits (1 ∷ 2 ∷ []))))) 11) ∷
    P 29 (eqb (field_of (alone Ascii credit_record (credit (digits (2 ∷ 0 ∷ []))))) 11) ∷
    P 30 (eqb (number_of (alone Ascii credit_record (credit (digits (2 ∷ 1 ∷ []))))) 0) ∷
    []

abbrev pub all_hold : List Sample → Bool
all_hold [] = true
all_hold (s ∷ ss) = s.holds && all_hold ss

-- every sample of the table is as the documents say
pub samples-hold : all_hold samples ≡ true
unfolding of_type number is_code is_date is_TTTTAAAAC parted_by is_NNNNNNNNN fits_some is_hours_minutes is_hours_minutes_seconds follows meets holds judged line_holds first_wrong first_wrong_part stated_sizes follows-last may_follow capital
samples-hold = refl
