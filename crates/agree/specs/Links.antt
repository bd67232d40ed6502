-- LINK (document 01): "a field or record disagrees with an earlier one". The checks of a record of type k whose length field stands at an
-- offset of the file, against the figures s of the records before it, in the order of their fields.
use Rattle.std.specs.Prelude.{ℕ, ◌+◌, Bool, true, false, ◌&&◌, ◌||◌, not, cond, List, [], ◌∷◌, leb, ltb, eqb}
use Rattle.text.specs.declared.character_set.CharacterSet.{CharacterSet}
use Rattle.text.specs.Characters.{is_blank}
use Rattle.text.specs.DataTypes.{every}
use Rattle.text.specs.Number.{number}
use Rattle.layout.specs.Layouts.{cash_letter_header, bundle_header, check_detail, check_detail_addendum_a, check_detail_addendum_c, return_record, return_addendum_a, return_addendum_d, image_view_data, credit_record}
use Rattle.order.specs.MayFollow.{is_check_or_return, is_item, is_addendum}
use Rattle.standing.specs.History.{field}
use Rattle.standing.specs.declared.Standing.{Standing}
use Rattle.agree.specs.Checks.{Check, check, first_failing}

-- byte by byte
abbrev pub same : List ℕ → List ℕ → Bool
same [] [] = true
same [] (y ∷ ys) = false
same (x ∷ xs) [] = false
same (x ∷ xs) (y ∷ ys) = eqb x y && same xs ys

-- "An addendum beyond the item's stated count, or another record while addenda are owed (field 1)"
unfoldable pub addenda_kept : ℕ → ℕ → ℕ → Bool
addenda_kept k stated read = cond (is_addendum k) (ltb read stated) (leb stated read)

-- "Cash letter field 8 (Annex B)", faulted at field 1: N with a 20; E with a 50; I or F and a check or return of the bundle without a view,
-- at the next item, a 61 too, or the 70 ("an item's missing view is faulted at a 61 that follows it in its bundle", "none being demanded"
-- of a 61: request 2); E, I or F without a bundle, at the 90. `holder` is the type of the newest item.
unfoldable pub annex_b : ℕ → ℕ → ℕ → ℕ → ℕ → Bool
annex_b k indicator opened holder shown =
    not (eqb k 20 && eqb indicator 0x4E)
    && (not (eqb k 50 && eqb indicator 0x45)
    && (not ((is_item k || eqb k 70) && ((eqb indicator 0x49 || eqb indicator 0x46) && (is_check_or_return holder && eqb shown 0)))
    && not (eqb k 90 && (not (eqb indicator 0x4E) && eqb opened 0))))

-- "26 and 32: record numbers run from 1 in each item; 28 and 35 likewise, each on its own (field 2)"
unfoldable pub numbered_on : CharacterSet → List ℕ → ℕ → ℕ → ℕ → ℕ → Bool
numbered_on set file bofd endorser k offset =
    cond (eqb k 26) (eqb (number set (field check_detail_addendum_a 2 file offset)) (bofd + 1))
    (cond (eqb k 32) (eqb (number set (field return_addendum_a 2 file offset)) (bofd + 1))
    (cond (eqb k 28) (eqb (number set (field check_detail_addendum_c 2 file offset)) (endorser + 1))
    (cond (eqb k 35) (eqb (number set (field return_addendum_d 2 file offset)) (endorser + 1)) true)))

-- field 7 of the item, a 25 or a 31, or field 8, of a 61
abbrev pub sequence_of_item : List ℕ → ℕ → ℕ → List ℕ
sequence_of_item file holder item =
    cond (eqb holder 61) (field credit_record 8 file item)
    (cond (eqb holder 31) (field return_record 7 file item) (field check_detail 7 file item))

-- "Fields 7 and 8 are not blank if the 50's field 10 is 1"
abbrev pub signed : CharacterSet → ℕ → List ℕ → Bool
signed set signature characters = not (eqb signature 1) || not (every (is_blank set) characters)

-- "52: field 2 equals the bundle header's field 4, field 3 its field 5, field 4 its field 9; field 5 equals field 7 of the item." "Outside a
-- bundle the 52's fields 2 and 3 equal the cash letter header's fields 4 and 5, and its field 4 is not compared" (request 2).
abbrev pub institution_over : List ℕ → Standing → List ℕ
institution_over file s = cond s.inside (field bundle_header 4 file s.header) (field cash_letter_header 4 file s.heading)

abbrev pub date_over : List ℕ → Standing → List ℕ
date_over file s = cond s.inside (field bundle_header 5 file s.header) (field cash_letter_header 5 file s.heading)

abbrev pub view_links : CharacterSet → List ℕ → Standing → ℕ → List Check
view_links set file s offset =
    check 2 (same (field image_view_data 2 file offset) (institution_over file s)) ∷
    check 3 (same (field image_view_data 3 file offset) (date_over file s)) ∷
    check 4 (not s.inside || same (field image_view_data 4 file offset) (field bundle_header 9 file s.header)) ∷
    check 5 (same (field image_view_data 5 file offset) (sequence_of_item file s.holder s.item)) ∷
    check 7 (signed set s.signature (field image_view_data 7 file offset)) ∷
    check 8 (signed set s.signature (field image_view_data 8 file offset)) ∷
    []

abbrev pub link_checks : CharacterSet → List ℕ → Standing → ℕ → ℕ → List Check
link_checks set file s k offset =
    check 1 (addenda_kept k s.stated s.addenda) ∷
    check 1 (annex_b k s.indicator s.opened s.holder s.shown) ∷
    check 2 (numbered_on set file s.bofd s.endorser k offset) ∷
    cond (eqb k 52) (view_links set file s offset) []

-- "LINK by lowest field", or 0
unfoldable pub link_fault : CharacterSet → List ℕ → Standing → ℕ → ℕ → ℕ
link_fault set file s k offset = first_failing (link_checks set file s k offset)
