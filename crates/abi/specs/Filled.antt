-- The numbers that the C calls fill in.
use Rattle.std.specs.Prelude.{ℕ, cond, eqb, List, [], ◌∷◌, ◌++◌, Ok, Err}
use Rattle.text.specs.declared.character_set.CharacterSet.{CharacterSet}
use Rattle.text.specs.declared.character_set.CharacterSet.TheVariants.{Ascii, Ebcdic}
use Rattle.judge.specs.Alone.{Judged}
use Rattle.picture.specs.Picture.{Found}
use Rattle.tiff.specs.Required.{Tags}
use Rattle.passes.specs.Answers.{number_of, numbers_of}
use Rattle.draft.specs.Outcomes.{Outcome}
use Rattle.draft.specs.Outcomes.{Written}
use Rattle.net.specs.Net.{bits_of}
use Rattle.book_model.specs.Entering.{Entering}
use Rattle.book_model.specs.PlainList.{Finding, Tallying, Change}
use Rattle.judge.specs.Alone as alone
use Rattle.passes.specs.Answers as answers
use Rattle.picture.specs.Picture as picture
use Rattle.book_model.specs.Entering as entering
use Rattle.figures.specs.Figures as figures
use Rattle.tiff.specs.Judged as tiff

-- the set that a number tells: 1 is EBCDIC, any other ASCII
abbrev pub set_numbered : ℕ → CharacterSet
set_numbered n = cond (eqb n 1) Ebcdic Ascii

-- x9_picture: number, field, start and length of the Image Data part within the file
abbrev pub place_of : Found → List ℕ
place_of found = picture.number_of found ∷ picture.field_of found ∷ picture.start_of found ∷ picture.size_of found ∷ []

-- x9_record: number, field
abbrev pub judgement_of : Judged → List ℕ
judgement_of judged = alone.number_of judged ∷ alone.field_of judged ∷ []

-- x9_tiff: number, tag
abbrev pub tagging_of : Tags → List ℕ
tagging_of tags = tiff.number_of tags ∷ tiff.tag_of tags ∷ []

-- x9_write: 0, records, 0, bytes written, then the totals as x9_read has them (reading 45), or number, record, field, offset
abbrev pub outcome_number : Outcome → ℕ
outcome_number (Written n t) = 0
outcome_number (Err r) = number_of r.fault

abbrev pub outcome_numbers : Outcome → List ℕ
outcome_numbers (Written n t) = numbers_of n (answers.Accepted t)
outcome_numbers (Err r) = numbers_of 0 (Err r)

-- x9_book_enter: as x9_read, and behind these the first entry number given
abbrev pub entering_number : Entering → ℕ
entering_number (entering.Entered first t) = 0
entering_number (Err r) = number_of r.fault

abbrev pub entering_numbers : ℕ → Entering → List ℕ
entering_numbers n (entering.Entered first t) = numbers_of n (answers.Accepted t) ++ (first ∷ [])
entering_numbers n (Err r) = numbers_of n (answers.Refused r.fault r.place r.offset) ++ (0 ∷ [])

-- x9_book_find: number, entry number, file number, and the figures; "on the book's own refusals all behind the number is 0"
abbrev pub finding_number : Finding → ℕ
finding_number (Ok e) = 0
finding_number (Err fault) = number_of fault

abbrev pub finding_numbers : Finding → List ℕ
finding_numbers (Ok e) = 0 ∷ e.number ∷ e.file ∷ figures.numbers_of e.figures
finding_numbers (Err fault) = number_of fault ∷ 0 ∷ 0 ∷ 0 ∷ 0 ∷ 0 ∷ 0 ∷ 0 ∷ 0 ∷ []

-- x9_book_totals: number, entries, the running totals, and the net position in two's complement
abbrev pub tally_number : Tallying → ℕ
tally_number (Ok t) = 0
tally_number (Err fault) = number_of fault

abbrev pub tally_numbers : Tallying → List ℕ
tally_numbers (Ok t) = 0 ∷ t.entries ∷ figures.numbers_of t.figures ++ (bits_of t.net ∷ [])
tally_numbers (Err fault) = number_of fault ∷ 0 ∷ 0 ∷ 0 ∷ 0 ∷ 0 ∷ 0 ∷ 0 ∷ 0 ∷ []

-- x9_book_withdraw and x9_book_tidy: the number alone
abbrev pub change_number : Change → ℕ
change_number (Ok done) = 0
change_number (Err fault) = number_of fault
