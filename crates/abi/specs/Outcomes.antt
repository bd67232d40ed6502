-- What each call promises, and that the promise leaves one outcome for every input: any two outcomes that meet it are equal.
use Rattle.std.specs.Prelude.{ℕ, List, ◌≡◌, length}
use Rattle.std.proofs.Common.{sym, ◌∙◌}
use Rattle.text.specs.declared.character_set.CharacterSet.{CharacterSet}
use Rattle.picture.specs.Picture.{picture_at, bytes_of}
use Rattle.picture.specs.Picture.{Found}
use Rattle.tiff.specs.Judged.{tags_of}
use Rattle.tiff.specs.Required.{Tags}
use Rattle.passes.specs.Answers.{answer_number, numbers_of}
use Rattle.passes.specs.Reading.{answer_of, table_of}
use Rattle.passes.specs.Answers.{Answer}
use Rattle.arrangement.specs.Arranged.{Arranged}
use Rattle.draft.specs.Outcomes.{Outcome}
use Rattle.draft.specs.Values.{values_of_draft}
use Rattle.draft.specs.Drafted.{outcome_of, buffer_of}
use Rattle.draft.specs.Promises.{Promised}
use Rattle.drafting.specs.DraftOf.{draft_answer_of, draft_table_of, DraftOfItself}
use Rattle.letters.specs.OfArrangement.{LettersOwn}
use Rattle.book_model.specs.Calls.{enter_answer, rows_after, book_after, list_after, find_answer, totals_answer, withdraw_answer, book_withdrawn, tidy_answer, book_tidied}
use Rattle.abi.specs.Filled.{place_of, judgement_of, tagging_of, outcome_number, outcome_numbers, entering_number, entering_numbers, finding_number, finding_numbers, tally_number, tally_numbers, change_number}
use Rattle.judge.specs.Alone as alone
use Rattle.picture.specs.Picture as picture
use Rattle.tiff.specs.Judged as tiff

-- two things that are equal to a third
one : {A : Type 0} {x y z : A} → x ≡ z → y ≡ z → x ≡ y
one e q = e ∙ sym q

-- x9_read: the number, the table afterwards, the twelve numbers, and what they say of the file's arrangement
pub record Reading (file table : List ℕ) (n : ℕ) (after numbers : List ℕ) : Type 0 where
  pub number : n ≡ answer_number (answer_of file (length table))
  pub rows : after ≡ table_of file table
  pub answer : numbers ≡ numbers_of (length file) (answer_of file (length table))
  pub arranged : Arranged file table (answer_of file (length table)) after

pub one-reading : (file table : List ℕ) {n m : ℕ} {after later answer other : List ℕ}
    → Reading file table n after answer → Reading file table m later other → (n ≡ m) × (after ≡ later) × (answer ≡ other)
one-reading file table r s = (one r.number s.number, one r.rows s.rows, one r.answer s.answer)

-- x9_picture: the number and the four numbers
pub record Picturing (file : List ℕ) (offset n : ℕ) (numbers : List ℕ) : Type 0 where
  pub number : n ≡ picture.number_of (picture_at file offset)
  pub place : numbers ≡ place_of (picture_at file offset)

pub one-picturing : (file : List ℕ) (offset : ℕ) {n m : ℕ} {place other : List ℕ}
    → Picturing file offset n place → Picturing file offset m other → (n ≡ m) × (place ≡ other)
one-picturing file offset r s = (one r.number s.number, one r.place s.place)

-- x9_record, which judges a body as ASCII, and x9_record_in, which is told the set: the number and the two numbers
pub record Judging (set : CharacterSet) (body : List ℕ) (n : ℕ) (numbers : List ℕ) : Type 0 where
  pub number : n ≡ alone.number_of (alone.judged_record set body)
  pub answer : numbers ≡ judgement_of (alone.judged_record set body)

pub one-judging : (set : CharacterSet) (body : List ℕ) {n m : ℕ} {answer other : List ℕ}
    → Judging set body n answer → Judging set body m other → (n ≡ m) × (answer ≡ other)
one-judging set body r s = (one r.number s.number, one r.answer s.answer)

-- x9_tiff: the number and the two numbers
pub record Tagging (image : List ℕ) (n : ℕ) (numbers : List ℕ) : Type 0 where
  pub number : n ≡ tiff.number_of (tags_of image)
  pub answer : numbers ≡ tagging_of (tags_of image)

pub one-tagging : (image : List ℕ) {n m : ℕ} {answer other : List ℕ}
    → Tagging image n answer → Tagging image m other → (n ≡ m) × (answer ≡ other)
one-tagging image r s = (one r.number s.number, one r.answer s.answer)

-- x9_write: the number, the buffer afterwards, the twelve numbers, and what is promised of them
pub record Writing (text draft out : List ℕ) (n : ℕ) (after numbers : List ℕ) : Type 0 where
  pub number : n ≡ outcome_number (outcome_of (values_of_draft text draft) (length out))
  pub buffer : after ≡ buffer_of (values_of_draft text draft) out
  pub answer : numbers ≡ outcome_numbers (outcome_of (values_of_draft text draft) (length out))
  pub promised : Promised text draft out (outcome_of (values_of_draft text draft) (length out)) after

pub one-writing : (text draft out : List ℕ) {n m : ℕ} {after later answer other : List ℕ}
    → Writing text draft out n after answer → Writing text draft out m later other → (n ≡ m) × (after ≡ later) × (answer ≡ other)
one-writing text draft out r s = (one r.number s.number, one r.buffer s.buffer, one r.answer s.answer)

-- x9_draft: the number, the draft afterwards, the twelve numbers, and that it is a draft of the file's own values
pub record Drafting (file draft : List ℕ) (n : ℕ) (after numbers : List ℕ) : Type 0 where
  pub number : n ≡ answer_number (draft_answer_of file (length draft))
  pub rows : after ≡ draft_table_of file draft
  pub answer : numbers ≡ numbers_of (length file) (draft_answer_of file (length draft))
  pub itself : DraftOfItself file (draft_answer_of file (length draft)) after

pub one-drafting : (file draft : List ℕ) {n m : ℕ} {after later answer other : List ℕ}
    → Drafting file draft n after answer → Drafting file draft m later other → (n ≡ m) × (after ≡ later) × (answer ≡ other)
one-drafting file draft r s = (one r.number s.number, one r.rows s.rows, one r.answer s.answer)

-- x9_book_enter: the number, the row table, the book, the list, the thirteen numbers, and that the letters entered are those of the file's arrangement
pub record Booking (file : List ℕ) (m o : ℕ) (table book list : List ℕ) (n : ℕ) (rows after taken numbers : List ℕ) : Type 0 where
  pub number : n ≡ entering_number (enter_answer file m o (length table) book list)
  pub rows-after : rows ≡ rows_after file table (enter_answer file m o (length table) book list)
  pub book-after : after ≡ book_after file m o book (enter_answer file m o (length table) book list)
  pub list-after : taken ≡ list_after m o list (enter_answer file m o (length table) book list)
  pub answer : numbers ≡ entering_numbers (length file) (enter_answer file m o (length table) book list)
  pub own : LettersOwn file

pub one-booking : (file : List ℕ) (m o : ℕ) (table book list : List ℕ) {n k : ℕ} {rows others after later taken more answer other : List ℕ}
    → Booking file m o table book list n rows after taken answer → Booking file m o table book list k others later more other
    → (n ≡ k) × (rows ≡ others) × (after ≡ later) × (taken ≡ more) × (answer ≡ other)
one-booking file m o table book list r s =
    (one r.number s.number, one r.rows-after s.rows-after, one r.book-after s.book-after, one r.list-after s.list-after, one r.answer s.answer)

-- x9_book_find and x9_book_totals: the number and the numbers
pub record LookingUp (book : List ℕ) (o m n : ℕ) (numbers : List ℕ) : Type 0 where
  pub number : n ≡ finding_number (find_answer book o m)
  pub found : numbers ≡ finding_numbers (find_answer book o m)

pub one-looking-up : (book : List ℕ) (o m : ℕ) {n k : ℕ} {found other : List ℕ} → LookingUp book o m n found → LookingUp book o m k other
    → (n ≡ k) × (found ≡ other)
one-looking-up book o m r s = (one r.number s.number, one r.found s.found)

pub record Tallying (book : List ℕ) (o n : ℕ) (numbers : List ℕ) : Type 0 where
  pub number : n ≡ tally_number (totals_answer book o)
  pub totals : numbers ≡ tally_numbers (totals_answer book o)

pub one-tallying : (book : List ℕ) (o : ℕ) {n k : ℕ} {totals other : List ℕ} → Tallying book o n totals → Tallying book o k other → (n ≡ k) × (totals ≡ other)
one-tallying book o r s = (one r.number s.number, one r.totals s.totals)

-- x9_book_withdraw and x9_book_tidy: the number and the book
pub record Withdrawing (book list : List ℕ) (o m n : ℕ) (after : List ℕ) : Type 0 where
  pub number : n ≡ change_number (withdraw_answer book list o m)
  pub book-after : after ≡ book_withdrawn o m book (withdraw_answer book list o m)

pub one-withdrawing : (book list : List ℕ) (o m : ℕ) {n k : ℕ} {after later : List ℕ}
    → Withdrawing book list o m n after → Withdrawing book list o m k later → (n ≡ k) × (after ≡ later)
one-withdrawing book list o m r s = (one r.number s.number, one r.book-after s.book-after)

pub record Tidying (book list : List ℕ) (n : ℕ) (after : List ℕ) : Type 0 where
  pub number : n ≡ change_number (tidy_answer book list)
  pub book-after : after ≡ book_tidied book (tidy_answer book list)

pub one-tidying : (book list : List ℕ) {n k : ℕ} {after later : List ℕ} → Tidying book list n after → Tidying book list k later
    → (n ≡ k) × (after ≡ later)
one-tidying book list r s = (one r.number s.number, one r.book-after s.book-after)

-- the calls of the Rattle crates: writer::write and drafting::draft_of; reader::read, picture::picture, picture::find_picture and
-- tiff::judge_tags
pub one-outcome : (text draft out : List ℕ) {a b : Outcome} {after later : List ℕ}
    → a ≡ outcome_of (values_of_draft text draft) (length out) → after ≡ buffer_of (values_of_draft text draft) out
    → b ≡ outcome_of (values_of_draft text draft) (length out) → later ≡ buffer_of (values_of_draft text draft) out → (a ≡ b) × (after ≡ later)
one-outcome text draft out e t q u = (one e q, one t u)

pub one-draft : (file draft : List ℕ) {a b : Answer} {after later : List ℕ}
    → a ≡ draft_answer_of file (length draft) → after ≡ draft_table_of file draft → b ≡ draft_answer_of file (length draft) → later ≡ draft_table_of file draft
    → (a ≡ b) × (after ≡ later)
one-draft file draft e t q u = (one e q, one t u)

pub one_answer : (file table : List ℕ) {a b : Answer} {after later : List ℕ}
    → a ≡ answer_of file (length table) → after ≡ table_of file table → b ≡ answer_of file (length table) → later ≡ table_of file table
    → (a ≡ b) × (after ≡ later)
one_answer file table e t q u = (one e q, one t u)

pub one-picture : (file : List ℕ) (offset : ℕ) {xs ys : List ℕ}
    → xs ≡ bytes_of file (picture_at file offset) → ys ≡ bytes_of file (picture_at file offset) → xs ≡ ys
one-picture file offset e q = one e q

pub one-finding : (file : List ℕ) (offset : ℕ) {a b : Found} → a ≡ picture_at file offset → b ≡ picture_at file offset → a ≡ b
one-finding file offset e q = one e q

pub one-tags : (image : List ℕ) {a b : Tags} → a ≡ tags_of image → b ≡ tags_of image → a ≡ b
one-tags image e q = one e q
