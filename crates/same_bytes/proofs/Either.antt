-- An accepted file, given as its values, is made again byte for byte; an EBCDIC file, as its ASCII copy. Assumes nothing.
use Prim.Native.Nat.{ℕ, zero, suc, ◌*◌, ◌/◌, ◌≤◌}
use native.Mathlib.Omega.{arith}
use mathlib.Core.Bool.{Bool, true, false, ◌&&◌, cond}
use mathlib.Core.Path.{◌≡◌, refl, sym, ap, ap₂, ◌∙◌, subst}
use mathlib.Core.List.{List, [], ◌∷◌, ◌++◌, map}
use lib.Dec.{leb}
use lib.ListN.{length, take, drop, length-append}
use lib.Seq.{take_at}
use borrow.Author.Tests.{leb-true, le-leb, lt-leb, ne_eqb}
use Rattle.std.specs.Prelude.{Err}
use Rattle.text.specs.CharacterSet.{set_of}
use Rattle.text.specs.declared.character_set.CharacterSet.{CharacterSet}
use Rattle.text.specs.declared.character_set.CharacterSet.TheVariants.{Ascii, Ebcdic}
use Rattle.text.specs.Characters.{is_numeric}
use Rattle.text.specs.DataTypes.{every}
use Rattle.text.specs.Number.{number}
use Rattle.frame.specs.Frames.{Frame}
use Rattle.frame.specs.Frames.{frame_at}
use Rattle.judge.specs.Alone.{type_of}
use Rattle.judge.proofs.Laws.{both_true}
use Rattle.order.proofs.Laws.{first-type}
use Rattle.passes.specs.declared.Fault.TheVariants.{Room}
use Rattle.passes.specs.declared.Totals.{Totals}
use Rattle.passes.specs.Answers.{Answer}
use Rattle.passes.specs.Reading.{surveyed, answer_of}
use Rattle.ascii_copy.specs.AsciiCopy.{copied_body, copied_frame, copied_frames, copied_from, ascii_copy}
use Rattle.ascii_copy.proofs.Records.{length-copied, type-copied}
use Rattle.ascii_copy.proofs.Frames.{length-copy}
use Rattle.read_as_copy.proofs.Theorem.{answer-of-copy}
use Rattle.file_as_records.specs.Framed.{Body, length_field, framed}
use Rattle.file_as_records.proofs.Good.{GoodAll, onto, totals_after}
use Rattle.file_as_records.proofs.ReadThrough.{part-is, rest-is, frame_is, records-accepted}
use Rattle.arrangement.specs.Tree.{File}
use Rattle.arrangement.specs.Written.{records}
use Rattle.arrangement.specs.Sound.{Sound}
use Rattle.arrangement.specs.Arranged.{Arranges}
use Rattle.arrangement.specs.RowsAndTotals.{totals}
use Rattle.arrangement.proofs.Goodness.{sound-good}
use Rattle.arrangement.proofs.Theorem.{arranged-accepted}
use Rattle.draft.specs.Outcomes.{Written}
use Rattle.draft.specs.Values.{Values, values_of_body, values_of}
use Rattle.draft.specs.Drafted.{made, answer_from, outcome_of, buffer_of}
use Rattle.draft.specs.Promises.{MadeAgain}
use Rattle.same_bytes.proofs.Again.{all-again, same-in-ascii}
use Rattle.same_bytes.proofs.Copied.{values-copied}
use Rattle.same_bytes.proofs.Found.{accepted-good}
use Rattle.passes.specs.Answers as answers
use Rattle.passes.specs.Reading as reading

-- records behind their lengths are copied one by one
copied-framed : (n : ℕ) (bs : List Body) → length (framed bs) ≤ n → length (framed bs) ≤ 268_435_456
    → copied_frames n (framed bs) ≡ framed (map copied_body bs)
unfolding copied_frames frame_at
copied-framed zero [] h small = refl
copied-framed zero (b ∷ bs) h small = absurd (omega arith)
copied-framed (suc n) [] h small = refl
copied-framed (suc n) (b ∷ bs) h small =
    let file = framed (b ∷ bs) in
    ap (λ (f : Frame). copied_frame file f (λ others. copied_frames n others)) (frame_is file 0 b (framed bs) refl small)
    ∙ ap₂ (λ (k : ℕ) (xs : List ℕ). length_field k ++ xs) (sym (length-copied b))
    (ap₂ ◌++◌ (ap copied_body (part-is file 0 b (framed bs) refl))
    (ap (copied_frames n) (rest-is file 0 b (framed bs) refl)
    ∙ copied-framed n bs (omega (arith, length-append b (framed bs))) (omega (arith, length-append b (framed bs)))))

copy-long : (file : List ℕ) → length (ascii_copy file) ≡ length file
copy-long file = by (set_of file)
  where
    by : (set : CharacterSet) → length (copied_from set file) ≡ length file
    by Ascii = refl
    by Ebcdic = length-copy (length file) file

-- records that begin with a digit are ASCII
starts-ascii : (b : Body) (bs : List Body) → type_of Ascii b ≡ 1 → set_of (framed (b ∷ bs)) ≡ Ascii
unfolding type_of set_of
starts-ascii [] bs e = absurd (omega (arith, e))
starts-ascii (x ∷ xs) bs e =
    let two = digits (leb 2 (length (x ∷ xs)) && every (is_numeric Ascii) (take 2 (x ∷ xs))) e in
    let one = (both_true (is_numeric Ascii x) _ (both_true (leb 2 (length (x ∷ xs))) _ two).1).0 in
    let low = leb-true x 0x39 (both_true (leb 0x30 x) (leb x 0x39) one).1 in
    rw (ne_eqb x 0xF0 (λ q. omega (arith, q, low)))
  where
    digits : (c : Bool) → cond c (number Ascii (take 2 (x ∷ xs))) 0 ≡ 1 → c ≡ true
    digits true e = refl
    digits false e = absurd (omega (arith, e))

-- what is accepted is accepted as its copy
in-room : (rows : ℕ) (a : Answer) (t : Totals) → reading.in_room rows a ≡ answers.Accepted t → a ≡ answers.Accepted t
in-room rows (answers.Accepted u) t e = by (leb u.records.0 rows) e
  where
    by : (c : Bool) → cond c (answers.Accepted u) (answers.Refused Room u.records.0 0) ≡ answers.Accepted t → answers.Accepted u ≡ answers.Accepted t
    by true e = e
    by false e = cc
in-room rows (Err r) t e = cc

copy-accepted : (file : List ℕ) (t : Totals) → surveyed file ≡ answers.Accepted t → surveyed (ascii_copy file) ≡ answers.Accepted t
unfolding answer_of
copy-accepted file t e =
    let n = 7 * t.records.0 in
    in-room (n / 7) (surveyed (ascii_copy file)) t
    (answer-of-copy file n ∙ rw (e, le-leb t.records.0 (n / 7) (omega arith)))

same-totals : {t u : Totals} → answers.Accepted t ≡ answers.Accepted u → t ≡ u
same-totals e = cc

same-values : (bs : List Body) → map (values_of_body Ascii) (map copied_body bs) ≡ map (values_of_body Ebcdic) bs
same-values [] = refl
same-values (b ∷ bs) = ap₂ (λ (v : Values) (vs : List Values). v ∷ vs) (values-copied b) (same-values bs)

-- an EBCDIC file
module _ (file : List ℕ) (x : File) (a : Arranges file x) (e : set_of file ≡ Ebcdic) where
  abbrev bodies : List Body
  bodies = map copied_body (records x)

  copy_is : ascii_copy file ≡ framed bodies
  copy_is =
      ap (λ (set : CharacterSet). copied_from set file) e
      ∙ subst (λ (f : List ℕ). copied_frames (length f) f ≡ framed bodies) a.bytes
      (copied-framed (length (framed (records x))) (records x) (omega arith) (omega (arith, a.size, ap length a.bytes)))

  long : length (framed bodies) ≡ length file
  long = ap length (sym copy_is) ∙ copy-long file

  small : length (framed bodies) ≤ 268_435_456
  small = omega (arith, long, a.size)

  in-ascii : set_of (framed bodies) ≡ Ascii
  in-ascii =
      let good = sound-good Ebcdic x (subst (λ (set : CharacterSet). Sound set x) e a.sound) in
      starts-ascii (copied_body x.header) (drop 1 bodies) (type-copied x.header ∙ first-type (type_of Ebcdic x.header) good.first.follows)

  read : surveyed (framed bodies) ≡ answers.Accepted (totals (set_of file) x)
  read = ap surveyed (sym copy_is) ∙ copy-accepted file (totals (set_of file) x) (arranged-accepted file x a).answer

  good-copy : GoodAll (set_of (framed bodies)) [] bodies
  good-copy = accepted-good bodies (totals (set_of file) x) small read

  totals-same : totals_after Ascii (onto bodies []) ≡ totals Ebcdic x
  totals-same =
      ap (λ (set : CharacterSet). totals_after set (onto bodies [])) (sym in-ascii)
      ∙ same-totals (sym (records-accepted (framed bodies) bodies small refl good-copy).answer ∙ read)
      ∙ ap (λ (set : CharacterSet). totals set x) e

  same-in-ebcdic : (made (values_of Ebcdic x) ≡ copied_from Ebcdic file) × (answer_from (values_of Ebcdic x) [] [] ≡ Written (length file) (totals Ebcdic x))
  unfolding values_of
  same-in-ebcdic =
      let whole = all-again bodies (subst (λ (set : CharacterSet). GoodAll set [] bodies) in-ascii good-copy) in
      let values = same-values (records x) in (
        ap made (sym values) ∙ whole.0 ∙ sym copy_is ∙ ap (λ (set : CharacterSet). copied_from set file) e,
        ap (λ (vs : List Values). answer_from vs [] []) (sym values) ∙ whole.1 ∙ ap₂ Written long totals-same,
      )

pub same-either : (file : List ℕ) (x : File) → Arranges file x
    → (made (values_of (set_of file) x) ≡ ascii_copy file) × (answer_from (values_of (set_of file) x) [] [] ≡ Written (length file) (totals (set_of file) x))
same-either file x a = by (set_of file) refl
  where
    by : (set : CharacterSet) → set_of file ≡ set
        → (made (values_of set x) ≡ copied_from set file) × (answer_from (values_of set x) [] [] ≡ Written (length file) (totals set x))
    by Ascii e = same-in-ascii file x a e
    by Ebcdic e = same-in-ebcdic file x a e

-- into a buffer
pub made_again : (file : List ℕ) (x : File) → Arranges file x → (vs : List Values) → vs ≡ values_of (set_of file) x → (out : List ℕ)
    → MadeAgain file x (length out) (outcome_of vs (length out)) (buffer_of vs out)
unfolding outcome_of buffer_of
made_again file x a vs e out =
    let same = same-either file x a in
    let answer : answer_from vs [] [] ≡ Written (length file) (totals (set_of file) x) = rw e same.1 in
    let bytes : made vs ≡ ascii_copy file = rw e same.0 in
    let size = le-leb (length file) 268_435_456 a.size in
    record {
      written = λ h.
          let room = le-leb (length file) (length out) h in
          (rw (answer, size, room), rw (answer, size, room, bytes) (take_at (ascii_copy file) (drop (length file) out) (length file) (copy-long file)));
      short = λ h. rw (answer, size, lt-leb (length file) (length out) h);
    }
