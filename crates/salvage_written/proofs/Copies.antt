-- A run of an EBCDIC file is read through as its copy is. Assumes nothing.
use Prim.Native.Nat.{ℕ, ◌+◌, ◌≤◌}
use native.Mathlib.Omega.{arith}
use mathlib.Core.Bool.{Bool, true, false, ◌&&◌, cond}
use mathlib.Core.Option.{none, some}
use mathlib.Core.Path.{◌≡◌, refl, sym, ap, ap₂, ◌∙◌}
use mathlib.Core.List.{List, [], ◌∷◌, ◌++◌, map}
use lib.Dec.{leb, eqb}
use lib.ListN.{length, take, drop}
use lib.Seq.{take-append-le}
use borrow.Author.Tests.{leb-true}
use Rattle.text.specs.declared.character_set.CharacterSet.{CharacterSet}
use Rattle.text.specs.declared.character_set.CharacterSet.TheVariants.{Ascii, Ebcdic}
use Rattle.layout.specs.Layout.{Layout}
use Rattle.layout.specs.Layouts.{layouts}
use Rattle.judge.specs.Alone.{Sound}
use Rattle.judge.specs.Alone.{type_of, judged_as}
use Rattle.judge.proofs.Laws.{both_true}
use Rattle.ascii_copy.specs.AsciiCopy.{translated, copied_body}
use Rattle.ascii_copy.proofs.Records.{length-copied, front-copied, type-copied, judged-copied}
use Rattle.ascii_copy.proofs.SoundCharacters.{width_in, width_of, sound-characters, sound-long}
use Rattle.standing.specs.History.{Entry, entry}
use Rattle.standing.specs.Standing.{standing}
use Rattle.standing.specs.declared.Standing.{Standing}
use Rattle.passes.specs.declared.Fault.TheVariants.{Place}
use Rattle.passes.specs.Answers.{Turn}
use Rattle.passes.specs.CheckOrder.{turn_of}
use Rattle.passes.proofs.Passed.{passed, turns-alike}
use Rattle.file_as_records.specs.Framed.{Body, framed}
use Rattle.file_as_records.proofs.ReadThrough.{body_is, rest-is}
use Rattle.read_as_copy.proofs.Alike.{AlikeAt, AlikePast, standing-alike, agreement-alike}
use Rattle.salvage_model.specs.Runs.{or_fault, read_on, run_fault}
use Rattle.salvage_model.specs.Promises.{copied}
use Rattle.salvage_written.proofs.ReadRun.{SoundAs}
use Rattle.passes.specs.Answers as turns

-- no fixed part is longer than that of a 52
abbrev narrow : List Layout → Bool
narrow [] = true
narrow (k ∷ ks) = leb k.fixed_length 139 && narrow ks

width-in : (ks : List Layout) (t : ℕ) → narrow ks ≡ true → width_in ks t ≤ 139
width-in [] t e = omega arith
width-in (k ∷ ks) t e =
    let tests = both_true (leb k.fixed_length 139) (narrow ks) e in
    pick (eqb t k.type_number) (leb-true k.fixed_length 139 tests.0) (width-in ks t tests.1)
  where
    pick : (c : Bool) {m n : ℕ} → m ≤ 139 → n ≤ 139 → cond c m n ≤ 139
    pick true h l = h
    pick false h l = l

width_small : (t : ℕ) → width_of t ≤ 139
width_small t = width-in layouts t refl

-- a sound record is alike in a file and in another that has its copy there
module _ (file copy : List ℕ) (at : ℕ) (b rest others : List ℕ) (here : drop (at + 4) file ≡ b ++ rest) (there : drop (at + 4) copy ≡ copied_body b ++ others) where
  alike_at : (t : ℕ) → judged_as Ebcdic t b ≡ Sound → AlikeAt file copy at (width_of t)
  alike_at t sound =
      let fits = sound-long Ebcdic t b sound in
      let w = width_of t in
      let own : take w (drop (at + 4) file) ≡ take w b = ap (take w) here ∙ take-append-le w b rest fits in
      let its : take w (drop (at + 4) copy) ≡ take w (copied_body b) =
      ap (take w) there ∙ take-append-le w (copied_body b) others (omega (arith, fits, length-copied b)) in
      record {
        same = record {
          same = its ∙ front-copied w b (width_small t) ∙ ap translated (sym own);
          characters = rw own (sound-characters t b sound);
        };
      }

module _ (file copy : List ℕ) (begins : AlikeAt file copy 0 80) where
  turn-copied : (at : ℕ) (past : List Entry) → AlikePast file copy past → (b rest others : List ℕ) → drop (at + 4) file ≡ b ++ rest
      → drop (at + 4) copy ≡ copied_body b ++ others
      → turn_of Ascii copy (standing Ascii copy past) at (copied_body b) ≡ turn_of Ebcdic file (standing Ebcdic file past) at b
  turn-copied at past alike b rest others here there =
      ap (λ (s : Standing). turn_of Ascii copy s at (copied_body b)) (standing-alike file copy past alike)
      ∙ turns-alike Ebcdic Ascii file copy (standing Ebcdic file past) at b (copied_body b) (length-copied b) (type-copied b) (judged-copied b)
      (λ follows sound.
      agreement-alike file copy past at (type_of Ebcdic b) alike (alike_at file copy at b rest others here there (type_of Ebcdic b) sound) (λ q. begins))

  read-copied : (bs : List Body) (at : ℕ) (past : List Entry) → AlikePast file copy past → drop at file ≡ framed bs → drop at copy ≡ framed (map copied_body bs)
      → read_on Ascii copy (map copied_body bs) at past ≡ read_on Ebcdic file bs at past
  unfolding read_on
  read-copied [] at past alike e f = ap (λ (s : Standing). cond (eqb s.last 50) (some Place) none) (standing-alike file copy past alike)
  read-copied (b ∷ bs) at past alike e f =
      let here = body_is file at b (framed bs) e in
      let there = body_is copy at (copied_body b) (framed (map copied_body bs)) f in
      ap
      (λ (turn : Turn).
      or_fault turn
      (read_on Ascii copy (map copied_body bs) (at + 4 + length (copied_body b)) (entry (type_of Ascii (copied_body b)) at (length (copied_body b)) ∷ past)))
      (turn-copied at past alike b (framed bs) (framed (map copied_body bs)) here there)
      ∙ ap₂
      (λ (t n : ℕ). or_fault (turn_of Ebcdic file (standing Ebcdic file past) at b) (read_on Ascii copy (map copied_body bs) (at + 4 + n) (entry t at n ∷ past)))
      (type-copied b) (length-copied b)
      ∙ by (turn_of Ebcdic file (standing Ebcdic file past) at b) refl
      (λ sound.
      read-copied bs (at + 4 + length b) (entry (type_of Ebcdic b) at (length b) ∷ past)
      (alike_at file copy at b (framed bs) (framed (map copied_body bs)) here there (type_of Ebcdic b) sound, alike)
      (rest-is file at b (framed bs) e)
      (ap (λ (n : ℕ). drop (at + 4 + n) copy) (sym (length-copied b)) ∙ rest-is copy at (copied_body b) (framed (map copied_body bs)) f))
    where
      by : (turn : Turn) → turn_of Ebcdic file (standing Ebcdic file past) at b ≡ turn
          → (judged_as Ebcdic (type_of Ebcdic b) b ≡ Sound
          → read_on Ascii copy (map copied_body bs) (at + 4 + length b) (entry (type_of Ebcdic b) at (length b) ∷ past)
          ≡ read_on Ebcdic file bs (at + 4 + length b) (entry (type_of Ebcdic b) at (length b) ∷ past))
          → or_fault turn (read_on Ascii copy (map copied_body bs) (at + 4 + length b) (entry (type_of Ebcdic b) at (length b) ∷ past))
          ≡ or_fault turn (read_on Ebcdic file bs (at + 4 + length b) (entry (type_of Ebcdic b) at (length b) ∷ past))
      by (turns.Faulty fault) q others = refl
      by (turns.Good u) q others = others (passed Ebcdic q).alone

-- the run of a header, and that of its copy
run-copied : (header : Body) → SoundAs Ebcdic 10 header → (bs : List Body)
    → run_fault Ascii (copied_body header) (map copied_body bs) ≡ run_fault Ebcdic header bs
unfolding run_fault
run-copied header sound bs =
    let file = framed (header ∷ bs) in
    let copy = framed (copied_body header ∷ map copied_body bs) in
    let first : judged_as Ebcdic 10 header ≡ Sound = ap (λ (t : ℕ). judged_as Ebcdic t header) (sym sound.type) ∙ sound.right in
    let begins : AlikeAt file copy 0 80 = alike_at file copy 0 header (framed bs) (framed (map copied_body bs)) refl refl 10 first in
    ap (λ (n : ℕ). read_on Ascii copy (map copied_body bs) (4 + n) (entry 10 0 n ∷ entry 1 0 0 ∷ [])) (length-copied header)
    ∙ read-copied file copy begins bs (4 + length header) (entry 10 0 (length header) ∷ entry 1 0 0 ∷ []) (begins, (begins, tt))
    (rest-is file 0 header (framed bs) refl)
    (ap (λ (n : ℕ). drop (4 + n) copy) (sym (length-copied header)) ∙ rest-is copy 0 (copied_body header) (framed (map copied_body bs)) refl)

map-own : (bs : List Body) → map (copied Ascii) bs ≡ bs
map-own [] = refl
map-own (b ∷ bs) = ap (λ (l : List Body). b ∷ l) (map-own bs)

-- in either set
pub run-either : (set : CharacterSet) (header : Body) → SoundAs set 10 header → (bs : List Body)
    → run_fault Ascii (copied set header) (map (copied set) bs) ≡ run_fault set header bs
run-either Ascii header s bs = ap (run_fault Ascii header) (map-own bs)
run-either Ebcdic header s bs = run-copied header s bs

pub sound-either : (set : CharacterSet) (t : ℕ) (b : Body) → SoundAs set t b → SoundAs Ascii t (copied set b)
sound-either Ascii t b s = s
sound-either Ebcdic t b s =
    record {
      type = type-copied b ∙ s.type;
      long = omega (arith, length-copied b, s.long);
      right = ap (λ (n : ℕ). judged_as Ascii n (copied_body b)) (type-copied b) ∙ judged-copied b ∙ s.right;
    }

pub type-either : (set : CharacterSet) (b : Body) → type_of Ascii (copied set b) ≡ type_of set b
type-either Ascii b = refl
type-either Ebcdic b = type-copied b
