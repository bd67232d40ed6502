-- A run and its header, copied, have the fault that they had. Assumes nothing.
use Prim.Native.Nat.{ℕ, ◌+◌}
use native.Mathlib.Omega.{arith}
use mathlib.Core.Bool.{true}
use mathlib.Core.List.{List, [], ◌∷◌, ◌++◌}
use mathlib.Core.Path.{◌≡◌, refl, sym, ap, ap₂, ◌∙◌}
use lib.ListN.{length, take, drop}
use lib.Seq.{take-append-le}
use Rattle.text.specs.declared.character_set.CharacterSet.TheVariants.{Ascii, Ebcdic}
use Rattle.judge.specs.Alone.{Sound}
use Rattle.judge.specs.Alone.{type_of, judged_as, judged_record}
use Rattle.standing.specs.History.{Entry, entry}
use Rattle.standing.specs.Standing.{standing}
use Rattle.standing.specs.declared.Standing.{Standing}
use Rattle.passes.specs.Answers.{Turn}
use Rattle.passes.specs.Answers.{Faulty, Good}
use Rattle.passes.specs.CheckOrder.{turn_of}
use Rattle.passes.proofs.Passed.{passed, turns-alike}
use Rattle.ascii_copy.specs.AsciiCopy.{translated, copied_body}
use Rattle.ascii_copy.proofs.Records.{length-copied, front-copied, type-copied, judged-copied}
use Rattle.ascii_copy.proofs.SoundCharacters.{width_of, sound-characters, sound-long}
use Rattle.read_as_copy.proofs.Alike.{AlikeAt, AlikePast, standing-alike, agreement-alike}
use Rattle.read_as_copy.proofs.Run.{width_small}
use Rattle.file_as_records.specs.Framed.{Body, framed}
use Rattle.file_as_records.proofs.ReadThrough.{body_is, rest-is}
use Rattle.salvage_model.specs.Runs.{sound_alone, or_fault, read_on, run_fault}
use Rattle.salvage_sound.proofs.SoundRuns.{alone-in}
use Rattle.salvage_copy.proofs.WalkedCopy.{copies}

pub alone-copied : (t : ℕ) (b : Body) → sound_alone Ascii t (copied_body b) ≡ sound_alone Ebcdic t b
unfolding sound_alone judged_record
alone-copied t b = rw (type-copied b, length-copied b, judged-copied b)

module _ (file copy : List ℕ) where
  -- a sound record that stands at an offset of both
  here : (at t : ℕ) (b : Body) (rest others : List ℕ) → drop (at + 4) file ≡ b ++ rest → drop (at + 4) copy ≡ copied_body b ++ others
      → judged_as Ebcdic t b ≡ Sound → AlikeAt file copy at (width_of t)
  here at t b rest others e f sound =
      let w = width_of t in
      let fits = sound-long Ebcdic t b sound in
      let own : take w (drop (at + 4) file) ≡ take w b = ap (take w) e ∙ take-append-le w b rest fits in
      let copied : take w (drop (at + 4) copy) ≡ take w (copied_body b) =
      ap (take w) f ∙ take-append-le w (copied_body b) others (omega (arith, length-copied b)) in
      record {
        same = record {
          same = copied ∙ front-copied w b (width_small t) ∙ ap translated (sym own);
          characters = rw own (sound-characters t b sound);
        };
      }

  module _ (first : AlikeAt file copy 0 80) where
    read-copied : (bs : List Body) (at : ℕ) (past : List Entry) → drop at file ≡ framed bs → drop at copy ≡ framed (copies bs)
        → AlikePast file copy past → read_on Ascii copy (copies bs) at past ≡ read_on Ebcdic file bs at past
    unfolding read_on
    read-copied [] at past e f alike = rw (standing-alike file copy past alike)
    read-copied (b ∷ bs) at past e f alike =
        ap₂ or_fault turn (rw (type-copied b, length-copied b))
        ∙ cases (turn_of Ebcdic file s at b) refl (λ k. read-copied bs (at + 4 + length b) next (rest-is file at b (framed bs) e) rest k)
      where
        s : Standing
        s = standing Ebcdic file past

        long : length (copied_body b) ≡ length b
        long = length-copied b

        alike-here : (t : ℕ) → judged_as Ebcdic t b ≡ Sound → AlikeAt file copy at (width_of t)
        alike-here t sound =
            here at t b (framed bs) (framed (copies bs)) (body_is file at b (framed bs) e) (body_is copy at (copied_body b) (framed (copies bs)) f) sound

        turn : turn_of Ascii copy (standing Ascii copy past) at (copied_body b) ≡ turn_of Ebcdic file s at b
        turn =
            ap (λ (s : Standing). turn_of Ascii copy s at (copied_body b)) (standing-alike file copy past alike)
            ∙ turns-alike Ebcdic Ascii file copy s at b (copied_body b) long (type-copied b) (judged-copied b)
            (λ follows sound. agreement-alike file copy past at (type_of Ebcdic b) alike (alike-here (type_of Ebcdic b) sound) (λ q. first))

        next : List Entry
        next = entry (type_of Ebcdic b) at (length b) ∷ past

        rest : drop (at + 4 + length b) copy ≡ framed (copies bs)
        rest = ap (λ (n : ℕ). drop (at + 4 + n) copy) (sym long) ∙ rest-is copy at (copied_body b) (framed (copies bs)) f

        cases : (t : Turn) → turn_of Ebcdic file s at b ≡ t
            → (AlikePast file copy next → read_on Ascii copy (copies bs) (at + 4 + length b) next ≡ read_on Ebcdic file bs (at + 4 + length b) next)
            → or_fault t (read_on Ascii copy (copies bs) (at + 4 + length b) next) ≡ or_fault t (read_on Ebcdic file bs (at + 4 + length b) next)
        cases (Faulty fault) q on = refl
        cases (Good t) q on = on (alike-here (type_of Ebcdic b) (passed Ebcdic q).alone, alike)

-- of a header that is sound alone
pub fault-copied : (header : Body) (bs : List Body) → sound_alone Ebcdic 10 header ≡ true
    → run_fault Ascii (copied_body header) (copies bs) ≡ run_fault Ebcdic header bs
unfolding run_fault
fault-copied header bs sound =
    let file = framed (header ∷ bs) in
    let copy = framed (copies (header ∷ bs)) in
    let h = alone-in Ebcdic 10 header sound in
    let first : AlikeAt file copy 0 80 =
    here file copy 0 10 header (framed bs) (framed (copies bs)) (body_is file 0 header (framed bs) refl)
    (body_is copy 0 (copied_body header) (framed (copies bs)) refl) (rw h.type at h.judged) in
    ap (λ (n : ℕ). read_on Ascii copy (copies bs) (4 + n) (entry 10 0 n ∷ entry 1 0 0 ∷ [])) (length-copied header)
    ∙ read-copied file copy first bs (4 + length header) (entry 10 0 (length header) ∷ entry 1 0 0 ∷ []) (rest-is file 0 header (framed bs) refl)
    (ap (λ (n : ℕ). drop (4 + n) copy) (sym (length-copied header)) ∙ rest-is copy 0 (copied_body header) (framed (copies bs)) refl)
    (first, (first, tt))
