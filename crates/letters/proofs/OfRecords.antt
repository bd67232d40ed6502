-- The cash letters of a file are those of its records, without their offsets. Assumes nothing.
use Prim.Native.Nat.{ℕ, ◌+◌, ◌-◌, ◌≤◌}
use native.Mathlib.Omega.{arith}
use mathlib.Core.Path.{◌≡◌, sym, ap, ap₂, ◌∙◌}
use mathlib.Core.List.{List, [], ◌∷◌}
use lib.ListN.{length, drop, length-drop}
use Rattle.text.specs.CharacterSet.{set_of}
use Rattle.text.specs.declared.character_set.CharacterSet.{CharacterSet}
use Rattle.judge.specs.Alone.{type_of}
use Rattle.standing.specs.declared.Standing.{Standing}
use Rattle.figures.specs.declared.Figures.{Figures}
use Rattle.file_as_records.specs.Framed.{Body, framed}
use Rattle.file_as_records.proofs.Good.{GoodAll}
use Rattle.file_as_records.proofs.Held.{HeldAt, Held, extent, entries, over, stands}
use Rattle.file_as_records.proofs.ReadThrough.{long, body_is, part-is, rest-is, frame_is}
use Rattle.letters.specs.Letters.{letter_then, letters_from, letters_of}
use Rattle.letters.proofs.Steps.{letters-end, letters-on}

-- the letters that records close, read after those of past
abbrev pub letters_all : CharacterSet → List Body → List Body → List Figures
letters_all set past [] = []
letters_all set past (b ∷ bs) = letter_then (over set (b ∷ past)) (type_of set b) (letters_all set (b ∷ past) bs)

letters-read : (set : CharacterSet) (file : List ℕ) → length file ≤ 268_435_456 → (bodies : List Body) (n : ℕ) (past : List Body) → Held set file past
    → drop (extent past) file ≡ framed bodies → GoodAll set past bodies → length file ≤ extent past + n
    → letters_from set n file (extent past) (entries set past) ≡ letters_all set past bodies
letters-read set file small [] n past older e g l =
    letters-end set file (extent past) (entries set past) n (omega (arith, ap length e, length-drop (extent past) file))
letters-read set file small (b ∷ bs) n past older e g l =
    let at = extent past in
    let more = long file at b (framed bs) e in
    let here : HeldAt set file at b = record { rest = framed bs; body = body_is file at b (framed bs) e; sound = g.first.alone } in
    letters-on set file at (entries set past) n (at + 4) (length b) (type_of set b) (omega arith) (omega arith)
    (frame_is file at b (framed bs) e small) (ap (type_of set) (part-is file at b (framed bs) e))
    ∙ ap₂ (λ (s : Standing) (others : List Figures). letter_then s (type_of set b) others) (stands set file (b ∷ past) (here, older))
    (letters-read set file small bs (n - 1) (b ∷ past) (here, older) (rest-is file at b (framed bs) e) g.rest (omega arith))

pub letters-of-records : (file : List ℕ) (bodies : List Body) → length file ≤ 268_435_456 → framed bodies ≡ file → GoodAll (set_of file) [] bodies
    → letters_of file ≡ letters_all (set_of file) [] bodies
letters-of-records file bodies small e g = letters-read (set_of file) file small bodies (length file) [] tt (sym e) g (omega arith)
