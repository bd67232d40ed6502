-- One record of a draft, completed, is judged by the reader as the writer judges its row. Assumes nothing.
use Prim.Native.Nat.{ℕ, ◌+◌, ◌≤◌, ◌<◌}
use native.Mathlib.Omega.{arith}
use mathlib.Core.Bool.{Bool, true, false, not, ◌||◌, cond, and-eq-true_iff}
use mathlib.Core.List.{List, [], ◌∷◌, ◌++◌, append_assoc, append-nil}
use mathlib.Core.Path.{◌≡◌, refl, sym, ap, ◌∙◌, subst}
use lib.Dec.{eqb}
use lib.ListN.{length, take, drop, length-append, length-take}
use lib.Seq.{take_all, take-append_seam, drop-append_seam}
use borrow.Author.Tests.{le-leb, ltb-true, not-true}
use Rattle.text.specs.declared.character_set.CharacterSet.TheVariants.{Ascii}
use Rattle.decimal.specs.Digits.{digits, fits}
use Rattle.frame.specs.Unless.{unless}
use Rattle.layout.specs.Layout.{Layout, sized_parts}
use Rattle.layout.specs.Layouts.{layouts}
use Rattle.judge.specs.Alone.{Sound, WrongField}
use Rattle.judge.specs.Alone.{judged_as}
use Rattle.order.specs.MayFollow.{outside, inside, table, in_table, follows, one_item_type, may_follow, is_one_of, is_carried}
use Rattle.order.proofs.Pairs.{throughout, listed}
use Rattle.standing.specs.History.{Entry}
use Rattle.standing.specs.Standing.{standing}
use Rattle.standing.specs.declared.Standing.{Standing}
use Rattle.agree.specs.Links.{link_fault}
use Rattle.agree.specs.Totals.{total_fault}
use Rattle.passes.specs.declared.Fault.{Fault}
use Rattle.passes.specs.declared.Fault.TheVariants.{UnknownType, Place, Field, Link, Total, After}
use Rattle.passes.specs.Answers.{Turn}
use Rattle.passes.specs.Answers.{Faulty, Good}
use Rattle.passes.specs.Answers.{Step}
use Rattle.passes.specs.Answers.{Stop, On}
use Rattle.passes.specs.CheckOrder.{unless_alone, agreement, turn_of}
use Rattle.passes.specs.Reading.{of_turn, step_of}
use Rattle.file_as_records.specs.Framed.{length_field, framed}
use Rattle.file_as_records.proofs.ReadThrough.{part-is, frame_is}
use Rattle.own_fault.proofs.SameBefore.{standing-same}
use Rattle.own_fault.proofs.SameReading.{ReadTo, past_same, step_same}
use Rattle.draft.specs.Values.{Values, unknown_record, layout_among, layout_of}
use Rattle.draft.specs.Completed.{addenda_behind, completed, first_unfit, first_unfit_part}
use Rattle.draft.specs.Drafted.{body_of, file_with, field_fault, unless_field, turn_of_row}
use Rattle.draft.specs.Promises.{every_here, as_place}
use Rattle.draft.proofs.Own.{numbers_of, carried-below}
use Rattle.draft.proofs.Shapes.{Shaped, right-line}
use Rattle.draft.proofs.Judged.{completed-front, completed-type, completed-judged}

-- what follows is carried, and nothing follows a 99
by-tables : (law : ℕ → ℕ → Bool) → throughout law outside ≡ true → throughout law inside ≡ true → (opened : Bool) (last present next : ℕ)
    → may_follow opened last present next ≡ true → law last next ≡ true
unfolding may_follow follows
by-tables law in-outside in-inside opened last present next e =
    listed law last next (table opened) (in-table opened) ((and-eq-true_iff (in_table (table opened) last next) (one_item_type present next)).0 e).0
  where
    in-table : (opened : Bool) → throughout law (table opened) ≡ true
    in-table true = in-inside
    in-table false = in-outside

pub follows-carried : (opened : Bool) (last present next : ℕ) → may_follow opened last present next ≡ true → is_carried next ≡ true
unfolding is_carried
follows-carried opened last present next e = by-tables (λ last next. is_carried next) refl refl opened last present next e

nothing-after : (opened : Bool) (last present next : ℕ) → may_follow opened last present next ≡ true → eqb last 99 ≡ false
nothing-after opened last present next e =
    not-true (eqb last 99) (by-tables (λ last next. not (eqb last 99)) refl refl opened last present next e)

-- the writer's turn and the reader's step: they stop for the same, as the writer names it, or both go on
pub data Likewise (t size : ℕ) : Turn → Step → Type 0 where
  stops : (fault : Fault) → Likewise t size (Faulty (as_place fault)) (Stop fault)
  goes : Likewise t size (Good t) (On t size)

module _ (t n : ℕ) where
  unplaced : (c d : Bool) → Likewise t n (Faulty Place) (cond c (Stop After) (of_turn n (unless d (Faulty UnknownType) (Faulty Place))))
  unplaced true d = stops After
  unplaced false true = stops Place
  unplaced false false = stops UnknownType

  agreed : (link total : ℕ) (b c : Bool) → Likewise t n (unless b (Faulty (Link link)) (unless c (Faulty (Total total)) (Good t)))
      (of_turn n (unless b (Faulty (Link link)) (unless c (Faulty (Total total)) (Good t))))
  agreed link total true true = goes
  agreed link total true false = stops (Total total)
  agreed link total false c = stops (Link link)

  alone : (field other : ℕ) (turn : Turn) (b c : Bool) → Likewise t n turn (of_turn n turn)
      → Likewise t n (unless b (Faulty (Field field)) (unless c (Faulty (Field other)) turn))
      (of_turn n (unless_alone (unless b (WrongField field) (unless c (WrongField other) Sound)) turn))
  alone field other turn true true l = l
  alone field other turn true false l = stops (Field other)
  alone field other turn false c l = stops (Field field)

-- a type that outgrows field 1 is not carried, and so field 1 is all that is known of it
unknown-among : (t : ℕ) (ks : List Layout) → is_one_of t (numbers_of ks) ≡ false → layout_among ks t ≡ unknown_record
unknown-among t [] e = refl
unknown-among t (k ∷ ks) e = by (eqb t k.type_number) e (unknown-among t ks)
  where
    by : (c : Bool) → c || is_one_of t (numbers_of ks) ≡ false → (is_one_of t (numbers_of ks) ≡ false → layout_among ks t ≡ unknown_record)
        → cond c k (layout_among ks t) ≡ unknown_record
    by true e later = let z : ◌≡◌ {A = ℕ} 0 1 = cc in absurd (omega arith)
    by false e later = later e

pub fit-type : (v : Values) (addenda : ℕ) → first_unfit v addenda (layout_of v.type).lines v.fields ≡ 0 → v.type < 100
unfolding is_carried layout_of first_unfit fits
fit-type v addenda e = by (is_carried v.type) refl
  where
    by : (c : Bool) → is_carried v.type ≡ c → v.type < 100
    by true c = carried-below v.type c
    by false c =
        ltb-true v.type 100 (right-line (fits 2 v.type) 1 0 (omega arith) (rw (unknown-among v.type layouts c) at e)).0

two-long : (v : Values) (addenda : ℕ) (s : Standing) → 2 ≤ length (completed v addenda s)
unfolding digits
two-long v addenda s = omega (arith, ap length (completed-front v addenda s), length-take 2 (completed v addenda s))

module _ (v : Values) (vs : List Values) (file : List ℕ) (past : List Entry) (shape : Shaped v)
    (fit : first_unfit v (addenda_behind v.type vs) (layout_of v.type).lines v.fields ≡ 0) (here : every_here v.parts ≡ true) where
  abbrev t : ℕ
  t = v.type

  abbrev addenda : ℕ
  addenda = addenda_behind v.type vs

  abbrev s : Standing
  s = standing Ascii file past

  abbrev body : List ℕ
  body = body_of v vs file past

  abbrev n : ℕ
  n = length (body_of v vs file past)

  abbrev longer : List ℕ
  longer = file_with v vs file past

  abbrev turn : Turn
  turn = agreement Ascii (file_with v vs file past) (standing Ascii file past) (length file) v.type

  abbrev field : ℕ
  field = field_fault v (addenda_behind v.type vs) (standing Ascii file past)

  abbrev other : ℕ
  other = first_unfit_part (sized_parts (layout_of v.type)) v.parts

  turn-agreed : Likewise t n turn (of_turn n turn)
  unfolding agreement
  turn-agreed =
      let link = link_fault Ascii longer s t (length file) in
      let total = total_fault Ascii longer s t (length file) in
      agreed t n link total (eqb link 0) (eqb total 0)

  by_place : (b : Bool) → may_follow s.inside s.last s.present t ≡ b
      → Likewise t n (unless b (Faulty Place) (unless_field field (unless_field other turn)))
      (cond (eqb s.last 99) (Stop After)
      (of_turn n (unless (is_carried t) (Faulty UnknownType) (unless b (Faulty Place) (unless_alone (judged_as Ascii t body) turn)))))
  by_place true b =
      let c = follows-carried s.inside s.last s.present t b in
      rw (nothing-after s.inside s.last s.present t b, c, completed-judged v addenda s shape c fit here)
      (alone t n field other turn (eqb field 0) (eqb other 0) turn-agreed)
  by_place false b = unplaced t n (eqb s.last 99) (is_carried t)

  -- the record in the file that ends with it
  turn-likewise : Likewise t n (turn_of_row v vs file past s)
      (cond (eqb s.last 99) (Stop After) (of_turn n (turn_of Ascii longer s (length file) body)))
  unfolding turn_of_row turn_of
  turn-likewise =
      rw (le-leb 2 (length body) (two-long v addenda s), completed-type v addenda s (fit-type v addenda fit))
      (by_place (may_follow s.inside s.last s.present t) refl)

  -- and in a longer one that is read to there
  module _ (whole rest : List ℕ) (small : length whole ≤ 268_435_456) (e : whole ≡ longer ++ rest) (r : ReadTo Ascii whole past (length file)) where
    -- the files with the record and without it are beginnings of the whole
    begins : (xs ys : List ℕ) → whole ≡ xs ++ ys → take (length xs) xs ≡ take (length xs) whole
    begins xs ys q = take_all (length xs) xs (omega arith) ∙ sym (ap (take (length xs)) q ∙ take-append_seam xs ys)

    begins-long : (xs ys : List ℕ) → whole ≡ xs ++ ys → length xs ≤ length whole
    begins-long xs ys q = omega (arith, ap length q, length-append xs ys)

    stands : (xs ys : List ℕ) → whole ≡ xs ++ ys → length file ≤ length xs → standing Ascii xs past ≡ standing Ascii whole past
    stands xs ys q h = standing-same Ascii whole xs past (past_same whole xs (length xs) (begins xs ys q) (begins-long xs ys q) Ascii r h)

    -- the record behind the file
    long : length longer ≡ length file + 4 + n
    long = omega (arith, length-append file (framed (body ∷ [])), length-append body [])

    in-longer : step_of Ascii longer s (length file)
        ≡ cond (eqb s.last 99) (Stop After) (of_turn n (turn_of Ascii longer s (length file) body))
    unfolding step_of
    in-longer =
        let b : drop (length file) longer ≡ length_field n ++ (body ++ []) = drop-append_seam file (framed (body ∷ [])) in
        rw (frame_is longer (length file) body [] b (omega (arith, begins-long longer rest e)), part-is longer (length file) body [] b)

    in_whole : drop (length file) whole ≡ length_field n ++ (body ++ rest)
    in_whole =
        ap (drop (length file)) (e ∙ append_assoc file (framed (body ∷ [])) rest)
        ∙ drop-append_seam file (framed (body ∷ []) ++ rest)
        ∙ ap (λ (x : List ℕ). length_field n ++ (x ++ rest)) (append-nil body)

    stands-before : standing Ascii longer past ≡ s
    stands-before =
        stands longer rest e (omega (arith, long))
        ∙ sym (stands file (framed (body ∷ []) ++ rest) (e ∙ append_assoc file (framed (body ∷ [])) rest) (omega arith))

    pub step-likewise : Likewise t n (turn_of_row v vs file past s) (step_of Ascii whole (standing Ascii whole past) (length file))
    step-likewise =
        subst (λ (step : Step). Likewise t n (turn_of_row v vs file past s) step)
        (sym in-longer
        ∙ ap (λ (u : Standing). step_of Ascii longer u (length file)) (sym stands-before)
        ∙ step_same whole longer (length longer) (begins longer rest e) (begins-long longer rest e) Ascii r (length file + 4) n
        (frame_is whole (length file) body rest in_whole small) (omega (arith, long)))
        turn-likewise
