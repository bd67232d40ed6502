-- A new control's text and row give its values. Assumes nothing.
use Prim.Native.Nat.{ℕ, zero, suc, ◌+◌, ◌-◌, ◌≤◌, ◌<◌}
use native.Mathlib.Nat.{add-zero, not-suc-le-zero, le_of_suc-le-suc}
use native.Mathlib.Omega.{arith}
use mathlib.Core.Bool.{Bool, true, false, ◌||◌}
use mathlib.Core.List.{List, [], ◌∷◌}
use mathlib.Core.Option.{some}
use mathlib.Core.Path.{◌≡◌, refl, sym, ap, ap₂, ◌∙◌, subst}
use borrow.Author.Tests.{eqb-true}
use lib.Dec.{eqb}
use lib.ListN.{length, get_or, take, set}
use lib.Seq.{sets, length-sets}
use Rattle.text.specs.declared.character_set.CharacterSet.{CharacterSet}
use Rattle.text.specs.declared.character_set.CharacterSet.TheVariants.{Ascii}
use Rattle.frame.specs.Frames.{part}
use Rattle.layout.specs.Layout.{Line, Layout}
use Rattle.layout.specs.Packing.{Block, line_of, lines_from, lines_in, own_in, Packed}
use Rattle.judge.proofs.Dispatch.{whole}
use Rattle.order.specs.MayFollow.{is_carried}
use Rattle.sheet.proofs.Parts.{part-before}
use Rattle.draft.specs.Owned.{Owned}
use Rattle.draft.specs.Values.{Piece, Values, layout_of, piece, values_at, values_of_row}
use Rattle.draft.specs.Completed.{characters_of}
use Rattle.draft.proofs.Own.{carried-owned}
use Rattle.salvage_model.specs.Kept.{free_field, control_values}
use Rattle.salvage_made.specs.ByMarks.{is_control}
use Rattle.salvage_rows.proofs.Free.{free, free-stored, free-given}

-- the line that a number of the table stands for
numbered : (d : Line) (n c i : ℕ) (ps : List ℕ) → i < length (lines_from n (take c ps)) → line_of (n + i) (get_or ps i 0) ≡ get_or (lines_from n (take c ps)) i d
numbered d n zero i ps h = absurd (not-suc-le-zero h)
numbered d n (suc c) i [] h = absurd (not-suc-le-zero h)
numbered d n (suc c) zero (p ∷ ps) h = ap (λ (m : ℕ). line_of m p) (add-zero n)
numbered d n (suc c) (suc i) (p ∷ ps) h =
    let next : n + suc i ≡ n + 1 + i = omega arith in
    ap (λ (m : ℕ). line_of m (get_or ps i 0)) next ∙ numbered d (n + 1) c i ps (le_of_suc-le-suc h)

own_line : (k : Layout) (own : List ℕ) → Owned k own → (d : Line) (i : ℕ) → i < length k.lines
    → line_of (1 + i) (get_or own (suc i) 0) ≡ get_or k.lines i d
own_line k [] o d i h = absurd (omega (arith, o.some))
own_line k (header ∷ rest) o d i h =
    let same : lines_from 1 (take (lines_in header) rest) ≡ k.lines = ap (λ (b : Block). b.lines) o.means in
    numbered d 1 (lines_in header) i rest (rw same h) ∙ ap (λ (ls : List Line). get_or ls i d) same

-- what holds of a 90 and of a 99
of-control : (P : ℕ → Type 0) → P 90 → P 99 → (kind : ℕ) → is_control kind ≡ true → P kind
of-control P letter file kind e = by (eqb kind 90) refl e
  where
    by : (c : Bool) → eqb kind 90 ≡ c → c || eqb kind 99 ≡ true → P kind
    by true q f = subst P (sym (eqb-true kind 90 q)) letter
    by false q f = subst P (sym (eqb-true kind 99 f)) file

-- Two fields of a control are given, one behind the other, and it has no parts.
abbrev two_of : ℕ → Piece → Piece → Values
two_of kind p q = record { type = kind; blank = false; fields = p ∷ q ∷ []; parts = [] }

abbrev piece_in : CharacterSet → List ℕ → Line → Piece
piece_in s text l = piece s text l.data_type (0 + (l.first - 1)) l.size

record TwoGiven (kind : ℕ) (six seven : Line) : Type 0 where
  given : (s : CharacterSet) (text : List ℕ) (blank : Bool) (sizes : List ℕ) → values_at s text kind blank 0 sizes ≡ two_of kind (piece_in s text six) (piece_in s text seven)
  kept : (s : CharacterSet) (body : List ℕ) → control_values s (layout_of kind) (some body) ≡ two_of kind (free_field s (some body) six) (free_field s (some body) seven)
  behind : six.first - 1 + six.size ≤ seven.first - 1
  room : seven.first - 1 + seven.size ≤ 85

abbrev nowhere : Line
nowhere = line_of 0 0

-- its fields are numbers 6 and 7, and lines are counted from 0
record Fields (kind : ℕ) : Type 0 where
  lines : 7 ≤ length (layout_of kind).lines
  count : 7 ≤ (layout_of kind).field_count
  two : TwoGiven kind (get_or (layout_of kind).lines 5 nowhere) (get_or (layout_of kind).lines 6 nowhere)

fields : (kind : ℕ) → is_control kind ≡ true → Fields kind
unfolding layout_of values_at control_values
fields = of-control Fields (record { lines = omega arith; count = omega arith; two = letter }) (record { lines = omega arith; count = omega arith; two = file })
  where
    letter : TwoGiven 90 (get_or (layout_of 90).lines 5 nowhere) (get_or (layout_of 90).lines 6 nowhere)
    letter = record { given = λ s text blank sizes. refl; kept = λ s body. refl; behind = omega arith; room = omega arith }

    file : TwoGiven 99 (get_or (layout_of 99).lines 5 nowhere) (get_or (layout_of 99).lines 6 nowhere)
    file = record { given = λ s text blank sizes. refl; kept = λ s body. refl; behind = omega arith; room = omega arith }

control-carried : (kind : ℕ) → is_control kind ≡ true → is_carried kind ≡ true
unfolding is_carried
control-carried = of-control (λ kind. is_carried kind ≡ true) refl refl

-- the type and the start of a row
row-head : (kind : ℕ) (row : List ℕ) → 2 ≤ length row → (get_or (set (set row 0 kind) 1 0) 0 0 ≡ kind) × (get_or (set (set row 0 kind) 1 0) 1 0 ≡ 0)
row-head kind [] h = absurd (omega arith)
row-head kind (a ∷ []) h = absurd (omega arith)
row-head kind (a ∷ (b ∷ rest)) h = (refl, refl)

-- the two fields by their numbers in the table
module _ (numbers : List ℕ) (kind : ℕ) {own : List ℕ} (packed : Packed numbers) (is : is_control kind ≡ true) (lent : own ≡ own_in kind (length numbers) numbers) where
  owned : Owned (layout_of kind) own
  owned = rw lent (carried-owned numbers kind packed (control-carried kind is))

  abbrev sixth : Line
  sixth = line_of 6 (get_or own 6 0)

  abbrev seventh : Line
  seventh = line_of 7 (get_or own 7 0)

  pub own-long : 8 ≤ length own
  own-long =
      let all = whole own owned.some owned.whole in
      let same = ap (λ (b : Block). b.field_count) owned.means in
      omega (arith, all.fields, same, (fields kind is).count)

  own-two : TwoGiven kind sixth seventh
  own-two =
      let all = fields kind is in
      rw (own_line (layout_of kind) own owned nowhere 5 (omega (arith, all.lines)), own_line (layout_of kind) own owned nowhere 6 (omega (arith, all.lines)))
      all.two

  module _ (s : CharacterSet) (body text : List ℕ) (long : length text ≡ 85) where
    abbrev put : List ℕ → Line → List ℕ
    put out l = sets out (l.first - 1) (characters_of (free s body l))

    pub room-sixth : sixth.first - 1 + sixth.size ≤ length text
    room-sixth = omega (arith, own-two.behind, own-two.room)

    module _ {once : List ℕ} (first : once ≡ put text sixth) where
      once-long : length once ≡ 85
      once-long = ap length first ∙ length-sets text (sixth.first - 1) (characters_of (free s body sixth)) ∙ long

      pub room-seventh : seventh.first - 1 + seventh.size ≤ length once
      room-seventh = omega (arith, once-long, own-two.room)

      module _ {both : List ℕ} (second : both ≡ put once seventh) where
        both_long : length both ≡ 85
        both_long = ap length second ∙ length-sets once (seventh.first - 1) (characters_of (free s body seventh)) ∙ once-long

        six : piece_in Ascii both sixth ≡ free s body sixth
        six =
            free-given s body sixth both (omega (arith, both_long, own-two.behind, own-two.room))
            (ap (part (sixth.first - 1) sixth.size) second
            ∙ part-before once (seventh.first - 1) (characters_of (free s body seventh)) (sixth.first - 1) sixth.size own-two.behind
            ∙ free-stored s body sixth text once room-sixth first)

        seven : piece_in Ascii both seventh ≡ free s body seventh
        seven = free-given s body seventh both (omega (arith, both_long, own-two.room)) (free-stored s body seventh once both room-seventh second)

        -- both stand in the text, and the row says so
        pub control-put : (row : List ℕ) → length row ≡ 10 → values_of_row Ascii both (set (set row 0 kind) 1 0) ≡ control_values s (layout_of kind) (some body)
        unfolding values_of_row
        control-put row ten =
            let head = row-head kind row (omega (arith, ten)) in
            rw (head.0, head.1) (own-two.given Ascii both _ _ ∙ ap₂ (two_of kind) six seven ∙ sym (own-two.kept s body))
