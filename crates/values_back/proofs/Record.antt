-- A completed record, read as values, has the values that it was made of. Assumes nothing.
use Prim.Native.Nat.{ℕ, ◌+◌, ◌-◌, ◌≤◌}
use native.Mathlib.Nat.{zero-add}
use native.Mathlib.Omega.{arith}
use mathlib.Core.Bool.{Bool, true, false, ◌&&◌, ◌||◌, cond}
use mathlib.Core.List.{List, [], ◌∷◌, ◌++◌, map, append_assoc}
use mathlib.Core.Path.{◌≡◌, refl, sym, ap, ap₂, ◌∙◌}
use lib.Dec.{leb, eqb}
use lib.ListN.{length, take, drop, length-append, length-drop}
use lib.Seq.{take_at, drop_at, drop-drop}
use borrow.Author.Tests.{eqb-true, eqb-false, ne_eqb, leb-true, le-leb}
use Rattle.text.specs.declared.character_set.CharacterSet.TheVariants.{Ascii}
use Rattle.text.specs.declared.data_types.DataType.{DataType}
use Rattle.text.specs.Characters.{is_blank, is_numeric}
use Rattle.text.specs.DataTypes.{every}
use Rattle.decimal.specs.Digits.{digits, fits}
use Rattle.decimal.proofs.Laws.{digits_long, digits-numeric}
use Rattle.copying.specs.Times.{times}
use Rattle.frame.specs.Frames.{part}
use Rattle.layout.specs.Layout.{Line, Layout, Sized, sized_parts}
use Rattle.layout.specs.Layouts.{bundle_control}
use Rattle.judge.specs.Alone.{stated_size}
use Rattle.judge.proofs.Laws.{both_true}
use Rattle.standing.specs.declared.Standing.{Standing}
use Rattle.standing.specs.Standing.{capped_figures}
use Rattle.file_as_records.specs.Framed.{field_of}
use Rattle.draft.specs.Values.{Piece, here, missing, Values, is_given, piece, fields_given, parts_given, layout_of, values_at, values_of_body}
use Rattle.draft.specs.Completed.{next, size_of, sums_for, is_here, characters_of, own_statement, worked_out, fixed_part, all_parts, completed, first_unfit}
use Rattle.draft.specs.Promises.{every_here}
use Rattle.draft.proofs.Own.{every-layout}
use Rattle.draft.proofs.Shapes.{Shaped, given_sizes, right-line, piece-long, worked-out-long}
use Rattle.draft.proofs.Judged.{Stating, none, one, completed-type, completed-states, parts-behind}
use Rattle.made_is_read.proofs.Record.{fit-type}

-- a blank MICR total is asked for in a 70 alone
abbrev pub Asked : Values → Type 0
Asked v = v.blank ≡ (eqb v.type 70 && v.blank)

here-again : (p : Piece) → is_here p ≡ true → here (characters_of p) ≡ p
here-again (here xs) e = refl
here-again (missing n) e = cc

-- characters that stand at a place of a body are the piece that is cut there
module _ (body : List ℕ) where
  piece_back : (t : DataType) (at size : ℕ) (xs rest : List ℕ) → drop at body ≡ xs ++ rest → length xs ≡ size → piece Ascii body t at size ≡ here xs
  piece_back t at size xs rest e long =
      let lies : eqb size 0 || leb (at + size) (length body) ≡ true = by (eqb size 0) refl in
      rw lies (ap here (ap (take size) e ∙ take_at xs rest size long))
    where
      by : (c : Bool) → eqb size 0 ≡ c → c || leb (at + size) (length body) ≡ true
      by true q = refl
      by false q =
          le-leb (at + size) (length body) (omega (arith, eqb-false size 0 q, length-drop at body, ap length e, length-append xs rest))

  drop-on : (at size : ℕ) (xs rest : List ℕ) → drop at body ≡ xs ++ rest → length xs ≡ size → drop (at + size) body ≡ rest
  drop-on at size xs rest e long = sym (drop-drop size at body) ∙ ap (drop size) e ∙ drop_at xs rest size long

  parts-back : {ss : List Sized} {ps : List Piece} (at : ℕ) → Stating body ss ps → every_here ps ≡ true → drop at body ≡ all_parts ps
      → parts_given Ascii body at ss (map (λ (s : Sized). stated_size Ascii s body) ss) ≡ ps
  unfolding all_parts
  parts-back at none h e = refl
  parts-back at (one {s} {ss} {p} {ps} q r) h e =
      let both = both_true (is_here p) (every_here ps) h in
      rw q
      (ap₂ (λ (x : Piece) (xs : List Piece). x ∷ xs)
      (piece_back s.data_type at (size_of p) (characters_of p) (all_parts ps) e (piece-long p) ∙ here-again p both.0)
      (parts-back (at + size_of p) r both.1 (drop-on at (size_of p) (characters_of p) (all_parts ps) e (piece-long p))))

-- computed of the layouts: the lines lie end to end
abbrev end_to_end : ℕ → List Line → Bool
end_to_end at [] = true
end_to_end at (l ∷ ls) = leb 1 l.number && (eqb (l.first - 1) at && end_to_end (at + l.size) ls)

module _ (v : Values) (addenda : ℕ) (s : Standing) (body rest : List ℕ) where
  fields_back : (at : ℕ) (ls : List Line) (ps : List Piece) → end_to_end at ls ≡ true → map size_of ps ≡ given_sizes ls → first_unfit v addenda ls ps ≡ 0
      → drop at body ≡ fixed_part v addenda s ls ps ++ rest → fields_given Ascii body 0 ls ≡ ps
  unfolding fixed_part first_unfit
  fields_back at [] [] ends g u e = refl
  fields_back at [] (p ∷ ps) ends g u e = cc
  fields_back at (l ∷ ls) ps ends g u e =
      let numbered = both_true (leb 1 l.number) _ ends in
      let starts = both_true (eqb (l.first - 1) at) (end_to_end (at + l.size) ls) numbered.1 in
      by (leb-true 1 l.number numbered.0) (zero-add (l.first - 1) ∙ eqb-true (l.first - 1) at starts.0)
      (λ others g u e. fields_back (at + l.size) ls others starts.1 g u e) (is_given l.origin) ps g u e
    where
      by : 1 ≤ l.number → 0 + (l.first - 1) ≡ at
          → ((others : List Piece) → map size_of others ≡ given_sizes ls → first_unfit v addenda ls others ≡ 0
          → drop (at + l.size) body ≡ fixed_part v addenda s ls others ++ rest → fields_given Ascii body 0 ls ≡ others)
          → (c : Bool) (ps : List Piece) → map size_of ps ≡ cond c (l.size ∷ given_sizes ls) (given_sizes ls)
          → cond c (cond (is_here (next ps)) (first_unfit v addenda ls (drop 1 ps)) l.number)
          (cond (fits l.size (own_statement v addenda l.first l.origin)) (first_unfit v addenda ls ps) l.number) ≡ 0
          → drop at body
          ≡ cond c (characters_of (next ps) ++ fixed_part v addenda s ls (drop 1 ps)) (worked_out v addenda s l ++ fixed_part v addenda s ls ps) ++ rest
          → cond c (piece Ascii body l.data_type (0 + (l.first - 1)) l.size ∷ fields_given Ascii body 0 ls) (fields_given Ascii body 0 ls) ≡ ps
      by n f later true [] g u e = cc
      by n f later true (p ∷ ps) g u e =
          let same : size_of p ≡ l.size = cc in
          let shape : map size_of ps ≡ given_sizes ls = cc in
          let fit = right-line (is_here p) l.number (first_unfit v addenda ls ps) n u in
          let others = fixed_part v addenda s ls ps ++ rest in
          let stands : drop at body ≡ characters_of p ++ others = e ∙ append_assoc (characters_of p) (fixed_part v addenda s ls ps) rest in
          let long = piece-long p ∙ same in
          ap₂ (λ (x : Piece) (xs : List Piece). x ∷ xs)
          (ap (λ (k : ℕ). piece Ascii body l.data_type k l.size) f
          ∙ piece_back body l.data_type at l.size (characters_of p) others stands long
          ∙ here-again p fit.0)
          (later ps shape fit.1 (drop-on body at l.size (characters_of p) others stands long))
      by n f later false ps g u e =
          let fit = right-line (fits l.size (own_statement v addenda l.first l.origin)) l.number (first_unfit v addenda ls ps) n u in
          later ps g fit.1
          (drop-on body at l.size (worked_out v addenda s l) (fixed_part v addenda s ls ps ++ rest)
          (e ∙ append_assoc (worked_out v addenda s l) (fixed_part v addenda s ls ps) rest) (worked-out-long v addenda s l))

-- digits are not blank
digits-shown : (xs : List ℕ) → 1 ≤ length xs → every (is_numeric Ascii) xs ≡ true → every (is_blank Ascii) xs ≡ false
digits-shown [] h e = absurd (omega arith)
digits-shown (x ∷ xs) h e =
    let first = both_true (is_numeric Ascii x) (every (is_numeric Ascii) xs) e in
    let low = leb-true 0x30 x (both_true (leb 0x30 x) (leb x 0x39) first.0).0 in
    rw (ne_eqb x 0x20 (λ q. omega arith))

-- what stands behind 2, 4 and 12 characters
fourth : (a b c d others rest : List ℕ) → length a ≡ 2 → length b ≡ 4 → length c ≡ 12 → length d ≡ 12
    → part 18 12 ((a ++ (b ++ (c ++ (d ++ others)))) ++ rest) ≡ d
fourth a b c d others rest la lb lc ld =
    let body = (a ++ (b ++ (c ++ (d ++ others)))) ++ rest in
    let at₂ = drop-on body 0 2 a ((b ++ (c ++ (d ++ others))) ++ rest) (append_assoc a (b ++ (c ++ (d ++ others))) rest) la in
    let at₆ = drop-on body 2 4 b ((c ++ (d ++ others)) ++ rest) (at₂ ∙ append_assoc b (c ++ (d ++ others)) rest) lb in
    let at₁₈ = drop-on body 6 12 c ((d ++ others) ++ rest) (at₆ ∙ append_assoc c (d ++ others) rest) lc in
    ap (take 12) (at₁₈ ∙ append_assoc d others rest) ∙ take_at d (others ++ rest) 12 ld

-- field 4 of a 70 is blank where that is asked for
control-layout : (t : ℕ) → t ≡ 70 → layout_of t ≡ bundle_control
unfolding layout_of
control-layout t q = rw q

module _ (v : Values) (addenda : ℕ) (s : Standing) where
  abbrev micr : Standing → List ℕ
  micr u = cond v.blank (times 12 0x20) (digits 12 u.micr.0)

  micr-long : (u : Standing) → length (micr u) ≡ 12
  micr-long u = by v.blank
    where
      by : (b : Bool) → length (cond b (times 12 0x20) (digits 12 u.micr.0)) ≡ 12
      by true = refl
      by false = digits_long 12 u.micr.0

  micr-blank : (u : Standing) → every (is_blank Ascii) (micr u) ≡ v.blank
  micr-blank u = by v.blank
    where
      by : (b : Bool) → every (is_blank Ascii) (cond b (times 12 0x20) (digits 12 u.micr.0)) ≡ b
      by true = refl
      by false = digits-shown (digits 12 u.micr.0) (omega (arith, digits_long 12 u.micr.0)) (digits-numeric 12 u.micr.0)

  micr-stands : (u : Standing) (ps : List Piece) (rest : List ℕ)
      → field_of bundle_control 4 (fixed_part v addenda u bundle_control.lines ps ++ rest) ≡ micr u
  unfolding fixed_part
  micr-stands u ps rest =
      let debits = (sums_for v.type u).debits.0 in
      let cents = (sums_for v.type u).debit.0 in
      fourth (digits 2 v.type) (digits 4 debits) (digits 12 cents) (micr u) (fixed_part v addenda u (drop 4 bundle_control.lines) ps) rest
      (digits_long 2 v.type) (digits_long 4 debits) (digits_long 12 cents) (micr-long u)

  blank-back : Asked v → eqb v.type 70 && every (is_blank Ascii) (field_of bundle_control 4 (completed v addenda s)) ≡ v.blank
  unfolding completed
  blank-back asked = by (eqb v.type 70) refl asked
    where
      by : (c : Bool) → eqb v.type 70 ≡ c → v.blank ≡ (c && v.blank)
          → c && every (is_blank Ascii) (field_of bundle_control 4 (completed v addenda s)) ≡ v.blank
      by true q a =
          let u = capped_figures s in
          ap (λ (k : Layout). every (is_blank Ascii) (field_of bundle_control 4 (fixed_part v addenda u k.lines v.fields ++ all_parts v.parts)))
          (control-layout v.type (eqb-true v.type 70 q))
          ∙ ap (every (is_blank Ascii)) (micr-stands u v.fields (all_parts v.parts))
          ∙ micr-blank u
      by false q a = sym a

  opened : completed v addenda s ≡ fixed_part v addenda (capped_figures s) (layout_of v.type).lines v.fields ++ all_parts v.parts
  unfolding completed
  opened = refl

  pub record-back : Shaped v → Asked v → first_unfit v addenda (layout_of v.type).lines v.fields ≡ 0 → every_here v.parts ≡ true
      → values_of_body Ascii (completed v addenda s) ≡ v
  unfolding values_of_body values_at
  record-back shaped asked fit lie =
      let body = completed v addenda s in
      let k = layout_of v.type in
      let fields : fields_given Ascii body 0 k.lines ≡ v.fields =
      fields_back v addenda (capped_figures s) body (all_parts v.parts) 0 k.lines v.fields (every-layout (λ k. end_to_end 0 k.lines) v.type refl)
      shaped.fields fit opened in
      let parts : parts_given Ascii body k.fixed_length (sized_parts k) (map (λ (s : Sized). stated_size Ascii s body) (sized_parts k)) ≡ v.parts =
      parts-back body k.fixed_length (completed-states v addenda s shaped fit) lie (parts-behind v addenda s shaped fit) in
      rw (completed-type v addenda s (fit-type v addenda fit), blank-back asked, zero-add k.fixed_length, fields, parts)
