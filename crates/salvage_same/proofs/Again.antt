-- What is written of a torn file, salvaged again, is the same. Assumes nothing.
use Prim.Native.Nat.{ℕ, ◌*◌, ◌≤◌}
use native.Mathlib.Omega.{arith}
use mathlib.Core.Path.{◌≡◌, sym, ap, ap₂, ◌∙◌, subst}
use mathlib.Core.List.{List, [], ◌∷◌}
use lib.ListN.{length, take}
use Rattle.text.specs.CharacterSet.{set_of}
use Rattle.text.specs.declared.character_set.CharacterSet.{CharacterSet}
use Rattle.text.specs.declared.character_set.CharacterSet.TheVariants.{Ascii}
use Rattle.judge.specs.Alone.{type_of}
use Rattle.ascii_copy.specs.AsciiCopy.{copied_from, ascii_copy}
use Rattle.passes.specs.declared.Totals.{Totals}
use Rattle.passes.specs.Reading.{surveyed}
use Rattle.file_as_records.specs.Framed.{Body, framed}
use Rattle.file_as_records.proofs.Figures.{inside_in, last_in}
use Rattle.file_as_records.proofs.Good.{GoodAll}
use Rattle.arrangement.specs.Tree.{File}
use Rattle.arrangement.specs.Written.{records}
use Rattle.arrangement.specs.Arranged.{Arranges}
use Rattle.arrangement.specs.RowsAndTotals.{totals}
use Rattle.arrangement.proofs.Turns.{follows-in}
use Rattle.arrangement.proofs.Shape.{Chain, shape_of}
use Rattle.arrangement.proofs.Soundness.{good-sound}
use Rattle.arrangement.proofs.Theorem.{arranged-accepted}
use Rattle.same_bytes.proofs.Found.{accepted-good}
use Rattle.draft.specs.Outcomes.{Written}
use Rattle.draft.specs.Values.{Values}
use Rattle.draft.specs.Drafted.{made, answer_from}
use Rattle.draft.proofs.Shapes.{AllShaped}
use Rattle.made_is_read.proofs.Whole.{accepted}
use Rattle.values_back.proofs.Whole.{bodies_from, framed-from}
use Rattle.salvage_model.specs.Salvaged.{values_left, salvage_outcome, salvage_buffer}
use Rattle.salvage_written.proofs.Values.{shaped-left}
use Rattle.salvage_written.proofs.Accepted.{written-through, file-first}
use Rattle.salvage_same.proofs.Lost.{answer-own, bytes-own}
use Rattle.passes.specs.Answers as answers

good-chain : (set : CharacterSet) (past bs : List Body) → GoodAll set past bs → Chain set (inside_in set past) (last_in set past) bs
good-chain set past [] g = g
good-chain set past (b ∷ bs) g = (follows-in set (type_of set b) past b g.first, good-chain set (b ∷ past) bs g.rest)

-- good records have an arrangement
arranged : (bs : List Body) → length (framed bs) ≤ 268_435_456 → GoodAll (set_of (framed bs)) [] bs → (x : File) × Arranges (framed bs) x
arranged bs small g =
    let set = set_of (framed bs) in
    let s = shape_of set bs (good-chain set [] bs g) in
    let own = subst (λ (cs : List Body). GoodAll set [] cs) (sym s.written_out) g in
    (s.file, record { sound = good-sound set s.file s.typed own; bytes = ap framed s.written_out; size = small })

same-totals : {t u : Totals} → answers.Accepted t ≡ answers.Accepted u → t ≡ u
same-totals e = cc

copy-itself : (file : List ℕ) → set_of file ≡ Ascii → ascii_copy file ≡ file
copy-itself file e = ap (λ (set : CharacterSet). copied_from set file) e

-- a file that the writer made
module _ (vs : List Values) (n : ℕ) (t : Totals) (shapes : AllShaped vs) (is : answer_from vs [] [] ≡ Written n t) (small : n ≤ 268_435_456) where
  framed-made : framed (bodies_from vs [] []) ≡ made vs
  unfolding made
  framed-made = sym (framed-from vs [] [])

  made-arranged : (x : File) × Arranges (made vs) x
  made-arranged =
      let a = accepted vs shapes is small in
      let bs = bodies_from vs [] [] in
      let little : length (framed bs) ≤ 268_435_456 = omega (arith, ap length framed-made, a.0, small) in
      subst (λ (file : List ℕ). (x : File) × Arranges file x) framed-made
      (arranged bs little (accepted-good bs t little (ap surveyed framed-made ∙ a.2)))

  same-again : (room : List ℕ) (rows : ℕ) → n ≤ length room → 4 * t.records.0 ≤ rows
      → (salvage_outcome (made vs) (length room) rows ≡ Written n t) × (take n (salvage_buffer (made vs) room rows) ≡ made vs)
  same-again room rows h r =
      let a = accepted vs shapes is small in
      let (x, arranges) = made-arranged in
      let read = arranged-accepted (made vs) x arranges in
      let same : totals (set_of (made vs)) x ≡ t = same-totals (sym read.answer ∙ a.2) in
      let count = ap (λ (u : Totals). u.records.0) same in
      let fits : length (made vs) ≤ length room = omega (arith, a.0, h) in
      let enough : 4 * length (records x) ≤ rows = omega (arith, count, r) in (
        answer-own (made vs) room rows x arranges fits enough ∙ ap₂ Written (sym a.0) same,
        ap (λ (k : ℕ). take k (salvage_buffer (made vs) room rows)) a.0
            ∙ bytes-own (made vs) room rows x arranges fits enough
            ∙ copy-itself (made vs) a.1,
      )

-- the promise
pub salvaged-again : (file out : List ℕ) (list_length n : ℕ) (t : Totals) → salvage_outcome file (length out) list_length ≡ Written n t → (room : List ℕ) (rows : ℕ)
    → n ≤ length room → 4 * t.records.0 ≤ rows
    → (salvage_outcome (take n (salvage_buffer file out list_length)) (length room) rows ≡ Written n t)
    × (take n (salvage_buffer (take n (salvage_buffer file out list_length)) room rows) ≡ take n (salvage_buffer file out list_length))
salvaged-again file out list_length n t e room rows h r =
    let w = (written-through file out list_length n t e).written in
    subst
    (λ (f : List ℕ). (salvage_outcome f (length room) rows ≡ Written n t) × (take n (salvage_buffer f room rows) ≡ f))
    (sym (file-first file out list_length n t e))
    (same-again (values_left file) n t (shaped-left file) w.is w.small room rows h r)
