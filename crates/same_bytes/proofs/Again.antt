-- Good records, given as their values, are made again one behind the other, and each is good behind those before it. Assumes nothing.
use Prim.Native.Nat.{ℕ, ◌+◌, ◌≤◌}
use native.Mathlib.Omega.{arith}
use mathlib.Core.Bool.{true}
use mathlib.Core.Path.{◌≡◌, refl, sym, ap, ap₂, ◌∙◌, subst}
use mathlib.Core.List.{List, [], ◌∷◌, ◌++◌, map, append_assoc, append-nil}
use lib.ListN.{length, length-append}
use lib.Seq.{drop-append-le, drop_at}
use borrow.Author.Tests.{eq-eqb}
use Rattle.text.specs.CharacterSet.{set_of}
use Rattle.text.specs.declared.character_set.CharacterSet.{CharacterSet}
use Rattle.text.specs.declared.character_set.CharacterSet.TheVariants.{Ascii}
use Rattle.layout.specs.Layout.{sized_parts}
use Rattle.judge.specs.Alone.{type_of, first_wrong}
use Rattle.order.specs.MayFollow.{may_follow}
use Rattle.standing.specs.History.{Entry, entry}
use Rattle.standing.specs.Standing.{standing}
use Rattle.standing.specs.declared.Standing.{Standing}
use Rattle.passes.specs.CheckOrder.{agreement}
use Rattle.passes.specs.Answers.{Turn}
use Rattle.passes.proofs.Passed.{passed}
use Rattle.file_as_records.specs.Framed.{Body, length_field, framed}
use Rattle.file_as_records.proofs.Figures.{last_in}
use Rattle.file_as_records.proofs.Good.{Good, GoodAll, onto, totals_after}
use Rattle.file_as_records.proofs.Held.{HeldAt, Held, extent, entries, over, stands}
use Rattle.file_as_records.proofs.Opened.{AllOpened, none-opened, all-opened}
use Rattle.file_as_records.proofs.ReadThrough.{body_is}
use Rattle.file_as_records.proofs.Steps.{good_turn}
use Rattle.arrangement.specs.Tree.{File}
use Rattle.arrangement.specs.Written.{records}
use Rattle.arrangement.specs.Sound.{Sound}
use Rattle.arrangement.specs.Arranged.{Arranges}
use Rattle.arrangement.specs.RowsAndTotals.{totals}
use Rattle.arrangement.proofs.TotalsAgree.{totals-of}
use Rattle.arrangement.proofs.SoundTyped.{sound-typed}
use Rattle.arrangement.proofs.Goodness.{sound-good}
use Rattle.draft.specs.Outcomes.{Written}
use Rattle.draft.specs.Values.{Values, layout_of, values_at, values_of_body, values_of}
use Rattle.draft.specs.Completed.{addenda_behind, first_unfit, first_unfit_part}
use Rattle.draft.specs.Drafted.{body_of, file_with, past_with, completed_from, made, field_fault, turn_of_row, after_turn, rows_ended, answer_from}
use Rattle.same_bytes.proofs.Itself.{completed-itself}
use Rattle.passes.specs.Answers as turns

-- the bytes of records, the newest first
abbrev pub before : List Body → List ℕ
before [] = []
before (b ∷ past) = before past ++ framed (b ∷ [])

pub long-before : (past : List Body) → length (before past) ≡ extent past
long-before [] = refl
long-before (b ∷ past) = omega (arith, long-before past, length-append (before past) (framed (b ∷ [])), length-append b [])

pub before-onto : (bs past : List Body) → before (onto bs past) ≡ before past ++ framed bs
before-onto [] past = sym (append-nil (before past))
before-onto (b ∷ bs) past =
    before-onto bs (b ∷ past) ∙ append_assoc (before past) (framed (b ∷ [])) (framed bs)
    ∙ ap (λ (x : List ℕ). before past ++ (length_field (length b) ++ x)) (append_assoc b [] (framed bs))

-- what stands in a file stands in a longer one
pub held_more : (file more : List ℕ) (past : List Body) → extent past ≤ length file → Held Ascii file past → Held Ascii (file ++ more) past
held_more file more [] long h = tt
held_more file more (b ∷ past) long h = (
  record {
    rest = h.0.rest ++ more;
    body =
        drop-append-le (extent past + 4) file more (omega (arith, long)) ∙ ap (λ (x : List ℕ). x ++ more) h.0.body
        ∙ append_assoc b h.0.rest more;
    sound = h.0.sound;
  },
  held_more file more past (omega (arith, long)) h.1,
)

module _ (past : List Body) (older : Held Ascii (before past) past) (b : Body) (g : Good Ascii past b) where
  pub held-here : HeldAt Ascii (before (b ∷ past)) (extent past) b
  held-here =
      record {
        rest = [];
        body = body_is (before (b ∷ past)) (extent past) b [] (drop_at (before past) (framed (b ∷ [])) (extent past) (long-before past));
        sound = g.alone;
      }

  pub held-older : Held Ascii (before (b ∷ past)) past
  held-older = held_more (before past) (framed (b ∷ [])) past (omega (arith, long-before past)) older

  pub agrees : AllOpened Ascii past → agreement Ascii (before (b ∷ past)) (over Ascii past) (extent past) (type_of Ascii b) ≡ turns.Good (type_of Ascii b)
  unfolding agreement
  agrees opened =
      let p = passed Ascii
      (good_turn Ascii (before (b ∷ past)) past held-older opened (extent past) b held-here g) in
      rw (p.linked, p.totalled)

-- a row whose record is completed as b
module _ (v : Values) (vs : List Values) (file : List ℕ) (es : List Entry) (b : Body) (same : body_of v vs file es ≡ b) where
  pub turn-good : (s : Standing) → standing Ascii file es ≡ s → may_follow s.inside s.last s.present v.type ≡ true
      → first_unfit v (addenda_behind v.type vs) (layout_of v.type).lines v.fields ≡ 0 → first_wrong Ascii (layout_of v.type).lines b ≡ 0
      → first_unfit_part (sized_parts (layout_of v.type)) v.parts ≡ 0
      → agreement Ascii (file ++ framed (b ∷ [])) s (length file) v.type ≡ turns.Good v.type
      → turn_of_row v vs file es (standing Ascii file es) ≡ turns.Good v.type
  unfolding turn_of_row field_fault
  turn-good s e follows fit right parts agree = rw (same, e, follows, fit, right, parts) agree

-- records behind those of past
record AgainFrom (past bs : List Body) : Type 0 where
  same : completed_from (map (values_of_body Ascii) bs) (before past) (entries Ascii past) ≡ before (onto bs past)
  answer : answer_from (map (values_of_body Ascii) bs) (before past) (entries Ascii past)
      ≡ Written (length (before (onto bs past))) (totals_after Ascii (onto bs past))

module _ (past : List Body) (older : Held Ascii (before past) past) (opened : AllOpened Ascii past) (b : Body) (bs : List Body)
    (g : GoodAll Ascii past (b ∷ bs)) where
  abbrev here : Values
  here = values_of_body Ascii b

  abbrev behind : List Values
  behind = map (values_of_body Ascii) bs

  stood : standing Ascii (before past) (entries Ascii past) ≡ over Ascii past
  stood = stands Ascii (before past) past older

  body-again : body_of here behind (before past) (entries Ascii past) ≡ b
  unfolding values_of_body values_at
  body-again = rw stood (completed-itself past b bs g).same

  file-again : file_with here behind (before past) (entries Ascii past) ≡ before (b ∷ past)
  file-again = ap (λ (x : Body). before past ++ framed (x ∷ [])) body-again

  past-again : past_with here behind (before past) (entries Ascii past) ≡ entries Ascii (b ∷ past)
  unfolding values_of_body values_at
  past-again =
      ap₂ (λ (at : ℕ) (x : Body). entry (type_of Ascii b) at (length x) ∷ entries Ascii past) (long-before past) body-again

  turn-again : turn_of_row here behind (before past) (entries Ascii past) (standing Ascii (before past) (entries Ascii past)) ≡ turns.Good (type_of Ascii b)
  unfolding values_of_body values_at
  turn-again =
      let own = completed-itself past b bs g in
      turn-good here behind (before past) (entries Ascii past) b body-again (over Ascii past) stood g.first.follows own.fit own.fields own.parts
      (rw (long-before past) (agrees past older b g.first opened))

  -- one record, and those behind it
  again-and : AgainFrom (b ∷ past) bs → AgainFrom past (b ∷ bs)
  unfolding completed_from answer_from
  again-and others =
      record {
        same = ap₂ (completed_from behind) file-again past-again ∙ others.same;
        answer =
            ap (λ (turn : Turn).
            after_turn (before past) (entries Ascii past) turn
            (answer_from behind (file_with here behind (before past) (entries Ascii past)) (past_with here behind (before past) (entries Ascii past))))
            turn-again
            ∙ ap₂ (answer_from behind) file-again past-again
            ∙ others.answer;
      }

again : (bs past : List Body) → Held Ascii (before past) past → AllOpened Ascii past → GoodAll Ascii past bs → AgainFrom past bs
unfolding completed_from answer_from rows_ended
again [] past older opened g =
    record { same = refl; answer = rw (stands Ascii (before past) past older, eq-eqb (last_in Ascii past) 99 g) }
again (b ∷ bs) past older opened g =
    again-and past older opened b bs g
    (again bs (b ∷ past) (held-here past older b g.first, held-older past older b g.first)
    (all-opened Ascii b past opened g.first.follows) g.rest)

-- all the records of a file
pub all-again : (bs : List Body) → GoodAll Ascii [] bs
    → (made (map (values_of_body Ascii) bs) ≡ framed bs)
    × (answer_from (map (values_of_body Ascii) bs) [] [] ≡ Written (length (framed bs)) (totals_after Ascii (onto bs [])))
unfolding made
all-again bs g =
    let whole = again bs [] tt (none-opened Ascii) g in
    let bytes = before-onto bs [] in
    (whole.same ∙ bytes, whole.answer ∙ ap (λ (x : List ℕ). Written (length x) (totals_after Ascii (onto bs []))) bytes)

-- an accepted ASCII file, given as its values, is made again byte for byte
pub same-in-ascii : (file : List ℕ) (x : File) → Arranges file x → set_of file ≡ Ascii
    → (made (values_of Ascii x) ≡ file) × (answer_from (values_of Ascii x) [] [] ≡ Written (length file) (totals Ascii x))
unfolding values_of
same-in-ascii file x a e =
    let sound : Sound Ascii x = subst (λ (set : CharacterSet). Sound set x) e a.sound in
    let whole = all-again (records x) (sound-good Ascii x sound) in
    (whole.0 ∙ a.bytes, whole.1 ∙ ap₂ Written (ap length a.bytes) (totals-of Ascii x (sound-typed Ascii x sound) sound))
