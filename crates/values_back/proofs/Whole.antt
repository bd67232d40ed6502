-- Reading what was made out of a draft gives back the values that were given. Assumes nothing.
use Prim.Native.Nat.{ℕ, zero, suc, ◌/◌, ◌≤◌}
use native.Mathlib.Omega.{arith}
use mathlib.Core.Bool.{Bool, true, false, ◌&&◌}
use mathlib.Core.List.{List, [], ◌∷◌, ◌++◌, map, append_assoc, append-nil}
use mathlib.Core.Path.{◌≡◌, refl, sym, ap, ap₂, ◌∙◌}
use lib.Dec.{eqb}
use lib.ListN.{length, get_or, take, drop}
use borrow.Author.Tests.{eqb-true}
use Rattle.text.specs.declared.character_set.CharacterSet.{CharacterSet}
use Rattle.text.specs.declared.character_set.CharacterSet.TheVariants.{Ascii}
use Rattle.judge.proofs.Laws.{both_true}
use Rattle.standing.specs.History.{Entry}
use Rattle.standing.specs.Standing.{standing}
use Rattle.passes.specs.declared.Totals.{Totals}
use Rattle.file_as_records.specs.Framed.{Body, length_field, framed}
use Rattle.file_as_records.proofs.LengthFields.{one-framing}
use Rattle.arrangement.specs.Tree.{File}
use Rattle.arrangement.specs.Written.{records}
use Rattle.arrangement.specs.Arranged.{Arranges}
use Rattle.draft.specs.Outcomes.{Written}
use Rattle.draft.specs.Values.{Values, layout_of, values_at, values_of_row, values_of_rows, set_of_text, values_of_draft, values_of_body, values_of}
use Rattle.draft.specs.Completed.{addenda_behind, first_unfit}
use Rattle.draft.specs.Drafted.{body_of, file_with, past_with, completed_from, made, answer_from}
use Rattle.draft.specs.Promises.{ReadBack, every_here, all_fit}
use Rattle.draft.proofs.Shapes.{AllShaped, shaped-draft}
use Rattle.made_is_read.proofs.Whole.{written-fits, accepted, read_back}
use Rattle.values_back.proofs.Record.{Asked, record-back}

-- a draft asks for a blank MICR total in a 70 alone
abbrev pub AllAsked : List Values → Type 0
AllAsked [] = Unit {0}
AllAsked (v ∷ vs) = Asked v × AllAsked vs

pub asked-at : (set : CharacterSet) (text : List ℕ) (t : ℕ) (blank : Bool) (start : ℕ) (sizes : List ℕ) → Asked (values_at set text t blank start sizes)
unfolding values_at
asked-at set text t blank start sizes = twice (eqb t 70)
  where
    twice : (b : Bool) → b && blank ≡ b && (b && blank)
    twice true = refl
    twice false = refl

asked-rows : (set : CharacterSet) (text : List ℕ) (n : ℕ) (numbers : List ℕ) → AllAsked (values_of_rows set text n numbers)
unfolding values_of_rows values_of_row
asked-rows set text zero numbers = tt
asked-rows set text (suc n) numbers =
    (asked-at set text (get_or numbers 0 0) _ (get_or numbers 1 0) (take 7 (drop 3 numbers)), asked-rows set text n (drop 10 numbers))

pub asked-draft : (text draft : List ℕ) → AllAsked (values_of_draft text draft)
unfolding values_of_draft
asked-draft text draft = asked-rows (set_of_text text draft) text (length draft / 10) draft

-- the records of what is made
unfoldable pub bodies_from : List Values → List ℕ → List Entry → List Body
bodies_from [] file past = []
bodies_from (v ∷ vs) file past = body_of v vs file past ∷ bodies_from vs (file_with v vs file past) (past_with v vs file past)

pub framed-from : (vs : List Values) (file : List ℕ) (past : List Entry) → completed_from vs file past ≡ file ++ framed (bodies_from vs file past)
unfolding completed_from bodies_from
framed-from [] file past = sym (append-nil file)
framed-from (v ∷ vs) file past =
    let body = body_of v vs file past in
    let others = framed (bodies_from vs (file_with v vs file past) (past_with v vs file past)) in
    framed-from vs (file_with v vs file past) (past_with v vs file past)
    ∙ append_assoc file (framed (body ∷ [])) others
    ∙ ap (λ (xs : List ℕ). file ++ (length_field (length body) ++ (xs ++ others))) (append-nil body)

-- each gives back its values
pub bodies-back : (vs : List Values) (file : List ℕ) (past : List Entry) → AllShaped vs → AllAsked vs → all_fit vs ≡ true
    → map (values_of_body Ascii) (bodies_from vs file past) ≡ vs
unfolding all_fit bodies_from
bodies-back [] file past shapes asked fit = refl
bodies-back (v ∷ vs) file past shapes asked fit =
    let addenda = addenda_behind v.type vs in
    let lines = both_true (eqb (first_unfit v addenda (layout_of v.type).lines v.fields) 0) (every_here v.parts && all_fit vs) fit in
    let parts = both_true (every_here v.parts) (all_fit vs) lines.1 in
    ap₂ (λ (x : Values) (xs : List Values). x ∷ xs)
    (record-back v addenda (standing Ascii file past) shapes.0 asked.0 (eqb-true _ 0 lines.0) parts.0)
    (bodies-back vs (file_with v vs file past) (past_with v vs file past) shapes.1 asked.1 parts.1)

pub records-back : (vs : List Values) (x : File) → Arranges (made vs) x → records x ≡ bodies_from vs [] []
unfolding made
records-back vs x a = one-framing (records x) (bodies_from vs [] []) (a.bytes ∙ framed-from vs [] []) (omega (arith, ap length a.bytes, a.size))

pub values-back : (vs : List Values) (n : ℕ) (t : Totals) → AllShaped vs → AllAsked vs → answer_from vs [] [] ≡ Written n t → n ≤ 268_435_456
    → (x : File) → Arranges (made vs) x → values_of Ascii x ≡ vs
unfolding values_of
values-back vs n t shapes asked e h x a =
    ap (map (values_of_body Ascii)) (records-back vs x a) ∙ bodies-back vs [] [] shapes asked (written-fits vs [] [] shapes e).0

-- what is written is read back
pub read-back-whole : (text draft : List ℕ) (n : ℕ) (t : Totals) → answer_from (values_of_draft text draft) [] [] ≡ Written n t → n ≤ 268_435_456
    → ReadBack (values_of_draft text draft) t (made (values_of_draft text draft))
read-back-whole text draft n t e h =
    let vs = values_of_draft text draft in
    let shapes = shaped-draft text draft in
    record {
      in-ascii = (accepted vs shapes e h).1;
      read = read_back vs shapes e h;
      its-values = values-back vs n t shapes (asked-draft text draft) e h;
    }
