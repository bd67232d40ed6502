-- The rows of the reading are those of the arrangement. Assumes nothing.
use Prim.Native.Nat.{ℕ, ◌+◌}
use native.Mathlib.Omega.{arith}
use mathlib.Core.Path.{◌≡◌, refl, ap, ◌∙◌}
use mathlib.Core.Bool.{Bool, true, false, cond}
use mathlib.Core.List.{List, [], ◌∷◌}
use Rattle.text.specs.declared.character_set.CharacterSet.{CharacterSet}
use Rattle.layout.specs.Layouts.{bundle_control, cash_letter_control, file_control}
use Rattle.measure.specs.Measures.{capped}
use Rattle.file_as_records.specs.Framed.{Body}
use Rattle.file_as_records.proofs.Good.{rows_all}
use Rattle.file_as_records.proofs.Figures.{is, never, debit_as, debit_since}
use Rattle.arrangement.specs.Tree.{Addenda, of_check, of_return, of_credit, Item, Content, bundled, direct, CashLetter, File}
use Rattle.arrangement.specs.Written.{addenda_then, views_then, item_then, items_then, contents_then, letters_then, records}
use Rattle.arrangement.specs.Sound.{All, layout_in, layout_of, amount_in, debit_cents, of_bundle, of_letter, of_file, SoundContent, SoundLetter, Sound}
use Rattle.arrangement.specs.TypesInPlace.{OfType, TypedItem, TypedContent, TypedLetter, Typed}
use Rattle.arrangement.specs.RowsAndTotals.{Placed, placed, alike_then, item_places, content_places, letter_places, places, rows}
use Rattle.arrangement.proofs.After.{after_item, after_items, after_bundle, after_contents, after_letter, after_letters, as_item}
use Rattle.arrangement.proofs.Quiet.{Quiet, item_of, quiet_step}
use Rattle.arrangement.proofs.Counting.{adding}
use Rattle.arrangement.proofs.Levels.{bundle-figures, letter-figures, file-figures}
use Rattle.arrangement.proofs.Places.{Agree, Alike, Seat, Stands, alike-addenda, alike-views, bundle-ordinal, row-then, stands_on}
use Rattle.arrangement.proofs.TotalsAgree.{stated-whole}

-- an item, in a bundle or directly in a cash letter, where it is the item n + 1
module _ (set : CharacterSet) (inside : Bool) (l o n : ℕ) where
  item-stands : {past : List Body} (a : Addenda) (d : Body) → OfType set (layout_in a).type_number d → Stands set past inside l o n
      → Stands set (d ∷ past) inside l o (n + 1)
  item-stands (of_check _ _ _) d k s = stands_on set d 25 k s refl (omega arith) (omega arith) (omega arith)
  item-stands (of_return _ _ _ _) d k s = stands_on set d 31 k s refl (omega arith) (omega arith) (omega arith)
  item-stands of_credit d k s = stands_on set d 61 k s refl (omega arith) (omega arith) (omega arith)

  item-seat : (past : List Body) (a : Addenda) (d : Body)
      → Seat set (layout_in a).type_number inside l o (n + 1) past (placed l (cond inside o 0) (cond inside (n + 1) 0) (amount_in set a d) d)
  item-seat past (of_check _ _ _) d = record { letter = refl; bundle = bundle-ordinal inside o; item = refl; amount = refl }
  item-seat past (of_return _ _ _ _) d = record { letter = refl; bundle = bundle-ordinal inside o; item = refl; amount = refl }
  item-seat past of_credit d = record { letter = refl; bundle = bundle-ordinal inside o; item = refl; amount = refl }

  item-agrees : {past rest : List Body} {ps : List Placed} (i : Item) → TypedItem set i → Stands set past inside l o n
      → (Stands set (after_item past i) inside l o (n + 1) → Agree set (after_item past i) rest ps)
      → Agree set past (item_then i rest) (placed l (cond inside o 0) (cond inside (n + 1) 0) (amount_in set i.addenda i.detail) i.detail
      ∷ alike_then l (cond inside o 0) (cond inside (n + 1) 0) (addenda_then i.addenda (views_then i.views [])) ps)
  item-agrees {past} {rest} {ps} i k s others =
      let s' : Stands set (i.detail ∷ past) inside l o (n + 1) = item-stands i.addenda i.detail k.detail s in
      let next : Alike set inside l o (n + 1) ps (after_item past i) rest [] = record { agree = others } in
      row-then set (placed l (cond inside o 0) (cond inside (n + 1) 0) (amount_in set i.addenda i.detail) i.detail) (layout_of i).type_number
      k.detail s' (item-seat (i.detail ∷ past) i.addenda i.detail)
      ((alike-addenda set inside l o (n + 1) ps i.addenda k.addenda (alike-views set inside l o (n + 1) ps i.views k.views next)).agree s')

-- the items of a bundle from ordinal n + 1 on; what follows agrees wherever they lead
items-agree : (set : CharacterSet) (l o n : ℕ) {past rest : List Body} {ps : List Placed} (items : List Item) → All (TypedItem set) items
    → Stands set past true l o n
    → ((m : ℕ) → Stands set (after_items past items) true l o m → Agree set (after_items past items) rest ps)
    → Agree set past (items_then items rest) (item_places set l o (n + 1) items ps)
items-agree set l o n [] k s others = others n s
items-agree set l o n (i ∷ items) k s others = item-agrees set true l o n i k.0 s (λ s'. items-agree set l o (n + 1) items k.1 s' others)

-- the debit cents in the row of a control: those before it, as they can be stated
control-amount : (set : CharacterSet) (begins : ℕ → Bool) (past : List Body) (c : Body) (t : ℕ) → OfType set t c
    → Quiet (adding begins (debit_as set)) t
    → {n : ℕ} → debit_since set begins past ≡ n → capped n ≡ n → capped (debit_since set begins (c ∷ past)) ≡ n
control-amount set begins past c t k q e whole = ap capped (quiet_step set 0 (adding begins (debit_as set)) past c t k q ∙ e) ∙ whole

-- what a cash letter holds, from its bundle n + 1 on, behind which no bundle is open
contents-agree : (set : CharacterSet) (letter : Body) (l n i : ℕ) {past rest : List Body} {ps : List Placed} (cs : List Content)
    → All (TypedContent set) cs
    → All (SoundContent set letter) cs → Stands set past false l n i
    → ((m j : ℕ) → Stands set (after_contents past cs) false l m j → Agree set (after_contents past cs) rest ps)
    → Agree set past (contents_then cs rest) (content_places set l (n + 1) cs ps)
contents-agree set letter l n i [] k h s others = others n i s
contents-agree set letter l n i {past} (bundled b ∷ cs) k h s others =
    let s' : Stands set (b.header ∷ past) true l (n + 1) 0 = stands_on set b.header 20 k.0.header s refl (omega arith) (omega arith) refl in
    row-then set (placed l (n + 1) 0 0 b.header) 20 k.0.header s' (search)
    (items-agree set l (n + 1) 0 b.items k.0.items s' (λ m t.
    let t' : Stands set (after_bundle past b) false l (n + 1) m =
    stands_on set b.control 70 k.0.control t refl (omega arith) (omega arith) (omega arith) in
    row-then set (placed l (n + 1) 0 (of_bundle (debit_cents set) b) b.control) 70 k.0.control t'
    record {
      letter = refl;
      bundle = refl;
      item = refl;
      amount =
          control-amount set (is 20) (after_items (b.header ∷ past) b.items) b.control 70 k.0.control (omega arith)
          (bundle-figures set b past k.0).debit (stated-whole set bundle_control 3 b.control (omega arith) h.0.debit-cents);
    }
    (contents-agree set letter l (n + 1) m cs k.1 h.1 t' others)))
contents-agree set letter l n i (direct c ∷ cs) k h s others =
    item-agrees set false l n i (as_item c) (item_of set c k.0) s (λ s'. contents-agree set letter l n (i + 1) cs k.1 h.1 s' others)

letters-agree : (set : CharacterSet) (n o i : ℕ) {past rest : List Body} {ps : List Placed} (ls : List CashLetter) → All (TypedLetter set) ls
    → All (SoundLetter set) ls
    → Stands set past false n o i → ((m p j : ℕ) → Stands set (after_letters past ls) false m p j → Agree set (after_letters past ls) rest ps)
    → Agree set past (letters_then ls rest) (letter_places set (n + 1) ls ps)
letters-agree set n o i [] k h s others = others n o i s
letters-agree set n o i {past} (l ∷ ls) k h s others =
    let s' : Stands set (l.header ∷ past) false (n + 1) 0 i = stands_on set l.header 10 k.0.header s refl (omega arith) refl (omega arith) in
    row-then set (placed (n + 1) 0 0 0 l.header) 10 k.0.header s' (search)
    (contents-agree set l.header (n + 1) 0 i l.contents k.0.contents h.0.contents s' (λ m j t.
    let t' : Stands set (after_letter past l) false (n + 1) m j =
    stands_on set l.control 90 k.0.control t refl (omega arith) (omega arith) (omega arith) in
    row-then set (placed (n + 1) 0 0 (of_letter (debit_cents set) l) l.control) 90 k.0.control t'
    record {
      letter = refl;
      bundle = refl;
      item = refl;
      amount =
          control-amount set (is 10) (after_contents (l.header ∷ past) l.contents) l.control 90 k.0.control (omega arith)
          (letter-figures set l past k.0).debit (stated-whole set cash_letter_control 4 l.control (omega arith) h.0.debit-cents);
    }
    (letters-agree set (n + 1) m j ls k.1 h.1 t' others)))

file-agrees : (set : CharacterSet) (x : File) → Typed set x → Sound set x → Agree set [] (records x) (places set x)
file-agrees set x k h =
    let none : Stands set [] false 0 0 0 = record { within = refl; letters = refl; opened = refl; items = refl } in
    let s : Stands set (x.header ∷ []) false 0 0 0 = stands_on set x.header 1 k.header none refl refl refl refl in
    row-then set (placed 0 0 0 0 x.header) 1 k.header s (search)
    (letters-agree set 0 0 0 x.letters k.letters h.letters s (λ m p j t.
    let t' : Stands set (x.control ∷ after_letters (x.header ∷ []) x.letters) false m p j =
    stands_on set x.control 99 k.control t refl (omega arith) (omega arith) (omega arith) in
    row-then set (placed 0 0 0 (of_file (debit_cents set) x) x.control) 99 k.control t'
    record {
      letter = refl;
      bundle = refl;
      item = refl;
      amount =
          control-amount set never (after_letters (x.header ∷ []) x.letters) x.control 99 k.control (omega arith)
          (file-figures set x k).debit (stated-whole set file_control 5 x.control (omega arith) h.debit-cents);
    }
    record { rows-from = λ at. refl }))

pub rows-of : (set : CharacterSet) (x : File) → Typed set x → Sound set x → rows_all set 0 [] (records x) ≡ rows set x
rows-of set x k h = (file-agrees set x k h).rows-from 0
