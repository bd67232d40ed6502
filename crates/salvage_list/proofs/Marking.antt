-- The marks one after the other, from where a plan stands to the end: whether any is kept, and their rows in a list. Assumes nothing.
use Prim.Native.Nat.{ℕ, ◌+◌, ◌*◌, ◌≤◌, ◌<◌}
use native.Mathlib.Nat.{add_assoc, zero-add}
use native.Mathlib.Omega.{arith}
use mathlib.Core.Bool.{Bool, true, false, ◌||◌}
use mathlib.Core.List.{List, [], ◌∷◌, ◌++◌, append_assoc}
use mathlib.Core.Path.{◌≡◌, refl, sym, ap, ap₂, ◌∙◌}
use lib.ListN.{length, take, drop, length-append, take-append-drop}
use lib.Seq.{sets, length-sets, sets-eq, length-take-le, take_at, drop_at, drop-drop}
use Rattle.text.specs.declared.character_set.CharacterSet.{CharacterSet}
use Rattle.salvage_model.specs.Kept.{Marked}
use Rattle.salvage_model.specs.Salvaged.{status_of, fault_number, listed}
use Rattle.salvage_marks.specs.declared.Fate as code
use Rattle.salvage_marks.specs.declared.Fate.TheVariants.{Kept, MadeNew, Dropped}
use Rattle.salvage_marks.specs.declared.Plan.{Plan}
use Rattle.salvage_marks.specs.declared.Marking.{Marking}
use Rattle.salvage_marks.specs.Left.{meant, is_kept, Left, Planned, NextMark}
use Rattle.salvage_marks.proofs.Marks.{left-none}
use Rattle.salvage_made.specs.ByMarks.{is_kept_fate, any_marked}
use Rattle.salvage_list.specs.Listable.{Listable}

-- what is kept, as the model says it
kept-fate : (f : code.Fate) → is_kept_fate (meant f) ≡ is_kept f
kept-fate Kept = refl
kept-fate MadeNew = refl
kept-fate (Dropped fault) = refl

-- a run of numbers in a list, from a place on; the list is as it was before and behind it
abbrev pub filled : List ℕ → ℕ → List ℕ → List ℕ
filled list row numbers = take row list ++ (numbers ++ drop (length numbers) (drop row list))

filled_none : (list : List ℕ) (row : ℕ) → filled list row [] ≡ list
filled_none list row = take-append-drop row list

-- four of them stored, and then the others
filled_more : (list : List ℕ) (row : ℕ) (four others : List ℕ) → row + length four ≤ length list
    → filled (sets list row four) (row + length four) others ≡ filled list row (four ++ others)
filled_more list row four others h =
    let before : List ℕ = take row list ++ four in
    let long : length before ≡ row + length four =
    length-append (take row list) four ∙ ap (λ (n : ℕ). n + length four) (length-take-le row list (omega arith)) in
    let stored : sets list row four ≡ before ++ drop (row + length four) list = sets-eq four list row h in
    let rest = drop (row + length four) list in
    ap (λ (l : List ℕ). filled l (row + length four) others) stored
    ∙ ap₂ (λ (x y : List ℕ). x ++ (others ++ drop (length others) y)) (take_at before rest (row + length four) long) (drop_at before rest (row + length four) long)
    ∙ append_assoc (take row list) four (others ++ drop (length others) rest)
    ∙ ap (λ (l : List ℕ). take row list ++ l)
    (sym (append_assoc four others (drop (length others) rest))
    ∙ ap (λ (l : List ℕ). (four ++ others) ++ l)
    (drop-drop (length others) (row + length four) list
    ∙ ap (λ (n : ℕ). drop n list) (add_assoc row (length four) (length others) ∙ ap (λ (n : ℕ). row + n) (sym (length-append four others)))
    ∙ sym (drop-drop (length (four ++ others)) row list)))

module _ (set : CharacterSet) (file : List ℕ) (end : ℕ) (from : Plan) where
  -- what a step tells of the marks that are left
  abbrev pub Steps : Plan → Marking → Type 0
  Steps p r = (ms : List Marked) → Left set file end p ms → NextMark set file end p ms r

  pub step-onward : (p : Plan) (r : Marking) → Steps p r → Planned set file end p → p.at < r.next.at
  step-onward p r step v = omega (arith, (step v.marks v.left).at)

  -- at the head of the first loop: what is left, of which any is kept where any is of all
  pub record Looking (p : Plan) (ms : List Marked) : Type 0 where
    pub left : List Marked
    pub stands : Left set file end p left
    pub same : any_marked left ≡ any_marked ms

  abbrev pub Looks : Plan → Type 0
  Looks p = (ms : List Marked) → Left set file end from ms → Looking p ms

  pub looks-first : Looks from
  looks-first ms v = record { left = ms; stands = v; same = refl }

  module _ {p : Plan} (looks : Looks p) where
    pub looks-planned : Planned set file end from → Planned set file end p
    looks-planned v = record { marks = (looks v.marks v.left).left; left = (looks v.marks v.left).stands }

    pub looks-end : end ≤ p.at → (ms : List Marked) → Left set file end from ms → false ≡ any_marked ms
    looks-end h ms v =
        let k = looks ms v in
        sym (ap any_marked (left-none set file end p k.left k.stands h)) ∙ k.same

    module _ {r : Marking} (step : Steps p r) where
      pub looks-kept : is_kept r.fate ≡ true → (ms : List Marked) → Left set file end from ms → true ≡ any_marked ms
      looks-kept e ms v =
          let k = looks ms v in
          let n = step k.left k.stands in
          let is : is_kept_fate n.fate ≡ true = ap is_kept_fate (sym n.told) ∙ kept-fate r.fate ∙ e in
          sym (ap (λ (b : Bool). b || any_marked n.others) is) ∙ sym (ap any_marked n.is) ∙ k.same

      pub looks_on : is_kept r.fate ≡ false → Looks r.next
      looks_on e ms v =
          let k = looks ms v in
          let n = step k.left k.stands in
          let no : is_kept_fate n.fate ≡ false = ap is_kept_fate (sym n.told) ∙ kept-fate r.fate ∙ e in
          record {
            left = n.others;
            stands = n.left;
            same = sym (ap (λ (b : Bool). b || any_marked n.others) no) ∙ sym (ap any_marked n.is) ∙ k.same;
          }

  -- at the head of the second: the rows so far, and those of what is left, are the whole list
  pub record Listing (list₀ : List ℕ) (p : Plan) (row : ℕ) (list : List ℕ) (ms : List Marked) : Type 0 where
    pub left : List Marked
    pub stands : Left set file end p left
    pub counted : row + 4 * length left ≡ 4 * length ms
    pub same : filled list₀ 0 (listed set from.at ms) ≡ filled list row (listed set p.at left)

  pub record Lists (list₀ : List ℕ) (p : Plan) (row : ℕ) (list : List ℕ) : Type 0 where
    pub long : length list ≡ length list₀
    pub onward : (ms : List Marked) → Left set file end from ms → Listing list₀ p row list ms

  pub lists-first : (list : List ℕ) → Lists list from 0 list
  lists-first list = record { long = refl; onward = λ ms v. record { left = ms; stands = v; counted = zero-add (4 * length ms); same = refl } }

  module _ {list₀ : List ℕ} {p : Plan} {row : ℕ} {list : List ℕ} (lists : Lists list₀ p row list) where
    pub lists-end : end ≤ p.at → (ms : List Marked) → Left set file end from ms
        → list ≡ listed set from.at ms ++ drop (length (listed set from.at ms)) list₀
    unfolding listed
    lists-end h ms v =
        let k = lists.onward ms v in
        sym (k.same ∙ ap (λ (l : List Marked). filled list row (listed set p.at l)) (left-none set file end p k.left k.stands h) ∙ filled_none list row)

    module _ (v : Listable set file end from (length list₀)) where
      pub lists-planned : Planned set file end p
      lists-planned = let k = lists.onward v.marks v.left in record { marks = k.left; left = k.stands }

      module _ {r : Marking} (step : Steps p r) where
        pub lists-room : row + 4 ≤ length list
        lists-room =
            let k = lists.onward v.marks v.left in
            omega (arith, k.counted, ap length (step k.left k.stands).is, v.within, lists.long)

        pub lists-on : {after : List ℕ} → after ≡ sets list row (p.at ∷ r.kind ∷ status_of (meant r.fate) ∷ fault_number (meant r.fate) ∷ []) → Lists list₀ r.next (row + 4) after
        unfolding listed
        lists-on {after} e = record {
          long = ap length e ∙ length-sets list row (p.at ∷ r.kind ∷ status_of (meant r.fate) ∷ fault_number (meant r.fate) ∷ []) ∙ lists.long;
          onward = λ ms w.
              let k = lists.onward ms w in
              let n = step k.left k.stands in
              let four : List ℕ = p.at ∷ r.kind ∷ status_of (meant r.fate) ∷ fault_number (meant r.fate) ∷ [] in
              record {
                left = n.others;
                stands = n.left;
                counted = omega (arith, k.counted, ap length n.is);
                same =
                    k.same
                    ∙ ap (λ (l : List Marked). filled list row (listed set p.at l)) n.is
                    ∙ sym (rw (n.kind, n.told, n.at) refl)
                    ∙ sym (filled_more list row four (listed set r.next.at n.others) lists-room)
                    ∙ ap (λ (l : List ℕ). filled l (row + 4) (listed set r.next.at n.others)) (sym e);
              };
        }
