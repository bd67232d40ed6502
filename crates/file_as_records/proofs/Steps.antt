-- One turn of the reading, by the bodies before a record: it goes on exactly where the record is good. Assumes nothing.
use Prim.Native.Nat.{ℕ, ◌+◌, ◌≤◌}
use mathlib.Core.Bool.{Bool, true, false, ◌&&◌, not, cond}
use mathlib.Core.Path.{◌≡◌, refl, sym, ap, ap₂, ◌∙◌}
use mathlib.Core.List.{List, [], ◌∷◌, ◌++◌}
use lib.Dec.{leb, eqb}
use lib.ListN.{length, drop, take}
use borrow.Author.Tests.{le-leb, leb-true, eqb-true, eq-eqb}
use Rattle.text.specs.declared.character_set.CharacterSet.{CharacterSet}
use Rattle.text.specs.Characters.{is_numeric}
use Rattle.text.specs.DataTypes.{every}
use Rattle.text.specs.Number.{number}
use Rattle.layout.specs.Layouts.{cash_letter_header, bundle_header, check_detail, check_detail_addendum_a, check_detail_addendum_c, return_record, return_addendum_a, return_addendum_d, image_view_data, credit_record, bundle_control, cash_letter_control, file_control}
use Rattle.judge.specs.Alone.{type_of, judged_as}
use Rattle.order.specs.MayFollow.{is_item, is_one_of, carried, is_carried}
use Rattle.standing.specs.History.{field}
use Rattle.standing.specs.declared.Standing.{Standing}
use Rattle.agree.specs.Checks.{Check, check, first_failing}
use Rattle.agree.specs.Links.{same, addenda_kept, annex_b, numbered_on, sequence_of_item, view_links, link_fault}
use Rattle.agree.specs.Totals.{total_fault}
use Rattle.passes.specs.CheckOrder.{agreement, turn_of}
use Rattle.passes.proofs.Passed.{Passed, passed}
use Rattle.file_as_records.specs.Framed.{Body, field_of}
use Rattle.file_as_records.proofs.Figures.{newest, is, inside_in, holder_in, bofd_in, endorser_in, stated_in, addenda_in, indicator_in, opened_in, shown_in, sequence_of}
use Rattle.file_as_records.proofs.CheckLists.{numbered_as, view_checks, link_checks, bundle_checks, letter_checks, file_checks, total_checks, AllHold, ◌and◌, end}
use Rattle.file_as_records.proofs.Good.{Good}
use Rattle.file_as_records.proofs.Held.{HeldAt, Held, fields-held, fields_at, item-long, newest_at, over}
use Rattle.file_as_records.proofs.Tests.{both, under, under-where}
use Rattle.file_as_records.proofs.Opened.{AllOpened, all-opened, has, inside-opened, holder-is, newest-passes}
use Rattle.file_as_records.proofs.LinksByName.{links-out, links-in}
use Rattle.file_as_records.proofs.TotalsByName.{totals-out, totals-in}
use Rattle.agree.specs.Links as links
use Rattle.agree.specs.Totals as totals
use Rattle.passes.specs.Answers as turns

-- the first failing check is none exactly where all of them hold: no check faults a field 0
abbrev numbered : List Check → Bool
numbered [] = true
numbered (c ∷ cs) = not (eqb c.field 0) && numbered cs

none-fails : (cs : List Check) → AllHold cs → first_failing cs ≡ 0
none-fails [] end = refl
none-fails (c ∷ cs) (here and others) = ap (λ (t : Bool). cond t (first_failing cs) c.field) here ∙ none-fails cs others

all_hold_lem : (cs : List Check) → numbered cs ≡ true → first_failing cs ≡ 0 → AllHold cs
all_hold_lem [] n e = end
all_hold_lem (c ∷ cs) n e =
    let tests = both (not (eqb c.field 0)) (numbered cs) n in
    let here = holds-here c.holds c.field (first_failing cs) tests.0 e in
    here.0 and all_hold_lem cs tests.1 here.1
  where
    holds-here : (t : Bool) (field later : ℕ) → not (eqb field 0) ≡ true → cond t later field ≡ 0 → (t ≡ true) × (later ≡ 0)
    holds-here true field later n e = (refl, e)
    holds-here false field later n e = let z = eq-eqb field 0 e in ((cc), (cc))

links-numbered : (set : CharacterSet) (k : ℕ) (past : List Body) (b : Body) → numbered (link_checks set k past b) ≡ true
links-numbered set k past b = cases (eqb k 52)
  where
    cases : (c : Bool) → numbered (cond c (view_checks set past b) []) ≡ true
    cases true = refl
    cases false = refl

totals-numbered : (set : CharacterSet) (k : ℕ) (past : List Body) (b : Body) → numbered (total_checks set k past b) ≡ true
totals-numbered set k past b = cases (eqb k 70) (eqb k 90) (eqb k 99)
  where
    cases : (c d e : Bool)
        → numbered (cond c (bundle_checks set past b) (cond d (letter_checks set past b) (cond e (file_checks set past b) []))) ≡ true
    cases true d e = refl
    cases false true e = refl
    cases false false true = refl
    cases false false false = refl

module _ (set : CharacterSet) {file : List ℕ} {at : ℕ} {b : Body} (past : List Body) (older : Held set file past) (h : HeldAt set file at b) where
  -- the checks of the record at an offset are those of its body
  numbered-same : numbered_on set file (bofd_in set past) (endorser_in set past) (type_of set b) at ≡ numbered_as set (type_of set b) past b
  unfolding numbered_on judged_as
  numbered-same =
      under (eqb (type_of set b) 26) (λ e. ap (states (bofd_in set past + 1)) (fields_at set h check_detail_addendum_a (λ c. refl) refl e 2))
      (under (eqb (type_of set b) 32) (λ e. ap (states (bofd_in set past + 1)) (fields_at set h return_addendum_a (λ c. refl) refl e 2))
      (under (eqb (type_of set b) 28) (λ e. ap (states (endorser_in set past + 1)) (fields_at set h check_detail_addendum_c (λ c. refl) refl e 2))
      (under (eqb (type_of set b) 35) (λ e. ap (states (endorser_in set past + 1)) (fields_at set h return_addendum_d (λ c. refl) refl e 2))
      refl)))
    where
      states : ℕ → List ℕ → Bool
      states value characters = eqb (number set characters) value

  -- a 52 stands behind an item, in a cash letter: their fields, and those of its bundle header, are where the file has them
  bundle-same : inside_in set past ≡ true → (n : ℕ)
      → field bundle_header n file (newest_at set (is 20) past) ≡ field_of bundle_header n (newest set (is 20) past)
  unfolding judged_as
  bundle-same inside =
      let header = newest-passes set file (is 20) past older (inside-opened set past inside) in
      fields_at set header.held bundle_header (λ c. refl) refl header.passes

  header-same : has set (is 10) past ≡ true → (n : ℕ)
      → cond (inside_in set past) (field bundle_header n file (newest_at set (is 20) past)) (field cash_letter_header n file (newest_at set (is 10) past))
      ≡ cond (inside_in set past) (field_of bundle_header n (newest set (is 20) past)) (field_of cash_letter_header n (newest set (is 10) past))
  unfolding judged_as
  header-same letter n =
      let heading = newest-passes set file (is 10) past older letter in
      under (inside_in set past) (λ inside. bundle-same inside n) (fields_at set heading.held cash_letter_header (λ c. refl) refl heading.passes n)

  sequence-same : has set is_item past ≡ true
      → sequence_of_item file (holder_in set past) (newest_at set is_item past) ≡ sequence_of (holder_in set past) (newest set is_item past)
  unfolding judged_as
  sequence-same item =
      let there = newest-passes set file is_item past older item in
      let long = item-long set there.held there.passes in
      under (eqb (holder_in set past) 61) (λ e. fields_at set there.held credit_record (λ c. refl) refl (holder-is set past e) 8)
      (ap₂ (cond (eqb (holder_in set past) 31)) (fields-held set there.held return_record refl long 7)
      (fields-held set there.held check_detail refl long 7))

  views_same : AllOpened set (b ∷ past) → eqb (type_of set b) 52 ≡ true → view_links set file (over set past) at ≡ view_checks set past b
  unfolding judged_as
  views_same opened e =
      let t = eqb-true (type_of set b) 52 e in
      let letter : has set (is 10) past ≡ true = rw t at (opened.letter (rw t)) in
      let item : has set is_item past ≡ true = rw t at (opened.item (rw t)) in
      let own : (n : ℕ) → field image_view_data n file at ≡ field_of image_view_data n b = fields_at set h image_view_data (λ c. refl) refl e in
      let cycle = under-where (inside_in set past) (λ inside. ap (same (field_of image_view_data 4 b)) (bundle-same inside 9)) in
      rw (own 2, own 3, own 4, own 5, own 7, own 8, header-same letter 4, header-same letter 5, cycle, sequence-same item)

  links-same : AllOpened set (b ∷ past) → links.link_checks set file (over set past) (type_of set b) at ≡ link_checks set (type_of set b) past b
  links-same opened =
      ap₂
      (λ (in_order : Bool) (view : List Check).
      check 1 (addenda_kept (type_of set b) (stated_in set past) (addenda_in set past))
      ∷ check 1 (annex_b (type_of set b) (indicator_in set past) (opened_in set past) (holder_in set past) (shown_in set past)) ∷ check 2 in_order ∷ view)
      numbered-same (under (eqb (type_of set b) 52) (views_same opened) refl)

  totals-same : totals.total_checks set file (over set past) (type_of set b) at ≡ total_checks set (type_of set b) past b
  unfolding judged_as
  totals-same =
      under (eqb (type_of set b) 70)
      (λ e. let own = fields_at set h bundle_control (λ c. refl) refl e in rw (own 2, own 3, own 4, own 5, own 6, own 7))
      (under (eqb (type_of set b) 90)
      (λ e. let own = fields_at set h cash_letter_control (λ c. refl) refl e in rw (own 2, own 3, own 4, own 5, own 8, own 9))
      (under (eqb (type_of set b) 99)
      (λ e. let own = fields_at set h file_control (λ c. refl) refl e in rw (own 2, own 3, own 4, own 5, own 8))
      refl))

-- a record that passes each check goes on
two-long : (set : CharacterSet) (b : Body) → is_carried (type_of set b) ≡ true → 2 ≤ length b
unfolding type_of is_carried
two-long set b e = leb-true 2 (length b) (cases (leb 2 (length b)) e)
  where
    cases : (c : Bool) → is_one_of (cond (c && every (is_numeric set) (take 2 b)) (number set (take 2 b)) 0) carried ≡ true → c ≡ true
    cases true e = refl
    cases false e = cc

module _ (set : CharacterSet) {file : List ℕ} {s : Standing} {at : ℕ} {b : Body} where
  passed-out : Passed set file s at (type_of set b) b → turn_of set file s at b ≡ turns.Good (type_of set b)
  unfolding turn_of agreement
  passed-out p = rw (le-leb 2 (length b) p.long, p.carried, p.follows, p.alone, p.linked, p.totalled)

module _ (set : CharacterSet) (file : List ℕ) (past : List Body) (older : Held set file past) (opened : AllOpened set past) (at : ℕ) (b : Body) where
  -- the record at an offset, whose body is b: a turn goes on exactly where it is good
  pub turn-good : (rest : List ℕ) → drop (at + 4) file ≡ b ++ rest → {t : ℕ} → turn_of set file (over set past) at b ≡ turns.Good t → Good set past b
  unfolding link_fault total_fault
  turn-good rest body e =
      let p = passed set e in
      let h : HeldAt set file at b = record { rest = rest; body = body; sound = p.alone } in
      let now = all-opened set b past opened p.follows in
      record {
        carried = p.carried;
        follows = p.follows;
        alone = p.alone;
        linked =
            links-in set (type_of set b) past b
            (all_hold_lem (link_checks set (type_of set b) past b) (links-numbered set (type_of set b) past b)
            (ap first_failing (sym (links-same set past older h now)) ∙ p.linked));
        totalled =
            totals-in set (type_of set b) past b
            (all_hold_lem (total_checks set (type_of set b) past b) (totals-numbered set (type_of set b) past b)
            (ap first_failing (sym (totals-same set past older h)) ∙ p.totalled));
      }

  pub good_turn : HeldAt set file at b → Good set past b → turn_of set file (over set past) at b ≡ turns.Good (type_of set b)
  unfolding link_fault total_fault
  good_turn h g =
      let now = all-opened set b past opened g.follows in
      passed-out set
      (record {
        type = refl;
        long = two-long set b g.carried;
        carried = g.carried;
        follows = g.follows;
        alone = g.alone;
        linked =
            ap first_failing (links-same set past older h now)
            ∙ none-fails (link_checks set (type_of set b) past b) (links-out set (type_of set b) past b g.linked);
        totalled =
            ap first_failing (totals-same set past older h)
            ∙ none-fails (total_checks set (type_of set b) past b) (totals-out set (type_of set b) past b g.totalled);
      })
