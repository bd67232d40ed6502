-- Records of a run that are good behind one past of their cash letter are good behind any other. Assumes nothing.
use Prim.Native.Nat.{ℕ, ◌+◌, ◌≤◌}
use native.Mathlib.Omega.{arith}
use mathlib.Core.Bool.{Bool, true, false, ◌&&◌, ◌||◌, not, cond}
use mathlib.Core.Path.{◌≡◌, refl, sym, ap, ap₂, ◌∙◌, subst}
use mathlib.Core.List.{List, [], ◌∷◌, ◌++◌}
use mathlib.Core.Logic.{◌⊎◌}
use lib.Dec.{eqb}
use borrow.Author.Tests.{eqb-true, le-leb}
use Rattle.text.specs.declared.character_set.CharacterSet.{CharacterSet}
use Rattle.text.specs.Characters.{is_blank}
use Rattle.text.specs.DataTypes.{every}
use Rattle.text.specs.Number.{number}
use Rattle.layout.specs.Layouts.{cash_letter_header, bundle_header, bundle_control, check_detail_addendum_a, check_detail_addendum_c, return_addendum_a, return_addendum_d}
use Rattle.judge.specs.Alone.{type_of}
use Rattle.order.specs.MayFollow.{outside, inside, table, is_one_of, in_table, follows, is_check_or_return, is_item, is_addendum, one_item_type, may_follow}
use Rattle.order.proofs.Pairs.{throughout, listed}
use Rattle.standing.specs.History.{one, is_bofd_addendum, is_endorser_addendum}
use Rattle.agree.specs.Links.{addenda_kept, annex_b}
use Rattle.file_as_records.specs.Framed.{Body, field_of}
use Rattle.file_as_records.proofs.CheckLists.{numbered_as}
use Rattle.file_as_records.proofs.Figures.{value, sum_since, newest, is, count, indicator_of, signature_of, stated_as, micr_as, debit_as, credit_as, is_debit_as, is_credit_as, last_in, inside_in, present_in, holder_in, opened_in, addenda_in, bofd_in, endorser_in, shown_in, stated_in, indicator_in, signature_in, sequence_of}
use Rattle.file_as_records.proofs.Good.{GoodAs}
use Rattle.file_as_records.proofs.LinksByName.{Linked, ViewLinked}
use Rattle.file_as_records.proofs.TotalsByName.{Totalled}
use Rattle.file_as_records.proofs.Opened.{has, in_item}
use Rattle.file_as_records.proofs.Tests.{both, refuted, under, where-in, untrue, not-both}

-- what stands before a run, under a cash letter header
pub record Base (set : CharacterSet) (header : Body) (past : List Body) : Type 0 where
  pub outside : inside_in set past ≡ false
  pub ready : is_one_of (last_in set past) (10 ∷ 52 ∷ 54 ∷ 61 ∷ 70 ∷ []) ≡ true
  pub settled : stated_in set past ≤ addenda_in set past
  pub unheld : is_check_or_return (holder_in set past) ≡ false
  pub indicator : indicator_in set past ≡ indicator_of set header
  pub heading : newest set (is 10) past ≡ header

pub either-false : (a b : Bool) → a || b ≡ false → (a ≡ false) × (b ≡ false)
either-false true b e = (e, cc)
either-false false b e = (refl, e)

-- figures over more records
module _ (set : CharacterSet) where
  value_same : {X : Type 0} (first : X) (next : ℕ → Body → X → X) (xs P Q : List Body) → value set first next P ≡ value set first next Q
      → value set first next (xs ++ P) ≡ value set first next (xs ++ Q)
  value_same first next [] P Q e = e
  value_same first next (x ∷ xs) P Q e = ap (next (type_of set x) x) (value_same first next xs P Q e)

  value-reset : {X : Type 0} (first : X) (next : ℕ → Body → X → X) (resets : ℕ → Bool)
      → ((t : ℕ) (b : Body) (x y : X) → resets t ≡ true → next t b x ≡ next t b y) → (xs P Q : List Body) → has set resets xs ≡ true
      → value set first next (xs ++ P) ≡ value set first next (xs ++ Q)
  value-reset first next resets law [] P Q e = absurd (not-both e)
  value-reset first next resets law (x ∷ xs) P Q e = by (resets (type_of set x)) refl e (value-reset first next resets law xs P Q)
    where
      by : (c : Bool) → resets (type_of set x) ≡ c → c || has set resets xs ≡ true
          → (has set resets xs ≡ true → value set first next (xs ++ P) ≡ value set first next (xs ++ Q))
          → next (type_of set x) x (value set first next (xs ++ P)) ≡ next (type_of set x) x (value set first next (xs ++ Q))
      by true q e later = law (type_of set x) x _ _ q
      by false q e later = ap (next (type_of set x) x) (later e)

  sum-reset : (begins : ℕ → Bool) (measure : ℕ → Body → ℕ) (xs P Q : List Body) → has set begins xs ≡ true
      → sum_since set begins measure (xs ++ P) ≡ sum_since set begins measure (xs ++ Q)
  sum-reset begins measure = value-reset 0 (λ t b x. cond (begins t) 0 (measure t b + x)) begins (λ t b x y e. rw e)

  newest-reset : {X : Type 0} (first : X) (test : ℕ → Bool) (figure : ℕ → Body → X) (xs P Q : List Body) → has set test xs ≡ true
      → value set first (λ t b x. cond (test t) (figure t b) x) (xs ++ P) ≡ value set first (λ t b x. cond (test t) (figure t b) x) (xs ++ Q)
  newest-reset first test figure = value-reset first (λ t b x. cond (test t) (figure t b) x) test (λ t b x y e. rw e)

  inside-has : (xs P : List Body) → inside_in set P ≡ false → inside_in set (xs ++ P) ≡ true → has set (is 20) xs ≡ true
  inside-has [] P o e = absurd (not-both (sym o ∙ e))
  inside-has (x ∷ xs) P o e = by (eqb (type_of set x) 20) (eqb (type_of set x) 70) e (inside-has xs P o)
    where
      by : (c d : Bool) → cond c true (cond d false (inside_in set (xs ++ P))) ≡ true → (inside_in set (xs ++ P) ≡ true → has set (is 20) xs ≡ true)
          → c || has set (is 20) xs ≡ true
      by true d e later = refl
      by false true e later = absurd (not-both e)
      by false false e later = later e

  -- where no item is among them, what an item states is settled, and none holds
  settled-through : (xs P : List Body) → has set is_item xs ≡ false → stated_in set P ≤ addenda_in set P → stated_in set (xs ++ P) ≤ addenda_in set (xs ++ P)
  settled-through [] P e h = h
  settled-through (x ∷ xs) P e h =
      let none = either-false (is_item (type_of set x)) (has set is_item xs) e in
      rw none.0 (omega (arith, settled-through xs P none.1 h))

  unheld-through : (xs P : List Body) → has set is_item xs ≡ false → is_check_or_return (holder_in set P) ≡ false
      → is_check_or_return (holder_in set (xs ++ P)) ≡ false
  unheld-through [] P e h = h
  unheld-through (x ∷ xs) P e h =
      let none = either-false (is_item (type_of set x)) (has set is_item xs) e in
      by (eqb (type_of set x) 10 || (eqb (type_of set x) 20 || eqb (type_of set x) 70)) (is_item (type_of set x)) none.0 (unheld-through xs P none.1 h)
    where
      by : (c d : Bool) → d ≡ false → is_check_or_return (holder_in set (xs ++ P)) ≡ false
          → is_check_or_return (cond c 0 (cond d (type_of set x) (holder_in set (xs ++ P)))) ≡ false
      by true d q later = refl
      by false true q later = absurd (not-both (sym q))
      by false false q later = later

-- Annex B asks of the newest item whether it is a check or a return that was not shown
pub annex-same : (k i o o' h h' s s' : ℕ) → eqb k 90 ≡ false → is_check_or_return h && eqb s 0 ≡ is_check_or_return h' && eqb s' 0
    → annex_b k i o h s ≡ annex_b k i o' h' s'
unfolding annex_b
annex-same k i o o' h h' s s' n e =
    ap
    (λ (x : Bool).
    not (eqb k 20 && eqb i 0x4E)
    && (not (eqb k 50 && eqb i 0x45)
    && (not ((is_item k || eqb k 70) && ((eqb i 0x49 || eqb i 0x46) && x)) && not (eqb k 90 && (not (eqb i 0x4E) && eqb o 0)))))
    e
    ∙ ap
    (λ (x : Bool).
    not (eqb k 20 && eqb i 0x4E)
    && (not (eqb k 50 && eqb i 0x45)
    && (not ((is_item k || eqb k 70) && ((eqb i 0x49 || eqb i 0x46) && (is_check_or_return h' && eqb s' 0))) && not x)))
    (never-90 (eqb k 90) (not (eqb i 0x4E) && eqb o 0) (not (eqb i 0x4E) && eqb o' 0) n)
  where
    never-90 : (c x y : Bool) → c ≡ false → c && x ≡ c && y
    never-90 true x y q = absurd (not-both (sym q))
    never-90 false x y q = refl

-- a law of each pair of the tables
pub by-tables : (law : ℕ → ℕ → Bool) → throughout law outside ≡ true → throughout law inside ≡ true → (opened : Bool) (last present next : ℕ)
    → may_follow opened last present next ≡ true → law last next ≡ true
unfolding may_follow follows
by-tables law in-outside in-inside opened last present next e =
    listed law last next (table opened) (in-table opened) (both (in_table (table opened) last next) (one_item_type present next) e).0
  where
    in-table : (opened : Bool) → throughout law (table opened) ≡ true
    in-table true = in-inside
    in-table false = in-outside

-- where no bundle is open, no check or return may follow, so that none need be of one kind
one-kind : (last present other next : ℕ) → may_follow false last present next ≡ true → may_follow false last other next ≡ true
unfolding may_follow follows
one-kind last present other next e =
    let found = (both (in_table outside last next) (one_item_type present next) e).0 in
    let none = untrue (is_check_or_return next) (listed (λ last next. not (is_check_or_return next)) last next outside refl found) in
    rw (found, none)

-- the record numbers, by those before
abbrev pub numbered_by : CharacterSet → ℕ → Body → ℕ → ℕ → Bool
numbered_by set k b bofd endorser =
    cond (eqb k 26) (eqb (number set (field_of check_detail_addendum_a 2 b)) (bofd + 1))
    (cond (eqb k 32) (eqb (number set (field_of return_addendum_a 2 b)) (bofd + 1))
    (cond (eqb k 28) (eqb (number set (field_of check_detail_addendum_c 2 b)) (endorser + 1))
    (cond (eqb k 35) (eqb (number set (field_of return_addendum_d 2 b)) (endorser + 1)) true)))

-- are asked of addenda alone
pub numbered-plain : (set : CharacterSet) (k : ℕ) (b : Body) (m n : ℕ) → is_addendum k ≡ false → numbered_by set k b m n ≡ true
numbered-plain set k b m n none = rw (none_is 26 refl, none_is 32 refl, none_is 28 refl, none_is 35 refl)
  where
    none_is : (j : ℕ) → is_addendum j ≡ true → eqb k j ≡ false
    none_is j a = by (eqb k j) refl
      where
        by : (c : Bool) → eqb k j ≡ c → c ≡ false
        by true e = absurd (not-both (sym none ∙ ap is_addendum (eqb-true k j e) ∙ a))
        by false e = refl

module _ (set : CharacterSet) (header : Body) (P Q : List Body) (p : Base set header P) (q : Base set header Q) (xs : List Body)
    (last-same : last_in set (xs ++ P) ≡ last_in set (xs ++ Q)) (views : last_in set (xs ++ P) ≡ 50 → has set (is 50) xs ≡ true)
    (opened : in_item (last_in set (xs ++ P)) ≡ true → has set is_item xs ≡ true) (k : ℕ) (b : Body) where
  abbrev Before : List Body
  Before = xs ++ P

  abbrev Now : List Body
  Now = xs ++ Q

  inside-same : inside_in set Before ≡ inside_in set Now
  inside-same = value_same set false (λ t b x. cond (eqb t 20) true (cond (eqb t 70) false x)) xs P Q (p.outside ∙ sym q.outside)

  indicator-same : indicator_in set Before ≡ indicator_in set Now
  indicator-same = value_same set 0 (λ t b x. cond (is 10 t) (indicator_of set b) x) xs P Q (p.indicator ∙ sym q.indicator)

  heading-same : newest set (is 10) Before ≡ newest set (is 10) Now
  heading-same = value_same set [] (λ t b x. cond (is 10 t) b x) xs P Q (p.heading ∙ sym q.heading)

  bundle-begun : inside_in set Before ≡ true → has set (is 20) xs ≡ true
  bundle-begun e = inside-has set xs P p.outside e

  follows_same : may_follow (inside_in set Before) (last_in set Before) (present_in set Before) k ≡ true
      → may_follow (inside_in set Now) (last_in set Now) (present_in set Now) k ≡ true
  follows_same e =
      subst (λ (i : Bool). may_follow i (last_in set Now) (present_in set Now) k ≡ true) inside-same
      (subst (λ (l : ℕ). may_follow (inside_in set Before) l (present_in set Now) k ≡ true) last-same (by (inside_in set Before) refl e))
    where
      by : (i : Bool) → inside_in set Before ≡ i → may_follow i (last_in set Before) (present_in set Before) k ≡ true
          → may_follow i (last_in set Before) (present_in set Now) k ≡ true
      by true r e =
          let same =
          value-reset set 0 (λ t b x. cond (eqb t 20) 0 (cond (is_check_or_return t) t x)) (is 20) (λ t b x y e. rw e) xs P Q (bundle-begun r) in
          ap (λ (n : ℕ). may_follow true (last_in set Before) n k) (sym same) ∙ e
      by false r e = one-kind (last_in set Before) (present_in set Before) (present_in set Now) k e

  module _ (f : may_follow (inside_in set Before) (last_in set Before) (present_in set Before) k ≡ true) where
    addendum-in : is_addendum k ≡ true → has set is_item xs ≡ true
    addendum-in e =
        opened
        (where-in (is_addendum k) _
        (by-tables (λ last next. not (is_addendum next) || in_item last) refl refl (inside_in set Before) (last_in set Before) (present_in set Before) k f) e)

    behind-50 : eqb k 52 ≡ true → last_in set Before ≡ 50
    behind-50 e =
        eqb-true (last_in set Before) 50
        (where-in (eqb k 52) _
        (by-tables (λ last next. not (eqb next 52) || eqb last 50) refl refl (inside_in set Before) (last_in set Before) (present_in set Before) k f) e)

    behind-bundle : eqb k 70 ≡ true → has set (is 20) xs ≡ true
    unfolding may_follow follows
    behind-bundle e = bundle-begun (by (inside_in set Before) f)
      where
        by : (i : Bool) → may_follow i (last_in set Before) (present_in set Before) k ≡ true → i ≡ true
        by true f = refl
        by false f =
            let found = (both (in_table outside (last_in set Before) k) (one_item_type (present_in set Before) k) f).0 in
            refuted (eqb k 70) (untrue (eqb k 70) (listed (λ last next. not (eqb next 70)) (last_in set Before) k outside refl found)) e

    addenda-same : addenda_kept k (stated_in set Before) (addenda_in set Before) ≡ true → addenda_kept k (stated_in set Now) (addenda_in set Now) ≡ true
    unfolding addenda_kept
    addenda-same e = by (has set is_item xs) refl
      where
        by : (c : Bool) → has set is_item xs ≡ c → addenda_kept k (stated_in set Now) (addenda_in set Now) ≡ true
        by true h =
            ap₂ (addenda_kept k) (sym (newest-reset set 0 is_item (stated_as set) xs P Q h)) (sym (sum-reset set is_item (count is_addendum) xs P Q h)) ∙ e
        by false h = settles (is_addendum k) refl
          where
            settles : (d : Bool) → is_addendum k ≡ d → addenda_kept k (stated_in set Now) (addenda_in set Now) ≡ true
            settles true d = refuted (has set is_item xs) h (addendum-in d)
            settles false d = rw d (le-leb (stated_in set Now) (addenda_in set Now) (settled-through set xs Q h q.settled))

    holder-same : has set is_item xs ≡ true → holder_in set Before ≡ holder_in set Now
    holder-same h =
        value-reset set 0 (λ t b x. cond (eqb t 10 || (eqb t 20 || eqb t 70)) 0 (cond (is_item t) t x)) is_item
        (λ t b x y e. ap (λ (c : Bool). cond (eqb t 10 || (eqb t 20 || eqb t 70)) 0 (cond c t x)) e
        ∙ sym (ap (λ (c : Bool). cond (eqb t 10 || (eqb t 20 || eqb t 70)) 0 (cond c t y)) e))
        xs P Q h

    annex-kept : eqb k 90 ≡ false → annex_b k (indicator_in set Before) (opened_in set Before) (holder_in set Before) (shown_in set Before) ≡ true
        → annex_b k (indicator_in set Now) (opened_in set Now) (holder_in set Now) (shown_in set Now) ≡ true
    annex-kept n e =
        ap (λ (i : ℕ). annex_b k i (opened_in set Now) (holder_in set Now) (shown_in set Now)) (sym indicator-same)
        ∙ annex-same k (indicator_in set Before) (opened_in set Now) (opened_in set Before) (holder_in set Now) (holder_in set Before) (shown_in set Now)
        (shown_in set Before) n (sym (by (has set is_item xs) refl))
        ∙ e
      where
        by : (c : Bool) → has set is_item xs ≡ c
            → is_check_or_return (holder_in set Before) && eqb (shown_in set Before) 0 ≡ is_check_or_return (holder_in set Now) && eqb (shown_in set Now) 0
        by true h =
            ap₂ (λ (x y : ℕ). is_check_or_return x && eqb y 0) (holder-same h) (sum-reset set is_item (count (is 50)) xs P Q h)
        by false h =
            ap (λ (c : Bool). c && eqb (shown_in set Before) 0) (unheld-through set xs P h p.unheld)
            ∙ sym (ap (λ (c : Bool). c && eqb (shown_in set Now) 0) (unheld-through set xs Q h q.unheld))

    numbered-same : numbered_as set k Before b ≡ true → numbered_as set k Now b ≡ true
    numbered-same e = by (has set is_item xs) refl
      where
        by : (c : Bool) → has set is_item xs ≡ c → numbered_as set k Now b ≡ true
        by true h =
            ap₂ (numbered_by set k b) (sym (sum-reset set is_item (count is_bofd_addendum) xs P Q h))
            (sym (sum-reset set is_item (count is_endorser_addendum) xs P Q h))
            ∙ e
        by false h = plain (is_addendum k) refl
          where
            plain : (d : Bool) → is_addendum k ≡ d → numbered_as set k Now b ≡ true
            plain true d = refuted (has set is_item xs) h (addendum-in d)
            plain false d = numbered-plain set k b (bofd_in set Now) (endorser_in set Now) d

    owner-same : (n : ℕ)
        → cond (inside_in set Before) (field_of bundle_header n (newest set (is 20) Before)) (field_of cash_letter_header n (newest set (is 10) Before))
        ≡ cond (inside_in set Now) (field_of bundle_header n (newest set (is 20) Now)) (field_of cash_letter_header n (newest set (is 10) Now))
    owner-same n =
        under (inside_in set Before) (λ e. ap (field_of bundle_header n) (newest-reset set [] (is 20) (λ t b. b) xs P Q (bundle-begun e)))
        (ap (field_of cash_letter_header n) heading-same)
        ∙ ap
        (λ (i : Bool). cond i (field_of bundle_header n (newest set (is 20) Now)) (field_of cash_letter_header n (newest set (is 10) Now)))
        inside-same

    view-same : eqb k 52 ≡ true → ViewLinked set Before b → ViewLinked set Now b
    view-same e v =
        let last = behind-50 e in
        let item = opened (ap in_item last) in
        let signature : signature_in set Before ≡ signature_in set Now = newest-reset set 0 (is 50) (λ t b. signature_of set b) xs P Q (views last) in
        record {
          institution = v.institution ∙ owner-same 4;
          date = v.date ∙ owner-same 5;
          cycle = λ inside.
              let before = inside-same ∙ inside in
              v.cycle before ∙ ap (field_of bundle_header 9) (newest-reset set [] (is 20) (λ t b. b) xs P Q (bundle-begun before));
          number = v.number ∙ ap₂ sequence_of (holder-same item) (newest-reset set [] is_item (λ t b. b) xs P Q item);
          signer = λ s. v.signer (signature ∙ s);
          key = λ s. v.key (signature ∙ s);
        }

    linked-same : eqb k 90 ≡ false → Linked set k Before b → Linked set k Now b
    linked-same n l =
        record {
          addenda = addenda-same l.addenda;
          annex-b = annex-kept n l.annex-b;
          numbered = numbered-same l.numbered;
          view = λ e. view-same e (l.view e);
        }

    totalled-same : eqb k 90 ≡ false → eqb k 99 ≡ false → Totalled set k Before b → Totalled set k Now b
    totalled-same m n t =
        record {
          bundle = λ e.
              let h = behind-bundle e in
              let s = t.bundle e in
              record {
                debit-count = s.debit-count ∙ sum-reset set (is 20) (λ t b. one (is_debit_as set t b)) xs P Q h;
                debit-cents = s.debit-cents ∙ sum-reset set (is 20) (debit_as set) xs P Q h;
                valid = subst (λ (n : ℕ). (every (is_blank set) (field_of bundle_control 4 b) ≡ true) ⊎ (number set (field_of bundle_control 4 b) ≡ n))
                    (sum-reset set (is 20) (micr_as set) xs P Q h) s.valid;
                view-count = s.view-count ∙ sum-reset set (is 20) (count (is 50)) xs P Q h;
                credit-count = s.credit-count ∙ sum-reset set (is 20) (λ t b. one (is_credit_as set t b)) xs P Q h;
                credit-cents = s.credit-cents ∙ sum-reset set (is 20) (credit_as set) xs P Q h;
              };
          letter = refuted (eqb k 90) m;
          file = refuted (eqb k 99) n;
        }

  pub good-same : eqb k 90 ≡ false → eqb k 99 ≡ false → GoodAs set k Before b → GoodAs set k Now b
  good-same m n g =
      record {
        carried = g.carried;
        follows = follows_same g.follows;
        alone = g.alone;
        linked = linked-same g.follows m g.linked;
        totalled = totalled-same g.follows m n g.totalled;
      }
