-- A whole run that is good behind one past of its cash letter is good behind any other, and leaves the cash letter as it found it. Assumes nothing.
use Prim.Native.Nat.{ℕ, ◌≤◌}
use native.Mathlib.Omega.{arith}
use mathlib.Core.Bool.{Bool, true, false, ◌&&◌, ◌||◌, not}
use mathlib.Core.Path.{◌≡◌, refl, sym, ap, ◌∙◌, subst}
use mathlib.Core.List.{List, [], ◌∷◌, ◌++◌}
use lib.Dec.{eqb}
use borrow.Author.Tests.{eqb-true, eq-eqb, leb-true, le-leb}
use Rattle.text.specs.declared.character_set.CharacterSet.{CharacterSet}
use Rattle.text.specs.DataTypes.{every}
use Rattle.judge.specs.Alone.{type_of}
use Rattle.order.specs.MayFollow.{is_one_of, follows, is_check_or_return, is_item, is_addendum, may_follow}
use Rattle.order.proofs.Laws.{among}
use Rattle.agree.specs.Links.{addenda_kept, annex_b}
use Rattle.file_as_records.specs.Framed.{Body}
use Rattle.file_as_records.proofs.Figures.{newest, is, indicator_of, last_in, inside_in, present_in, holder_in, opened_in, addenda_in, bofd_in, endorser_in, shown_in, stated_in, indicator_in}
use Rattle.file_as_records.proofs.Good.{GoodAs, Good, onto}
use Rattle.file_as_records.proofs.TotalsByName.{not-totalled}
use Rattle.file_as_records.proofs.Opened.{has, in_item, opening}
use Rattle.file_as_records.proofs.Tests.{refuted, where-in, untrue}
use Rattle.arrangement.specs.Sound.{All}
use Rattle.same_bytes.proofs.Addenda.{GoodRun}
use Rattle.salvage_written.proofs.Carried.{Base, good-same, either-false, by-tables, annex-same, numbered-plain}

-- what a run is: from a 20 to its 70; or a 61 and its views
pub data BundleRest (set : CharacterSet) : List Body → Type 0 where
  closes : {b : Body} → type_of set b ≡ 70 → BundleRest set (b ∷ [])
  goes : {b : Body} {bs : List Body} → is_one_of (type_of set b) (10 ∷ 20 ∷ 70 ∷ 90 ∷ 99 ∷ []) ≡ false → BundleRest set bs → BundleRest set (b ∷ bs)

abbrev pub AllViews : CharacterSet → List Body → Type 0
AllViews set bs = All (λ (b : Body). is_one_of (type_of set b) (50 ∷ 52 ∷ 54 ∷ []) ≡ true) bs

pub data IsRun (set : CharacterSet) : List Body → Type 0 where
  bundle : {b : Body} {bs : List Body} → type_of set b ≡ 20 → BundleRest set bs → IsRun set (b ∷ bs)
  credit : {b : Body} {bs : List Body} → type_of set b ≡ 61 → AllViews set bs → IsRun set (b ∷ bs)

-- none of its records is a control of a cash letter or a file
abbrev pub Plain : CharacterSet → Body → Type 0
Plain set b = (eqb (type_of set b) 90 ≡ false) × (eqb (type_of set b) 99 ≡ false)

rest_plain : (set : CharacterSet) {bs : List Body} → BundleRest set bs → All (Plain set) bs
rest_plain set (closes e) = ((rw e, rw e), tt)
rest_plain set (goes {b} {bs} e r) =
    let t = type_of set b in
    let a = either-false (eqb t 10) _ e in
    let c = either-false (eqb t 20) _ a.1 in
    let d = either-false (eqb t 70) _ c.1 in
    let f = either-false (eqb t 90) _ d.1 in
    ((f.0, (either-false (eqb t 99) false f.1).0), rest_plain set r)

views-plain : (set : CharacterSet) (bs : List Body) → AllViews set bs → All (Plain set) bs
views-plain set [] h = tt
views-plain set (b ∷ bs) h =
    let t = type_of set b in (
      (
        untrue (eqb t 90) (among (λ t. not (eqb t 90)) t (50 ∷ 52 ∷ 54 ∷ []) refl h.0),
        untrue (eqb t 99) (among (λ t. not (eqb t 99)) t (50 ∷ 52 ∷ 54 ∷ []) refl h.0),
      ),
      views-plain set bs h.1,
    )

pub run-plain : (set : CharacterSet) {bs : List Body} → IsRun set bs → All (Plain set) bs
run-plain set (bundle e r) = ((rw e, rw e), rest_plain set r)
run-plain set (credit {b} {bs} e r) = ((rw e, rw e), views-plain set bs r)

module _ (set : CharacterSet) (header : Body) (P Q : List Body) (p : Base set header P) (q : Base set header Q) where
  -- the first record of a run
  module _ (k : ℕ) (b : Body) (no-addendum : is_addendum k ≡ false) (no-view : eqb k 52 ≡ false) (no-70 : eqb k 70 ≡ false) (no-90 : eqb k 90 ≡ false)
      (no-99 : eqb k 99 ≡ false) (no_kind : is_check_or_return k ≡ false)
      (allowed : every (λ t. follows false t k) (10 ∷ 52 ∷ 54 ∷ 61 ∷ 70 ∷ []) ≡ true) where
    first-follows : may_follow (inside_in set Q) (last_in set Q) (present_in set Q) k ≡ true
    unfolding may_follow
    first-follows = rw (q.outside, among (λ t. follows false t k) (last_in set Q) (10 ∷ 52 ∷ 54 ∷ 61 ∷ 70 ∷ []) allowed q.ready, no_kind)

    first-addenda : addenda_kept k (stated_in set Q) (addenda_in set Q) ≡ true
    unfolding addenda_kept
    first-addenda = rw no-addendum (le-leb (stated_in set Q) (addenda_in set Q) q.settled)

    first-same : GoodAs set k P b → GoodAs set k Q b
    first-same g =
        record {
          carried = g.carried;
          follows = first-follows;
          alone = g.alone;
          linked =
              record {
                addenda = first-addenda;
                annex-b =
                    ap (λ (i : ℕ). annex_b k i (opened_in set Q) (holder_in set Q) (shown_in set Q)) (q.indicator ∙ sym p.indicator)
                    ∙ annex-same k (indicator_in set P) (opened_in set Q) (opened_in set P) (holder_in set Q) (holder_in set P) (shown_in set Q) (shown_in set P) no-90
                    (ap (λ (c : Bool). c && eqb (shown_in set Q) 0) q.unheld ∙ sym (ap (λ (c : Bool). c && eqb (shown_in set P) 0) p.unheld))
                    ∙ g.linked.annex-b;
                numbered = numbered-plain set k b (bofd_in set Q) (endorser_in set Q) no-addendum;
                view = refuted (eqb k 52) no-view;
              };
          totalled = not-totalled set Q b k no-70 no-90 no-99;
        }

  -- those behind it
  rest-same : (bs : List Body) (y : Body) (ys : List Body) → (in_item (type_of set y) ≡ true → has set is_item (y ∷ ys) ≡ true) → All (Plain set) bs
      → GoodRun set ((y ∷ ys) ++ P) bs → GoodRun set ((y ∷ ys) ++ Q) bs
  rest-same [] y ys opened plain g = tt
  rest-same (b ∷ bs) y ys opened plain g =
      record {
        first =
            good-same set header P Q p q (y ∷ ys) refl (λ e. rw (eq-eqb (type_of set y) 50 e)) opened (type_of set b) b plain.0.0 plain.0.1 g.first;
        rest =
            rest-same bs b (y ∷ ys)
            (λ e.
            or-on (is_item (type_of set b)) (in_item (type_of set y)) (has set is_item (y ∷ ys))
            (where-in (in_item (type_of set b)) _
            (by-tables (opening is_item in_item) refl refl (inside_in set ((y ∷ ys) ++ P)) (type_of set y) (present_in set ((y ∷ ys) ++ P)) (type_of set b)
            g.first.follows)
            e)
            opened)
            plain.1 g.rest;
      }
    where
      or-on : (o l h : Bool) → o || l ≡ true → (l ≡ true → h ≡ true) → o || h ≡ true
      or-on true l h e older = refl
      or-on false l h e older = older e

  first-as : (k : ℕ) (b : Body) → type_of set b ≡ k → (GoodAs set k P b → GoodAs set k Q b) → Good set P b → Good set Q b
  first-as k b e f g = subst (λ (t : ℕ). GoodAs set t Q b) (sym e) (f (subst (λ (t : ℕ). GoodAs set t P b) e g))

  pub run-same : {bs : List Body} → IsRun set bs → GoodRun set P bs → GoodRun set Q bs
  unfolding follows
  run-same (bundle {b} {bs} e r) g =
      record {
        first = first-as 20 b e (first-same 20 b refl refl refl refl refl refl refl) g.first;
        rest = rest-same bs b [] (λ h. refuted (in_item (type_of set b)) (rw e) h) (rest_plain set r) g.rest;
      }
  run-same (credit {b} {bs} e r) g =
      record {
        first = first-as 61 b e (first-same 61 b refl refl refl refl refl refl refl) g.first;
        rest = rest-same bs b [] (λ h. rw e) (views-plain set bs r) g.rest;
      }

-- what a run leaves
record Under (set : CharacterSet) (header : Body) (past : List Body) : Type 0 where
  outside : inside_in set past ≡ false
  settled : stated_in set past ≤ addenda_in set past
  unheld : is_check_or_return (holder_in set past) ≡ false
  indicator : indicator_in set past ≡ indicator_of set header
  heading : newest set (is 10) past ≡ header

last-onto : (set : CharacterSet) (bs P Q : List Body) → last_in set P ≡ last_in set Q → last_in set (onto bs P) ≡ last_in set (onto bs Q)
last-onto set [] P Q e = e
last-onto set (b ∷ bs) P Q e = last-onto set bs (b ∷ P) (b ∷ Q) refl

pub last-run : (set : CharacterSet) {r : List Body} (P Q : List Body) → IsRun set r → last_in set (onto r P) ≡ last_in set (onto r Q)
last-run set P Q (bundle {b} {bs} e r) = last-onto set bs (b ∷ P) (b ∷ Q) refl
last-run set P Q (credit {b} {bs} e r) = last-onto set bs (b ∷ P) (b ∷ Q) refl

module _ (set : CharacterSet) (header : Body) where
  -- one record that opens and closes nothing
  quiet-on : (past : List Body) (b : Body) → is_one_of (type_of set b) (50 ∷ 52 ∷ 54 ∷ []) ≡ true → Under set header past → Under set header (b ∷ past)
  quiet-on past b e u =
      let t = type_of set b in
      let is-not : (test : ℕ → Bool) → every (λ t. not (test t)) (50 ∷ 52 ∷ 54 ∷ []) ≡ true → test t ≡ false =
      λ test h. untrue (test t) (among (λ t. not (test t)) t (50 ∷ 52 ∷ 54 ∷ []) h e) in
      let no-20 = is-not (is 20) refl in
      let no-70 = is-not (is 70) refl in
      let no-10 = is-not (is 10) refl in
      let no_item = is-not is_item refl in
      record {
        outside = rw (no-20, no-70) u.outside;
        settled = rw no_item (omega (arith, u.settled));
        unheld = rw (no-10, no-20, no-70, no_item) u.unheld;
        indicator = rw no-10 u.indicator;
        heading = rw no-10 u.heading;
      }

  views-on : (bs past : List Body) → AllViews set bs → Under set header past → Under set header (onto bs past)
  views-on [] past h u = u
  views-on (b ∷ bs) past h u = views-on bs (b ∷ past) h.1 (quiet-on past b h.0 u)

  views-last : (bs past : List Body) → AllViews set bs → is_one_of (last_in set past) (50 ∷ 52 ∷ 54 ∷ 61 ∷ []) ≡ true
      → is_one_of (last_in set (onto bs past)) (50 ∷ 52 ∷ 54 ∷ 61 ∷ []) ≡ true
  views-last [] past h e = e
  views-last (b ∷ bs) past h e =
      views-last bs (b ∷ past) h.1 (among (λ t. is_one_of t (50 ∷ 52 ∷ 54 ∷ 61 ∷ [])) (type_of set b) (50 ∷ 52 ∷ 54 ∷ []) refl h.0)

  views-opened : (bs past : List Body) → AllViews set bs → opened_in set past ≤ opened_in set (onto bs past)
  views-opened [] past h = omega arith
  views-opened (b ∷ bs) past h =
      let no-10 = untrue (is 10 (type_of set b)) (among (λ t. not (is 10 t)) (type_of set b) (50 ∷ 52 ∷ 54 ∷ []) refl h.0) in
      let more : opened_in set past ≤ opened_in set (b ∷ past) = rw no-10 (omega arith) in
      omega (arith, more, views-opened bs (b ∷ past) h.1)

  base-of : (past : List Body) → is_one_of (last_in set past) (10 ∷ 52 ∷ 54 ∷ 61 ∷ 70 ∷ []) ≡ true → Under set header past → Base set header past
  base-of past ready u =
      record { outside = u.outside; ready = ready; settled = u.settled; unheld = u.unheld; indicator = u.indicator; heading = u.heading }

  not-50 : (t : ℕ) → is_one_of t (50 ∷ 52 ∷ 54 ∷ 61 ∷ []) ≡ true → (t ≡ 50 → ⊥) → is_one_of t (10 ∷ 52 ∷ 54 ∷ 61 ∷ 70 ∷ []) ≡ true
  not-50 t e n = by (eqb t 50) refl e
    where
      by : (c : Bool) → eqb t 50 ≡ c → c || is_one_of t (52 ∷ 54 ∷ 61 ∷ []) ≡ true → is_one_of t (10 ∷ 52 ∷ 54 ∷ 61 ∷ 70 ∷ []) ≡ true
      by true q e = absurd (n (eqb-true t 50 q))
      by false q e = among (λ t. is_one_of t (10 ∷ 52 ∷ 54 ∷ 61 ∷ 70 ∷ [])) t (52 ∷ 54 ∷ 61 ∷ []) refl e

  -- the rest of a bundle, to its 70
  pub record Left (past after : List Body) : Type 0 where
    pub base : Base set header after
    pub opened : opened_in set past ≤ opened_in set after

  rest-left : {bs : List Body} (past : List Body) → BundleRest set bs → indicator_in set past ≡ indicator_of set header → newest set (is 10) past ≡ header
      → GoodRun set past bs → Left past (onto bs past)
  unfolding addenda_kept
  rest-left past (closes {b} e) i h g =
      let settled = leb-true (stated_in set past) (addenda_in set past) (rw e at g.first.linked.addenda) in
      record {
        base = record { outside = rw e; ready = rw e; settled = rw e (omega (arith, settled)); unheld = rw e; indicator = rw e i; heading = rw e h };
        opened = rw e (omega arith);
      }
  rest-left past (goes {b} {bs} e r) i h g =
      let no-10 = (either-false (is 10 (type_of set b)) _ e).0 in
      let others = rest-left (b ∷ past) r (rw no-10 i) (rw no-10 h) g.rest in
      let more : opened_in set past ≤ opened_in set (b ∷ past) = rw no-10 (omega arith) in
      record { base = others.base; opened = omega (arith, more, others.opened) }

  pub run-left : {bs : List Body} (past : List Body) → IsRun set bs → Base set header past → GoodRun set past bs
      → (last_in set (onto bs past) ≡ 50 → ⊥) → Left past (onto bs past)
  run-left past (bundle {b} {bs} e r) u g n =
      let others = rest-left (b ∷ past) r (rw e u.indicator) (rw e u.heading) g.rest in
      let more : opened_in set past ≤ opened_in set (b ∷ past) = rw e (omega arith) in
      record { base = others.base; opened = omega (arith, more, others.opened) }
  run-left past (credit {b} {bs} e r) u g n =
      let on : Under set header (b ∷ past) =
      record {
        outside = rw e u.outside;
        settled = rw e (omega arith);
        unheld = rw e;
        indicator = rw e u.indicator;
        heading = rw e u.heading;
      } in
      let more : opened_in set past ≤ opened_in set (b ∷ past) = rw e (omega arith) in
      record {
        base = base-of (onto bs (b ∷ past)) (not-50 _ (views-last bs (b ∷ past) r (rw e)) n) (views-on bs (b ∷ past) r on);
        opened = omega (arith, more, views-opened bs (b ∷ past) r);
      }

  -- with a bundle, one has been opened
  pub bundle-opened : {bs : List Body} {b : Body} (past : List Body) → type_of set b ≡ 20 → BundleRest set bs
      → Base set header past → GoodRun set past (b ∷ bs) → 1 ≤ opened_in set (onto bs (b ∷ past))
  bundle-opened {bs} {b} past e r u g =
      let others = rest-left (b ∷ past) r (rw e u.indicator) (rw e u.heading) g.rest in
      let one : 1 ≤ opened_in set (b ∷ past) = rw e (omega arith) in
      omega (arith, one, others.opened)
