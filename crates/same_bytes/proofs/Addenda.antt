-- An item states as many addenda as stand right behind it: the record behind them is no addendum, and none of them is another item's. So it is in any
-- run of records that does not end within an item, whatever stands behind it. Assumes nothing.
use Prim.Native.Nat.{ℕ, ◌+◌, ◌≤◌, ◌<◌}
use native.Mathlib.Omega.{arith}
use mathlib.Core.Bool.{Bool, true, false, ◌&&◌, ◌||◌, not, cond}
use mathlib.Core.Path.{◌≡◌, refl, sym, ◌∙◌}
use mathlib.Core.List.{List, [], ◌∷◌, ◌++◌, map}
use lib.Dec.{eqb}
use borrow.Author.Tests.{leb-true, ltb-true}
use Rattle.text.specs.declared.character_set.CharacterSet.{CharacterSet}
use Rattle.text.specs.declared.character_set.CharacterSet.TheVariants.{Ascii}
use Rattle.text.specs.DataTypes.{every}
use Rattle.text.specs.Number.{number}
use Rattle.layout.specs.Layouts.{check_detail, return_record}
use Rattle.judge.specs.Alone.{type_of}
use Rattle.order.specs.MayFollow.{outside, inside, table, in_table, follows, is_item, is_addendum, one_item_type, may_follow, carried, is_carried}
use Rattle.order.proofs.Laws.{among}
use Rattle.order.proofs.Pairs.{throughout, listed}
use Rattle.agree.specs.Links.{addenda_kept}
use Rattle.file_as_records.specs.Framed.{Body, field_of}
use Rattle.file_as_records.proofs.Figures.{last_in, inside_in, present_in, addenda_in, stated_in, stated_as}
use Rattle.file_as_records.proofs.Good.{Good, Then, GoodAll, onto}
use Rattle.file_as_records.proofs.Tests.{both, refuted, where-in, untrue}
use Rattle.draft.specs.Values.{Values, values_at, values_of_body}
use Rattle.draft.specs.Completed.{is_own_addendum, addenda_behind}

-- records one behind the other, each good behind those before it
abbrev pub GoodRun : CharacterSet → List Body → List Body → Type 0
GoodRun set past [] = Unit {0}
GoodRun set past (b ∷ bs) = Then (Good set past b) (GoodRun set (b ∷ past) bs)

-- those of a whole file end at a 99
pub whole_run : (set : CharacterSet) (past bs : List Body) → GoodAll set past bs → GoodRun set past bs × (last_in set (onto bs past) ≡ 99)
whole_run set past [] g = (tt, g)
whole_run set past (b ∷ bs) g =
    let others = whole_run set (b ∷ past) bs g.rest in
    (record { first = g.first; rest = others.0 }, others.1)

-- an item, and its addenda so far
abbrev pub in_run : ℕ → ℕ → Bool
in_run item t = eqb t item || is_own_addendum item t

-- computed of both tables: an addendum behind an item and its addenda is the item's own
abbrev own_behind : ℕ → ℕ → ℕ → Bool
own_behind item last next = not (in_run item last) || (not (is_addendum next) || is_own_addendum item next)

-- computed of all types: an own addendum is an addendum and no item
abbrev own_is_one : ℕ → ℕ → Bool
own_is_one item t = not (is_own_addendum item t) || (is_addendum t && not (is_item t))

kept_more : (t stated read : ℕ) → is_addendum t ≡ true → addenda_kept t stated read ≡ true → read < stated
unfolding addenda_kept
kept_more t stated read a e = ltb-true read stated (rw a at e)

kept-all : (t stated read : ℕ) → is_addendum t ≡ false → addenda_kept t stated read ≡ true → stated ≤ read
unfolding addenda_kept
kept-all t stated read a e = leb-true stated read (rw a at e)

not-other : (a b : Bool) → not a || b ≡ true → b ≡ false → a ≡ false
not-other true b e f = sym e ∙ f
not-other false b e f = refl

in_either : (a b : Bool) → b ≡ true → a || b ≡ true
in_either true b e = refl
in_either false b e = e

module _ (item : ℕ) (in-outside : throughout (own_behind item) outside ≡ true) (in-inside : throughout (own_behind item) inside ≡ true)
    (kinds : every (own_is_one item) carried ≡ true) (ws : List Values) where
  table-own : (opened : Bool) → throughout (own_behind item) (table opened) ≡ true
  table-own true = in-inside
  table-own false = in-outside

  next-own : (opened : Bool) (last present next : ℕ) → may_follow opened last present next ≡ true → in_run item last ≡ true
      → not (is_addendum next) || is_own_addendum item next ≡ true
  unfolding may_follow follows
  next-own opened last present next e run =
      where-in (in_run item last) _
      (listed (own_behind item) last next (table opened) (table-own opened)
      (both (in_table (table opened) last next) (one_item_type present next) e).0) run

  behind : (past bs : List Body) → GoodRun Ascii past bs → in_run item (last_in Ascii (onto bs past)) ≡ false → in_run item (last_in Ascii past) ≡ true
      → addenda_in Ascii past ≤ stated_in Ascii past
      → addenda_in Ascii past + addenda_behind item (map (values_of_body Ascii) bs ++ ws) ≡ stated_in Ascii past
  unfolding addenda_behind values_of_body values_at is_carried
  behind past [] g closed run few = refuted (in_run item (last_in Ascii past)) closed run
  behind past (c ∷ cs) g closed run few = by (is_own_addendum item (type_of Ascii c)) refl (behind (c ∷ past) cs g.rest closed)
    where
      by : (own : Bool) → is_own_addendum item (type_of Ascii c) ≡ own
          → (in_run item (type_of Ascii c) ≡ true → addenda_in Ascii (c ∷ past) ≤ stated_in Ascii (c ∷ past)
          → addenda_in Ascii (c ∷ past) + addenda_behind item (map (values_of_body Ascii) cs ++ ws) ≡ stated_in Ascii (c ∷ past))
          → addenda_in Ascii past + cond own (1 + addenda_behind item (map (values_of_body Ascii) cs ++ ws)) 0 ≡ stated_in Ascii past
      by true e others =
          let t = type_of Ascii c in
          let kind = both (is_addendum t) (not (is_item t)) (where-in (is_own_addendum item t) _ (among (own_is_one item) t carried kinds g.first.carried) e) in
          let other = untrue (is_item t) kind.1 in
          let read : addenda_in Ascii (c ∷ past) ≡ 1 + addenda_in Ascii past = rw (other, kind.0) in
          let stated : stated_in Ascii (c ∷ past) ≡ stated_in Ascii past = rw other in
          let more = kept_more t (stated_in Ascii past) (addenda_in Ascii past) kind.0 g.first.linked.addenda in
          omega (arith, read, stated, others (in_either (eqb t item) _ e) (omega (arith, read, stated, more)))
      by false e others =
          let t = type_of Ascii c in
          let none = not-other (is_addendum t) (is_own_addendum item t)
          (next-own (inside_in Ascii past) (last_in Ascii past) (present_in Ascii past) t g.first.follows run) e in
          omega (arith, few, kept-all t (stated_in Ascii past) (addenda_in Ascii past) none g.first.linked.addenda)

  stated-behind : (past : List Body) (b : Body) (bs : List Body) → GoodRun Ascii (b ∷ past) bs → in_run item (last_in Ascii (onto bs (b ∷ past))) ≡ false
      → type_of Ascii b ≡ item → is_item item ≡ true → eqb item item ≡ true
      → stated_as Ascii item b ≡ addenda_behind item (map (values_of_body Ascii) bs ++ ws)
  stated-behind past b bs g closed e i self =
      let read : addenda_in Ascii (b ∷ past) ≡ 0 = rw (e, i) in
      let stated : stated_in Ascii (b ∷ past) ≡ stated_as Ascii item b = rw (e, i) in
      omega (arith, read, stated, behind (b ∷ past) bs g closed (rw (e, self)) (omega (arith, read)))

-- what a check and a return state
module _ (ws : List Values) (past : List Body) (b : Body) (bs : List Body) (g : GoodRun Ascii (b ∷ past) bs) where
  pub check-states : in_run 25 (last_in Ascii (onto bs (b ∷ past))) ≡ false → type_of Ascii b ≡ 25
      → number Ascii (field_of check_detail 12 b) ≡ addenda_behind 25 (map (values_of_body Ascii) bs ++ ws)
  check-states closed e = stated-behind 25 refl refl refl ws past b bs g closed e refl refl

  pub return-states : in_run 31 (last_in Ascii (onto bs (b ∷ past))) ≡ false → type_of Ascii b ≡ 31
      → number Ascii (field_of return_record 8 b) ≡ addenda_behind 31 (map (values_of_body Ascii) bs ++ ws)
  return-states closed e = stated-behind 31 refl refl refl ws past b bs g closed e refl refl
