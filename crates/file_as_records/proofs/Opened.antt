-- What the tables of following types say of the records before one: those of an item stand behind an item, in a cash letter. Assumes nothing.
use Prim.Native.Nat.{ℕ}
use native.Mathlib.Omega.{arith}
use mathlib.Core.Bool.{Bool, true, false, ◌||◌, not, cond}
use mathlib.Core.Path.{◌≡◌, refl}
use mathlib.Core.List.{List, [], ◌∷◌}
use lib.Dec.{eqb}
use Rattle.text.specs.declared.character_set.CharacterSet.{CharacterSet}
use Rattle.judge.specs.Alone.{type_of}
use Rattle.order.specs.MayFollow.{outside, inside, table, is_one_of, in_table, follows, is_item, one_item_type, may_follow}
use Rattle.order.proofs.Pairs.{throughout, listed}
use Rattle.file_as_records.specs.Framed.{Body}
use Rattle.file_as_records.proofs.Figures.{value, newest, is, last_in, inside_in, present_in, holder_in}
use Rattle.file_as_records.proofs.Tests.{both, where-in, untrue}
use Rattle.file_as_records.proofs.Held.{HeldAt, Held, extent, newest_at}

abbrev pub Follows : CharacterSet → List Body → ℕ → Type 0
Follows set past next = may_follow (inside_in set past) (last_in set past) (present_in set past) next ≡ true

-- a law of each pair of both tables
by-tables : (set : CharacterSet) (law : ℕ → ℕ → Bool) → throughout law outside ≡ true → throughout law inside ≡ true → (past : List Body) (next : ℕ)
    → Follows set past next → law (last_in set past) next ≡ true
unfolding may_follow follows
by-tables set law in-outside in-inside past next e =
    listed law (last_in set past) next (table (inside_in set past)) (in-table (inside_in set past))
    (both (in_table (table (inside_in set past)) (last_in set past) next) (one_item_type (present_in set past) next) e).0
  where
    in-table : (opened : Bool) → throughout law (table opened) ≡ true
    in-table true = in-inside
    in-table false = in-outside

-- nothing comes after a 99
pub none_after : (set : CharacterSet) (past : List Body) (next : ℕ) → Follows set past next → eqb (last_in set past) 99 ≡ false
none_after set past next e = untrue (eqb (last_in set past) 99) (by-tables set (λ last next. not (eqb last 99)) refl refl past next e)

-- some record passes a test
abbrev pub has : CharacterSet → (ℕ → Bool) → List Body → Bool
has set test past = value set false (λ t b x. test t || x) past

-- types that stand behind one that opens their part: each opens it, or comes after another of them
abbrev pub opening : (ℕ → Bool) → (ℕ → Bool) → ℕ → ℕ → Bool
opening opens part last next = not (part next) || (opens next || part last)

abbrev pub Opened : CharacterSet → (ℕ → Bool) → (ℕ → Bool) → List Body → Type 0
Opened set opens part past = part (last_in set past) ≡ true → has set opens past ≡ true

-- an item's records, and a cash letter's
abbrev pub in_item : ℕ → Bool
in_item t = is_one_of t (25 ∷ 26 ∷ 27 ∷ 28 ∷ 31 ∷ 32 ∷ 33 ∷ 34 ∷ 35 ∷ 50 ∷ 52 ∷ 54 ∷ 61 ∷ [])

abbrev pub in_letter : ℕ → Bool
in_letter t = in_item t || is_one_of t (10 ∷ 20 ∷ 70 ∷ 90 ∷ [])

pub record AllOpened (set : CharacterSet) (past : List Body) : Type 0 where
  pub item : Opened set is_item in_item past
  pub letter : Opened set (is 10) in_letter past

pub none-opened : (set : CharacterSet) → AllOpened set []
none-opened set = record { item = λ e. cc; letter = λ e. cc }

pub all-opened : (set : CharacterSet) (b : Body) (past : List Body) → AllOpened set past → Follows set past (type_of set b) → AllOpened set (b ∷ past)
all-opened set b past older e =
    record {
      item = on is_item in_item refl refl older.item;
      letter = on (is 10) in_letter refl refl older.letter;
    }
  where
    or-on : (o l h : Bool) → o || l ≡ true → (l ≡ true → h ≡ true) → o || h ≡ true
    or-on true l h e older = refl
    or-on false l h e older = older e

    on : (opens part : ℕ → Bool) → throughout (opening opens part) outside ≡ true → throughout (opening opens part) inside ≡ true
        → Opened set opens part past → Opened set opens part (b ∷ past)
    on opens part in-outside in-inside older q =
        or-on (opens (type_of set b)) (part (last_in set past)) (has set opens past)
        (where-in (part (type_of set b)) _ (by-tables set (opening opens part) in-outside in-inside past (type_of set b) e) q) older

-- a bundle is open behind a 20
pub inside-opened : (set : CharacterSet) (past : List Body) → inside_in set past ≡ true → has set (is 20) past ≡ true
inside-opened set [] e = e
inside-opened set (b ∷ past) e = cases (eqb (type_of set b) 20) (eqb (type_of set b) 70) (inside-opened set past) e
  where
    cases : (c d : Bool) → (inside_in set past ≡ true → has set (is 20) past ≡ true) → cond c true (cond d false (inside_in set past)) ≡ true
        → c || has set (is 20) past ≡ true
    cases true d older e = refl
    cases false true older e = cc
    cases false false older e = older e

-- the type of the newest item, where it is known, is that item's
pub holder-is : (set : CharacterSet) (past : List Body) → eqb (holder_in set past) 61 ≡ true → eqb (type_of set (newest set is_item past)) 61 ≡ true
holder-is set [] e = cc
holder-is set (b ∷ past) e =
    cases (eqb (type_of set b) 10 || (eqb (type_of set b) 20 || eqb (type_of set b) 70)) (is_item (type_of set b)) (holder-is set past) e
  where
    cases : (c d : Bool) → (eqb (holder_in set past) 61 ≡ true → eqb (type_of set (newest set is_item past)) 61 ≡ true)
        → eqb (cond c 0 (cond d (type_of set b) (holder_in set past))) 61 ≡ true → eqb (type_of set (cond d b (newest set is_item past))) 61 ≡ true
    cases true d older e = cc
    cases false true older e = e
    cases false false older e = older e

-- the newest record that passes a test, where there is one
pub record Passing (set : CharacterSet) (file : List ℕ) (test : ℕ → Bool) (at : ℕ) (b : Body) : Type 0 where
  pub held : HeldAt set file at b
  pub passes : test (type_of set b) ≡ true

pub newest-passes : (set : CharacterSet) (file : List ℕ) (test : ℕ → Bool) (past : List Body) → Held set file past → has set test past ≡ true
    → Passing set file test (newest_at set test past) (newest set test past)
newest-passes set file test [] h e = let z : ◌≡◌ {A = ℕ} 0 1 = cc in absurd (omega arith)
newest-passes set file test (b ∷ past) h e =
    cases (test (type_of set b)) refl (λ q. newest-passes set file test past h.1 q) e
  where
    cases : (c : Bool) → test (type_of set b) ≡ c → (has set test past ≡ true → Passing set file test (newest_at set test past) (newest set test past))
        → c || has set test past ≡ true → Passing set file test (cond c (extent past) (newest_at set test past)) (cond c b (newest set test past))
    cases true q older e = record { held = h.0; passes = q }
    cases false q older e = older e
