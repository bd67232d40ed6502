-- Records whose types follow one another are an arrangement, written out, and never two. Assumes nothing.
use Prim.Native.Nat.{ℕ}
use native.Mathlib.Omega.{arith}
use mathlib.Core.Path.{◌≡◌, refl}
use mathlib.Core.List.{List, [], ◌∷◌, ◌++◌}
use mathlib.Core.Option.{none, some}
use mathlib.Core.Bool.{Bool, true, false, ◌&&◌, cond, and-eq-true_iff}
use lib.Dec.{eqb}
use borrow.Author.Tests.{eqb-true}
use Rattle.text.specs.declared.character_set.CharacterSet.{CharacterSet}
use Rattle.judge.specs.Alone.{type_of}
use Rattle.order.specs.MayFollow.{After, after, inside, outside, table, follows, is_one_of, in_table}
use Rattle.order.proofs.Laws.{or-picks}
use Rattle.file_as_records.specs.Framed.{Body}
use Rattle.arrangement.specs.Tree.{of_check, of_return, of_credit, bundled, direct, File}
use Rattle.arrangement.specs.Written.{optional_then, views_then, items_then, contents_then, letters_then, records}
use Rattle.arrangement.specs.Sound.{All, IfAny}
use Rattle.arrangement.specs.TypesInPlace.{OfType, TypedView, TypedItem, TypedContent, TypedLetter, Typed}
pub use Rattle.arrangement.proofs.Unique.{one-shape}

-- whether a bundle is open after a record of a type
abbrev pub open_after : Bool → ℕ → Bool
open_after opened t = cond (eqb t 20) true (cond (eqb t 70) false opened)

-- types that follow one another, to the 99
abbrev pub Chain : CharacterSet → Bool → ℕ → List Body → Type 0
Chain set opened last [] = last ≡ 99
Chain set opened last (b ∷ bs) = (follows opened last (type_of set b) ≡ true) × Chain set (open_after opened (type_of set b)) (type_of set b) bs

-- what is said of a list of records, here: that it is the rest of an arrangement from some place on, written out
abbrev pub Shape : Type 1
Shape = List Body → Type 0

-- a part, written out, and the rest after it
pub data Then {A : Type 0} (Ok : A → Type 0) (write : A → List Body → List Body) (Rest : Shape) : List Body → Type 0 where
  then : (x : A) (r : List Body) → Ok x → Rest r → Then Ok write Rest (write x r)

abbrev pub One : CharacterSet → ℕ → Shape → Shape
One set t Rest = Then (OfType set t) ◌∷◌ Rest

abbrev pub Perhaps : CharacterSet → ℕ → Shape → Shape
Perhaps set t Rest = Then (IfAny (OfType set t)) optional_then Rest

abbrev pub Several : CharacterSet → ℕ → Shape → Shape
Several set t Rest = Then (All (OfType set t)) ◌++◌ Rest

abbrev pub Nothing : Shape
Nothing bs = bs ≡ []

abbrev Letters : CharacterSet → Shape
Letters set = Then (All (TypedLetter set)) letters_then (One set 99 Nothing)

abbrev Contents : CharacterSet → Shape
Contents set = Then (All (TypedContent set)) contents_then (One set 90 (Letters set))

-- the items of a bundle, its 70, and what stands behind it
abbrev pub Items : CharacterSet → Shape → Shape
Items set Behind = Then (All (TypedItem set)) items_then (One set 70 Behind)

-- the views of an item, or of a credit directly in a cash letter
abbrev pub Views : CharacterSet → Shape → Shape
Views set Rest = Then (All (TypedView set)) views_then Rest

abbrev pub Image : CharacterSet → Shape → Shape
Image set Rest = One set 52 (Perhaps set 54 (Views set Rest))

abbrev pub OfCheck : CharacterSet → Shape → Shape
OfCheck set Behind = Several set 26 (Perhaps set 27 (Several set 28 (Views set (Items set Behind))))

abbrev pub OfReturn : CharacterSet → Shape → Shape
OfReturn set Behind = Several set 32 (One set 33 (Perhaps set 34 (Several set 35 (Views set (Items set Behind)))))

-- what goes on after views, and after a 61
abbrev pub Others : CharacterSet → Shape → Bool → Shape
Others set Behind opened = cond opened (Items set Behind) Behind

-- the rest after a record of a type, where something stands behind a bundle, or behind a credit; 0 is the start
abbrev pub Rest : CharacterSet → Shape → Bool → ℕ → Shape
Rest set Behind opened t =
    cond (eqb t 0) (One set 1 (Letters set))
    (cond (is_one_of t (1 ∷ 90 ∷ [])) (Letters set)
    (cond (is_one_of t (10 ∷ 70 ∷ [])) Behind
    (cond (eqb t 20) (Items set Behind)
    (cond (is_one_of t (25 ∷ 26 ∷ [])) (OfCheck set Behind)
    (cond (is_one_of t (27 ∷ 28 ∷ [])) (Several set 28 (Views set (Items set Behind)))
    (cond (is_one_of t (31 ∷ 32 ∷ [])) (OfReturn set Behind)
    (cond (eqb t 33) (Perhaps set 34 (Several set 35 (Views set (Items set Behind))))
    (cond (is_one_of t (34 ∷ 35 ∷ [])) (Several set 35 (Views set (Items set Behind)))
    (cond (eqb t 50) (Image set (Others set Behind opened))
    (cond (eqb t 52) (Perhaps set 54 (Views set (Others set Behind opened)))
    (cond (is_one_of t (54 ∷ 61 ∷ [])) (Views set (Others set Behind opened)) Nothing)))))))))))

-- with a record of the type t before it, a P is a Q
abbrev Before : CharacterSet → ℕ → Shape → Shape → Type 0
Before set t P Q = (b : Body) (bs : List Body) → OfType set t b → P bs → Q (b ∷ bs)

module _ (set : CharacterSet) {t : ℕ} {P : Shape} where
  one : Before set t P (One set t P)
  one b bs h x = then b bs h x

  perhaps : Before set t P (Perhaps set t P)
  perhaps b bs h x = then (some b) bs h x

  several : Before set t (Several set t P) (Several set t P)
  several b bs h (then xs r hs x) = then (b ∷ xs) r (h, hs) x

  not-any : (bs : List Body) → P bs → Perhaps set t P bs
  not-any bs x = then none bs tt x

  no_more : (bs : List Body) → P bs → Several set t P bs
  no_more bs x = then [] bs tt x

module _ (set : CharacterSet) {P : Shape} where
  no-view : (bs : List Body) → P bs → Views set P bs
  no-view bs x = then [] bs tt x

  view : Before set 50 (Image set P) (Views set P)
  view b bs h (then i _ hi (then a _ ha (then vs r hs x))) =
      then (record { detail = b; image = i; analysis = a } ∷ vs) r (record { detail = h; image = hi; analysis = ha }, hs) x

module _ (set : CharacterSet) {Behind : Shape} where
  check : Before set 25 (OfCheck set Behind) (Items set Behind)
  check b bs h (then xs _ hx (then o _ ho (then cs _ hc (then vs _ hv (then is r hs x))))) =
      then (record { detail = b; addenda = of_check xs o cs; views = vs } ∷ is) r
      (record { detail = h; addenda = record { addenda-a = hx; addendum-b = ho; addenda-c = hc }; views = hv }, hs) x

  return : Before set 31 (OfReturn set Behind) (Items set Behind)
  return b bs h (then xs _ hx (then s _ hb (then o _ ho (then ds _ hd (then vs _ hv (then is r hs x)))))) =
      then (record { detail = b; addenda = of_return xs s o ds; views = vs } ∷ is) r
      (record { detail = h; addenda = record { addenda-a = hx; addendum-b = hb; addendum-c = ho; addenda-d = hd }; views = hv }, hs) x

  credit : Before set 61 (Views set (Items set Behind)) (Items set Behind)
  credit b bs h (then vs _ hv (then is r hs x)) =
      then (record { detail = b; addenda = of_credit; views = vs } ∷ is) r (record { detail = h; addenda = tt; views = hv }, hs) x

  bundle-end : Before set 70 Behind (Items set Behind)
  bundle-end b bs h x = then [] (b ∷ bs) tt (then b bs h x)

direct-credit : (set : CharacterSet) → Before set 61 (Views set (Contents set)) (Contents set)
direct-credit set b bs h (then vs _ hv (then cs r hs x)) =
    then (direct (record { detail = b; views = vs }) ∷ cs) r (record { detail = h; views = hv }, hs) x

bundle : (set : CharacterSet) → Before set 20 (Items set (Contents set)) (Contents set)
bundle set b bs h (then is _ hi (then c _ hc (then cs r hs x))) =
    then (bundled (record { header = b; items = is; control = c }) ∷ cs) r (record { header = h; items = hi; control = hc }, hs) x

letter : (set : CharacterSet) → Before set 10 (Contents set) (Letters set)
letter set b bs h (then cs _ hu (then c _ hc (then ls r hs x))) =
    then (record { header = b; contents = cs; control = c } ∷ ls) r (record { header = h; contents = hu; control = hc }, hs) x

letter-end : (set : CharacterSet) → Before set 90 (Letters set) (Contents set)
letter-end set b bs h x = then [] (b ∷ bs) tt (then b bs h x)

file-end : (set : CharacterSet) → Before set 99 Nothing (Letters set)
file-end set b bs h x = then [] (b ∷ bs) tt (then b bs h x)

-- `All` as data: `search` builds it in one call, where it takes the product `All` apart too dearly
pub data Each {A : Type 0} (P : A → Type 0) : List A → Type 0 where
  end : Each P []
  and : {x : A} {xs : List A} → P x → Each P xs → Each P (x ∷ xs)

-- An entry of the table leads from the rest after the later type to the rest after the earlier. A record, so that what `search` finds is short.
pub record Kept (set : CharacterSet) (Behind : Shape) (opened : Bool) (b : Body) (bs : List Body) (last t : ℕ) : Type 0 where
  pub before : OfType set t b → Rest set Behind (open_after opened t) t bs → Rest set Behind opened last (b ∷ bs)

kept : (set : CharacterSet) {Behind : Shape} {opened : Bool} {b : Body} {bs : List Body} {last t : ℕ}
    → (OfType set t b → Rest set Behind (open_after opened t) t bs → Rest set Behind opened last (b ∷ bs)) → Kept set Behind opened b bs last t
kept set f = record { before = f }

ruleset steps = (one, perhaps, several, not-any, no_more, no-view, view, check, return, credit, direct-credit, bundle, letter, bundle-end, letter-end, file-end, kept, end, and)

abbrev pub AllKept : CharacterSet → Shape → Bool → Body → List Body → List After → Type 0
AllKept set Behind opened b bs lines = Each (λ (line : After). Each (Kept set Behind opened b bs line.last) line.next) lines

-- in a bundle whatever stands behind it, and outside
pub inside-kept : (set : CharacterSet) (Behind : Shape) (b : Body) (bs : List Body) → AllKept set Behind true b bs inside
inside-kept set Behind b bs = search steps depth 40 fits 4000

outside_kept : (set : CharacterSet) (b : Body) (bs : List Body) → AllKept set (Contents set) false b bs outside
outside_kept set b bs = search steps depth 40 fits 4000

table_kept : (set : CharacterSet) (opened : Bool) (b : Body) (bs : List Body) → AllKept set (Contents set) opened b bs (table opened)
table_kept set false b bs = outside_kept set b bs
table_kept set true b bs = inside-kept set (Contents set) b bs

-- a credit's views, whatever stands behind them
abbrev pub view_lines : List After
view_lines = after 61 (50 ∷ []) ∷ after 50 (52 ∷ []) ∷ after 52 (50 ∷ 54 ∷ []) ∷ after 54 (50 ∷ []) ∷ []

pub views-kept : (set : CharacterSet) (Behind : Shape) (b : Body) (bs : List Body) → AllKept set Behind false b bs view_lines
views-kept set Behind b bs = search steps depth 40 fits 4000

pub of-list : (P : ℕ → Type 0) (t : ℕ) (ts : List ℕ) → Each P ts → is_one_of t ts ≡ true → P t
of-list P t [] e f = let z : ◌≡◌ {A = ℕ} 0 1 = cc in absurd (omega arith)
of-list P t (u ∷ us) (and p e) f = or-picks (eqb t u) (is_one_of t us) f (λ h. rw (eqb-true t u h) p) (of-list P t us e)

pub of-table : (P : ℕ → ℕ → Type 0) (last t : ℕ) (lines : List After) → Each (λ (line : After). Each (P line.last) line.next) lines →
    in_table lines last t ≡ true → P last t
of-table P last t [] e f = let z : ◌≡◌ {A = ℕ} 0 1 = cc in absurd (omega arith)
of-table P last t (line ∷ lines) (and p e) f =
    or-picks (eqb last line.last && is_one_of t line.next) (in_table lines last t) f here (of-table P last t lines e)
  where
    here : eqb last line.last && is_one_of t line.next ≡ true → P last t
    here h =
        let both = (and-eq-true_iff (eqb last line.last) (is_one_of t line.next)).0 h in
        rw (eqb-true last line.last both.0) (of-list (P line.last) t line.next p both.1)

rest : (set : CharacterSet) (bs : List Body) (opened : Bool) (last : ℕ) → Chain set opened last bs → Rest set (Contents set) opened last bs
unfolding follows
rest set [] opened last c = rw c refl
rest set (b ∷ bs) opened last c =
    (of-table (Kept set (Contents set) opened b bs) last (type_of set b) (table opened) (table_kept set opened b bs) c.0).before refl
    (rest set bs (open_after opened (type_of set b)) (type_of set b) c.1)

-- an arrangement of records, of the types of their places
pub record Shaped (set : CharacterSet) (bs : List Body) : Type 0 where
  pub file : File
  pub written_out : records file ≡ bs
  pub typed : Typed set file

whole : (set : CharacterSet) (bs : List Body) → One set 1 (Letters set) bs → Shaped set bs
whole set bs (then h _ hh (then ls _ hl (then c r hc e))) =
    record {
      file = record { header = h; letters = ls; control = c };
      written_out = rw e refl;
      typed = record { header = hh; letters = hl; control = hc };
    }

-- records whose types follow one another are an arrangement, written out
pub shape_of : (set : CharacterSet) (bs : List Body) → Chain set false 0 bs → Shaped set bs
shape_of set bs c = whole set bs (rest set bs false 0 c)
