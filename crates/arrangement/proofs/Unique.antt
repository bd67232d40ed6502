-- No list of records is two arrangements: after a part that may go on stand only records of a later turn than its own. Assumes nothing.
use mathlib.Core.Bool.{cond}
use mathlib.Core.Logic.{◌≢◌}
use Prim.Native.Nat.{ℕ, ◌+◌, ◌≤◌}
use native.Mathlib.Omega.{arith}
use mathlib.Core.Path.{◌≡◌, refl, sym, ap, ◌∙◌}
use mathlib.Core.List.{List, [], ◌∷◌, ◌++◌}
use mathlib.Core.Option.{Option, none, some}
use lib.Dec.{eqb}
use Rattle.text.specs.declared.character_set.CharacterSet.{CharacterSet}
use Rattle.judge.specs.Alone.{type_of}
use Rattle.order.specs.MayFollow.{is_item}
use Rattle.file_as_records.specs.Framed.{Body}
use Rattle.arrangement.specs.Tree.{View, Addenda, of_check, of_return, of_credit, Item, Content, bundled, direct, CashLetter, File}
use Rattle.arrangement.specs.Written.{optional_then, view_then, views_then, item_then, items_then, content_then, contents_then, letter_then, letters_then, records}
use Rattle.arrangement.specs.Sound.{All, IfAny, layout_in}
use Rattle.arrangement.specs.TypesInPlace.{OfType, TypedView, TypedItem, TypedContent, TypedLetter, Typed}

-- the turn of a type: its number, but a 50 after a 54, an item after its views, a 20 after a 70 and a 10 after a 90
abbrev turn : ℕ → ℕ
turn t = cond (eqb t 50) 55 (cond (is_item t) 60 (cond (eqb t 20) 80 (cond (eqb t 10) 95 t)))

-- the turn of the record that comes next
abbrev next : CharacterSet → List Body → ℕ
next set [] = 100
next set (b ∷ bs) = turn (type_of set b)

-- what is written tells the part and what follows it, if that comes no sooner than the turn `to`
abbrev Known : CharacterSet → {A : Type 0} → (A → Type 0) → (A → List Body → List Body) → ℕ → Type 0
Known set {A} Ok write to =
    (x y : A) (r s : List Body) → Ok x → Ok y → to ≤ next set r → to ≤ next set s → write x r ≡ write y s → (x ≡ y) × (r ≡ s)

-- and a part that is not empty begins at the turn `from`
record Unique (set : CharacterSet) {A : Type 0} (Ok : A → Type 0) (write : A → List Body → List Body) (from to : ℕ) : Type 0 where
  begins : (x : A) (r : List Body) → Ok x → (m : ℕ) → m ≤ from → m ≤ next set r → m ≤ next set (write x r)
  known : Known set Ok write to

-- one record is known whatever follows it
single : (set : CharacterSet) (t to : ℕ) → Unique set (OfType set t) ◌∷◌ (turn t) to
single set t to = record { begins = λ x r h m a b. rw h a; known = λ x y r s h g a b e. (cc, cc) }

optional : (set : CharacterSet) (t : ℕ) → Unique set (IfAny (OfType set t)) optional_then (turn t) (turn t + 1)
optional set t = record { begins = begins; known = known } where
  begins : (x : Option Body) (r : List Body) → IfAny (OfType set t) x → (m : ℕ) → m ≤ turn t → m ≤ next set r → m ≤ next set (optional_then x r)
  begins none r h m a b = b
  begins (some x) r h m a b = rw h a

  known : Known set (IfAny (OfType set t)) optional_then (turn t + 1)
  known none none r s h g a b e = (refl, e)
  known (some x) (some y) r s h g a b e = (cc, cc)
  known none (some y) r s h g a b e = let z : next set r ≡ turn t = ap (next set) e ∙ ap turn g in absurd (omega arith)
  known (some x) none r s h g a b e = let z : next set s ≡ turn t = ap (next set) (sym e) ∙ ap turn h in absurd (omega arith)

-- parts of one sort, each of which begins at a turn between k and n
module _ (set : CharacterSet) {A : Type 0} (Ok : A → Type 0) (write : A → List Body → List Body) (all : List A → List Body → List Body) (k n : ℕ)
    (nil : (r : List Body) → all [] r ≡ r) (cons : (x : A) (xs : List A) (r : List Body) → all (x ∷ xs) r ≡ write x (all xs r))
    (head : (x : A) (r : List Body) → Ok x → (k ≤ next set (write x r)) × (next set (write x r) ≤ n)) (part : Known set Ok write k) where
  many-begin : (xs : List A) (r : List Body) → All Ok xs → (m : ℕ) → m ≤ k → m ≤ next set r → m ≤ next set (all xs r)
  many-begin [] r h m a b = rw (nil r) b
  many-begin (x ∷ xs) r h m a b = rw (cons x xs r) (omega (arith, head x (all xs r) h.0))

  -- nothing is not something: what follows comes after the turn n
  not_none : (y : A) (ys : List A) (r s : List Body) → Ok y → n + 1 ≤ next set r → all [] r ≡ all (y ∷ ys) s → ⊥
  not_none y ys r s g a e =
      let same = ap (next set) (sym (nil r) ∙ e ∙ cons y ys s) in omega (arith, same, head y (all ys s) g)

  many-known : Known set (All Ok) all (n + 1)
  many-known [] [] r s h g a b e = (refl, sym (nil r) ∙ e ∙ nil s)
  many-known [] (y ∷ ys) r s h g a b e = absurd (not_none y ys r s g.0 a e)
  many-known (x ∷ xs) [] r s h g a b e = absurd (not_none x xs s r h.0 b (sym e))
  many-known (x ∷ xs) (y ∷ ys) r s h g a b e =
      let k-n = head x r h.0 in
      let p = part x y (all xs r) (all ys s) h.0 g.0 (many-begin xs r h.1 k (omega arith) (omega arith))
      (many-begin ys s g.1 k (omega arith) (omega arith)) (sym (cons x xs r) ∙ e ∙ cons y ys s) in
      let q = many-known xs ys r s h.1 g.1 a b p.1 in
      (cc, q.1)

  many : Unique set (All Ok) all k (n + 1)
  many = record { begins = many-begin; known = many-known }

-- a part, and another after it
seq : (set : CharacterSet) {A B : Type 0} {P : A → Type 0} {Q : B → Type 0} {v : A → List Body → List Body} {w : B → List Body → List Body}
    {from to from' to' : ℕ} → Unique set P v from to → Unique set Q w from' to' → (from ≤ from') × (to ≤ from') × (to ≤ to') →
    Unique set {A = A × B} (λ x. P x.0 × Q x.1) (λ x r. v x.0 (w x.1 r)) from to'
seq set {A} {B} {w = w} {to = to} f g ordered = record {
  begins = λ x r h m a b. f.begins x.0 (w x.1 r) h.0 m a (g.begins x.1 r h.1 m (omega arith) b);
  known = λ x y r s h i a b e.
      let p = f.known x.0 y.0 (w x.1 r) (w y.1 s) h.0 i.0 (g.begins x.1 r h.1 to (omega arith) (omega arith))
      (g.begins y.1 s i.1 to (omega arith) (omega arith)) e in
      let q = g.known x.1 y.1 r s h.1 i.1 a b p.1 in
      let same : ◌≡◌ {A = A × B} (x.0, x.1) (y.0, y.1) = cc in
      (same, q.1);
}

-- a record, and a part after it
led : (set : CharacterSet) {B X : Type 0} {Q : B → Type 0} {w : B → List Body → List Body} {from to : ℕ} → (make : Body → B → X)
    → Unique set Q w from to →
    (d d' : Body) (x y : B) (r s : List Body) → Q x → Q y → to ≤ next set r → to ≤ next set s → d ∷ w x r ≡ d' ∷ w y s →
    (make d x ≡ make d' y) × (r ≡ s)
led set make part d d' x y r s h g a b e = let p = part.known x y r s h g a b (cc) in (cc, p.1)

-- a record, a part after it, and a record that closes it, known whatever follows
level : (set : CharacterSet) {B X : Type 0} {Q : B → Type 0} {w : B → List Body → List Body} {from to : ℕ} (t : ℕ) → (make : Body → B → Body → X)
    → Unique set Q w from to → to ≤ turn t → (d d' : Body) (x y : B) (c c' : Body) (r s : List Body) → Q x → Q y → OfType set t c → OfType set t c'
    → d ∷ w x (c ∷ r) ≡ d' ∷ w y (c' ∷ s) → (make d x c ≡ make d' y c') × (r ≡ s)
level set t make part later d d' x y c c' r s h g k k' e =
    let p = part.known x y (c ∷ r) (c' ∷ s) h g (rw k later) (rw k' later) (cc) in (cc, cc)

-- the first record of a part, of type t, stands at its turn
at_turn : (set : CharacterSet) (t : ℕ) (b : Body) → OfType set t b → (turn t ≤ turn (type_of set b)) × (turn (type_of set b) ≤ turn t)
at_turn set t b h = rw h (omega arith)

bodies : (set : CharacterSet) (t : ℕ) → Unique set (All (OfType set t)) ◌++◌ (turn t) (turn t + 1)
bodies set t =
    many set (OfType set t) ◌∷◌ ◌++◌ (turn t) (turn t) (λ r. refl) (λ x xs r. refl) (λ x r h. at_turn set t x h) (single set t (turn t)).known

views : (set : CharacterSet) → Unique set (All (TypedView set)) views_then 55 56
views set =
    many set (TypedView set) view_then views_then 55 55 (λ r. refl) (λ x xs r. refl) (λ x r h. at_turn set 50 x.detail h.detail) (λ x y r s h g.
    led set {X = View} (λ d z. let (image, analysis) = z in record { detail = d; image = image; analysis = analysis })
    (seq set (single set 52 53) (optional set 54) (omega arith))
    x.detail y.detail (x.image, x.analysis) (y.image, y.analysis) r s (h.image, h.analysis) (g.image, g.analysis))

abbrev item : Body → Addenda → List View → Item
item d a vs = record { detail = d; addenda = a; views = vs }

-- the types of an item's records behind the first, in pairs, as `seq` has its parts
of-check : (set : CharacterSet) {d : Body} {a : List Body} {b : Option Body} {c : List Body} {vs : List View}
    → TypedItem set (item d (of_check a b c) vs)
    → All (OfType set 26) a × (IfAny (OfType set 27) b × (All (OfType set 28) c × All (TypedView set) vs))
of-check set h = (h.addenda.addenda-a, (h.addenda.addendum-b, (h.addenda.addenda-c, h.views)))

of-return : (set : CharacterSet) {d : Body} {a : List Body} {b : Body} {c : Option Body} {g : List Body} {vs : List View}
    → TypedItem set (item d (of_return a b c g) vs)
    → All (OfType set 32) a × (OfType set 33 b × (IfAny (OfType set 34) c × (All (OfType set 35) g × All (TypedView set) vs)))
of-return set h = (h.addenda.addenda-a, (h.addenda.addendum-b, (h.addenda.addendum-c, (h.addenda.addenda-d, h.views))))

-- a list of records does not begin with two types
two-types : (set : CharacterSet) {d d' : Body} {r s : List Body} (t t' : ℕ) → t ≢ t' → OfType set t d → OfType set t' d' → d ∷ r ≡ d' ∷ s → ⊥
two-types set t t' other h h' e = other (cc)

item-known : (set : CharacterSet) (d d' : Body) (x x' : Addenda) (vs vs' : List View) (r s : List Body) → TypedItem set (item d x vs)
    → TypedItem set (item d' x' vs') →
    60 ≤ next set r → 60 ≤ next set s → item_then (item d x vs) r ≡ item_then (item d' x' vs') s → (item d x vs ≡ item d' x' vs') × (r ≡ s)
item-known set d d' (of_check a b c) (of_check a' b' c') vs vs' r s h h' l l' e =
    led set (λ d z. let (a, more) = z in let (b, others) = more in let (c, vs) = others in item d (of_check a b c) vs)
    (seq set (bodies set 26) (seq set (optional set 27) (seq set (bodies set 28) (views set) (omega arith)) (omega arith)) (omega arith))
    d d' (a, (b, (c, vs))) (a', (b', (c', vs'))) r s
    (of-check set h) (of-check set h') (omega arith) (omega arith) e
item-known set d d' (of_return a b c g) (of_return a' b' c' g') vs vs' r s h h' l l' e =
    led set (λ d z. let (a, more) = z in let (b, others) = more in let (c, last) = others in let (g, vs) = last in item d (of_return a b c g) vs)
    (seq set (bodies set 32) (seq set (single set 33 34)
    (seq set (optional set 34) (seq set (bodies set 35) (views set) (omega arith)) (omega arith)) (omega arith)) (omega arith))
    d d' (a, (b, (c, (g, vs)))) (a', (b', (c', (g', vs')))) r s
    (of-return set h) (of-return set h') (omega arith) (omega arith) e
item-known set d d' of_credit of_credit vs vs' r s h h' l l' e =
    led set (λ d z. item d of_credit z) (views set) d d' vs vs' r s h.views h'.views (omega arith) (omega arith) e
item-known set d d' (of_check _ _ _) (of_return _ _ _ _) vs vs' r s h h' l l' e = absurd (two-types set 25 31 (omega arith) h.detail h'.detail e)
item-known set d d' (of_check _ _ _) of_credit vs vs' r s h h' l l' e = absurd (two-types set 25 61 (omega arith) h.detail h'.detail e)
item-known set d d' (of_return _ _ _ _) (of_check _ _ _) vs vs' r s h h' l l' e = absurd (two-types set 31 25 (omega arith) h.detail h'.detail e)
item-known set d d' (of_return _ _ _ _) of_credit vs vs' r s h h' l l' e = absurd (two-types set 31 61 (omega arith) h.detail h'.detail e)
item-known set d d' of_credit (of_check _ _ _) vs vs' r s h h' l l' e = absurd (two-types set 61 25 (omega arith) h.detail h'.detail e)
item-known set d d' of_credit (of_return _ _ _ _) vs vs' r s h h' l l' e = absurd (two-types set 61 31 (omega arith) h.detail h'.detail e)

item-turn : (set : CharacterSet) (x : Addenda) (d : Body) → OfType set (layout_in x).type_number d
    → (60 ≤ turn (type_of set d)) × (turn (type_of set d) ≤ 60)
item-turn set (of_check a b c) d h = at_turn set 25 d h
item-turn set (of_return a b c d) e h = at_turn set 31 e h
item-turn set of_credit d h = at_turn set 61 d h

items : (set : CharacterSet) → Unique set (All (TypedItem set)) items_then 60 61
items set =
    many set (TypedItem set) item_then items_then 60 60 (λ r. refl) (λ x xs r. refl) (λ x r h. item-turn set x.addenda x.detail h.detail)
    (λ x y. item-known set x.detail y.detail x.addenda y.addenda x.views y.views)

content-known : (set : CharacterSet) → Known set (TypedContent set) content_then 60
content-known set (bundled x) (bundled y) r s h g a b e =
    level set 70 (λ d is c. bundled (record { header = d; items = is; control = c })) (items set) (omega arith)
    x.header y.header x.items y.items x.control y.control r s h.items g.items h.control g.control e
content-known set (direct x) (direct y) r s h g a b e =
    led set (λ d vs. direct (record { detail = d; views = vs })) (views set)
    x.detail y.detail x.views y.views r s h.views g.views (omega arith) (omega arith) e
content-known set (bundled x) (direct y) r s h g a b e = absurd (two-types set 20 61 (omega arith) h.header g.detail e)
content-known set (direct x) (bundled y) r s h g a b e = absurd (two-types set 61 20 (omega arith) h.detail g.header e)

content-turn : (set : CharacterSet) (x : Content) (r : List Body) → TypedContent set x
    → (60 ≤ next set (content_then x r)) × (next set (content_then x r) ≤ 80)
content-turn set (bundled x) r h = omega (arith, at_turn set 20 x.header h.header)
content-turn set (direct x) r h = omega (arith, at_turn set 61 x.detail h.detail)

contents : (set : CharacterSet) → Unique set (All (TypedContent set)) contents_then 60 81
contents set = many set (TypedContent set) content_then contents_then 60 80 (λ r. refl) (λ x xs r. refl) (content-turn set) (content-known set)

letters : (set : CharacterSet) → Unique set (All (TypedLetter set)) letters_then 95 96
letters set = many set (TypedLetter set) letter_then letters_then 95 95 (λ r. refl) (λ x xs r. refl) (λ x r h. at_turn set 10 x.header h.header)
    (λ x y r s h g a b. level set {X = CashLetter} 90 (λ d cs c. record { header = d; contents = cs; control = c }) (contents set) (omega arith)
    x.header y.header x.contents y.contents x.control y.control r s h.contents g.contents h.control g.control)

-- no list of records is two arrangements, whatever else the records hold
pub one-shape : (set : CharacterSet) (x y : File) → Typed set x → Typed set y → records x ≡ records y → x ≡ y
one-shape set x y h g e =
    (level set {X = File} 99 (λ d ls c. record { header = d; letters = ls; control = c }) (letters set) (omega arith)
    x.header y.header x.letters y.letters x.control y.control [] [] h.letters g.letters h.control g.control e).0
