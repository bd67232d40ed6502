-- What the numbers of a kind in the table say of a record: whatever the kinds are, and however many. Assumes nothing.
use mathlib.Core.Path.{◌≡◌, refl, sym, ◌∙◌, ap}
use mathlib.Core.Bool.{Bool, true, false, cond}
use mathlib.Core.List.{List, [], ◌∷◌, map}
use Prim.Native.Nat.{ℕ, zero, suc, ◌+◌, ◌-◌, ◌≤◌}
use native.Mathlib.Omega.{arith}
use borrow.Author.Tests.{leb-true}
use lib.Dec.{leb, eqb}
use lib.ListN.{length, get_or, take, drop, length-take, length-drop}
use lib.Seq.{drop-drop}
use Rattle.text.specs.declared.character_set.CharacterSet.{CharacterSet}
use Rattle.text.specs.DataTypes.{every}
use Rattle.layout.specs.Layout.{Layout}
use Rattle.layout.specs.Layouts.{layouts}
use Rattle.layout.specs.Packing.{Block, block_of, block_in, blocks_in, type_in, long_in, fields_in, parts_in, lines_in, lines_from, sized_from, is_whole, are_whole, own_in, lies_within, Packed}
use Rattle.judge.specs.Alone.{judged, among_layouts, judged_as}
use Rattle.judge.specs.ByNumbers.{by_block, by_own}
use Rattle.judge.specs.Alone.{Judged}
use Rattle.judge.specs.Alone.{UnknownType}
use Rattle.judge.proofs.Laws.{both_true}

-- a record judged by the first block of its type
abbrev among_blocks : CharacterSet → List Block → ℕ → List ℕ → Judged
among_blocks set [] t body = UnknownType
among_blocks set (b ∷ bs) t body = cond (eqb t b.type_number) (by_block set b body) (among_blocks set bs t body)

blocks-of : (set : CharacterSet) (ls : List Layout) (t : ℕ) (body : List ℕ) → among_blocks set (map block_of ls) t body ≡ among_layouts set ls t body
blocks-of set [] t body = refl
blocks-of set (l ∷ ls) t body =
    ap (cond (eqb t l.type_number) (judged set l.fixed_length l.lines (block_of l).parts body)) (blocks-of set ls t body)

own_of : (set : CharacterSet) (n t : ℕ) (numbers body : List ℕ) → among_blocks set (blocks_in n numbers) t body ≡ by_own set (own_in t n numbers) body
unfolding blocks_in own_in
own_of set zero t numbers body = refl
own_of set (suc n) t [] body = refl
own_of set (suc n) t (header ∷ rest) body =
    picked (eqb t (type_in header)) (own_in t n (drop (fields_in header) rest)) (own_of set n t (drop (fields_in header) rest) body)
  where
    picked : (here : Bool) {others : Judged} (own : List ℕ) → others ≡ by_own set own body
        → cond here (by_block set (block_in header rest) body) others ≡ by_own set (cond here (header ∷ rest) own) body
    picked true own e = refl
    picked false own e = e

pub judged-by-own : (set : CharacterSet) (numbers : List ℕ) → Packed numbers → (t : ℕ) (body : List ℕ) → by_own set (own_in t (length numbers) numbers) body ≡ judged_as set t body
unfolding judged_as
judged-by-own set numbers p t body =
    sym (own_of set (length numbers) t numbers body)
    ∙ ap (λ (bs : List Block). among_blocks set bs t body) p.means
    ∙ blocks-of set layouts t body

-- the numbers of a kind are there, and its lines lie within its fixed part
own-whole : (n t : ℕ) (numbers : List ℕ) → are_whole n numbers ≡ true → is_whole (own_in t n numbers) ≡ true
unfolding are_whole own_in
own-whole zero t numbers e = refl
own-whole (suc n) t [] e = refl
own-whole (suc n) t (header ∷ rest) e =
    let both = both_true (is_whole (header ∷ rest)) (are_whole n (drop (fields_in header) rest)) e in
    picked (eqb t (type_in header)) (own_in t n (drop (fields_in header) rest)) both.0 (own-whole n t (drop (fields_in header) rest) both.1)
  where
    picked : (here : Bool) (own : List ℕ) → is_whole (header ∷ rest) ≡ true → is_whole own ≡ true → is_whole (cond here (header ∷ rest) own) ≡ true
    picked true own h o = h
    picked false own h o = o

pub table-own : (numbers : List ℕ) → Packed numbers → (t : ℕ) → is_whole (own_in t (length numbers) numbers) ≡ true
table-own numbers p t = own-whole (length numbers) t numbers p.whole

pub not_none : (n : ℕ) → (n ≡ 0 → ⊥) → 1 ≤ n
not_none n h = omega arith

pub record Whole (own : List ℕ) : Type 0 where
  pub fields : fields_in (get_or own 0 0) + 1 ≤ length own
  pub parts : parts_in (get_or own 0 0) ≤ fields_in (get_or own 0 0)
  pub lines : every (lies_within (long_in (get_or own 0 0))) (take (lines_in (get_or own 0 0)) (drop 1 own)) ≡ true

pub whole : (own : List ℕ) → 1 ≤ length own → is_whole own ≡ true → Whole own
whole [] h e = absurd (omega arith)
whole (header ∷ rest) h e =
    let first = both_true (leb (fields_in header) (length rest)) _ e in
    let second = both_true (leb (parts_in header) (fields_in header)) _ first.1 in
    record {
      fields = omega (arith, leb-true (fields_in header) (length rest) first.0);
      parts = leb-true (parts_in header) (fields_in header) second.0;
      lines = second.1;
    }

-- the numbers of the lines and of the parts, as they are lent
module _ (set : CharacterSet) (own : List ℕ) (parts end : ℕ) (any : 1 ≤ length own) (is : is_whole own ≡ true) (to : end ≡ fields_in (get_or own 0 0) + 1)
    (from : parts ≡ end - parts_in (get_or own 0 0)) where
  abbrev lent : List ℕ
  lent = take (parts - 1) (drop 1 own)

  lines-lent : parts - 1 ≡ lines_in (get_or own 0 0)
  lines-lent = let w = whole own any is in omega arith

  pub length-lent : length lent ≡ lines_in (get_or own 0 0)
  length-lent = let w = whole own any is in rw lines-lent (simp (length-take, length-drop) (omega arith))

  pub lines-within : every (lies_within (long_in (get_or own 0 0))) lent ≡ true
  lines-within = rw lines-lent (whole own any is).lines

  pub own-judged : (body : List ℕ)
      → judged set (long_in (get_or own 0 0)) (lines_from 1 lent) (sized_from (length lent + 1) (take (end - parts) (drop parts own))) body ≡ by_own set own body
  own-judged body = rw (length-lent, lines-lent, sizes, behind) (taken-apart own any body)
    where
      sizes : end - parts ≡ parts_in (get_or own 0 0)
      sizes = let w = whole own any is in omega arith

      at : 1 + lines_in (get_or own 0 0) ≡ parts
      at = let w = whole own any is in omega arith

      behind : drop parts own ≡ drop (lines_in (get_or own 0 0)) (drop 1 own)
      behind = ap (λ (k : ℕ). drop k own) (sym at) ∙ sym (drop-drop (lines_in (get_or own 0 0)) 1 own)

      taken-apart : (xs : List ℕ) → 1 ≤ length xs → (body : List ℕ)
          → judged set (long_in (get_or xs 0 0)) (lines_from 1 (take (lines_in (get_or xs 0 0)) (drop 1 xs)))
          (sized_from (lines_in (get_or xs 0 0) + 1) (take (parts_in (get_or xs 0 0)) (drop (lines_in (get_or xs 0 0)) (drop 1 xs)))) body
          ≡ by_own set xs body
      taken-apart [] h body = absurd (omega arith)
      taken-apart (header ∷ rest) h body = refl
