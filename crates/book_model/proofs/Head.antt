-- An owner's block of the head written anew: it says what was written, and the other owner's block and the rows are as they were. Assumes nothing.
use Prim.Native.Nat.{ℕ, ◌+◌, ◌-◌, ◌/◌, ◌≤◌}
use native.Mathlib.Omega.{arith}
use mathlib.Core.Bool.{Bool, true, false, cond}
use mathlib.Core.Path.{◌≡◌, refl, sym, ap, ◌∙◌, subst}
use mathlib.Core.List.{List, [], ◌∷◌, ◌++◌}
use lib.Dec.{eqb}
use lib.ListN.{length, get_or}
use lib.Seq.{sets, length-sets}
use borrow.Author.Tests.{le-leb, eqb-true}
use Rattle.figures.specs.declared.Figures.{Figures}
use Rattle.figures.specs.Figures.{same, numbers_of, figures_at}
use Rattle.figures.proofs.Laws.{same_refl}
use Rattle.net.specs.Net.{bits_of, is_net, within}
use Rattle.net.proofs.Laws.{net-is}
use Rattle.book_model.specs.declared.Entry.{Entry}
use Rattle.book_model.specs.PlainList.{totals_of, position_of}
use Rattle.book_model.specs.Table.{is_owner, block_of, rows_claimed, last_number, running_totals, net_number, rows_there, entries_of, adds_up, is_book, block_with}
use Rattle.book_model.proofs.Laws.{block_within, of_either, sound}
use Rattle.book_model.proofs.Stores.{stored-before, stored-behind, stored-first, stored-in, stored-apart}
use Rattle.book_model.proofs.Used.{never}
use Rattle.book_model.proofs.Rows.{Alike, figures-alike, figures-back}

-- an owner's block adds up to entries
pub record Adds (p : ℕ) (t : List ℕ) (es : List Entry) : Type 0 where
  pub sums : running_totals p t ≡ totals_of es
  pub net : is_net (net_number p t) (position_of (totals_of es)) ≡ true

adds-up : (o : ℕ) (book : List ℕ) → Adds o book (entries_of o book) → adds_up o book ≡ true
unfolding adds_up
adds-up o book a =
    rw (ap (λ (f : Figures). same f (totals_of (entries_of o book))) a.sums ∙ same_refl (totals_of (entries_of o book)))
    a.net

pub book-is : (book : List ℕ) → rows_claimed book ≤ rows_there book → ((p : ℕ) → is_owner p ≡ true → Adds p book (entries_of p book)) → is_book book ≡ true
unfolding is_book is_owner
book-is book h each = rw (le-leb (rows_claimed book) (rows_there book) h, adds-up 1 book (each 1 refl), adds-up 2 book (each 2 refl))

pub book-adds : (book : List ℕ) → is_book book ≡ true → (p : ℕ) → is_owner p ≡ true → Adds p book (entries_of p book)
book-adds book good p who =
    let s = (sound book good).sums p who in
    record { sums = s; net = ap (λ (f : Figures). is_net (net_number p book) (position_of f)) (sym s) ∙ (sound book good).nets p who }

-- a table that was a book and is still one
pub record StillBook (book after : List ℕ) : Type 0 where
  pub long : length after ≡ length book
  pub claims : rows_claimed after ≤ rows_there book
  pub adds : (p : ℕ) → is_owner p ≡ true → Adds p after (entries_of p after)

pub as-there : (book after : List ℕ) → StillBook book after → rows_there after ≡ rows_there book
as-there book after s = ap (λ (n : ℕ). (n - 17) / 9) s.long

pub still-book : (book after : List ℕ) → StillBook book after → is_book after ≡ true
still-book book after s = book-is after (omega (arith, as-there book after s)) s.adds

pub adds-alike : (p : ℕ) (t u : List ℕ) (es : List Entry) → Alike t u (block_of p) (block_of p + 8) → Adds p u es → Adds p t es
adds-alike p t u es h a =
    record {
      sums = figures-alike t u (block_of p + 1) (λ k x y. h k (omega arith) (omega arith)) ∙ a.sums;
      net = ap (λ (n : ℕ). is_net n (position_of (totals_of es))) (h (block_of p + 7) (omega arith) (omega arith)) ∙ a.net;
    }

-- eight numbers written into an owner's block are not in the other's
module _ (vs l : List ℕ) (eight : length vs ≡ 8) where
  abbrev Apart : ℕ → ℕ → Type 0
  Apart o p = eqb o p ≡ false → Alike (sets l (block_of o) vs) l (block_of p) (block_of p + 8)

  blocks-apart : (o p : ℕ) → is_owner o ≡ true → is_owner p ≡ true → Apart o p
  unfolding block_of
  blocks-apart o p q r =
      of_either (λ (a : ℕ). Apart a p) (of_either (Apart 1) never (λ e k a b. stored-behind vs l 1 k (omega arith)) p r)
      (of_either (Apart 2) (λ e k a b. stored-before vs l 9 k (omega arith)) never p r) o q

abbrev pub headed : ℕ → List ℕ → ℕ → Figures → List ℕ
headed o t last totals = sets t (block_of o) (block_with last totals)

module _ (o : ℕ) (t : List ℕ) (last : ℕ) (totals : Figures) where
  pub headed-long : length (headed o t last totals) ≡ length t
  headed-long = length-sets t (block_of o) (block_with last totals)

  pub headed-claimed : rows_claimed (headed o t last totals) ≡ rows_claimed t
  headed-claimed = stored-before (block_with last totals) t (block_of o) 0 (block_within o).0

  pub headed-behind : (k : ℕ) → 17 ≤ k → get_or (headed o t last totals) k 0 ≡ get_or t k 0
  headed-behind k h = stored-behind (block_with last totals) t (block_of o) k (omega (arith, block_within o))

  module _ (long : 17 ≤ length t) where
    fits : block_of o + 8 ≤ length t
    fits = omega (arith, block_within o)

    own-last : last_number o (headed o t last totals) ≡ last
    own-last = stored-first last (numbers_of totals ++ (bits_of (position_of totals) ∷ [])) t (block_of o) fits

    own-totals : running_totals o (headed o t last totals) ≡ totals
    own-totals =
        let net = bits_of (position_of totals) ∷ [] in
        let started = sets t (block_of o) (last ∷ []) in
        let summed = sets started (block_of o + 1) (numbers_of totals) in
        ap (λ (l : List ℕ). figures_at l (block_of o + 1))
        (stored-apart (last ∷ []) (numbers_of totals ++ net) t (block_of o) ∙ stored-apart (numbers_of totals) net started (block_of o + 1))
        ∙ figures-alike (sets summed (block_of o + 1 + 6) net) summed (block_of o + 1) (λ k a b. stored-before net summed (block_of o + 1 + 6) k b)
        ∙ figures-back started (block_of o + 1) totals (omega (arith, length-sets t (block_of o) (last ∷ []), fits))

    own-net : net_number o (headed o t last totals) ≡ bits_of (position_of totals)
    own-net = stored-in (block_with last totals) t (block_of o) 7 fits (omega arith)

    own-adds : (es : List Entry) → totals ≡ totals_of es → within (position_of totals) ≡ true → Adds o (headed o t last totals) es
    own-adds es e w =
        record {
          sums = own-totals ∙ e;
          net = (λ i. is_net (own-net i) (position_of (sym e i))) ∙ net-is (position_of totals) w;
        }

    module _ (who : is_owner o ≡ true) (p : ℕ) (other : is_owner p ≡ true) where
      pub other_block : eqb o p ≡ false → Alike (headed o t last totals) t (block_of p) (block_of p + 8)
      other_block e = blocks-apart (block_with last totals) t refl o p who other e

      pub headed-last : last_number p (headed o t last totals) ≡ cond (eqb o p) last (last_number p t)
      headed-last = by-test (eqb o p) refl
        where
          by-test : (s : Bool) → eqb o p ≡ s → last_number p (headed o t last totals) ≡ cond s last (last_number p t)
          by-test true e = subst (λ (q : ℕ). last_number q (headed o t last totals) ≡ last) (eqb-true o p e) own-last
          by-test false e = other_block e (block_of p) (omega arith) (omega arith)

      pub headed-adds : (es : List Entry) → within (position_of totals) ≡ true → (eqb o p ≡ true → totals ≡ totals_of es) → (eqb o p ≡ false → Adds p t es)
          → Adds p (headed o t last totals) es
      headed-adds es w own others = by-test (eqb o p) refl
        where
          by-test : (s : Bool) → eqb o p ≡ s → Adds p (headed o t last totals) es
          by-test true e = subst (λ (q : ℕ). Adds q (headed o t last totals) es) (eqb-true o p e) (own-adds es (own e) w)
          by-test false e = adds-alike p (headed o t last totals) t es (other_block e) (others e)
