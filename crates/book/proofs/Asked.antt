-- What a call asks one thing after the other, and what is known where it has been answered. Assumes nothing.
use Prim.Native.Nat.{ℕ}
use mathlib.Core.Bool.{Bool, true, false}
use mathlib.Core.Path.{◌≡◌, refl}
use Rattle.std.specs.Prelude.{Result, Ok, Err}
use Rattle.frame.specs.Unless.{unless}
use Rattle.passes.specs.declared.Fault.{Fault}
use Rattle.passes.specs.declared.Fault.TheVariants.{Book, NoEntry}
use Rattle.book_model.specs.PlainList.{Change}

-- one thing
pub refused : (t : Bool) (fault e : Fault) → ◌≡◌ {A = Change} (Err e) (unless t (Err fault) (Ok tt)) → (t ≡ false) × (fault ≡ e)
refused true fault e h = absurd (cc)
refused false fault e h = (refl, cc)

pub granted : (t : Bool) (fault : Fault) (d : Unit {0}) → ◌≡◌ {A = Change} (Ok d) (unless t (Err fault) (Ok tt)) → t ≡ true
granted true fault d h = refl
granted false fault d h = cc

-- a book, and one of its owners
module _ (b w : Bool) (k : ℕ) where
  pub not_for : (e : Fault) → ◌≡◌ {A = Result ℕ Fault} (Err e) (unless b (Err Book) (unless w (Err NoEntry) (Ok k)))
      → {A : Type 0} (x : Result A Fault) → Err e ≡ unless b (Err Book) (unless w (Err NoEntry) x)
  not_for e h x = by-tests b w h
    where
      by-tests : (s t : Bool) → ◌≡◌ {A = Result ℕ Fault} (Err e) (unless s (Err Book) (unless t (Err NoEntry) (Ok k)))
          → Err e ≡ unless s (Err Book) (unless t (Err NoEntry) x)
      by-tests true true q = absurd (cc)
      by-tests true false q = let same : NoEntry ≡ e = cc in cc
      by-tests false t q = let same : Book ≡ e = cc in cc

  pub is_for : (n : ℕ) → ◌≡◌ {A = Result ℕ Fault} (Ok n) (unless b (Err Book) (unless w (Err NoEntry) (Ok k)))
      → (b ≡ true) × (w ≡ true) × (k ≡ n)
  is_for n h = by-tests b w h
    where
      by-tests : (s t : Bool) → ◌≡◌ {A = Result ℕ Fault} (Ok n) (unless s (Err Book) (unless t (Err NoEntry) (Ok k)))
          → (s ≡ true) × (t ≡ true) × (k ≡ n)
      by-tests true true q = (refl, refl, cc)
      by-tests true false q = absurd (cc)
      by-tests false t q = absurd (cc)
