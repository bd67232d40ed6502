-- A refusal leaves the row table, the book and the list as they were, DUPLICATE like any other: by their definitions. Assumes nothing.
use Prim.Native.Nat.{ℕ}
use mathlib.Core.List.{List}
use mathlib.Core.Path.{◌≡◌, refl}
use Rattle.passes.specs.declared.Fault.{Fault}
use Rattle.book_model.specs.Entering.{Refused}
use Rattle.book_model.specs.Calls.{rows_after, book_after, list_after}

pub rows_stay : (file table : List ℕ) (fault : Fault) (place offset : ℕ) → rows_after file table (Refused fault place offset) ≡ table
rows_stay file table fault place offset = refl

pub book-stays : (file book : List ℕ) (m o : ℕ) (fault : Fault) (place offset : ℕ) → book_after file m o book (Refused fault place offset) ≡ book
book-stays file book m o fault place offset = refl

pub list-stays : (list : List ℕ) (m o : ℕ) (fault : Fault) (place offset : ℕ) → list_after m o list (Refused fault place offset) ≡ list
list-stays list m o fault place offset = refl
