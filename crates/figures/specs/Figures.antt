-- The six figures that a cash letter has in the day book, and that the book's running totals add up (request 6, reading 53): bundles, debit items, credit
-- items, views, debit cents, credit cents. Each is a measure of its own, and only like is added to like.
use Rattle.std.specs.Prelude.{ℕ, ◌+◌, ◌-◌, Bool, ◌&&◌, List, [], ◌∷◌, leb, eqb, get_or}
use Rattle.measure.specs.declared.Sums.{Sums}
use Rattle.measure.specs.Measures.{sums, no_sums, together}
use Rattle.figures.specs.declared.Figures.{Figures}

abbrev pub figures : ℕ → Sums → Figures
figures n s = record { bundles = n; sums = s }

abbrev pub no_figures : Figures
no_figures = figures 0 no_sums

abbrev pub plus : Figures → Figures → Figures
plus a b = figures (a.bundles + b.bundles) (together a.sums b.sums)

-- many, added up
unfoldable pub all_of : List Figures → Figures
all_of [] = no_figures
all_of (f ∷ fs) = plus f (all_of fs)

-- a test of each figure beside its like
abbrev pub each_with : (ℕ → ℕ → Bool) → Figures → Figures → Bool
each_with test a b =
    test a.bundles b.bundles && test a.sums.debits.0 b.sums.debits.0 && test a.sums.credits.0 b.sums.credits.0
    && test a.sums.views.0 b.sums.views.0 && test a.sums.debit.0 b.sums.debit.0 && test a.sums.credit.0 b.sums.credit.0

unfoldable pub same : Figures → Figures → Bool
same a b = each_with eqb a b

-- the first has each figure of the second in it, and what is then left
unfoldable pub covers : Figures → Figures → Bool
covers a b = each_with (λ m n. leb n m) a b

abbrev pub minus : Figures → Figures → Figures
minus a b =
    figures (a.bundles - b.bundles)
    (sums (a.sums.debits.0 - b.sums.debits.0) (a.sums.debit.0 - b.sums.debit.0) (a.sums.credits.0 - b.sums.credits.0)
    (a.sums.credit.0 - b.sums.credit.0) (a.sums.views.0 - b.sums.views.0))

-- 64 bits hold each of them
abbrev pub most : Figures
most =
    figures 0xFFFF_FFFF_FFFF_FFFF
    (sums 0xFFFF_FFFF_FFFF_FFFF 0xFFFF_FFFF_FFFF_FFFF 0xFFFF_FFFF_FFFF_FFFF 0xFFFF_FFFF_FFFF_FFFF 0xFFFF_FFFF_FFFF_FFFF)

unfoldable pub fits : Figures → Bool
fits a = covers most a

-- as they stand in a table, in reading 53's order, and those that stand in a table from a place on
abbrev pub numbers_of : Figures → List ℕ
numbers_of f =
    f.bundles ∷ f.sums.debits.0 ∷ f.sums.credits.0 ∷ f.sums.views.0 ∷ f.sums.debit.0 ∷ f.sums.credit.0 ∷ []

unfoldable pub figures_at : List ℕ → ℕ → Figures
figures_at table at =
    figures (get_or table at 0)
    (sums (get_or table (at + 1) 0) (get_or table (at + 4) 0) (get_or table (at + 2) 0) (get_or table (at + 5) 0) (get_or table (at + 3) 0))
