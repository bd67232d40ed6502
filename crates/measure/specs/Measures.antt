-- Cents, items, views and records, each a measure of its own, and the sums that every level of a file keeps.
use Rattle.std.specs.Prelude.{ℕ, ◌+◌, ◌<◌, cond, leb}
use Rattle.measure.specs.declared.Cents.{Cents}
use Rattle.measure.specs.declared.Items.{Items}
use Rattle.measure.specs.declared.Views.{Views}
use Rattle.measure.specs.declared.Records.{Records}
use Rattle.measure.specs.declared.Sums.{Sums}

abbrev pub cents : ℕ → Cents
cents n = record { 0 = n }

abbrev pub items : ℕ → Items
items n = record { 0 = n }

abbrev pub views : ℕ → Views
views n = record { 0 = n }

abbrev pub records : ℕ → Records
records n = record { 0 = n }

-- the sums of so many debits and their cents, credits and theirs, and views
abbrev pub sums : ℕ → ℕ → ℕ → ℕ → ℕ → Sums
sums n d m c v = record { debits = items n; debit = cents d; credits = items m; credit = cents c; views = views v }

abbrev pub no_sums : Sums
no_sums = sums 0 0 0 0 0

-- like to like
abbrev pub together : Sums → Sums → Sums
together a b =
    sums (a.debits.0 + b.debits.0) (a.debit.0 + b.debit.0) (a.credits.0 + b.credits.0) (a.credit.0 + b.credit.0)
    (a.views.0 + b.views.0)

-- The cents of all records of a file may pass 64 bits, and no control field has more than 16 digits. So the code's sums of cents stop at the
-- first number that no control field can state; the definitions' sums are whole.
abbrev pub unstatable : ℕ
unstatable = 10_000_000_000_000_000

abbrev pub capped : ℕ → ℕ
capped n = cond (leb n unstatable) n unstatable

abbrev pub capped_sums : Sums → Sums
capped_sums s =
    record {
      debits = s.debits;
      debit = cents (capped s.debit.0);
      credits = s.credits;
      credit = cents (capped s.credit.0);
      views = s.views;
    }

-- sums that leave room in 64 bits for as much again
pub record Small (s : Sums) : Type 0 where
  pub debits : s.debits.0 < 0x4000_0000_0000_0000
  pub debit : s.debit.0 < 0x4000_0000_0000_0000
  pub credits : s.credits.0 < 0x4000_0000_0000_0000
  pub credit : s.credit.0 < 0x4000_0000_0000_0000
  pub views : s.views.0 < 0x4000_0000_0000_0000
