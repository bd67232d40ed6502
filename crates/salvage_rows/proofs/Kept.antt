-- The row of a record that is kept, set down in ten numbers. Assumes nothing.
use Prim.Native.Nat.{ℕ, ◌+◌}
use native.Mathlib.Omega.{arith}
use mathlib.Core.List.{List}
use mathlib.Core.Path.{◌≡◌, ap, ◌∙◌}
use lib.ListN.{length, drop}
use lib.Seq.{sets, sets-eq}
use Rattle.text.specs.declared.character_set.CharacterSet.{CharacterSet}
use Rattle.draft.specs.Values.{values_of_row, values_of_body}
use Rattle.drafting.specs.DraftOf.{row_of}
use Rattle.drafting.proofs.Rows.{row-long}
use Rattle.drafting.proofs.Itself.{values-itself}

pub kept_put : (set : CharacterSet) (body row after : List ℕ) → length row ≡ 10 → after ≡ sets row 0 (row_of set body 0)
    → values_of_row set body after ≡ values_of_body set body
kept_put set body row after long e =
    let own = row_of set body 0 in
    ap (values_of_row set body) (e ∙ sets-eq own row 0 (omega (arith, row-long set body 0))) ∙ values-itself set body (drop (0 + length own) row)
