use mathlib.Core.Path.{ap}
use Prim.Native.Nat.{ℕ, ◌+◌, ◌-◌}
use Rattle.draft_rows.proofs.Parts.{parts-own}
use Rattle.draft_rows.proofs.Row.parts.Goals as goal

pub returns : goal.returns
returns c =
    parts-own c.args.self.own.now c.args.self.rows.now c.args.self.owned _ _ (ap (λ (k : ℕ). k + 1) c.fields_in-end.ensures)
    (ap (λ (k : ℕ). c.fields_in-end.result + 1 - k) c.parts_in.ensures)
