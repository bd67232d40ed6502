-- How a function of the cycle hands on to the next one. Assumes nothing.
use Prim.Native.Nat.{ℕ, ◌-◌, ◌<◌}
use native.Mathlib.Omega.{arith}
use mathlib.Core.Path.{◌≡◌, refl, ap, ◌∙◌, subst}
use mathlib.Core.Bool.{Bool, true, false, cond}
use mathlib.Core.List.{List}
use lib.Dec.{eqb}
use lib.ListN.{length}
use Rattle.text.specs.declared.character_set.CharacterSet.{CharacterSet}
use Rattle.order.specs.MayFollow.{table, in_table, follows}
use Rattle.standing.specs.declared.Standing.{Standing}
use Rattle.std.specs.Prelude.{Option, Err, unwrap_or}
use Rattle.slow_record.proofs.Types.{type-told}
use Rattle.passes.specs.declared.Refusal.{Refusal}
use Rattle.slow_step.specs.Entered.{Entered, On}
use Rattle.slow_step.specs.Places.{type_at, IsAnswer, Reached, Called, GoesOn, Enters}

-- in a bundle or outside, behind a record of a type
abbrev pub behind : Bool → ℕ → Bool
behind inside kind = cond (eqb kind 20) true (cond (eqb kind 70) false inside)

-- what the table says; the functions of the cycle are shown by it, so that none of their proofs has to unfold `follows`
said : (b : Bool) (last next : ℕ) {v : Bool} → in_table (table b) last next ≡ v → follows b last next ≡ v
unfolding follows
said b last next e = e

module _ {set : CharacterSet} {file : List ℕ} {s : Standing} {at : ℕ} {b : Bool} {kind : ℕ} (p : Called set file s at b kind) where
  pub enters : Called set file s at s.inside kind
  enters = record { reached = p.reached; level = refl; type = p.type; place = rw p.level p.place }

  module _ {r : Entered} (e : Enters set file s at kind r) where
    pub stopped : {refusal : Refusal} → r ≡ Err refusal → IsAnswer set file (Err refusal)
    stopped q = subst (Enters set file s at kind) q e

    module _ {here : Standing} {next : ℕ} {called : Option ℕ} (q : r ≡ On here next called) where
      goes : GoesOn set file s at kind here next called
      goes = subst (Enters set file s at kind) q e

      told : type_at set file next ≡ unwrap_or called 0
      told = type-told called (type_at set file next) goes.type

      -- with fewer bytes left
      pub calls : (k t : ℕ) → length file - at ≡ t → unwrap_or called 0 ≡ k → in_table (table (behind b kind)) kind k ≡ true
          → (length file - next < t) × Called set file here next (behind b kind) k
      calls k t m c f = (
        omega (arith, goes.fewer, goes.reached.within),
        record {
          reached = goes.reached;
          level = goes.level ∙ ap (λ (x : Bool). behind x kind) p.level;
          type = told ∙ c;
          place = rw goes.last (said (behind b kind) kind k f);
        },
      )

      pub turns-away : in_table (table (behind b kind)) kind (unwrap_or called 0) ≡ false
          → Reached set file next here × (follows here.inside here.last (type_at set file next) ≡ false)
      turns-away f = (goes.reached, rw (goes.level, p.level, goes.last, told) (said (behind b kind) kind (unwrap_or called 0) f))
