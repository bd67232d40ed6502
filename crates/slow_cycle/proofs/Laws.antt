-- Where the reading begins. Assumes nothing.
use Prim.Native.Nat.{ℕ, ◌≤◌}
use native.Mathlib.Omega.{arith}
use mathlib.Core.Path.{◌≡◌, sym, ap, ◌∙◌}
use mathlib.Core.Bool.{false}
use mathlib.Core.List.{List, []}
use lib.ListN.{length}
use borrow.Author.Tests.{ne_eqb}
use Rattle.text.specs.CharacterSet.{set_of}
use Rattle.text.specs.declared.character_set.CharacterSet.{CharacterSet}
use Rattle.order.specs.MayFollow.{follows}
use Rattle.standing.specs.Standing.{standing, capped_figures}
use Rattle.standing.specs.declared.Standing.{Standing}
use Rattle.passes.proofs.Passes.{survey-first}
use Rattle.slow_step.specs.Places.{type_at, Reached, Called}

module _ (set : CharacterSet) (file : List ℕ) (s : Standing) (q : set ≡ set_of file) (h : length file ≤ 65_536) (e : s ≡ capped_figures (standing set file [])) where
  begins : Reached set file 0 s
  begins =
      let v = survey-first set file s q (omega arith) e in
      record {
        past = v.place.past;
        fuel = v.place.fuel;
        within = v.place.within;
        limit = h;
        few = v.place.few;
        enough = v.place.enough;
        stands = v.place.stands;
        same = v.same;
        count = v.count;
      }

  no-bundle : s.inside ≡ false
  unfolding standing
  no-bundle = ap (λ (u : Standing). u.inside) e

  no_record : s.last ≡ 0
  unfolding standing
  no_record = ap (λ (u : Standing). u.last) e

  pub first-called : (k : ℕ) → k ≡ type_at set file 0 → k ≡ 1 → Called set file s 0 false 1
  unfolding follows
  first-called k t is = record { reached = begins; level = no-bundle; type = sym t ∙ is; place = rw no_record }

  pub first-turned-away : (k : ℕ) → k ≡ type_at set file 0 → (k ≡ 1 → ⊥) → Reached set file 0 s × (follows s.inside s.last (type_at set file 0) ≡ false)
  unfolding follows
  first-turned-away k t n = (begins, rw (no-bundle, no_record, sym t, ne_eqb k 1 n))
