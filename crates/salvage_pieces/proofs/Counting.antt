-- Addenda counted record by record. Assumes nothing.
use Prim.Native.Nat.{ℕ, ◌+◌, ◌≤◌, ◌<◌}
use native.Mathlib.Omega.{arith}
use mathlib.Core.Bool.{Bool, true, false, cond}
use mathlib.Core.List.{List, ◌∷◌}
use mathlib.Core.Path.{◌≡◌, sym, ap, ◌∙◌, subst}
use Rattle.text.specs.declared.character_set.CharacterSet.{CharacterSet}
use Rattle.judge.specs.Alone.{type_of}
use Rattle.file_as_records.specs.Framed.{Body}
use Rattle.draft.specs.Completed.{is_own_addendum}
use Rattle.salvage_walk.specs.declared.Seen.{Seen}
use Rattle.salvage_walk.specs.Spans.{Stands, Spans, SeenAs}
use Rattle.salvage_walk.proofs.Sorts.{first_of, none_left}
use Rattle.salvage_made.specs.ByMarks.{addenda_among}

module _ (set : CharacterSet) (file : List ℕ) (from end item : ℕ) where
  pub record Counting (at count : ℕ) (bs : List Body) : Type 0 where
    pub left : List Body
    pub spans : Spans file at left end
    pub same : count + addenda_among set item left ≡ addenda_among set item bs

  pub record Counts (at count : ℕ) : Type 0 where
    pub few : count ≤ at
    pub all : (bs : List Body) → Spans file from bs end → Counting at count bs

  pub counts-first : Counts from 0
  counts-first = record { few = omega arith; all = λ bs s. record { left = bs; spans = s; same = omega arith } }

  among_first : {bs : List Body} (b : Body) (others : List Body) → bs ≡ b ∷ others → (c : Bool) → is_own_addendum item (type_of set b) ≡ c
      → addenda_among set item bs ≡ cond c (1 + addenda_among set item others) 0
  among_first b others e c q = rw (e, q)

  module _ {at count : ℕ} (v : Counts at count) where
    pub counts_end : end ≤ at → (bs : List Body) → Spans file from bs end → count ≡ addenda_among set item bs
    counts_end h bs s =
        let k = v.all bs s in
        let gone = none_left file at k.left end k.spans h in
        omega (arith, k.same, ap (addenda_among set item) gone.0)

    module _ (h : at < end) (r : Seen) (seen : (b : Body) → Stands file at b → SeenAs set at b r) where
      pub counts-stop : is_own_addendum item r.kind ≡ false → (bs : List Body) → Spans file from bs end → count ≡ addenda_among set item bs
      counts-stop t bs s =
          let k = v.all bs s in
          let f = first_of file at k.left end k.spans h in
          let none = among_first f.body f.others f.is false (ap (is_own_addendum item) (sym (seen f.body f.stands).kind) ∙ t) in
          omega (arith, k.same, none)

      pub counts-on : at < r.next → is_own_addendum item r.kind ≡ true → Counts r.next (count + 1)
      counts-on n t = record {
        few = omega (arith, v.few, n);
        all = λ bs s.
            let k = v.all bs s in
            let f = first_of file at k.left end k.spans h in
            let told = seen f.body f.stands in
            let one = among_first f.body f.others f.is true (ap (is_own_addendum item) (sym told.kind) ∙ t) in
            record {
              left = f.others;
              spans = subst (λ (m : ℕ). Spans file m f.others end) (sym told.next) f.spans;
              same = omega (arith, k.same, one);
            };
      }
