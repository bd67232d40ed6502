-- Records that pass a test, one after the other. Assumes nothing.
use Prim.Native.Nat.{ℕ, ◌+◌, ◌≤◌, ◌<◌}
use native.Mathlib.Omega.{arith}
use mathlib.Core.Bool.{Bool, true, false, not}
use mathlib.Core.List.{List, [], ◌∷◌}
use mathlib.Core.Path.{◌≡◌, refl, sym, ap, ◌∙◌}
use lib.ListN.{length}
use Rattle.text.specs.declared.character_set.CharacterSet.{CharacterSet}
use Rattle.file_as_records.specs.Framed.{Body}
use Rattle.salvage_model.specs.Runs.{leading, following}
use Rattle.salvage_walk.specs.declared.Seen.{Seen}
use Rattle.salvage_walk.specs.Spans.{Stands, Spans, SeenAs, test_of, Parted}

-- no end before its start
pub spans-within : (file : List ℕ) (bs : List Body) (at end : ℕ) → Spans file at bs end → at + length bs ≤ end
spans-within file [] at end s = omega (arith, s)
spans-within file (b ∷ bs) at end s = omega (arith, spans-within file bs (at + 4 + length b) end s.1)

-- what is left before an end
pub record First (file : List ℕ) (at : ℕ) (bs : List Body) (end : ℕ) : Type 0 where
  pub body : Body
  pub others : List Body
  pub is : bs ≡ body ∷ others
  pub stands : Stands file at body
  pub spans : Spans file (at + 4 + length body) others end

pub first_of : (file : List ℕ) (at : ℕ) (bs : List Body) (end : ℕ) → Spans file at bs end → at < end → First file at bs end
first_of file at [] end s h = absurd (omega (arith, s))
first_of file at (b ∷ bs) end s h = record { body = b; others = bs; is = refl; stands = s.0; spans = s.1 }

pub none_left : (file : List ℕ) (at : ℕ) (bs : List Body) (end : ℕ) → Spans file at bs end → end ≤ at → (bs ≡ []) × (at ≡ end)
none_left file at [] end s h = (refl, s)
none_left file at (b ∷ bs) end s h = absurd (omega (arith, spans-within file (b ∷ bs) at end s))

-- a test turned round
pub not-held : (b : Bool) → not b ≡ true → b ≡ false
not-held true e = sym e
not-held false e = refl

pub held : (b : Bool) → not b ≡ false → b ≡ true
held true e = refl
held false e = sym e

-- the first of some records passes a test, or does not
module _ (test : Body → Bool) {bs : List Body} (b : Body) (others : List Body) (is : bs ≡ b ∷ others) where
  pub leading-on : test b ≡ true → leading test bs ≡ b ∷ leading test others
  leading-on t = rw (is, t)

  pub following-on : test b ≡ true → following test bs ≡ following test others
  following-on t = rw (is, t)

  pub leading-none : test b ≡ false → leading test bs ≡ []
  leading-none t = rw (is, t)

  pub following-all : test b ≡ false → following test bs ≡ bs
  following-all t = rw (is, t)

module _ (set : CharacterSet) (file : List ℕ) (test : ℕ → Bool) (from end : ℕ) where
  -- at the head of the loop, of the records from the start on: those that are left
  pub record Passing (at : ℕ) (bs : List Body) : Type 0 where
    pub left : List Body
    pub spans : Spans file at left end
    pub before : (e : ℕ) → Spans file at (leading (test_of set test) left) e → Spans file from (leading (test_of set test) bs) e
    pub behind : following (test_of set test) left ≡ following (test_of set test) bs

  abbrev pub Passes : ℕ → Type 0
  Passes at = (bs : List Body) → Spans file from bs end → Passing at bs

  pub passes-first : Passes from
  passes-first bs s = record { left = bs; spans = s; before = λ e q. q; behind = refl }

  module _ {at : ℕ} (v : Passes at) where
    pub passes-end : end ≤ at → (bs : List Body) → Spans file from bs end → Parted set file test from bs end at
    passes-end h bs s =
        let p = v bs s in
        let none = none_left file at p.left end p.spans h in
        record {
          before = p.before at (rw none.0 refl);
          behind = rw (← p.behind, none.0) none.1;
        }

    module _ (h : at < end) (r : Seen) (seen : (b : Body) → Stands file at b → SeenAs set at b r) where
      pub passes-stop : test r.kind ≡ false → (bs : List Body) → Spans file from bs end → Parted set file test from bs end at
      passes-stop t bs s =
          let p = v bs s in
          let f = first_of file at p.left end p.spans h in
          let other : test_of set test f.body ≡ false = ap (test) (sym (seen f.body f.stands).kind) ∙ t in
          let none : leading (test_of set test) p.left ≡ [] = leading-none (test_of set test) f.body f.others f.is other in
          let all : following (test_of set test) p.left ≡ p.left = following-all (test_of set test) f.body f.others f.is other in
          record {
            before = p.before at (rw none refl);
            behind = rw (← p.behind, all) p.spans;
          }

      pub passes_on : test r.kind ≡ true → Passes r.next
      passes_on t bs s =
          let p = v bs s in
          let f = first_of file at p.left end p.spans h in
          let told = seen f.body f.stands in
          let one : test_of set test f.body ≡ true = ap (test) (sym told.kind) ∙ t in
          let more : leading (test_of set test) p.left ≡ f.body ∷ leading (test_of set test) f.others = leading-on (test_of set test) f.body f.others f.is one in
          let later : following (test_of set test) p.left ≡ following (test_of set test) f.others = following-on (test_of set test) f.body f.others f.is one in
          record {
            left = f.others;
            spans = rw told.next f.spans;
            before = λ e q. p.before e (rw more (f.stands, rw told.next at q));
            behind = sym later ∙ p.behind;
          }
