-- Runs one behind the other are the groups of what lies under a header, and cash letters one behind the other are the sections of a file. Assumes nothing.
use Prim.Native.Nat.{ℕ, zero, suc, ◌≤◌}
use native.Mathlib.Omega.{arith}
use mathlib.Core.Bool.{Bool, true, false, not}
use mathlib.Core.Option.{some}
use mathlib.Core.Path.{◌≡◌, refl, sym, ap, ap₂, ◌∙◌}
use mathlib.Core.List.{List, [], ◌∷◌, ◌++◌, map, append_assoc}
use lib.Dec.{eqb}
use lib.ListN.{length, length-append}
use Rattle.text.specs.declared.character_set.CharacterSet.{CharacterSet}
use Rattle.judge.specs.Alone.{type_of}
use Rattle.order.specs.MayFollow.{is_one_of}
use Rattle.order.proofs.Laws.{among}
use Rattle.file_as_records.specs.Framed.{Body}
use Rattle.arrangement.specs.Tree.{CashLetter}
use Rattle.arrangement.specs.Written.{contents_then, letters_then}
use Rattle.arrangement.specs.Sound.{All}
use Rattle.arrangement.specs.TypesInPlace.{TypedLetter}
use Rattle.salvage_model.specs.Runs.{leading, following, of, not_of, Group, run, stretch_then, groups_from, groups_of}
use Rattle.salvage_model.specs.Kept.{Torn, Section, letter, ending, sections_from, sections_of}
use Rattle.salvage_written.proofs.Carried.{either-false}
use Rattle.salvage_written.proofs.Run.{BundleRest, closes, goes, AllViews, IsRun, bundle, credit}
use Rattle.salvage_same.proofs.Shape.{run_of, joined, contents-then, contents-run}
use Rattle.salvage_model.specs.Kept as kept

-- the records at the beginning that pass a test
module _ (test : Body → Bool) where
  abbrev Stops : List Body → Type 0
  Stops [] = Unit {0}
  Stops (c ∷ cs) = test c ≡ false

  leading-all : (xs rest : List Body) → All (λ (b : Body). test b ≡ true) xs → Stops rest → leading test (xs ++ rest) ≡ xs
  leading-all [] [] a s = refl
  leading-all [] (c ∷ cs) a s = rw s
  leading-all (x ∷ xs) rest a s = rw a.0 (ap (λ (l : List Body). x ∷ l) (leading-all xs rest a.1 s))

  following-all : (xs rest : List Body) → All (λ (b : Body). test b ≡ true) xs → Stops rest → following test (xs ++ rest) ≡ rest
  following-all [] [] a s = refl
  following-all [] (c ∷ cs) a s = rw s
  following-all (x ∷ xs) rest a s = rw a.0 (following-all xs rest a.1 s)

module _ (set : CharacterSet) where
  -- the rest of a bundle is what lies before its 70, and that
  record Closed (ys : List Body) : Type 0 where
    before : List Body
    control : Body
    is : ys ≡ before ++ (control ∷ [])
    all : All (λ (b : Body). not_of set (20 ∷ 70 ∷ []) b ≡ true) before
    type : type_of set control ≡ 70

  closed : {ys : List Body} → BundleRest set ys → Closed ys
  closed (closes {b} e) = record { before = []; control = b; is = refl; all = tt; type = e }
  closed (goes {b} {bs} e r) =
      let c = closed r in
      let t = type_of set b in
      let no-20 = either-false (eqb t 20) _ (either-false (eqb t 10) _ e).1 in
      let no-70 = either-false (eqb t 70) _ no-20.1 in
      record {
        before = b ∷ c.before;
        control = c.control;
        is = ap (λ (l : List Body). b ∷ l) c.is;
        all = (rw (no-20.0, no-70.0), c.all);
        type = c.type;
      }

  abbrev is_view : Body → Bool
  is_view b = of set (50 ∷ 52 ∷ 54 ∷ []) b

  -- a run in front is the first group
  group-run : {ys : List Body} (rest : List Body) (n : ℕ) → IsRun set ys → Stops is_view rest
      → groups_from set (suc n) (ys ++ rest) ≡ run ys ∷ groups_from set n rest
  unfolding groups_from
  group-run rest n (bundle {b} {bs} e r) s =
      let c = closed r in
      let test = not_of set (20 ∷ 70 ∷ []) in
      let there : bs ++ rest ≡ c.before ++ (c.control ∷ rest) =
      ap (λ (l : List Body). l ++ rest) c.is ∙ append_assoc c.before (c.control ∷ []) rest in
      let stops : test c.control ≡ false = rw c.type in
      rw e
      (ap₂ (λ (l f : List Body). stretch_then set (b ∷ l) f (groups_from set n))
      (ap (leading test) there ∙ leading-all test c.before (c.control ∷ rest) c.all stops)
      (ap (following test) there ∙ following-all test c.before (c.control ∷ rest) c.all stops)
      ∙ rw c.type (ap (λ (l : List Body). run (b ∷ l) ∷ groups_from set n rest) (sym c.is)))
  group-run rest n (credit {b} {bs} e r) s =
      rw e
      (ap₂ (λ (l f : List Body). run (b ∷ l) ∷ groups_from set n f) (leading-all is_view bs rest r s) (following-all is_view bs rest r s))

  abbrev Long : List Body → Type 0
  Long ys = 1 ≤ length ys

  run_long : {ys : List Body} → IsRun set ys → Long ys
  run_long (bundle e r) = omega arith
  run_long (credit e r) = omega arith

  run-stops : {ys : List Body} (rest : List Body) → IsRun set ys → Stops is_view (ys ++ rest)
  run-stops rest (bundle e r) = rw e
  run-stops rest (credit e r) = rw e

  runs-stop : (rs : List (List Body)) → All (IsRun set) rs → Stops is_view (joined rs)
  runs-stop [] a = tt
  runs-stop (r ∷ rs) a = run-stops (joined rs) a.0

  groups-joined : (rs : List (List Body)) → All (IsRun set) rs → (n : ℕ) → length (joined rs) ≤ n → groups_from set n (joined rs) ≡ map run rs
  unfolding groups_from
  groups-joined [] a zero h = refl
  groups-joined [] a (suc n) h = refl
  groups-joined (r ∷ rs) a zero h = absurd (omega (arith, run_long a.0, length-append r (joined rs)))
  groups-joined (r ∷ rs) a (suc n) h =
      group-run (joined rs) n a.0 (runs-stop rs a.1)
      ∙ ap (λ (gs : List Group). run r ∷ gs) (groups-joined rs a.1 n (omega (arith, run_long a.0, length-append r (joined rs))))

  pub groups-of : (rs : List (List Body)) → All (IsRun set) rs → groups_of set (joined rs) ≡ map run rs
  unfolding groups_of
  groups-of rs a = groups-joined rs a (length (joined rs)) (omega arith)

  -- nothing of a run ends what lies under a header
  abbrev under : Body → Bool
  under b = not_of set (10 ∷ 90 ∷ 99 ∷ []) b

  rest_under : {ys : List Body} → BundleRest set ys → All (λ (b : Body). under b ≡ true) ys
  rest_under (closes e) = (rw e, tt)
  rest_under (goes {b} {bs} e r) =
      let t = type_of set b in
      let no-10 = either-false (eqb t 10) _ e in
      let no-20 = either-false (eqb t 20) _ no-10.1 in
      let no-70 = either-false (eqb t 70) _ no-20.1 in
      let no-90 = either-false (eqb t 90) _ no-70.1 in
      let no-99 = either-false (eqb t 99) false no-90.1 in
      (rw (no-10.0, no-90.0, no-99.0), rest_under r)

  views-under : (ys : List Body) → AllViews set ys → All (λ (b : Body). under b ≡ true) ys
  views-under [] a = tt
  views-under (y ∷ ys) a = (among (λ t. not (is_one_of t (10 ∷ 90 ∷ 99 ∷ []))) (type_of set y) (50 ∷ 52 ∷ 54 ∷ []) refl a.0, views-under ys a.1)

  run-under : {ys : List Body} → IsRun set ys → All (λ (b : Body). under b ≡ true) ys
  run-under (bundle e r) = (rw e, rest_under r)
  run-under (credit {b} {bs} e r) = (rw e, views-under bs r)

  all_append : (P : Body → Type 0) (xs ys : List Body) → All P xs → All P ys → All P (xs ++ ys)
  all_append P [] ys p q = q
  all_append P (x ∷ xs) ys p q = (p.0, all_append P xs ys p.1 q)

  runs-under : (rs : List (List Body)) → All (IsRun set) rs → All (λ (b : Body). under b ≡ true) (joined rs)
  runs-under [] a = tt
  runs-under (r ∷ rs) a = all_append (λ (b : Body). under b ≡ true) r (joined rs) (run-under a.0) (runs-under rs a.1)

  -- a cash letter is a section
  abbrev pub torn_of : CashLetter → Torn
  torn_of l = record { header = l.header; groups = map run (map run_of l.contents); control = some l.control }

  abbrev pub sections_for : List CashLetter → Body → List Section
  sections_for [] c = ending c ∷ []
  sections_for (l ∷ ls) c = letter (torn_of l) ∷ sections_for ls c

  sections-from : (ls : List CashLetter) → All (TypedLetter set) ls → (c : Body) → type_of set c ≡ 99 → (n : ℕ) → length (letters_then ls (c ∷ [])) ≤ n
      → sections_from set n (letters_then ls (c ∷ [])) ≡ sections_for ls c
  unfolding sections_from
  sections-from [] t c e zero h = absurd (omega arith)
  sections-from [] t c e (suc n) h = rw e (ap (λ (ss : List Section). ending c ∷ ss) (nothing n))
    where
      nothing : (n : ℕ) → sections_from set n [] ≡ []
      nothing zero = refl
      nothing (suc n) = refl
  sections-from (l ∷ ls) t c e zero h = absurd (omega arith)
  sections-from (l ∷ ls) t c e (suc n) h =
      let rest = l.control ∷ letters_then ls (c ∷ []) in
      let rs = map run_of l.contents in
      let runs = contents-run set l.contents t.0.contents in
      let there : contents_then l.contents rest ≡ joined rs ++ rest = contents-then l.contents rest in
      let stops : under l.control ≡ false = rw t.0.control in
      let fewer : length (letters_then ls (c ∷ [])) ≤ n = omega (arith, h, ap length there, length-append (joined rs) rest) in
      rw t.0.header
      (ap₂ (λ (x f : List Body). kept.letter_then set l.header (groups_of set x) f (sections_from set n))
      (ap (leading under) there ∙ leading-all under (joined rs) rest (runs-under rs runs) stops)
      (ap (following under) there ∙ following-all under (joined rs) rest (runs-under rs runs) stops)
      ∙ rw t.0.control
      (ap₂ (λ (gs : List Group) (ss : List Section). letter (record { header = l.header; groups = gs; control = some l.control }) ∷ ss)
      (groups-of rs runs) (sections-from ls t.1 c e n fewer)))

  pub sections-of : (ls : List CashLetter) → All (TypedLetter set) ls → (c : Body) → type_of set c ≡ 99
      → sections_of set (letters_then ls (c ∷ [])) ≡ sections_for ls c
  unfolding sections_of
  sections-of ls t c e = sections-from ls t c e (length (letters_then ls (c ∷ []))) (omega arith)
