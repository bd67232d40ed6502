-- Each cash letter of an accepted file is kept, with all its runs. Assumes nothing.
use Prim.Native.Nat.{ℕ, ◌≤◌}
use native.Mathlib.Omega.{arith}
use mathlib.Core.Bool.{Bool, true, false, ◌||◌, not}
use mathlib.Core.Logic.{◌⊎◌, inl, inr}
use mathlib.Core.Option.{none}
use mathlib.Core.Path.{◌≡◌, refl, ◌∙◌, subst}
use mathlib.Core.List.{List, [], ◌∷◌, ◌++◌, map, append_assoc}
use lib.Dec.{eqb}
use borrow.Author.Tests.{eq-eqb}
use Rattle.text.specs.declared.character_set.CharacterSet.{CharacterSet}
use Rattle.judge.specs.Alone.{type_of, judged_record}
use Rattle.file_as_records.specs.Framed.{Body}
use Rattle.file_as_records.proofs.Figures.{last_in, inside_in, present_in, stated_in, addenda_in}
use Rattle.file_as_records.proofs.Good.{Good, GoodAll, onto}
use Rattle.file_as_records.proofs.Tests.{refuted, where-in}
use Rattle.arrangement.specs.Tree.{Content, bundled, direct, CashLetter}
use Rattle.arrangement.specs.Written.{letters_then}
use Rattle.arrangement.specs.Sound.{All, total, is_bundle, indicator, N, SoundLetter}
use Rattle.arrangement.specs.TypesInPlace.{TypedContent, TypedLetter}
use Rattle.arrangement.proofs.After.{onto-run}
use Rattle.salvage_model.specs.Runs.{sound_alone, run_fault, run}
use Rattle.salvage_model.specs.Kept.{is_sound_bundle, any_bundle, is_kept}
use Rattle.same_bytes.proofs.Addenda.{GoodRun}
use Rattle.salvage_written.proofs.Carried.{Base, by-tables}
use Rattle.salvage_written.proofs.Run.{IsRun, bundle, credit, run-plain, run-same, run-left, last-run}
use Rattle.salvage_written.proofs.ReadRun.{two-long, SoundAs, sound-as, GoodThrough, good-through, base-header}
use Rattle.salvage_same.proofs.Shape.{run_of, joined, contents-then, contents-run}
use Rattle.salvage_same.proofs.Sections.{torn_of}

module _ (set : CharacterSet) where
  -- a good record is sound alone
  pub good-sound-alone : (past : List Body) (b : Body) (t : ℕ) → type_of set b ≡ t → Good set past b → sound_alone set t b ≡ true
  unfolding sound_alone judged_record
  good-sound-alone past b t e g = rw (two-long set b g.carried, g.alone) (rw (eq-eqb (type_of set b) t e))

  good-split : (ys past rest : List Body) → GoodAll set past (ys ++ rest) → GoodRun set past ys × GoodAll set (onto ys past) rest
  good-split [] past rest g = (tt, g)
  good-split (y ∷ ys) past rest g =
      let others = good-split ys (y ∷ past) rest g.rest in
      (record { first = g.first; rest = others.0 }, others.1)

  -- what begins with no 52 does not stand behind a 50
  abbrev BeginsPlain : List Body → Type 0
  BeginsPlain [] = ⊥
  BeginsPlain (z ∷ zs) = eqb (type_of set z) 52 ≡ false

  not-behind-50 : (past zs : List Body) → BeginsPlain zs → GoodAll set past zs → last_in set past ≡ 50 → ⊥
  not-behind-50 past [] p g e = p
  not-behind-50 past (z ∷ zs) p g e =
      refuted (eqb (type_of set z) 52) p
      (where-in (eqb (last_in set past) 50) _
      (by-tables (λ last next. not (eqb last 50) || eqb next 52) refl refl (inside_in set past) (last_in set past) (present_in set past) (type_of set z)
      g.first.follows)
      (eq-eqb (last_in set past) 50 e))

  run-begins : {r : List Body} (rest : List Body) → IsRun set r → BeginsPlain (r ++ rest)
  run-begins rest (bundle e r) = rw e
  run-begins rest (credit e r) = rw e

  runs-begin : (rs : List (List Body)) → All (IsRun set) rs → (rest : List Body) → BeginsPlain rest → BeginsPlain (joined rs ++ rest)
  runs-begin [] a rest p = p
  runs-begin (r ∷ rs) a rest p = rw append_assoc (run-begins (joined rs ++ rest) a.0)

  -- the runs under a header
  record RunsThrough (header : Body) (rs : List (List Body)) (past rest : List Body) : Type 0 where
    each : All (λ (r : List Body). run_fault set header r ≡ none) rs
    base : Base set header (onto (joined rs) past)
    good : GoodAll set (onto (joined rs) past) rest

  runs-through : (header : Body) → SoundAs set 10 header → (rs : List (List Body)) → All (IsRun set) rs → (past rest : List Body) → BeginsPlain rest
      → Base set header past → GoodAll set past (joined rs ++ rest) → RunsThrough header rs past rest
  runs-through header sound [] a past rest p base g = record { each = tt; base = base; good = g }
  runs-through header sound (r ∷ rs) a past rest p base g =
      let s = good-split r past (joined rs ++ rest) (rw append_assoc at g) in
      let ends = not-behind-50 (onto r past) (joined rs ++ rest) (runs-begin rs a.1 rest p) s.1 in
      let alone = base-header set header [] sound.type refl (omega arith) in
      let left = run-left set header past a.0 base s.0 ends in
      let others = runs-through header sound rs a.1 (onto r past) rest p left.base s.1 in
      let own : GoodThrough set (header ∷ []) r =
      record {
        good = run-same set header past (header ∷ []) base alone a.0 s.0;
        ends = λ e. ends (last-run set past (header ∷ []) a.0 ∙ e);
      } in
      let past_is = onto-run past r (joined rs) in
      record {
        each = (good-through set header sound r (run-plain set a.0) own, others.each);
        base = rw past_is others.base;
        good = rw past_is others.good;
      }

  -- a letter with a bundle
  any-bundle : (header : Body) (cs : List Content) → All (TypedContent set) cs → All (λ (r : List Body). run_fault set header r ≡ none) (map run_of cs)
      → 1 ≤ total is_bundle cs → any_bundle set header (map run (map run_of cs)) ≡ true
  any-bundle header [] t f h = absurd (omega arith)
  any-bundle header (bundled b ∷ cs) t f h = rw (t.0.header, f.0)
  any-bundle header (direct c ∷ cs) t f h = or_later (is_sound_bundle set header (run (run_of (direct c)))) (any_bundle set header (map run (map run_of cs)))
      (any-bundle header cs t.1 f.1 (omega arith))
    where
      or_later : (a b : Bool) → b ≡ true → a || b ≡ true
      or_later true b e = refl
      or_later false b e = e

  pub record KeptLetter (l : CashLetter) : Type 0 where
    pub sound : sound_alone set 10 l.header ≡ true
    pub runs : All (λ (r : List Body). run_fault set l.header r ≡ none) (map run_of l.contents)
    pub kept : is_kept set (torn_of set l) ≡ true

  letter-kept : (l : CashLetter) → SoundLetter set l → TypedLetter set l → sound_alone set 10 l.header ≡ true
      → All (λ (r : List Body). run_fault set l.header r ≡ none) (map run_of l.contents) → is_kept set (torn_of set l) ≡ true
  unfolding is_kept
  letter-kept l s t sound f = rw sound (by s.filled)
    where
      either : (a b : Bool) → b ≡ true → a || b ≡ true
      either true b e = refl
      either false b e = e

      by : (indicator set l.header ≡ N) ⊎ (1 ≤ total is_bundle l.contents)
          → eqb (indicator set l.header) N || any_bundle set l.header (map run (map run_of l.contents)) ≡ true
      by (inl e) = rw (eq-eqb (indicator set l.header) N e)
      by (inr h) = either (eqb (indicator set l.header) N) _ (any-bundle l.header l.contents t.contents f h)

  pub letters-kept : (ls : List CashLetter) → All (SoundLetter set) ls → All (TypedLetter set) ls → (past rest : List Body) → inside_in set past ≡ false
      → stated_in set past ≤ addenda_in set past → GoodAll set past (letters_then ls rest) → All KeptLetter ls
  letters-kept [] s t past rest outside settled g = tt
  letters-kept (l ∷ ls) s t past rest outside settled g =
      let h = l.header in
      let others = letters_then ls rest in
      let sound = good-sound-alone past h 10 t.0.header g.first in
      let rs = map run_of l.contents in
      let plain : eqb (type_of set l.control) 52 ≡ false = rw t.0.control in
      let good : GoodAll set (h ∷ past) (joined rs ++ (l.control ∷ others)) =
      subst (λ (bs : List Body). GoodAll set (h ∷ past) bs) (contents-then l.contents (l.control ∷ others)) g.rest in
      let through =
      runs-through h (sound-as set 10 h sound) rs (contents-run set l.contents t.0.contents) (h ∷ past) (l.control ∷ others) plain
      (base-header set h past t.0.header outside settled) good in
      let after = l.control ∷ onto (joined rs) (h ∷ past) in
      let c = t.0.control in
      let closed : inside_in set after ≡ false = rw c through.base.outside in
      let kept : stated_in set after ≤ addenda_in set after = rw c (omega (arith, through.base.settled)) in (
        record { sound = sound; runs = through.each; kept = letter-kept l s.0 t.0 sound through.each },
        letters-kept ls s.1 t.1 after rest closed kept through.good.rest,
      )
