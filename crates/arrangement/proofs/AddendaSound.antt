-- Good records in the places of addenda make them sound. Assumes nothing.
use Prim.Native.Nat.{ℕ, ◌+◌}
use native.Mathlib.Omega.{arith}
use mathlib.Core.Option.{Option, none, some}
use mathlib.Core.Path.{◌≡◌, refl, sym, ◌∙◌}
use mathlib.Core.List.{List, [], ◌∷◌, ◌++◌}
use lib.Dec.{eqb}
use borrow.Author.Tests.{eqb-true}
use Rattle.text.specs.declared.character_set.CharacterSet.{CharacterSet}
use Rattle.layout.specs.Layout.{Layout}
use Rattle.layout.specs.Layouts.{check_detail_addendum_a, check_detail_addendum_b, check_detail_addendum_c, return_addendum_a, return_addendum_b, return_addendum_c, return_addendum_d}
use Rattle.judge.specs.Alone.{type_of}
use Rattle.file_as_records.specs.Framed.{Body}
use Rattle.file_as_records.proofs.Figures.{value, addenda_in, bofd_in, endorser_in}
use Rattle.file_as_records.proofs.Good.{Good, GoodTo, onto}
use Rattle.file_as_records.proofs.CheckLists.{numbered_as}
use Rattle.arrangement.specs.Tree.{Addenda, of_check, of_return, of_credit}
use Rattle.arrangement.specs.Written.{optional_then, addenda_then}
use Rattle.arrangement.specs.Sound.{All, IfAny, Right, Numbered, stated, SoundAddenda}
use Rattle.arrangement.specs.TypesInPlace.{OfType, TypedAddenda}
use Rattle.arrangement.proofs.Rightness.{right-in}
use Rattle.arrangement.proofs.Counting.{Counts}
use Rattle.arrangement.proofs.After.{after_optional, after_addenda}
use Rattle.arrangement.proofs.Quiet.{step, quiet_step}
use Rattle.arrangement.proofs.Turns.{as-type, short-in}
use Rattle.arrangement.proofs.OwnAddenda.{next_addenda, next_stated, next_bofd, next_endorser, Short, Adds, adds-26, adds-27, adds-28, adds-32, adds-33, adds-34, adds-35, endorser-check, endorser-return}

-- addenda found sound, no more of them so far than the item states, and the records behind them good
pub record AddendaFound (End : List Body → Type 0) (set : CharacterSet) (Part : Type 0) (past rest : List Body) : Type 0 where
  pub sound : Part
  pub short : Short set past
  pub behind : GoodTo End set past rest

module _ (set : CharacterSet) (k : Layout) (adds : Adds set k) where
  short_on : (past : List Body) (b : Body) → type_of set b ≡ k.type_number → Good set past b → Short set (b ∷ past)
  short_on past b typed good =
      omega (
        arith,
        short-in set k.type_number past b (as-type set k.type_number past b typed good) adds.addendum,
        step set 0 next_addenda past b k.type_number typed ∙ adds.more b (addenda_in set past),
        quiet_step set 0 (next_stated set) past b k.type_number typed adds.same-stated,
      )

  adds-right : (past : List Body) (b : Body) → type_of set b ≡ k.type_number → Good set past b → Right set k b
  adds-right past b typed good = right-in set k b adds.known typed (as-type set k.type_number past b typed good).alone

  optional-sound : {End : List Body → Type 0} (past : List Body) (o : Option Body) (rest : List Body) → IfAny (OfType set k.type_number) o → Short set past
      → GoodTo End set past (optional_then o rest) → AddendaFound End set (IfAny (Right set k) o) (after_optional past o) rest
  optional-sound past none rest typed short good = record { sound = tt; short = short; behind = good }
  optional-sound past (some b) rest typed short good =
      record { sound = adds-right past b typed good.first; short = short_on past b typed good.first; behind = good.rest }

  -- a run of them, numbered on from a figure
  module _ (next : ℕ → Body → ℕ → ℕ) (counts : Counts next k.type_number)
      (numbered : (past : List Body) (b : Body) → numbered_as set k.type_number past b ≡ eqb (stated set k 2 b) (value set 0 next past + 1)) where
    run_sound : {End : List Body → Type 0} (past bs rest : List Body) (n : ℕ) → All (OfType set k.type_number) bs → value set 0 next past + 1 ≡ n → Short set past
        → GoodTo End set past (bs ++ rest) → AddendaFound End set (Numbered set k n bs) (onto bs past) rest
    run_sound past [] rest n typed e short good = record { sound = tt; short = short; behind = good }
    run_sound past (b ∷ bs) rest n typed e short good =
        let here = as-type set k.type_number past b typed.0 good.first in
        let number = eqb-true (stated set k 2 b) (value set 0 next past + 1) (sym (numbered past b) ∙ here.linked.numbered) in
        let more = step set 0 next past b k.type_number typed.0 ∙ counts b (value set 0 next past) in
        let others =
        run_sound (b ∷ past) bs rest (n + 1) typed.1 (omega (arith, more, e)) (short_on past b typed.0 good.first) good.rest in
        record {
          sound = (record { right = adds-right past b typed.0 good.first; number = number ∙ e }, others.sound);
          short = others.short;
          behind = others.behind;
        }

-- the addenda of an item, behind its first record
pub addenda-sound : {End : List Body → Type 0} (set : CharacterSet) (past : List Body) (a : Addenda) (rest : List Body) → TypedAddenda set a → bofd_in set past ≡ 0
    → endorser_in set past ≡ 0 → Short set past
    → GoodTo End set past (addenda_then a rest) → AddendaFound End set (SoundAddenda set a) (after_addenda past a) rest
addenda-sound set past (of_check a b c) rest typed bofd endorser short good =
    let x =
    run_sound set check_detail_addendum_a (adds-26 set) next_bofd (λ d y. refl) (λ p d. refl)
    past a (optional_then b (c ++ rest)) 1 typed.addenda-a (omega (arith, bofd)) short good in
    let y = optional-sound set check_detail_addendum_b (adds-27 set) (onto a past) b (c ++ rest) typed.addendum-b x.short x.behind in
    let z =
    run_sound set check_detail_addendum_c (adds-28 set) next_endorser (λ d y. refl) (λ p d. refl)
    (after_optional (onto a past) b) c rest 1 typed.addenda-c (omega (arith, endorser-check set past a b c typed, endorser)) y.short y.behind in
    record {
      sound = record { addenda-a = x.sound; addendum-b = y.sound; addenda-c = z.sound };
      short = z.short;
      behind = z.behind;
    }
addenda-sound set past (of_return a b c d) rest typed bofd endorser short good =
    let x =
    run_sound set return_addendum_a (adds-32 set) next_bofd (λ d y. refl) (λ p d. refl)
    past a (b ∷ optional_then c (d ++ rest)) 1 typed.addenda-a (omega (arith, bofd)) short good in
    let w =
    optional-sound set return_addendum_b (adds-33 set) (onto a past) (some b) (optional_then c (d ++ rest)) typed.addendum-b x.short x.behind in
    let y = optional-sound set return_addendum_c (adds-34 set) (b ∷ onto a past) c (d ++ rest) typed.addendum-c w.short w.behind in
    let z =
    run_sound set return_addendum_d (adds-35 set) next_endorser (λ d y. refl) (λ p d. refl)
    (after_optional (b ∷ onto a past) c) d rest 1 typed.addenda-d (omega (arith, endorser-return set past a b c d typed, endorser)) y.short y.behind in
    record {
      sound = record { addenda-a = x.sound; addendum-b = w.sound; addendum-c = y.sound; addenda-d = z.sound };
      short = z.short;
      behind = z.behind;
    }
addenda-sound set past of_credit rest typed bofd endorser short good = record { sound = tt; short = short; behind = good }
