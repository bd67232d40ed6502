-- Sound is the arrangement's own `Sound` for a bundle and for a credit: a run has no fault behind its header exactly where it is one of those, sound
-- under that header (request 11, readings 62 and 67). Assumes nothing.
use Prim.Native.Nat.{ℕ}
use native.Mathlib.Omega.{arith}
use mathlib.Core.Bool.{Bool, true, false}
use mathlib.Core.List.{List, [], ◌∷◌}
use mathlib.Core.Logic.{◌↔◌}
use mathlib.Core.Option.{none}
use mathlib.Core.Path.{◌≡◌, refl, sym, ap, ◌∙◌, subst}
use lib.Dec.{leb, eqb}
use lib.ListN.{length, drop}
use borrow.Author.Tests.{eqb-true}
use Rattle.text.specs.declared.character_set.CharacterSet.{CharacterSet}
use Rattle.judge.specs.Alone.{Judged}
use Rattle.judge.specs.Alone.{Sound, WrongLength, UnknownType, WrongField}
use Rattle.frame.specs.Unless.{unless}
use Rattle.judge.specs.Alone.{type_of, judged_as, judged_record}
use Rattle.order.specs.MayFollow.{is_check_or_return, follows}
use Rattle.standing.specs.History.{entry}
use Rattle.file_as_records.specs.Framed.{Body, framed}
use Rattle.file_as_records.proofs.Figures.{last_in}
use Rattle.file_as_records.proofs.Good.{GoodTo}
use Rattle.file_as_records.proofs.Held.{Held, extent}
use Rattle.file_as_records.proofs.Opened.{AllOpened}
use Rattle.file_as_records.proofs.ReadThrough.{body_is, rest-is}
use Rattle.file_as_records.proofs.Tests.{both, refuted}
use Rattle.arrangement.specs.Tree.{Content}
use Rattle.arrangement.specs.Written.{content_then}
use Rattle.arrangement.specs.Sound.{SoundContent}
use Rattle.arrangement.proofs.After.{after_content}
use Rattle.arrangement.proofs.BundlesGood.{Holding, content-good}
use Rattle.arrangement.proofs.BundlesSound.{content-sound}
use Rattle.arrangement.proofs.InItem.{next_holder}
use Rattle.arrangement.proofs.InLetter.{letter-begun}
use Rattle.arrangement.proofs.Making.{allow-at, settled_on}
use Rattle.arrangement.proofs.Quiet.{step}
use Rattle.arrangement.proofs.Turns.{Settled}
use Rattle.salvage_model.specs.Promises.{is_run}
use Rattle.salvage_model.specs.Runs.{is_right, sound_alone, read_on, run_fault}
use Rattle.salvage_sound.proofs.ReadAsGood.{NotBehind50, begun, read-good, good-read}
use Rattle.salvage_sound.proofs.RunShape.{run-shape, run-stays}

-- a record that is sound alone
pub record Alone (set : CharacterSet) (t : ℕ) (b : Body) : Type 0 where
  pub type : type_of set b ≡ t
  pub judged : judged_as set (type_of set b) b ≡ Sound

pub alone-in : (set : CharacterSet) (t : ℕ) (b : Body) → sound_alone set t b ≡ true → Alone set t b
unfolding sound_alone judged_record
alone-in set t b e =
    let tests = both (eqb (type_of set b) t) (is_right (judged_record set b)) e in
    record { type = eqb-true (type_of set b) t tests.0; judged = right (leb 2 (length b)) (judged_as set (type_of set b) b) tests.1 }
  where
    right : (c : Bool) (j : Judged) → is_right (unless c WrongLength j) ≡ true → j ≡ Sound
    right true Sound e = refl
    right true WrongLength e = cc
    right true UnknownType e = cc
    right true (WrongField n) e = cc
    right false j e = cc

-- behind a header alone
module _ (set : CharacterSet) (header : Body) (bs : List Body) (h : Alone set 10 header) where
  file : List ℕ
  file = framed (header ∷ bs)

  header-held : Held set file (header ∷ [])
  unfolding file
  header-held = (record { rest = framed bs; body = body_is file 0 header (framed bs) refl; sound = h.judged }, tt)

  header-opened : AllOpened set (header ∷ [])
  header-opened = record { item = λ e. refuted false refl (rw h.type at e); letter = λ e. rw h.type refl }

  bytes-behind : drop (extent (header ∷ [])) file ≡ framed bs
  unfolding file
  bytes-behind = rest-is file 0 header (framed bs) refl

  fault-is : run_fault set header bs ≡ read_on set file bs (extent (header ∷ [])) (entry 10 0 (length header) ∷ entry 1 0 0 ∷ [])
  unfolding run_fault file
  fault-is = refl

  run-good : is_run set bs ≡ true → run_fault set header bs ≡ none → GoodTo (NotBehind50 set) set (header ∷ []) bs
  run-good is e =
      read-good set file bs (header ∷ []) (entry 10 0 (length header) ∷ entry 1 0 0 ∷ []) header-held header-opened bytes-behind
      (run-stays set header bs h.type is) (begun set file header h.type) (sym fault-is ∙ e)

  good-run : is_run set bs ≡ true → GoodTo (NotBehind50 set) set (header ∷ []) bs → run_fault set header bs ≡ none
  good-run is good =
      fault-is
      ∙ good-read set file bs (header ∷ []) (entry 10 0 (length header) ∷ entry 1 0 0 ∷ []) header-held header-opened bytes-behind
      (run-stays set header bs h.type is) (begun set file header h.type) good

-- what stands behind a header alone, before what it holds
holding : (set : CharacterSet) (header : Body) → type_of set header ≡ 10 → Holding set header (header ∷ [])
unfolding follows
holding set header k =
    let here = letter-begun set header [] k refl in
    let none-stated : Settled set [] = omega arith in
    record {
      here = here;
      settled = settled_on set [] header 10 k refl refl none-stated;
      unheld = ap is_check_or_return (step set 0 next_holder [] header 10 k);
      next = allow-at set (20 ∷ 61 ∷ 90 ∷ []) here.outside k refl;
    }

-- and behind it no view is left without its 52
held-ends : (set : CharacterSet) (letter : Body) (past : List Body) → Holding set letter past → NotBehind50 set past
unfolding follows
held-ends set letter past h = cases (eqb (last_in set past) 50) refl
  where
    cases : (c : Bool) → eqb (last_in set past) 50 ≡ c → c ≡ false
    cases true e = sym (rw (h.here.outside, eqb-true (last_in set past) 50 e) at (h.next.may 20 refl))
    cases false e = refl

pub sound-runs : (set : CharacterSet) (header : Body) (bs : List Body) → sound_alone set 10 header ≡ true → is_run set bs ≡ true
    → (run_fault set header bs ≡ none) ↔ ((c : Content) × (content_then c [] ≡ bs) × SoundContent set header c)
sound-runs set header bs alone is =
    let h = alone-in set 10 header alone in (
      λ e.
          let good = run-good set header bs h is e in
          let s = run-shape set header bs h.type is good in
          let again = subst (λ (x : List Body). GoodTo (NotBehind50 set) set (header ∷ []) x) (sym s.written_out) good in (
            s.content,
            s.written_out,
            (content-sound set header s.content (header ∷ []) [] s.typed (letter-begun set header [] h.type refl) again).sound,
          ),
      λ found.
          let (c, e, sound) = found in
          let good =
          content-good (NotBehind50 set) set header c (header ∷ []) [] sound (holding set header h.type)
          (λ w. held-ends set header (after_content (header ∷ []) c) w) in
          good-run set header bs h is (subst (λ (x : List Body). GoodTo (NotBehind50 set) set (header ∷ []) x) e good),
    )
